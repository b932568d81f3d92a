-- How a byte string is read is settled by its first 20,480 bytes (`read_take`): a program that reads no more of an input than that
-- gives every input its number or its book. And a book that is written has at most 17,537 (`write_short`, at the end).
--
-- A book so far has room for so many bytes of commands (`room`), and each command that is accepted takes at least its own bytes of it.
-- So a command that is refused, or the end, comes while bytes enough are left to settle it. Assumes nothing.
use Prim.Native.Nat.{ℕ, zero, suc, ◌+◌, ◌-◌, ◌*◌, ◌/◌, ◌%◌, ◌<◌, ◌≤◌}
use native.Mathlib.Omega.{arith}
use native.Mathlib.Decide.{dec_le}
use mathlib.Core.Bool.{Bool, true, false, not, true≢false}
use mathlib.Core.Path.{◌≡◌, refl, sym, ap, ◌∙◌, subst}
use mathlib.Core.List.{List, [], ◌∷◌, ◌++◌}
use lib.ListN.{length, length-append, take, drop, take-append-drop}
use lib.Seq.{take_all, length-take-le}
use lib.Dec.{ltb, leb, eqb}
use borrow.Author.Tests.{lt-ltb, leb-false}
use Rattle.definitions.specs.Refusal.{Refusable, refused, accepted, ◌refuses◌, unless}
use Rattle.definitions.specs.Book.{any, exactly, between, Literal, Positive, Negative, Clause, Goal, Book, clause_count}
use Rattle.definitions.specs.Book.{byte, u16, bit0, bit1, want_of, crossed}
use Rattle.definitions.specs.Book.{Command, goal, clause, positive, ranged, negative, end, unknown, command, width, is_end}
use Rattle.definitions.specs.Book.{add_clause, add_literal, literals_so_far, goals_name}
use Rattle.definitions.specs.Book.{literal_command, apply_command, whole_command, read_from, read}
use Rattle.sizes.specs.Limits.{read_ahead}
use Rattle.definitions.specs.Book.{largest_book}
use Rattle.definitions.specs.Book.{flag, write_literals, write_clauses, write_goals, write, ClausesWithin, GoalsWithin, Within}
use Rattle.definitions.proofs.RoundTrip.{whole_apply}
use Rattle.definitions.proofs.Book.{clause_count_goal, literals_so_far_goal, length_add_clause, clause_count_add_clause, Added}
use Rattle.definitions.proofs.Book.{added}
use Rattle.definitions.proofs.Refusal.{not_accepted, all_pass}
use Rattle.laws.proofs.Bools.{not_zero}

-- a goal takes 2 bytes, a clause 4 and 8 literals of at most 8 each
abbrev pub room : Book → ℕ
room book = 2 * (64 - length book) + 68 * (256 - clause_count book) + 8 * (8 - literals_so_far book)

-- What a command that is accepted takes of the room.

goal_room : (book : Book) (g : Goal) → length g.clauses ≡ 0 → length book < 64 → room (book ++ (g ∷ [])) + 2 ≤ room book
goal_room book g e few =
    omega (arith, length-append book (g ∷ []), clause_count_goal book g e, literals_so_far_goal book g e)

clause_room : (book : Book) (c : Clause) → 0 < length book → clause_count book < 256 → room (add_clause c book) + 4 ≤ room book
clause_room book c some few = omega (arith, length_add_clause c book, clause_count_add_clause c book some)

literal_room : (book : Book) (l : Literal) → 0 < clause_count book → literals_so_far book < 8 → room (add_literal l book) + 8 ≤ room book
literal_room book l some few =
    let a : Added l book = added l book in
    omega (arith, a.same_goals, a.same_clauses, a.one_more some)

literal_taken : (l : Literal) (flags : ℕ) (book next : Book) → literal_command l flags book ≡ accepted next → room next + 8 ≤ room book
literal_taken l flags book next e =
    let t = all_pass (eqb (clause_count book) 0 refuses 3 ∷ ltb 1 flags refuses 4 ∷ crossed l refuses 32
    ∷ leb 8 (literals_so_far book) refuses 5 ∷ []) (add_literal l book) next e in
    subst (λ (n : Book). room n + 8 ≤ room book) t.1
    (literal_room book l (not_zero (clause_count book) t.0.0) (leb-false 8 (literals_so_far book) t.0.1.1.1.0))

pub taken : (c : Command) (after : List ℕ) (book next : Book) → is_end c ≡ false → apply_command c after book ≡ accepted next
    → room next + suc (width c) ≤ room book
taken goal after book next i e =
    let flags = byte after 0 in
    let g : Goal = record { coinductive = bit0 flags; floundered = bit1 flags; clauses = [] } in
    let t = all_pass (ltb 3 flags refuses 4 ∷ leb 64 (length book) refuses 5 ∷ []) (book ++ (g ∷ [])) next e in
    subst (λ (n : Book). room n + 2 ≤ room book) t.1 (goal_room book g refl (leb-false 64 (length book) t.0.1.0))
taken clause after book next i e =
    let flags = byte after 2 in
    let c : Clause = record { variant = u16 after 0; cannot_prove = bit0 flags; outsized = bit1 flags; literals = [] } in
    let t = all_pass (eqb (length book) 0 refuses 3 ∷ ltb 3 flags refuses 4 ∷ leb 256 (clause_count book) refuses 5 ∷ [])
    (add_clause c book) next e in
    subst (λ (n : Book). room n + 4 ≤ room book) t.1
    (clause_room book c (not_zero (length book) t.0.0) (leb-false 256 (clause_count book) t.0.1.1.0))
taken positive after book next i e =
    let flags = byte after 4 in
    let h : room next + 8 ≤ room book =
    literal_taken (Positive (u16 after 0) (want_of (u16 after 2)) (bit0 flags)) flags book next e in
    omega arith
taken ranged after book next i e =
    let flags = byte after 6 in
    literal_taken (Positive (u16 after 0) (between (u16 after 2) (u16 after 4)) (bit0 flags)) flags book next e
taken negative after book next i e =
    let flags = byte after 2 in
    let h : room next + 8 ≤ room book = literal_taken (Negative (u16 after 0) (bit0 flags)) flags book next e in
    omega arith
taken end after book next i e = absurd (true≢false i)
taken unknown after book next i e = absurd (not_accepted e)

-- A command is settled by its own bytes, and the end by one byte more.

same_apply : (c : Command) (a b d e f g h : ℕ) (rest more : List ℕ) (book : Book)
    → apply_command c (a ∷ b ∷ d ∷ e ∷ f ∷ g ∷ h ∷ (rest ++ more)) book ≡ apply_command c (a ∷ b ∷ d ∷ e ∷ f ∷ g ∷ h ∷ rest) book
same_apply goal a b d e f g h rest more book = refl
same_apply clause a b d e f g h rest more book = refl
same_apply positive a b d e f g h rest more book = refl
same_apply ranged a b d e f g h rest more book = refl
same_apply negative a b d e f g h rest more book = refl
same_apply end a b d e f g h rest more book =
    ap (λ (t : Bool). unless (t refuses 7 ∷ eqb (length book) 0 refuses 8 ∷ not (goals_name (length book) book) refuses 6 ∷ []) book)
    (lt-ltb 0 (length (a ∷ b ∷ d ∷ e ∷ f ∷ g ∷ h ∷ (rest ++ more))) (omega arith)
    ∙ sym (lt-ltb 0 (length (a ∷ b ∷ d ∷ e ∷ f ∷ g ∷ h ∷ rest)) (omega arith)))
same_apply unknown a b d e f g h rest more book = refl

narrow : (c : Command) → width c ≤ 7
narrow goal = omega arith
narrow clause = omega arith
narrow positive = omega arith
narrow ranged = omega arith
narrow negative = omega arith
narrow end = omega arith
narrow unknown = omega arith

same_command : (c : Command) (after more : List ℕ) (book : Book) → 7 ≤ length after
    → whole_command c (after ++ more) book ≡ whole_command c after book
same_command c [] more book k = absurd (omega arith)
same_command c (a ∷ []) more book k = absurd (omega arith)
same_command c (a ∷ b ∷ []) more book k = absurd (omega arith)
same_command c (a ∷ b ∷ d ∷ []) more book k = absurd (omega arith)
same_command c (a ∷ b ∷ d ∷ e ∷ []) more book k = absurd (omega arith)
same_command c (a ∷ b ∷ d ∷ e ∷ f ∷ []) more book k = absurd (omega arith)
same_command c (a ∷ b ∷ d ∷ e ∷ f ∷ g ∷ []) more book k = absurd (omega arith)
same_command c (a ∷ b ∷ d ∷ e ∷ f ∷ g ∷ h ∷ rest) more book k =
    whole_apply c (a ∷ b ∷ d ∷ e ∷ f ∷ g ∷ h ∷ (rest ++ more)) book (omega (arith, narrow c))
    ∙ same_apply c a b d e f g h rest more book
    ∙ sym (whole_apply c (a ∷ b ∷ d ∷ e ∷ f ∷ g ∷ h ∷ rest) book (omega (arith, narrow c)))

-- what reading does with the result of a command, the bytes behind it in hand
abbrev pub go_on : Command → List ℕ → Refusable Book → Refusable Book
go_on c after r = elim r [
  | refused n ↦ refused n
  | accepted next ↦ elim (is_end c) [ true ↦ accepted next | false ↦ read_from after (width c) next ]
]

end_or_not : (c : Command) (after more : List ℕ) (next : Book) (t : Bool) → is_end c ≡ t
    → (is_end c ≡ false → read_from (after ++ more) (width c) next ≡ read_from after (width c) next)
    → go_on c (after ++ more) (accepted next) ≡ go_on c after (accepted next)
end_or_not c after more next true i f = rw (i, go_on)
end_or_not c after more next false i f = rw (i, go_on) (f i)

-- the command's result is the same, and where it is accepted, so is what follows
by_result : (c : Command) (after more : List ℕ) (book : Book) (r : Refusable Book) → room book + 8 ≤ suc (length after)
    → whole_command c after book ≡ r
    → ((next : Book) → room next + width c + 8 ≤ length after → read_from (after ++ more) (width c) next ≡ read_from after (width c) next)
    → go_on c (after ++ more) r ≡ go_on c after r
by_result c after more book (refused n) h e f = refl
by_result c after more book (accepted next) h e f =
    let applied : apply_command c after book ≡ accepted next = sym (whole_apply c after book (omega (arith, narrow c))) ∙ e in
    end_or_not c after more next (is_end c) refl
    (λ i. f next (omega (arith, taken c after book next i applied)))

prefix : (bytes more : List ℕ) (skip : ℕ) (book : Book) → room book + skip + 8 ≤ length bytes
    → read_from (bytes ++ more) skip book ≡ read_from bytes skip book
prefix [] more skip book h = absurd (omega arith)
prefix (b ∷ bs) more (suc skip) book h = prefix bs more skip book (omega arith)
prefix (b ∷ bs) more zero book h =
    ap (go_on (command b) (bs ++ more)) (same_command (command b) bs more book (omega arith))
    ∙ by_result (command b) bs more book (whole_command (command b) bs book) (omega arith) refl
    (λ next k. prefix bs more (width (command b)) next k)

long_enough : (bytes : List ℕ) → Dec (read_ahead ≤ length bytes) → read (take read_ahead bytes) ≡ read bytes
long_enough bytes (yes h) =
    let full : length (take read_ahead bytes) ≡ read_ahead = length-take-le read_ahead bytes h in
    sym (prefix (take read_ahead bytes) (drop read_ahead bytes) 0 [] (omega arith))
    ∙ ap read (take-append-drop read_ahead bytes)
long_enough bytes (no h) = ap read (take_all read_ahead bytes (omega arith))

pub read_take : (bytes : List ℕ) → read (take read_ahead bytes) ≡ read bytes
read_take bytes = long_enough bytes (dec_le read_ahead (length bytes))

-- A book that is written has at most the bytes of the largest.

literals_short : (ls : List Literal) → length (write_literals ls) ≤ 8 * length ls
literals_short [] = omega arith
literals_short (Positive g any outsized ∷ ls) = omega (arith, literals_short ls)
literals_short (Positive g (exactly v) outsized ∷ ls) = omega (arith, literals_short ls)
literals_short (Positive g (between least most) outsized ∷ ls) = omega (arith, literals_short ls)
literals_short (Negative g outsized ∷ ls) = omega (arith, literals_short ls)

clauses_short : (goals : ℕ) (cs : List Clause) → ClausesWithin goals cs → length (write_clauses cs) ≤ 68 * length cs
clauses_short goals [] w = omega arith
clauses_short goals (c ∷ cs) w =
    let few = w.0.few_literals in
    let flags = flag c.cannot_prove + 2 * flag c.outsized in
    let head : List ℕ = 0x43 ∷ c.variant % 256 ∷ c.variant / 256 ∷ flags ∷ write_literals c.literals in
    omega (arith, length-append head (write_clauses cs), literals_short c.literals, clauses_short goals cs w.1)

goals_short : (goals : ℕ) (gs : List Goal) → GoalsWithin goals gs → length (write_goals gs) ≤ 2 * length gs + 68 * clause_count gs
goals_short goals [] w = omega arith
goals_short goals (g ∷ gs) w =
    let head : List ℕ = 0x47 ∷ (flag g.coinductive + 2 * flag g.floundered) ∷ write_clauses g.clauses in
    omega (arith, length-append head (write_goals gs), clauses_short goals g.clauses w.0, goals_short goals gs w.1)

pub write_short : (book : Book) → Within book → length (write book) ≤ largest_book
write_short book w =
    let few_goals = w.few_goals in
    let few_clauses = w.few_clauses in
    omega (arith, length-append (write_goals book) (0x45 ∷ []), goals_short (length book) book w.clauses_fit)

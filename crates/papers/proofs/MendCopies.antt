-- The bytes of a mended paper are read as its book without the clauses that go: its commands are copied beside its reading.
use Prim.Native.Nat.{ℕ, zero, suc, ◌≤◌}
use native.Mathlib.Omega.{arith}
use mathlib.Core.Path.{◌≡◌, refl, sym, ap, ◌∙◌}
use mathlib.Core.Bool.{Bool, true, false, false≢true}
use mathlib.Core.List.{List, [], ◌∷◌, ◌++◌}
use lib.Dec.{eqb, ltb, leb}
use lib.ListN.{length, get_or}
use borrow.Author.Tests.{ltb-false, le-ltb, lt-ltb}
use Rattle.definitions.specs.Refusal.{Refusable, refused, accepted, ◌refuses◌, unless}
use Rattle.sizes.specs.Limits.{most_goals, most_clauses, most_literals}
use Rattle.definitions.specs.Book.{Literal, Positive, Negative, between, Goal, Book}
use Rattle.definitions.specs.Book.{Command, goal, clause, positive, ranged, negative, end, unknown, command, width}
use Rattle.definitions.specs.Book.{clause_count, add_clause, add_literal, literals_so_far, crossed, want_of, is_end, apply_command}
use Rattle.definitions.specs.Book.{byte, u16, bit0, bit1, literal_command, whole_command}
use Rattle.definitions.specs.Mend.{loose_end, loose_from}
use Rattle.papers.specs.Mend.{Copying, at_clause, at_literal, at_other, at_command, if_stays, copy}
use Rattle.laws.proofs.Bools.{not_zero}
use Rattle.definitions.proofs.Refusal.{not_accepted, all_pass}
use Rattle.definitions.proofs.Book.{clause_count_goal, clause_count_add_clause, added, new_clause}
use Rattle.papers.proofs.MendBooks.{staying, staying_length}
use Rattle.papers.proofs.MendReads.{operand, long_enough, operands_same, goal_on, clause_on, clause_off, literal_on}
use Rattle.papers.proofs.MendReads.{literal_off, has_clause, Along, clause_flag, flag_here, along_clause, along_same}

-- One command.

abbrev loose_command : Command → List ℕ → Book → Refusable Book
loose_command m bs book = elim (is_end m) [
  | true ↦ loose_end bs book
  | false ↦ elim (whole_command m bs book) [ refused n ↦ refused n | accepted next ↦ loose_from bs (width m) next ]
]

abbrev tested : Bool → Command → List ℕ → Book → Refusable Book
tested b m bs book = elim b [ true ↦ refused 1 | false ↦ apply_command m bs book ]

record Taken (m : Command) (bs : List ℕ) (book final : Book) : Type 0 where
  next : Book
  long : width m ≤ length bs
  applied : apply_command m bs book ≡ accepted next
  then : loose_from bs (width m) next ≡ accepted final

taken : (m : Command) (bs : List ℕ) (book final : Book) → is_end m ≡ false → loose_command m bs book ≡ accepted final
    → Taken m bs book final
taken m bs book final z e =
    on (ltb (length bs) (width m)) refl
    (sym (ap (λ (b : Bool). elim b [
      | true ↦ loose_end bs book
      | false ↦ elim (whole_command m bs book) [ refused n ↦ refused n | accepted next ↦ loose_from bs (width m) next ]
    ]) z) ∙ e)
  where
    given : (r : Refusable Book) → apply_command m bs book ≡ r → width m ≤ length bs
        → elim r [ refused n ↦ refused n | accepted next ↦ loose_from bs (width m) next ] ≡ accepted final → Taken m bs book final
    given (refused n) a h f = absurd (not_accepted f)
    given (accepted next) a h f = record { next = next; long = h; applied = a; then = f }

    on : (b : Bool) → ltb (length bs) (width m) ≡ b
        → elim (tested b m bs book) [
          | refused n ↦ refused n
          | accepted next ↦ loose_from bs (width m) next
        ] ≡ accepted final → Taken m bs book final
    on true h f = absurd (not_accepted f)
    on false h f = given (apply_command m bs book) refl (ltb-false (length bs) (width m) h) f

goes_through : (m : Command) (xs : List ℕ) (book next : Book) → is_end m ≡ false → width m ≤ length xs
    → apply_command m xs book ≡ accepted next → loose_command m xs book ≡ loose_from xs (width m) next
goes_through m xs book next z h e =
    ap (λ (b : Bool). elim b [
      | true ↦ loose_end xs book
      | false ↦ elim (whole_command m xs book) [ refused n ↦ refused n | accepted q ↦ loose_from xs (width m) q ]
    ]) z
    ∙ ap (λ (b : Bool). elim (tested b m xs book) [
      | refused n ↦ refused n
      | accepted q ↦ loose_from xs (width m) q
    ]) (le-ltb (length xs) (width m) h)
    ∙ ap (λ (r : Refusable Book). elim r [ refused n ↦ refused n | accepted q ↦ loose_from xs (width m) q ]) e

-- what is to be skipped of the copy
abbrev left : Bool → ℕ → ℕ
left true n = n
left false n = 0

-- a command that stays
stays_on : (m : Command) (b : ℕ) (bs : List ℕ) (d : Copying) (book next : Book) (f : Refusable Book) → command b ≡ m → is_end m ≡ false
    → d.stays ≡ true → width m ≤ length bs → apply_command m bs book ≡ accepted next
    → loose_from (copy bs (width m) d) (left d.stays (width m)) next ≡ f
    → loose_from (if_stays d.stays b (copy bs (width m) d)) 0 book ≡ f
stays_on m b bs d book next f c z s h e g =
    let xs = copy bs (width m) d in
    ap (λ (t : Bool). loose_from (if_stays t b xs) 0 book) s
    ∙ ap (λ (k : Command). loose_command k xs book) c
    ∙ goes_through m xs book next z (long_enough (width m) bs d s h)
    (operands_same m xs bs z (λ i k. operand (width m) i bs d s h k) book ∙ e)
    ∙ ap (λ (t : Bool). loose_from xs (left t (width m)) next) (sym s)
    ∙ g

-- a command that goes
goes_on : (m : Command) (b : ℕ) (bs : List ℕ) (d : Copying) (book next : Book) (f : Refusable Book) → d.stays ≡ false → next ≡ book
    → loose_from (copy bs (width m) d) (left d.stays (width m)) next ≡ f
    → loose_from (if_stays d.stays b (copy bs (width m) d)) 0 book ≡ f
goes_on m b bs d book next f s e g =
    let xs = copy bs (width m) d in
    ap (λ (t : Bool). loose_from (if_stays t b xs) 0 book) s
    ∙ ap (loose_from xs 0) (sym e)
    ∙ ap (λ (t : Bool). loose_from xs (left t (width m)) next) (sym s)
    ∙ g

-- what is to be shown of the bytes behind
abbrev Copies : List Bool → List ℕ → (final : Book) → Type 0
Copies ks bs final =
    (skip : ℕ) (c : Copying) (book : Book) → Along ks book c → loose_from bs skip book ≡ accepted final
    → loose_from (copy bs skip c) (left c.stays skip) (staying ks book) ≡ accepted (staying ks final)

end_copied : (ks : List Bool) (b : ℕ) (bs : List ℕ) (c : Copying) (book final : Book) → command b ≡ end → loose_end bs book ≡ accepted final
    → loose_from (b ∷ copy bs 0 (at_other c)) 0 (staying ks book) ≡ accepted (staying ks final)
end_copied ks b (x ∷ bs) c book final m e =
    let a = all_pass (ltb 0 (length (x ∷ bs)) refuses 7 ∷ eqb (length book) 0 refuses 8 ∷ []) book final e in
    absurd (false≢true (sym a.0.0 ∙ lt-ltb 0 (length (x ∷ bs)) (omega arith)))
end_copied ks b [] c book final m e =
    let a = all_pass (ltb 0 0 refuses 7 ∷ eqb (length book) 0 refuses 8 ∷ []) book final e in
    ap (λ (k : Command). loose_command k [] (staying ks book)) m
    ∙ ap (λ (p : Bool). unless (p refuses 8 ∷ []) (staying ks book)) (ap (λ (n : ℕ). eqb n 0) (staying_length ks book) ∙ a.0.1.0)
    ∙ ap (λ (g : Book). accepted (staying ks g)) a.1

goal_copied : (ks : List Bool) (b : ℕ) (bs : List ℕ) (c : Copying) (book final : Book) → command b ≡ goal → Along ks book c
    → Copies ks bs final → loose_command goal bs book ≡ accepted final
    → loose_from (b ∷ copy bs 1 (at_other c)) 0 (staying ks book) ≡ accepted (staying ks final)
goal_copied ks b bs c book final m al ih e =
    let t = taken goal bs book final refl e in
    let g : Goal = record { coinductive = bit0 (byte bs 0); floundered = bit1 (byte bs 0); clauses = [] } in
    let a = all_pass (ltb 3 (byte bs 0) refuses 4 ∷ leb most_goals (length book) refuses 5 ∷ []) (book ++ (g ∷ [])) t.next
    t.applied in
    let same : clause_count t.next ≡ clause_count book = ap clause_count (sym a.1) ∙ clause_count_goal book g refl in
    stays_on goal b bs (at_other c) (staying ks book) (staying ks t.next) (accepted (staying ks final)) m refl refl t.long
    (goal_on ks bs book t.next t.applied)
    (ih 1 (at_other c) t.next (along_same ks book t.next c (at_other c) al same refl refl) t.then)

clause_copied : (ks : List Bool) (b : ℕ) (bs : List ℕ) (c : Copying) (book final : Book) → command b ≡ clause → Along ks book c
    → Copies ks bs final → loose_command clause bs book ≡ accepted final
    → loose_from (if_stays (at_clause c.to_come).stays b (copy bs 3 (at_clause c.to_come))) 0 (staying ks book)
    ≡ accepted (staying ks final)
clause_copied ks b bs c book final m al ih e =
    let t = taken clause bs book final refl e in
    let d = at_clause c.to_come in
    let a = all_pass (eqb (length book) 0 refuses 3 ∷ ltb 3 (byte bs 2) refuses 4 ∷ leb most_clauses (clause_count book) refuses 5 ∷ [])
    (add_clause (new_clause bs) book) t.next t.applied in
    let more : clause_count t.next ≡ suc (clause_count book)
    = ap clause_count (sym a.1) ∙ clause_count_add_clause (new_clause bs) book (not_zero (length book) a.0.0) in
    let rest = ih 3 d t.next (along_clause ks book t.next c al more) t.then in
    let flag : d.stays ≡ get_or ks (clause_count book) true = clause_flag c.to_come ∙ flag_here ks book c al in
    on t rest flag (get_or ks (clause_count book) true) refl
  where
    on : (t : Taken clause bs book final)
        → loose_from (copy bs 3 (at_clause c.to_come)) (left (at_clause c.to_come).stays 3) (staying ks t.next)
        ≡ accepted (staying ks final)
        → (at_clause c.to_come).stays ≡ get_or ks (clause_count book) true
        → (k : Bool) → get_or ks (clause_count book) true ≡ k
        → loose_from (if_stays (at_clause c.to_come).stays b (copy bs 3 (at_clause c.to_come))) 0 (staying ks book)
        ≡ accepted (staying ks final)
    on t rest flag true k =
        stays_on clause b bs (at_clause c.to_come) (staying ks book) (staying ks t.next) (accepted (staying ks final)) m refl
        (flag ∙ k) t.long (clause_on ks bs book t.next k t.applied) rest
    on t rest flag false k =
        goes_on clause b bs (at_clause c.to_come) (staying ks book) (staying ks t.next) (accepted (staying ks final)) (flag ∙ k)
        (clause_off ks bs book t.next k t.applied) rest

literal_copied : (m : Command) (l : Literal) (flags : ℕ) (ks : List Bool) (b : ℕ) (bs : List ℕ) (c : Copying) (book final : Book)
    → is_end m ≡ false → ((g : Book) → apply_command m bs g ≡ literal_command l flags g) → command b ≡ m → Along ks book c
    → Copies ks bs final → loose_command m bs book ≡ accepted final
    → loose_from (if_stays c.last_stays b (copy bs (width m) (at_literal c))) 0 (staying ks book) ≡ accepted (staying ks final)
literal_copied m l flags ks b bs c book final z does k al ih e =
    let t = taken m bs book final z e in
    let applied : literal_command l flags book ≡ accepted t.next = sym (does book) ∙ t.applied in
    let i = has_clause l flags book t.next applied in
    let a = all_pass (eqb (clause_count book) 0 refuses 3 ∷ ltb 1 flags refuses 4 ∷ crossed l refuses 32
    ∷ leb most_literals (literals_so_far book) refuses 5 ∷ []) (add_literal l book) t.next applied in
    let same : clause_count t.next ≡ clause_count book = ap clause_count (sym a.1) ∙ (added l book).same_clauses in
    let rest = ih (width m) (at_literal c) t.next (along_same ks book t.next c (at_literal c) al same refl refl) t.then in
    on t applied i.0 i.1 rest (al.last i.0 i.1) (get_or ks i.0 true) refl
  where
    on : (t : Taken m bs book final) → literal_command l flags book ≡ accepted t.next → (i : ℕ) → clause_count book ≡ suc i
        → loose_from (copy bs (width m) (at_literal c)) (left c.last_stays (width m)) (staying ks t.next)
        ≡ accepted (staying ks final)
        → c.last_stays ≡ get_or ks i true → (q : Bool) → get_or ks i true ≡ q
        → loose_from (if_stays c.last_stays b (copy bs (width m) (at_literal c))) 0 (staying ks book) ≡ accepted (staying ks final)
    on t applied i n rest flag true q =
        stays_on m b bs (at_literal c) (staying ks book) (staying ks t.next) (accepted (staying ks final)) k z (flag ∙ q) t.long
        (does (staying ks book) ∙ literal_on ks l flags book t.next i n q applied) rest
    on t applied i n rest flag false q =
        goes_on m b bs (at_literal c) (staying ks book) (staying ks t.next) (accepted (staying ks final)) (flag ∙ q)
        (literal_off ks l flags book t.next i n q applied) rest

-- All of them.

by_command : (ks : List Bool) (m : Command) (b : ℕ) (bs : List ℕ) (c : Copying) (book final : Book) → command b ≡ m → Along ks book c
    → Copies ks bs final → loose_command m bs book ≡ accepted final
    → loose_from (if_stays (at_command m c).stays b (copy bs (width m) (at_command m c))) 0 (staying ks book) ≡ accepted (staying ks final)
by_command ks goal b bs c book final k al ih e = goal_copied ks b bs c book final k al ih e
by_command ks clause b bs c book final k al ih e = clause_copied ks b bs c book final k al ih e
by_command ks positive b bs c book final k al ih e =
    literal_copied positive (Positive (u16 bs 0) (want_of (u16 bs 2)) (bit0 (byte bs 4))) (byte bs 4)
    ks b bs c book final refl (λ g. refl) k al ih e
by_command ks ranged b bs c book final k al ih e =
    literal_copied ranged (Positive (u16 bs 0) (between (u16 bs 2) (u16 bs 4)) (bit0 (byte bs 6))) (byte bs 6)
    ks b bs c book final refl (λ g. refl) k al ih e
by_command ks negative b bs c book final k al ih e =
    literal_copied negative (Negative (u16 bs 0) (bit0 (byte bs 2))) (byte bs 2) ks b bs c book final refl (λ g. refl) k al ih e
by_command ks end b bs c book final k al ih e = end_copied ks b bs c book final k e
by_command ks unknown b bs c book final k al ih e =
    let t = taken unknown bs book final refl e in absurd (not_accepted t.applied)

pub copies : (ks : List Bool) (bs : List ℕ) (final : Book) → Copies ks bs final
copies ks [] final skip c book al e = absurd (not_accepted e)
copies ks (b ∷ bs) final zero c book al e = on c.stays (by_command ks (command b) b bs c book final refl al (copies ks bs final) e)
  where
    on : (s : Bool) → loose_from (copy (b ∷ bs) 0 c) 0 (staying ks book) ≡ accepted (staying ks final)
        → loose_from (copy (b ∷ bs) 0 c) (left s 0) (staying ks book) ≡ accepted (staying ks final)
    on true x = x
    on false x = x
copies ks (b ∷ bs) final (suc skip) c book al e = on c.stays (copies ks bs final skip c book al e)
  where
    on : (s : Bool) → loose_from (copy bs skip c) (left s skip) (staying ks book) ≡ accepted (staying ks final)
        → loose_from (if_stays s b (copy bs skip c)) (left s (suc skip)) (staying ks book) ≡ accepted (staying ks final)
    on true x = x
    on false x = x

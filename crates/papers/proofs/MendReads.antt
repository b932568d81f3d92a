-- What a command does to a book of which some clauses go, by the operands that are copied, and how copying keeps beside reading.
use Prim.Native.Nat.{ℕ, zero, suc, ◌+◌, ◌*◌, ◌≤◌, ◌<◌}
use native.Mathlib.Omega.{arith}
use mathlib.Core.Path.{◌≡◌, refl, sym, ap, ap₂, ◌∙◌}
use mathlib.Core.Bool.{Bool, true, false, false≢true}
use mathlib.Core.Option.{Option}
use mathlib.Core.List.{List, [], ◌∷◌, ◌++◌, map}
use lib.Dec.{eqb, ltb, leb}
use lib.Seq.{get_or-drop, drop-drop}
use lib.ListN.{length, drop, get_or}
use borrow.Author.Tests.{ne_eqb, eqb-false, leb-false, lt-leb}
use Rattle.definitions.specs.Refusal.{accepted, ◌refuses◌, unless}
use Rattle.sizes.specs.Limits.{most_goals, most_clauses, most_literals}
use Rattle.definitions.specs.Book.{Literal, Positive, Negative, between, Goal, Book}
use Rattle.definitions.specs.Book.{Command, goal, clause, positive, ranged, negative, end, unknown, width, byte, u16, bit0, bit1}
use Rattle.definitions.specs.Book.{clause_count, add_clause, add_literal, literals_so_far, crossed, want_of, is_end, apply_command}
use Rattle.definitions.specs.Book.{goal_command, clause_command, literal_command}
use Rattle.papers.specs.Mend.{Copying, has_none, at_clause, if_stays, copy}
use Rattle.definitions.proofs.Refusal.{all_pass}
use Rattle.definitions.proofs.Book.{new_clause}
use Rattle.papers.proofs.MendBooks.{staying, staying_length, staying_fewer, staying_goal, clause_stays, clause_goes}
use Rattle.papers.proofs.MendBooks.{staying_some, literal_stays, literal_goes, last_stays}

-- Operands of a command that stays.

copy_on : (b : ℕ) (bs : List ℕ) (n : ℕ) (d : Copying) → d.stays ≡ true → copy (b ∷ bs) (suc n) d ≡ b ∷ copy bs n d
copy_on b bs n d e = ap (λ (s : Bool). if_stays s b (copy bs n d)) e

pub operand : (n i : ℕ) (bs : List ℕ) (d : Copying) → d.stays ≡ true → n ≤ length bs → i < n
    → ◌≡◌ {A = ℕ} (get_or (copy bs n d) i 0) (get_or bs i 0)
operand zero i bs d e h k = absurd (omega arith)
operand (suc n) i [] d e h k = absurd (omega arith)
operand (suc n) zero (b ∷ bs) d e h k = ap (λ (l : List ℕ). get_or l 0 0) (copy_on b bs n d e)
operand (suc n) (suc i) (b ∷ bs) d e h k =
    ap (λ (l : List ℕ). get_or l (suc i) 0) (copy_on b bs n d e) ∙ operand n i bs d e (omega arith) (omega arith)

pub long_enough : (n : ℕ) (bs : List ℕ) (d : Copying) → d.stays ≡ true → n ≤ length bs → n ≤ length (copy bs n d)
long_enough zero bs d e h = omega arith
long_enough (suc n) [] d e h = absurd (omega arith)
long_enough (suc n) (b ∷ bs) d e h =
    let x = long_enough n bs d e (omega arith) in
    let y = ap length (copy_on b bs n d e) in
    omega arith

pair_same : (xs ys : List ℕ) (i : ℕ) → ◌≡◌ {A = ℕ} (get_or xs i 0) (get_or ys i 0) → ◌≡◌ {A = ℕ} (get_or xs (suc i) 0) (get_or ys (suc i) 0)
    → u16 xs i ≡ u16 ys i
pair_same xs ys i e f = ap₂ (λ (a b : ℕ). a + 256 * b) e f

-- as far as its operands go, a command does the same
pub operands_same : (m : Command) (xs ys : List ℕ) → is_end m ≡ false → ((i : ℕ) → i < width m → ◌≡◌ {A = ℕ} (get_or xs i 0) (get_or ys i 0))
    → (book : Book) → apply_command m xs book ≡ apply_command m ys book
operands_same goal xs ys z f book =
    ap (λ (a : ℕ). unless (ltb 3 a refuses 4 ∷ leb most_goals (length book) refuses 5 ∷ [])
    (book ++ (record { coinductive = bit0 a; floundered = bit1 a; clauses = [] } ∷ []))) (f 0 (omega arith))
operands_same clause xs ys z f book =
    ap₂ (λ (v a : ℕ). unless (eqb (length book) 0 refuses 3 ∷ ltb 3 a refuses 4 ∷ leb most_clauses (clause_count book) refuses 5 ∷ [])
    (add_clause (record { variant = v; cannot_prove = bit0 a; outsized = bit1 a; literals = [] }) book))
    (pair_same xs ys 0 (f 0 (omega arith)) (f 1 (omega arith))) (f 2 (omega arith))
operands_same positive xs ys z f book =
    ap₂ (λ (g w : ℕ). literal_command (Positive g (want_of w) (bit0 (byte xs 4))) (byte xs 4) book)
    (pair_same xs ys 0 (f 0 (omega arith)) (f 1 (omega arith))) (pair_same xs ys 2 (f 2 (omega arith)) (f 3 (omega arith)))
    ∙ ap (λ (a : ℕ). literal_command (Positive (u16 ys 0) (want_of (u16 ys 2)) (bit0 a)) a book) (f 4 (omega arith))
operands_same ranged xs ys z f book =
    ap₂ (λ (g w : ℕ). literal_command (Positive g (between w (u16 xs 4)) (bit0 (byte xs 6))) (byte xs 6) book)
    (pair_same xs ys 0 (f 0 (omega arith)) (f 1 (omega arith))) (pair_same xs ys 2 (f 2 (omega arith)) (f 3 (omega arith)))
    ∙ ap₂ (λ (w a : ℕ). literal_command (Positive (u16 ys 0) (between (u16 ys 2) w) (bit0 a)) a book)
    (pair_same xs ys 4 (f 4 (omega arith)) (f 5 (omega arith))) (f 6 (omega arith))
operands_same negative xs ys z f book =
    ap₂ (λ (g a : ℕ). literal_command (Negative g (bit0 a)) a book)
    (pair_same xs ys 0 (f 0 (omega arith)) (f 1 (omega arith))) (f 2 (omega arith))
operands_same end xs ys z f book = absurd (false≢true (sym z))
operands_same unknown xs ys z f book = refl

-- A command on the book of which some clauses go.

pub goal_on : (ks : List Bool) (os : List ℕ) (book next : Book) → goal_command os book ≡ accepted next
    → goal_command os (staying ks book) ≡ accepted (staying ks next)
goal_on ks os book next e =
    let g : Goal = record { coinductive = bit0 (byte os 0); floundered = bit1 (byte os 0); clauses = [] } in
    let a = all_pass (ltb 3 (byte os 0) refuses 4 ∷ leb most_goals (length book) refuses 5 ∷ []) (book ++ (g ∷ [])) next e in
    ap₂ (λ (p q : Bool). unless (p refuses 4 ∷ q refuses 5 ∷ []) (staying ks book ++ (g ∷ []))) a.0.0
    (ap (leb most_goals) (staying_length ks book) ∙ a.0.1.0)
    ∙ ap accepted (sym (staying_goal ks book g refl) ∙ ap (staying ks) a.1)

pub clause_on : (ks : List Bool) (os : List ℕ) (book next : Book) → get_or ks (clause_count book) true ≡ true
    → clause_command os book ≡ accepted next → clause_command os (staying ks book) ≡ accepted (staying ks next)
clause_on ks os book next k e =
    let a = all_pass (eqb (length book) 0 refuses 3 ∷ ltb 3 (byte os 2) refuses 4 ∷ leb most_clauses (clause_count book) refuses 5 ∷ [])
    (add_clause (new_clause os) book) next e in
    let few = leb-false 256 (clause_count book) a.0.1.1.0 in
    let fewer = staying_fewer ks book in
    ap₂ (λ (p q : Bool). unless (p refuses 3 ∷ q refuses 4 ∷ leb most_clauses (clause_count (staying ks book)) refuses 5 ∷ [])
    (add_clause (new_clause os) (staying ks book))) (ap (λ (n : ℕ). eqb n 0) (staying_length ks book) ∙ a.0.0) a.0.1.0
    ∙ ap (λ (p : Bool). unless (p refuses 5 ∷ []) (add_clause (new_clause os) (staying ks book)))
    (lt-leb 256 (clause_count (staying ks book)) (omega arith))
    ∙ ap accepted (sym (clause_stays ks book (new_clause os) k) ∙ ap (staying ks) a.1)

pub clause_off : (ks : List Bool) (os : List ℕ) (book next : Book) → get_or ks (clause_count book) true ≡ false
    → clause_command os book ≡ accepted next → staying ks next ≡ staying ks book
clause_off ks os book next k e =
    let a = all_pass (eqb (length book) 0 refuses 3 ∷ ltb 3 (byte os 2) refuses 4 ∷ leb most_clauses (clause_count book) refuses 5 ∷ [])
    (add_clause (new_clause os) book) next e in
    ap (staying ks) (sym a.1) ∙ clause_goes ks book (new_clause os) k

pub literal_on : (ks : List Bool) (l : Literal) (flags : ℕ) (book next : Book) (i : ℕ) → clause_count book ≡ suc i → get_or ks i true ≡ true
    → literal_command l flags book ≡ accepted next → literal_command l flags (staying ks book) ≡ accepted (staying ks next)
literal_on ks l flags book next i c k e =
    let a = all_pass (eqb (clause_count book) 0 refuses 3 ∷ ltb 1 flags refuses 4 ∷ crossed l refuses 32
    ∷ leb most_literals (literals_so_far book) refuses 5 ∷ []) (add_literal l book) next e in
    let some_left = staying_some ks book i c k in
    ap₂ (λ (p q : Bool). unless (p refuses 3 ∷ q refuses 4 ∷ crossed l refuses 32
    ∷ leb most_literals (literals_so_far (staying ks book)) refuses 5 ∷ []) (add_literal l (staying ks book)))
    (ne_eqb (clause_count (staying ks book)) 0 (λ z. omega arith)) a.0.1.0
    ∙ ap₂ (λ (p q : Bool). unless (p refuses 32 ∷ q refuses 5 ∷ []) (add_literal l (staying ks book))) a.0.1.1.0
    (ap (leb most_literals) (last_stays ks book i c k) ∙ a.0.1.1.1.0)
    ∙ ap accepted (sym (literal_stays ks book l i c k) ∙ ap (staying ks) a.1)

pub literal_off : (ks : List Bool) (l : Literal) (flags : ℕ) (book next : Book) (i : ℕ) → clause_count book ≡ suc i → get_or ks i true ≡ false
    → literal_command l flags book ≡ accepted next → staying ks next ≡ staying ks book
literal_off ks l flags book next i c k e =
    let a = all_pass (eqb (clause_count book) 0 refuses 3 ∷ ltb 1 flags refuses 4 ∷ crossed l refuses 32
    ∷ leb most_literals (literals_so_far book) refuses 5 ∷ []) (add_literal l book) next e in
    ap (staying ks) (sym a.1) ∙ literal_goes ks book l i c k

-- a literal has a clause before it
pub has_clause : (l : Literal) (flags : ℕ) (book next : Book) → literal_command l flags book ≡ accepted next
    → (i : ℕ) × (clause_count book ≡ suc i)
has_clause l flags book next e = on (clause_count book) refl
  where
    on : (n : ℕ) → clause_count book ≡ n → (i : ℕ) × (clause_count book ≡ suc i)
    on zero z =
        let a = all_pass (eqb (clause_count book) 0 refuses 3 ∷ ltb 1 flags refuses 4 ∷ crossed l refuses 32
        ∷ leb most_literals (literals_so_far book) refuses 5 ∷ []) (add_literal l book) next e in
        absurd (eqb-false (clause_count book) 0 a.0.0 z)
    on (suc i) z = (i, z)

-- Copying keeps beside reading.

pub record Along (ks : List Bool) (book : Book) (c : Copying) : Type 0 where
  pub coming : map has_none c.to_come ≡ drop (clause_count book) ks
  pub last : (i : ℕ) → clause_count book ≡ suc i → c.last_stays ≡ get_or ks i true

pub clause_flag : (rs : List (Option ℕ)) → (at_clause rs).stays ≡ get_or (map has_none rs) 0 true
clause_flag [] = refl
clause_flag (r ∷ rs) = refl

clause_flag_too : (rs : List (Option ℕ)) → (at_clause rs).last_stays ≡ get_or (map has_none rs) 0 true
clause_flag_too [] = refl
clause_flag_too (r ∷ rs) = refl

clause_rest : (rs : List (Option ℕ)) → map has_none (at_clause rs).to_come ≡ drop 1 (map has_none rs)
clause_rest [] = refl
clause_rest (r ∷ rs) = refl

pub flag_here : (ks : List Bool) (book : Book) (c : Copying) → Along ks book c
    → get_or (map has_none c.to_come) 0 true ≡ get_or ks (clause_count book) true
flag_here ks book c al =
    let z : clause_count book + 0 ≡ clause_count book = omega arith in
    ap (λ (l : List Bool). get_or l 0 true) al.coming ∙ get_or-drop (clause_count book) ks 0 true ∙ ap (λ (n : ℕ). get_or ks n true) z

pub along_clause : (ks : List Bool) (book next : Book) (c : Copying) → Along ks book c → clause_count next ≡ suc (clause_count book)
    → Along ks next (at_clause c.to_come)
along_clause ks book next c al e =
    let z : clause_count book + 1 ≡ clause_count next = omega arith in
    record {
      coming = clause_rest c.to_come ∙ ap (drop 1) al.coming ∙ drop-drop 1 (clause_count book) ks ∙ ap (λ (n : ℕ). drop n ks) z;
      last = λ i h. clause_flag_too c.to_come ∙ flag_here ks book c al
          ∙ ap (λ (n : ℕ). get_or ks n true) (let x : clause_count book ≡ i = omega arith in x);
    }

pub along_same : (ks : List Bool) (book next : Book) (c d : Copying) → Along ks book c → clause_count next ≡ clause_count book
    → d.to_come ≡ c.to_come → d.last_stays ≡ c.last_stays → Along ks next d
along_same ks book next c d al e t l = record {
  coming = ap (map has_none) t ∙ al.coming ∙ ap (λ (n : ℕ). drop n ks) (sym e);
  last = λ i h. l ∙ al.last i (sym e ∙ h);
}

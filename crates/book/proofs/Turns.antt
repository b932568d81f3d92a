-- One command of a book's bytes: refused with its number, or done, and the reading goes on behind it. This is the reading without the
-- test for 6.
use Prim.Native.Nat.{ℕ, zero, suc, ◌+◌, ◌*◌, ◌≤◌, ◌<◌}
use native.Mathlib.Omega.{arith}
use mathlib.Core.Path.{◌≡◌, refl, sym, ap, subst, ◌∙◌}
use mathlib.Core.Bool.{Bool, true, false}
use mathlib.Core.List.{List, [], ◌∷◌, ◌++◌}
use lib.ListN.{length, get_or, drop, drop_of_length-le, length-drop}
use lib.Seq.{drop-cons, drop-drop}
use lib.Dec.{ltb}
use borrow.Author.Tests.{le-ltb, ltb-false}
use Rattle.definitions.specs.Refusal.{Refusable, refused, accepted, Test, ◌refuses◌, unless}
use Rattle.definitions.specs.Book as said
use Rattle.definitions.specs.Book.{Command, goal, clause, positive, ranged, negative, end, unknown, command, width, byte, u16, bit0}
use Rattle.definitions.specs.Book.{want_of, between, Positive, Negative}
use Rattle.definitions.specs.Book.{add_clause, add_literal, clause_count, literals_so_far, apply_command, whole_command, is_end}
use Rattle.definitions.specs.Mend.{loose_end, loose_from}
use Rattle.definitions.proofs.Book.{literals_none, want_straight}
use Rattle.laws.proofs.Spans.{length_span}
use Rattle.book.specs.declared.Book.{Book}
use Rattle.book.specs.View.{clause_viewed, literal_viewed, view, Tiles}
use Rattle.book.specs.Faults.{fault, Counts, counts, command_tests, whole_tests, next_fault, end_tests, literal_tests, goal_tests}
use Rattle.book.specs.Faults.{clause_tests}
use Rattle.book.proofs.Tilings.{tiles_literals}
use Rattle.book.proofs.Held.{Held, goals_counted, clauses_counted}
use Rattle.book.proofs.MoreGoals.{bare_goal}
use Rattle.book.proofs.MoreClauses.{bare_clause}

-- what stands behind a command is read as the operands are skipped
pub skip : (bs : List ℕ) (k : ℕ) (book : said.Book) → k ≤ length bs → loose_from bs k book ≡ loose_from (drop k bs) 0 book
skip [] zero book h = refl
skip [] (suc k) book h = absurd (omega arith)
skip (b ∷ bs) zero book h = refl
skip (b ∷ bs) (suc k) book h = skip bs k book (omega arith)

-- Tests and their first fault.

abbrev pub Numbered : List Test → Type 0
Numbered [] = Unit {0}
Numbered (t ∷ ts) = (0 < t.number) × Numbered ts

passes_by : (t : Bool) (n k : ℕ) → 0 < n → ◌≡◌ {A = ℕ} (elim t [ true ↦ n | false ↦ k ]) 0 → (t ≡ false) × (k ≡ 0)
passes_by true n k h e = absurd (omega arith)
passes_by false n k h e = (refl, e)

-- where there is no fault the first test is passed, and there is none behind it
pub passes : (t : Test) (ts : List Test) → 0 < t.number → fault (t ∷ ts) ≡ 0 → (t.fails ≡ false) × (fault ts ≡ 0)
passes t ts h e = passes_by t.fails t.number (fault ts) h e

module _ {A : Type 0} where
  refused_by : (t : Bool) (n m k : ℕ) (rest : Refusable A) → (m ≡ k → rest ≡ refused k) → ◌≡◌ {A = ℕ} (elim t [ true ↦ n | false ↦ m ]) k
      → ◌≡◌ {A = Refusable A} (elim t [ true ↦ refused n | false ↦ rest ]) (refused k)
  refused_by true n m k rest ih e = ap refused e
  refused_by false n m k rest ih e = ih e

  pub unless_refused : (ts : List Test) (a : A) (k : ℕ) → (k ≡ 0 → ⊥) → fault ts ≡ k → unless ts a ≡ refused k
  unless_refused [] a k n e = absurd (n (sym e))
  unless_refused (t ∷ ts) a k n e = refused_by t.fails t.number (fault ts) k (unless ts a) (unless_refused ts a k n) e

  pub unless_passed : (ts : List Test) (a : A) → Numbered ts → fault ts ≡ 0 → unless ts a ≡ accepted a
  unless_passed [] a n e = refl
  unless_passed (t ∷ ts) a n e =
      let p = passes t ts n.0 e in
      ap (λ (b : Bool). elim b [ true ↦ refused t.number | false ↦ unless ts a ]) p.0 ∙ unless_passed ts a n.1 p.1

numbered : (c : Command) (after : List ℕ) (n : Counts) → Numbered (whole_tests c after n)
numbered goal after n = (omega arith, (omega arith, (omega arith, tt)))
numbered clause after n = (omega arith, (omega arith, (omega arith, (omega arith, tt))))
numbered positive after n = (omega arith, (omega arith, (omega arith, (omega arith, (omega arith, tt)))))
numbered ranged after n = (omega arith, (omega arith, (omega arith, (omega arith, (omega arith, tt)))))
numbered negative after n = (omega arith, (omega arith, (omega arith, (omega arith, (omega arith, tt)))))
numbered end after n = (omega arith, (omega arith, (omega arith, tt)))
numbered unknown after n = (omega arith, (omega arith, tt))

-- the book after a command that is not refused
abbrev pub done : Command → List ℕ → said.Book → said.Book
done goal after book = book ++ (bare_goal (byte after 0) ∷ [])
done clause after book = add_clause (bare_clause (u16 after 0) (byte after 2)) book
done positive after book = add_literal (Positive (u16 after 0) (want_of (u16 after 2)) (bit0 (byte after 4))) book
done ranged after book = add_literal (Positive (u16 after 0) (between (u16 after 2) (u16 after 4)) (bit0 (byte after 6))) book
done negative after book = add_literal (Negative (u16 after 0) (bit0 (byte after 2))) book
done end after book = book
done unknown after book = book

-- what a command gives: the end command ends the reading, and its operands are none
abbrev taken : Command → List ℕ → said.Book → Refusable said.Book
taken c after book = elim (is_end c) [ true ↦ loose_end after book | false ↦ whole_command c after book ]

-- what reading does with that
abbrev goes_on : Command → List ℕ → Refusable said.Book → Refusable said.Book
goes_on c after r = elim r [
  | refused n ↦ refused n
  | accepted next ↦ elim (is_end c) [ true ↦ accepted next | false ↦ loose_from after (width c) next ]
]

loose_taken : (c : Command) (after : List ℕ) (book : said.Book)
    → elim (is_end c) [
      | true ↦ loose_end after book
      | false ↦ elim (whole_command c after book) [ refused n ↦ refused n | accepted next ↦ loose_from after (width c) next ]
    ] ≡ goes_on c after (taken c after book)
loose_taken goal after book = refl
loose_taken clause after book = refl
loose_taken positive after book = refl
loose_taken ranged after book = refl
loose_taken negative after book = refl
loose_taken end after book = on (loose_end after book)
  where
    on : (r : Refusable said.Book) → r ≡ goes_on end after r
    on (refused n) = refl
    on (accepted next) = refl
loose_taken unknown after book = refl

module _ (b : Book) (literals named : ℕ) (h : Held b literals named) where
  abbrev pub now_counts : Counts
  now_counts = counts b.goals b.clauses literals

  literals_counted_by : (n : ℕ) → b.clauses ≡ n → literals_so_far (view b) ≡ literals
  literals_counted_by zero e = literals_none (view b) (clauses_counted b h.tiles ∙ e) ∙ sym (h.none e)
  literals_counted_by (suc c) e =
      tiles_literals (clause_viewed b) b.goal_flags b.goal_first b.goal_len b.goals 0 0 c
      (subst (Tiles b.goal_first b.goal_len 0 b.goals 0) e h.tiles) (omega arith)
      ∙ length_span (literal_viewed b) (8 * c) (get_or b.clause_len c 0) ∙ h.last c e

  literals_counted : literals_so_far (view b) ≡ literals
  literals_counted = literals_counted_by b.clauses refl

  literal_counted : (flags : ℕ) (crossed : Bool) (next : said.Book)
      → unless (literal_tests flags crossed (clause_count (view b)) (literals_so_far (view b))) next
      ≡ unless (literal_tests flags crossed b.clauses literals) next
  literal_counted flags crossed next =
      ap (λ (n : ℕ). unless (literal_tests flags crossed n (literals_so_far (view b))) next) (clauses_counted b h.tiles)
      ∙ ap (λ (n : ℕ). unless (literal_tests flags crossed b.clauses n) next) literals_counted

  -- the definition's tests are those of the counts
  whole_is : (c : Command) (after : List ℕ)
      → apply_command c after (view b) ≡ unless (command_tests c after now_counts) (done c after (view b))
      → whole_command c after (view b) ≡ unless (whole_tests c after now_counts) (done c after (view b))
  whole_is c after e = ap (λ (r : Refusable said.Book). elim (ltb (length after) (width c)) [ true ↦ refused 1 | false ↦ r ]) e

  taken_is : (c : Command) (after : List ℕ) → taken c after (view b) ≡ unless (whole_tests c after now_counts) (done c after (view b))
  taken_is goal after =
      whole_is goal after (ap (λ (n : ℕ). unless (goal_tests (byte after 0) n) (done goal after (view b))) (goals_counted b))
  taken_is clause after =
      whole_is clause after
      (ap (λ (n : ℕ). unless (clause_tests (byte after 2) n (clause_count (view b))) (done clause after (view b))) (goals_counted b)
      ∙ ap (λ (n : ℕ). unless (clause_tests (byte after 2) b.goals n) (done clause after (view b))) (clauses_counted b h.tiles))
  taken_is positive after =
      whole_is positive after
      (ap (λ (t : Bool). unless (literal_tests (byte after 4) t (clause_count (view b)) (literals_so_far (view b)))
      (done positive after (view b))) (want_straight (u16 after 2))
      ∙ literal_counted (byte after 4) false (done positive after (view b)))
  taken_is ranged after =
      whole_is ranged after (literal_counted (byte after 6) (ltb (u16 after 4) (u16 after 2)) (done ranged after (view b)))
  taken_is negative after = whole_is negative after (literal_counted (byte after 2) false (done negative after (view b)))
  taken_is end after =
      ap (λ (n : ℕ). unless (end_tests (length after) n) (view b)) (goals_counted b)
      ∙ sym (ap (λ (t : Bool). unless (t refuses 1 ∷ end_tests (length after) b.goals) (view b)) (le-ltb (length after) 0 (omega arith)))
  taken_is unknown after = whole_is unknown after refl

  turn_refused_in : (xs : List ℕ) (k : ℕ) → (k ≡ 0 → ⊥) → next_fault xs now_counts ≡ k → loose_from xs 0 (view b) ≡ refused k
  turn_refused_in [] k n e = ap refused e
  turn_refused_in (x ∷ xs) k n e =
      loose_taken (command x) xs (view b)
      ∙ ap (goes_on (command x) xs)
      (taken_is (command x) xs ∙ unless_refused (whole_tests (command x) xs now_counts) (done (command x) xs (view b)) k n e)

  module _ (bs : List ℕ) (at : ℕ) where
    pub turn_refused : (k : ℕ) → (k ≡ 0 → ⊥) → next_fault (drop at bs) now_counts ≡ k → loose_from (drop at bs) 0 (view b) ≡ refused k
    turn_refused k n e = turn_refused_in (drop at bs) k n e

    module _ (fine : next_fault (drop at bs) now_counts ≡ 0) where
      none_left : length bs ≤ at → ⊥
      none_left l =
          let z : ◌≡◌ {A = ℕ} 1 0 = sym (ap (λ (xs : List ℕ). next_fault xs now_counts) (drop_of_length-le bs {i = at} l)) ∙ fine in
          omega arith

      pub some_left : at < length bs
      some_left = some (length bs) none_left
        where
          some : (n : ℕ) → (n ≤ at → ⊥) → at < n
          some n k = omega arith

      module _ (c : Command) (is : command (byte bs at) ≡ c) where
        fault_is : fault (whole_tests c (drop (suc at) bs) now_counts) ≡ 0
        fault_is =
            ap (λ (x : Command). fault (whole_tests x (drop (suc at) bs) now_counts)) (sym is)
            ∙ sym (ap (λ (xs : List ℕ). next_fault xs now_counts) (drop-cons bs at 0 some_left)) ∙ fine

        operands_there : width c ≤ length (drop (suc at) bs)
        operands_there =
            let p =
            passes (ltb (length (drop (suc at) bs)) (width c) refuses 1) (command_tests c (drop (suc at) bs) now_counts) (omega arith)
            fault_is in
            ltb-false (length (drop (suc at) bs)) (width c) p.0

        pub operands_within : at + width c < length bs
        operands_within = omega (arith, length-drop (suc at) bs, operands_there, some_left)

        pub tests_passed : fault (command_tests c (drop (suc at) bs) now_counts) ≡ 0
        tests_passed =
            (passes (ltb (length (drop (suc at) bs)) (width c) refuses 1) (command_tests c (drop (suc at) bs) now_counts) (omega arith)
            fault_is).1

        turn_done : loose_from (drop at bs) 0 (view b)
            ≡ elim (is_end c) [
              | true ↦ accepted (done c (drop (suc at) bs) (view b))
              | false ↦ loose_from (drop (suc at) bs) (width c) (done c (drop (suc at) bs) (view b))
            ]
        turn_done =
            ap (λ (xs : List ℕ). loose_from xs 0 (view b)) (drop-cons bs at 0 some_left)
            ∙ loose_taken (command (byte bs at)) (drop (suc at) bs) (view b)
            ∙ ap (λ (x : Command). goes_on x (drop (suc at) bs) (taken x (drop (suc at) bs) (view b))) is
            ∙ ap (goes_on c (drop (suc at) bs))
            (taken_is c (drop (suc at) bs)
            ∙ unless_passed (whole_tests c (drop (suc at) bs) now_counts) (done c (drop (suc at) bs) (view b))
            (numbered c (drop (suc at) bs) now_counts) fault_is)

        -- the end command ends the reading
        pub turn_end : is_end c ≡ true → loose_from (drop at bs) 0 (view b) ≡ accepted (done c (drop (suc at) bs) (view b))
        turn_end e =
            turn_done
            ∙ ap (λ (t : Bool). elim t [
              | true ↦ accepted (done c (drop (suc at) bs) (view b))
              | false ↦ loose_from (drop (suc at) bs) (width c) (done c (drop (suc at) bs) (view b))
            ]) e

        -- another leaves the rest to be read, with the book that it makes
        pub turn_on : is_end c ≡ false → (to : Book) → view to ≡ done c (drop (suc at) bs) (view b) → (next : ℕ) → next ≡ at + width c + 1
            → loose_from (drop next bs) 0 (view to) ≡ loose_from (drop at bs) 0 (view b)
        turn_on e to v next q =
            let p : suc at + width c ≡ next = omega arith in
            sym (turn_done
            ∙ ap (λ (t : Bool). elim t [
              | true ↦ accepted (done c (drop (suc at) bs) (view b))
              | false ↦ loose_from (drop (suc at) bs) (width c) (done c (drop (suc at) bs) (view b))
            ]) e
            ∙ skip (drop (suc at) bs) (width c) (done c (drop (suc at) bs) (view b)) operands_there
            ∙ ap (λ (xs : List ℕ). loose_from xs 0 (done c (drop (suc at) bs) (view b)))
            (drop-drop (width c) (suc at) bs ∙ ap (λ (i : ℕ). drop i bs) p)
            ∙ ap (loose_from (drop next bs) 0) (sym v))

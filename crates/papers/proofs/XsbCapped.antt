-- Rules with capped numbers: where a book has no more goals than the cap, they make the same book, or none as well. A number above the cap
-- names no goal, nor does the cap.
use Prim.Native.Nat.{ℕ, zero, suc, ◌<◌, ◌≤◌, min}
use native.Mathlib.Omega.{arith}
use mathlib.Core.Path.{◌≡◌, refl, ap, ap₂}
use mathlib.Core.Bool.{Bool, true, false, not, ◌||◌}
use mathlib.Core.List.{List, [], ◌∷◌, map}
use lib.ListN.{length, length-map}
use lib.Dec.{eqb, ltb}
use borrow.Author.Tests.{lt-ltb, le-ltb, ltb-true, ltb-false}
use Rattle.laws.proofs.Bools.{both_true, and_then}
use Rattle.laws.specs.All.{All, end, more}
use Rattle.definitions.specs.Refusal.{Refusable, ◌refuses◌, unless}
use Rattle.definitions.specs.Lists.{any_passes, Each}
use Rattle.definitions.specs.Book.{Literal, Positive, Negative, Clause, Goal, Book, goal_of, literals_name, clauses_name, goals_name}
use Rattle.sizes.specs.Limits.{most_goals, most_clauses, most_literals}
use Rattle.papers.specs.Model.{PlainLiteral}
use Rattle.papers.specs.Xsb.{Rule, clause_of, clauses_for, goals_for, is_long, book_of}
use Rattle.papers.specs.XsbForm.{BareRule, Ordered, no_rule, and_rule, capped_literal, capped_rule}

module _ (m : ℕ) where
  abbrev pub capped : List Rule → List Rule
  capped rs = map (capped_rule m) rs

  -- A literal.

  below : (n g : ℕ) → n ≤ m → (b : Bool) → ltb g n ≡ b → ltb (min g m) n ≡ b
  below n g h true e = let x = ltb-true g n e in lt-ltb (min g m) n (omega arith)
  below n g h false e = let x = ltb-false g n e in le-ltb (min g m) n (omega arith)

  capped_names : (n : ℕ) (l : Literal) → n ≤ m → ltb (goal_of (capped_literal m l)) n ≡ ltb (goal_of l) n
  capped_names n (Positive g want outsized) h = below n g h (ltb g n) refl
  capped_names n (Negative g outsized) h = below n g h (ltb g n) refl

  pub literal_same : (l : Literal) → goal_of l ≤ m → capped_literal m l ≡ l
  literal_same (Positive g want outsized) h = let k : min g m ≡ g = omega arith in ap (λ (i : ℕ). Positive i want outsized) k
  literal_same (Negative g outsized) h = let k : min g m ≡ g = omega arith in ap (λ (i : ℕ). Negative i outsized) k

  named_same : (n : ℕ) (l : Literal) → n ≤ m → ltb (goal_of l) n ≡ true → capped_literal m l ≡ l
  named_same n l h e = let x = ltb-true (goal_of l) n e in literal_same l (omega arith)

  literals_names : (n : ℕ) (ls : List Literal) → n ≤ m → literals_name n (map (capped_literal m) ls) ≡ literals_name n ls
  literals_names n [] h = refl
  literals_names n (l ∷ ls) h = ap₂ and_then (capped_names n l h) (literals_names n ls h)

  literals_same : (n : ℕ) (ls : List Literal) → n ≤ m → literals_name n ls ≡ true → map (capped_literal m) ls ≡ ls
  literals_same n [] h e = refl
  literals_same n (l ∷ ls) h e =
      let p = both_true (ltb (goal_of l) n) (literals_name n ls) e in
      ap₂ (λ (a : Literal) (t : List Literal). a ∷ t) (named_same n l h p.0) (literals_same n ls h p.1)

  -- The clauses of a goal.

  clauses_names : (n g : ℕ) (rs : List Rule) → n ≤ m → clauses_name n (clauses_for g (capped rs)) ≡ clauses_name n (clauses_for g rs)
  clauses_names n g [] h = refl
  clauses_names n g (r ∷ rs) h = on (eqb r.head g) (clauses_names n g rs h)
    where
      on : (b : Bool) → clauses_name n (clauses_for g (capped rs)) ≡ clauses_name n (clauses_for g rs)
          → clauses_name n (elim b [ true ↦ clause_of (capped_rule m r) ∷ clauses_for g (capped rs) | false ↦ clauses_for g (capped rs) ])
          ≡ clauses_name n (elim b [ true ↦ clause_of r ∷ clauses_for g rs | false ↦ clauses_for g rs ])
      on true e = ap₂ and_then (literals_names n r.body h) e
      on false e = e

  clauses_same : (n g : ℕ) (rs : List Rule) → n ≤ m → clauses_name n (clauses_for g rs) ≡ true
      → clauses_for g (capped rs) ≡ clauses_for g rs
  clauses_same n g [] h e = refl
  clauses_same n g (r ∷ rs) h e = on (eqb r.head g) (clauses_same n g rs h) e
    where
      on : (b : Bool) → (clauses_name n (clauses_for g rs) ≡ true → clauses_for g (capped rs) ≡ clauses_for g rs)
          → clauses_name n (elim b [ true ↦ clause_of r ∷ clauses_for g rs | false ↦ clauses_for g rs ]) ≡ true
          → ◌≡◌ {A = List Clause}
          (elim b [ true ↦ clause_of (capped_rule m r) ∷ clauses_for g (capped rs) | false ↦ clauses_for g (capped rs) ])
          (elim b [ true ↦ clause_of r ∷ clauses_for g rs | false ↦ clauses_for g rs ])
      on true f e =
          let p = both_true (literals_name n r.body) (clauses_name n (clauses_for g rs)) e in
          ap₂ (λ (ls : List Literal) (cs : List Clause). record { variant = 0; cannot_prove = false; outsized = false; literals = ls } ∷ cs)
          (literals_same n r.body h p.0) (f p.1)
      on false f e = f e

  -- The book.

  pub goals_names : (n g k : ℕ) (rs : List Rule) → n ≤ m → goals_name n (goals_for g k (capped rs)) ≡ goals_name n (goals_for g k rs)
  goals_names n g zero rs h = refl
  goals_names n g (suc k) rs h = ap₂ and_then (clauses_names n g rs h) (goals_names n (suc g) k rs h)

  pub goals_same : (n g k : ℕ) (rs : List Rule) → n ≤ m → goals_name n (goals_for g k rs) ≡ true
      → goals_for g k (capped rs) ≡ goals_for g k rs
  goals_same n g zero rs h e = refl
  goals_same n g (suc k) rs h e =
      let p = both_true (clauses_name n (clauses_for g rs)) (goals_name n (goals_for (suc g) k rs)) e in
      ap₂ (λ (cs : List Clause) (gs : List Goal). record { coinductive = false; floundered = false; clauses = cs } ∷ gs)
      (clauses_same n g rs h p.0) (goals_same n (suc g) k rs h p.1)

  none_longer : (rs : List Rule) → any_passes is_long (capped rs) ≡ any_passes is_long rs
  none_longer [] = refl
  none_longer (r ∷ rs) =
      ap₂ (λ (a b : Bool). a || b) (ap (λ (k : ℕ). ltb most_literals k) (length-map r.body (capped_literal m))) (none_longer rs)

  -- the desk's rules, or the book
  pub book_capped : (n : ℕ) (rs : List Rule) → n ≤ m → book_of n (capped rs) ≡ book_of n rs
  book_capped n rs h =
      rw (length-map rs (capped_rule m), none_longer rs, goals_names n 0 n rs h)
      (on (goals_name n (goals_for 0 n rs)) refl)
    where
      by : Bool → Book → Refusable Book
      by named book =
          unless
          (ltb most_goals n refuses 5
          ∷ ltb most_clauses (length rs) refuses 5
          ∷ any_passes is_long rs refuses 5
          ∷ eqb n 0 refuses 8
          ∷ not named refuses 6
          ∷ [])
          book

      on : (b : Bool) → goals_name n (goals_for 0 n rs) ≡ b → by b (goals_for 0 n (capped rs)) ≡ by b (goals_for 0 n rs)
      on true e = ap (by true) (goals_same n 0 n rs h e)
      on false e = refl

  -- Numbers below the cap stand for themselves.

  abbrev pub Under : Rule → Type 0
  Under r = All (λ (l : Literal). goal_of l < m) r.body

  body_same : (ls : List Literal) → All (λ (l : Literal). goal_of l < m) ls → map (capped_literal m) ls ≡ ls
  body_same [] x = refl
  body_same (l ∷ ls) (more p x) = ap₂ (λ (a : Literal) (t : List Literal). a ∷ t) (literal_same l (omega arith)) (body_same ls x)

  pub rules_same : (rs : List Rule) → All Under rs → capped rs ≡ rs
  rules_same [] x = refl
  rules_same (r ∷ rs) (more p x) =
      ap₂ (λ (b : List Literal) (qs : List Rule). record { head = r.head; body = b } ∷ qs) (body_same r.body p) (rules_same rs x)

  -- and what was capped to one of them was that one
  body_was : (ls : List Literal) → All (λ (l : Literal). goal_of l < m) (map (capped_literal m) ls)
      → All (λ (l : Literal). goal_of l < m) ls
  body_was [] x = end
  body_was (Positive g want outsized ∷ ls) (more p x) = more {a = Positive g want outsized} (omega arith) (body_was ls x)
  body_was (Negative g outsized ∷ ls) (more p x) = more {a = Negative g outsized} (omega arith) (body_was ls x)

  pub rules_were : (rs : List Rule) → All Under (capped rs) → All Under rs
  rules_were [] x = end
  rules_were (r ∷ rs) (more p x) = more (body_was r.body p) (rules_were rs x)

  -- The cap changes no head, no flag and no want.

  pub ordered_capped : {n least : ℕ} {rs : List Rule} → Ordered n least rs → Ordered n least (capped rs)
  ordered_capped no_rule = no_rule
  ordered_capped (and_rule {r = r} le lt o) = and_rule {r = capped_rule m r} le lt (ordered_capped o)

  pub ordered_before : {n : ℕ} (least : ℕ) (rs : List Rule) → Ordered n least (capped rs) → Ordered n least rs
  ordered_before least [] o = no_rule
  ordered_before least (r ∷ rs) (and_rule le lt o) = and_rule {r = r} le lt (ordered_before r.head rs o)

  bare_before : (ls : List Literal) → Each PlainLiteral (map (capped_literal m) ls) → Each PlainLiteral ls
  bare_before [] x = tt
  bare_before (Positive g want outsized ∷ ls) x = (x.0, bare_before ls x.1)
  bare_before (Negative g outsized ∷ ls) x = (x.0, bare_before ls x.1)

  pub rules_bare_before : (rs : List Rule) → All BareRule (capped rs) → Each BareRule rs
  rules_bare_before [] x = tt
  rules_bare_before (r ∷ rs) (more p x) = (bare_before r.body p, rules_bare_before rs x)

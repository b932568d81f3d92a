-- Where the passes over a book end: levels by the arrays are those of the definitions after so many passes; as soon as one changes nothing
-- they are the book's, and if the last one changes something the book has none.
use Prim.Native.Nat.{ℕ, zero, suc, ◌+◌, ◌-◌, ◌≤◌, ◌<◌}
use native.Mathlib.Omega.{arith}
use native.Mathlib.Decide.{dec_lt}
use mathlib.Core.Path.{◌≡◌, refl, sym, ap, ap₂, subst, ◌∙◌}
use mathlib.Core.Bool.{Bool, true, false, true≢false}
use lib.Dec.{eqb}
use lib.Pointwise.{pointwise}
use Rattle.std.specs.Bool.{Decides}
use Rattle.std.specs.Cmp.{unsigned_Decides}
use Rattle.std.proofs.lemmas.Slice.Eq.{slice_eq-Decides}
use mathlib.Core.Option.{Option, none, some}
use Rattle.std.proofs.Common.{Some, None}
use mathlib.Core.List.{List, [], ◌∷◌}
use lib.ListN.{length, get_or, take, replicate, length-replicate, length-take}
use lib.Seq.{ext_get_or, get_or-take}
use Rattle.laws.proofs.Lists.{get_d_past, get_or_zeros}
use Rattle.laws.proofs.Spans.{length_span}
use Rattle.definitions.specs.Book as said
use Rattle.definitions.specs.Lists.{same}
use Rattle.papers.specs.Model.{clauses_of}
use Rattle.papers.specs.Levels.{level_in, larger, literal_asks, literals_ask, clauses_ask, pass, passes, levels as levelsOf}
use Rattle.papers.proofs.Passes.{pass_at, start_at, length_passes, passes_small}
use Rattle.papers.proofs.Levels.{levels_of_unchanged, same_are}
use Rattle.book.specs.declared.Book.{Book}
use Rattle.book.specs.View.{goal_viewed, view, Sound}
use Rattle.book.specs.Access.{entry}
use Rattle.book.specs.Repeats.{lent_by, clause_read}
use Rattle.book.proofs.TwiceInBook.{goal_shown}
use Rattle.paper_checks.specs.Asks.{Low, PassGives, Settles}
use Rattle.paper_checks.proofs.Asking.{clauses_most}
use Rattle.paper_checks.proofs.Members.{clauses_in, clauses_past}

-- What is asked is the same by levels that are the same.

module _ (a b : List ℕ) (alike : (g : ℕ) → get_or a g 0 ≡ get_or b g 0) where
  literal_alike : (l : said.Literal) → literal_asks a l ≡ literal_asks b l
  literal_alike (said.Positive g w o) = alike g
  literal_alike (said.Negative g o) = ap suc (alike g)

  literals_alike : (ls : List said.Literal) → literals_ask a ls ≡ literals_ask b ls
  literals_alike [] = refl
  literals_alike (l ∷ ls) = ap₂ larger (literal_alike l) (literals_alike ls)

  clauses_alike : (cs : List said.Clause) → clauses_ask a cs ≡ clauses_ask b cs
  clauses_alike [] = refl
  clauses_alike (c ∷ cs) = ap₂ larger (literals_alike c.literals) (clauses_alike cs)

-- Once a pass changes nothing, no later one does.

module _ (book : said.Book) (k : ℕ) (stays : pass book (passes k book) ≡ passes k book) where
  all_stay : (m : ℕ) → passes (m + k) book ≡ passes k book
  all_stay zero = let z : 0 + k ≡ k = omega arith in ap (λ (n : ℕ). passes n book) z
  all_stay (suc m) =
      let z : suc m + k ≡ suc (m + k) = omega arith in
      ap (λ (n : ℕ). passes n book) z ∙ ap (pass book) (all_stay m) ∙ stays

  stays_last : k ≤ length book → passes (length book) book ≡ passes k book
  stays_last h =
      let z : length book ≡ (length book - k) + k = omega arith in
      ap (λ (n : ℕ). passes n book) z ∙ all_stay (length book - k)

  stays_levels : k ≤ length book → levelsOf book ≡ some (passes k book)
  stays_levels h =
      let e = stays_last h in
      levels_of_unchanged book (ap (pass book) e ∙ stays ∙ sym e) ∙ ap some e

moves_none : (book : said.Book) → (pass book (passes (length book) book) ≡ passes (length book) book → ⊥) → levelsOf book ≡ none
moves_none book n = on (same (pass book (passes (length book) book)) (passes (length book) book)) refl
  where
    last : List ℕ
    last = passes (length book) book

    on : (t : Bool) → same (pass book last) last ≡ t → ◌≡◌ {A = Option (List ℕ)} (elim t [ true ↦ some last | false ↦ none ]) none
    on true e = absurd (n (same_are (pass book last) last e))
    on false e = refl

-- The levels after k passes, in an array.
pub record Stands (b : Book) (k : ℕ) (levels : List ℕ) : Type 0 where
  pub whole : length levels ≡ 64
  pub within : k ≤ b.goals + 1
  pub are : (g : ℕ) → get_or levels g 0 ≡ level_in (passes k (view b)) g
  pub over : k ≡ b.goals + 1 → levelsOf (view b) ≡ none

pub stands_start : (b : Book) → Stands b 0 (replicate 64 0)
stands_start b = record {
  whole = length-replicate {A = ℕ} 64 0;
  within = omega arith;
  are = λ g. get_or_zeros 64 g ∙ sym (start_at (view b) g);
  over = λ z. absurd (omega arith);
}

module _ (b : Book) (s : Sound b) where
  many : length (view b) ≡ b.goals
  many = length_span (goal_viewed b) 0 b.goals

  module _ (k : ℕ) (levels : List ℕ) (so : Stands b k levels) where
    pub stands_low : Low levels
    stands_low = record {
      whole = so.whole;
      room = λ g.
          let x = so.are g in
          let y = passes_small (view b) k g in
          let z = s.few_goals in
          let w = so.within in
          omega arith;
    }

    module _ (next : List ℕ) (gives : PassGives levels b next) where
      asked_there : (g : ℕ) → g < b.goals → get_or next g 0 ≡ clauses_ask levels (clauses_of (view b) g)
      asked_there g h =
          let z : 0 + g ≡ g = omega arith in
          let f = entry 64 b.goal_first g in
          let n = entry 64 b.goal_len g in
          gives.raised g h
          ∙ clauses_most levels (clause_read (lent_by b)) f n
          ∙ ap (clauses_ask levels) (goal_shown b s g f n h refl refl
          ∙ sym (clauses_in (goal_viewed b) 0 b.goals g h ∙ ap (λ (i : ℕ). (goal_viewed b i).clauses) z))

      next_are : (g : ℕ) → get_or next g 0 ≡ level_in (pass (view b) (passes k (view b))) g
      next_are g = on (dec_lt g b.goals)
        where
          on : Dec (g < b.goals) → get_or next g 0 ≡ level_in (pass (view b) (passes k (view b))) g
          on (yes h) =
              asked_there g h ∙ clauses_alike levels (passes k (view b)) so.are (clauses_of (view b) g)
              ∙ sym (pass_at (view b) (passes k (view b)) g)
          on (no o) =
              gives.past g (omega arith)
              ∙ sym (pass_at (view b) (passes k (view b)) g
              ∙ ap (clauses_ask (passes k (view b))) (clauses_past (goal_viewed b) 0 b.goals g (omega arith)))

      -- the definitions' lists are the same where the arrays are
      lists_same : ((g : ℕ) → get_or next g 0 ≡ get_or levels g 0) → pass (view b) (passes k (view b)) ≡ passes k (view b)
      lists_same e =
          ext_get_or 0 (pass (view b) (passes k (view b))) (passes k (view b))
          (length_passes (suc k) (view b) ∙ sym (length_passes k (view b)))
          (λ g h. sym (next_are g) ∙ e g ∙ so.are g)

      -- the code compares them
      module _ (r : Bool) (e : r ≡ pointwise eqb next levels) where
        told : Decides r (next ≡ levels)
        told = slice_eq-Decides unsigned_Decides next levels r e

        pub same_told : r ≡ true → next ≡ levels
        same_told t = told.0 t

        pub other_told : r ≡ false → next ≡ levels → ⊥
        other_told f z = true≢false (sym (told.1 z) ∙ f)

      pub settled_now : next ≡ levels → k ≤ b.goals → Settles (levelsOf (view b)) b.goals (Some levels)
      settled_now same h = record {
        means =
            ap some as_list
            ∙ sym (stays_levels (view b) k (lists_same (λ g. ap (λ (l : List ℕ). get_or l g 0) same)) (omega (arith, many)));
        filled = record { whole = so.whole; past = λ g x. so.are g ∙ ends g x };
      }
        where
          long : length (passes k (view b)) ≡ b.goals
          long = length_passes k (view b) ∙ many

          ends : (g : ℕ) → b.goals ≤ g → level_in (passes k (view b)) g ≡ 0
          ends g x = get_d_past (passes k (view b)) g (omega (arith, long))

          taken : length (take b.goals levels) ≡ b.goals
          taken = let x = length-take b.goals levels in omega (arith, so.whole, s.few_goals)

          as_list : take b.goals levels ≡ passes k (view b)
          as_list =
              ext_get_or 0 (take b.goals levels) (passes k (view b)) (taken ∙ sym long)
              (λ g x. get_or-take b.goals levels g 0 (omega (arith, taken)) ∙ so.are g)

      pub stands_next : (next ≡ levels → ⊥) → k ≤ b.goals → Stands b (k + 1) next
      stands_next moved h = record {
        whole = gives.whole;
        within = omega arith;
        are = λ g. next_are g ∙ ap (λ (n : ℕ). level_in (passes n (view b)) g) (let z : suc k ≡ k + 1 = omega arith in z);
        over = λ z.
            let e : k ≡ length (view b) = omega (arith, many) in
            moves_none (view b) (subst (λ (n : ℕ). pass (view b) (passes n (view b)) ≡ passes n (view b) → ⊥) e (λ q.
            moved (ext_get_or 0 next levels (gives.whole ∙ sym so.whole)
            (λ g x. next_are g ∙ ap (λ (l : List ℕ). level_in l g) q ∙ sym (so.are g)))));
      }

    pub never_settled : b.goals < k → Settles (levelsOf (view b)) b.goals None
    never_settled h = record { means = sym (so.over (omega (arith, so.within))); filled = tt }

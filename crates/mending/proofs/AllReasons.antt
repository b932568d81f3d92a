-- The reasons of all goals' clauses, one goal after the other; and the copy by them is the definitions'. Assumes nothing.
use Prim.Native.Nat.{ℕ, zero, suc, ◌+◌, ◌-◌, ◌<◌, ◌≤◌}
use Rattle.std.specs.Prelude.{None}
use Rattle.std.specs.declared.option.Option as found
use native.Mathlib.Omega.{arith}
use mathlib.Core.Path.{◌≡◌, refl, sym, ap, ap₂, subst, ◌∙◌}
use mathlib.Core.Bool.{Bool, true, false}
use mathlib.Core.Option.{Option}
use mathlib.Core.List.{List, [], ◌++◌}
use lib.ListN.{length, get_or, replicate, length-replicate}
use lib.Dec.{ltb}
use borrow.Author.Tests.{ltb-true, ltb-false}
use Rattle.laws.specs.Spans.{span}
use Rattle.laws.proofs.Spans.{span_ext, span_append}
use Rattle.papers.specs.Mend.{reasons_behind, reasons_of}
use Rattle.papers.specs.Mend.{reasons as reasonsOf}
use Rattle.book.specs.declared.Book.{Book}
use Rattle.book.specs.Access.{entry}
use Rattle.book.specs.Repeats.{lent_by}
use Rattle.book.specs.View.{clause_viewed, goal_viewed, view, Tiles, Formed}
use Rattle.book.proofs.Tilings.{tiles_order}
use Rattle.book.proofs.Held.{goal_within, goals_counted}
use Rattle.mending.specs.declared.reasons.Reason.{Reason}
use Rattle.mending.specs.Reasons.{reasons_from, reason_seen, reason_at, Reasoned}
use Rattle.mending.proofs.Telling.{first_there, count_there}
use Rattle.mending.proofs.Reasoned.{Known, Found, goal_found, goal_reasons}

module _ {A : Type 0} where
  get_or-repeated : (n i : ℕ) (a : A) → get_or (replicate n a) i a ≡ a
  get_or-repeated zero i a = refl
  get_or-repeated (suc n) zero a = refl
  get_or-repeated (suc n) (suc i) a = get_or-repeated n i a

module _ (b : Book) where
  abbrev starts : ℕ → ℕ
  starts g = get_or b.goal_first g 0

  abbrev own : ℕ → ℕ
  own g = get_or b.goal_len g 0

  -- the goals before g have their reasons, and behind them there is none yet
  pub record ReasonedTo (g : ℕ) (reasons : List (found.Option Reason)) : Type 0 where
    pub few : g ≤ b.goals
    pub size : length reasons ≡ 256
    pub done : (h : ℕ) → h < g → reasons_behind b.goals [] (goal_viewed b h).clauses ≡ span (reason_at reasons) (starts h) (own h)
    pub others : (c : ℕ) → ((h : ℕ) → h < g → starts h + own h ≤ c) → get_or reasons c None ≡ None

  pub begins : (reasons : List (found.Option Reason)) → reasons ≡ replicate 256 None → ReasonedTo 0 reasons
  begins reasons e = subst (ReasonedTo 0) (sym e) (record {
    few = omega arith;
    size = length-replicate {A = found.Option Reason} 256 None;
    done = λ h a. absurd (omega arith);
    others = λ c a. get_or-repeated {A = found.Option Reason} 256 c None;
  })

  module _ (formed : Formed b) where
    in_order : (h g : ℕ) → h < g → g < b.goals → starts h + own h ≤ starts g
    in_order h g l m =
        let t = tiles_order b.goal_first b.goal_len b.goals 0 0 b.clauses h g formed.tiles l m in
        let x : 0 + h ≡ h = omega arith in
        let y : 0 + g ≡ g = omega arith in
        subst (λ (j : ℕ). starts h + own h ≤ starts j) y (subst (λ (j : ℕ). starts j + own j ≤ starts (0 + g)) x t)

    module _ (g first count : ℕ) (h : g < b.goals) (hf : first ≡ entry 64 b.goal_first g) (hc : count ≡ entry 64 b.goal_len g)
        (reasons : List (found.Option Reason)) (so_far : ReasonedTo g reasons) where
      abbrev to : List (found.Option Reason)
      to = reasons_from (lent_by b) b.goals first first count reasons

      is_first : first ≡ starts g
      is_first = first_there b formed g first count h hf hc

      is_count : count ≡ own g
      is_count = count_there b formed g first count h hf hc

      gained : Found b formed first 0 count reasons to
      gained =
          let z : first + 0 ≡ first = omega arith in
          let x = goal_within b b.goals g formed.tiles h in
          subst (λ (s : ℕ). Found b formed first 0 count reasons (reasons_from (lent_by b) b.goals first s count reasons)) z
          (goal_found b formed first count 0 reasons (omega (arith, x, is_first, is_count)) so_far.size (λ i a. absurd (omega arith)))

      known : Known b formed first count to
      known = let z : 0 + count ≡ count = omega arith in subst (λ (n : ℕ). Known b formed first n to) z gained.found

      here : reasons_behind b.goals [] (goal_viewed b g).clauses ≡ span (reason_at to) (starts g) (own g)
      here =
          sym (ap₂ (λ (s n : ℕ). reasons_behind b.goals [] (span (clause_viewed b) s n)) is_first is_count)
          ∙ goal_reasons b formed first count to known ∙ ap₂ (λ (s n : ℕ). span (reason_at to) s n) is_first is_count

      before : (j : ℕ) → j < g → reasons_behind b.goals [] (goal_viewed b j).clauses ≡ span (reason_at to) (starts j) (own j)
      before j l =
          let o = in_order j g l h in
          so_far.done j l
          ∙ sym (span_ext (reason_at to) (reason_at reasons) (starts j) (own j)
          (λ i x y. ap reason_seen (gained.before i (omega (arith, o, is_first)))))

      pub again : ReasonedTo (g + 1) to
      again = record {
        few = omega arith;
        size = gained.size;
        done = λ j l. on j l (ltb j g) refl;
        others = λ c all.
            let last = all g (omega arith) in
            gained.behind c (omega (arith, last, is_first, is_count)) ∙ so_far.others c (λ j l. all j (omega arith));
      }
        where
          on : (j : ℕ) → j < g + 1 → (t : Bool) → ltb j g ≡ t
              → reasons_behind b.goals [] (goal_viewed b j).clauses ≡ span (reason_at to) (starts j) (own j)
          on j l true e = before j (ltb-true j g e)
          on j l false e =
              let x = ltb-false j g e in
              let y : g ≡ j = omega arith in
              subst (λ (k : ℕ). reasons_behind b.goals [] (goal_viewed b k).clauses ≡ span (reason_at to) (starts k) (own k)) y here

    pub whole : (g : ℕ) (reasons : List (found.Option Reason)) → b.goals ≤ g → ReasonedTo g reasons → Reasoned b reasons
    whole g reasons past x = record {
      own = λ h l. x.done h (omega arith);
      others = λ c m. x.others c (λ h l. omega (arith, goal_within b b.goals h formed.tiles (omega (arith, x.few))));
    }

-- The flat list of the reasons.

module _ (b : Book) (formed : Formed b) (reasons : List (found.Option Reason)) (reasoned : Reasoned b reasons) where
  flat_from : (n g at stop : ℕ) → Tiles b.goal_first b.goal_len g n at stop → g + n ≤ b.goals
      → at ≤ stop × (reasons_of b.goals (span (goal_viewed b) g n) ≡ span (reason_at reasons) at (stop - at))
  flat_from zero g at stop t h =
      let z : stop - at ≡ 0 = omega arith in
      (omega arith, sym (ap (span (reason_at reasons) at) z))
  flat_from (suc n) g at stop t h =
      let k = get_or b.goal_len g 0 in
      let rest = flat_from n (suc g) (at + k) stop t.1 (omega arith) in
      let z : stop - at ≡ k + (stop - (at + k)) = omega (arith, rest.0) in (
        omega (arith, rest.0),
        ap₂ (λ (x y : List (Option ℕ)). x ++ y)
            (reasoned.own g (omega arith) ∙ ap (λ (s : ℕ). span (reason_at reasons) s k) t.0) rest.1
            ∙ sym (ap (span (reason_at reasons) at) z ∙ span_append (reason_at reasons) at k (stop - (at + k))),
      )

  pub flat : reasonsOf (view b) ≡ span (reason_at reasons) 0 b.clauses
  flat =
      let z : b.clauses - 0 ≡ b.clauses = omega arith in
      ap (λ (n : ℕ). reasons_of n (view b)) (goals_counted b)
      ∙ (flat_from b.goals 0 0 b.clauses formed.tiles (omega arith)).1 ∙ ap (span (reason_at reasons) 0) z

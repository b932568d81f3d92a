-- Lists of delayed goals: the definitions' `other_than` and `same` at the head of a list, and the turns of the loops that follow them.
use Prim.Native.Nat.{ℕ, ◌+◌, ◌<◌}
use native.Mathlib.Omega.{arith}
use mathlib.Core.Bool.{Bool, true, false}
use mathlib.Core.List.{List, [], ◌∷◌, ◌++◌, append-nil}
use mathlib.Core.Option.{Option, some}
use mathlib.Core.Path.{◌≡◌, refl, sym, ap, ◌∙◌}
use lib.Dec.{eqb}
use lib.ListN.{length, take, set, get_or, replicate, length-append}
use borrow.Author.Tests.{eq-eqb, ne_eqb}
use Rattle.definitions.specs as said
use Rattle.definitions.specs.Table.{equal_answer}
use Rattle.definitions.specs.Turn.{other_than}
use Rattle.laws.proofs.Takes.{take_next, sets_one_more}
use Rattle.strands.specs.declared.Answer.{Answer}
use Rattle.strands.specs.Answers.{goals_of, same_answer}
use Rattle.strands.specs.View.{answer}

abbrev kept_by : ℕ → ℕ → List ℕ → Bool → List ℕ
kept_by goal d ds b = elim b [ true ↦ other_than goal ds | false ↦ d ∷ other_than goal ds ]

other_kept : (goal d : ℕ) (ds : List ℕ) → (d ≡ goal → ⊥) → other_than goal (d ∷ ds) ≡ d ∷ other_than goal ds
other_kept goal d ds h = ap (kept_by goal d ds) (ne_eqb d goal h)

other_dropped : (goal d : ℕ) (ds : List ℕ) → d ≡ goal → other_than goal (d ∷ ds) ≡ other_than goal ds
other_dropped goal d ds h = ap (kept_by goal d ds) (eq-eqb d goal h)

-- one more goal at the end
other_more_by : (goal d x : ℕ) (ds : List ℕ) (b : Bool) → other_than goal (ds ++ (d ∷ [])) ≡ other_than goal ds ++ other_than goal (d ∷ [])
    → kept_by goal x (ds ++ (d ∷ [])) b ≡ kept_by goal x ds b ++ other_than goal (d ∷ [])
other_more_by goal d x ds true e = e
other_more_by goal d x ds false e = ap (λ (l : List ℕ). x ∷ l) e

other_more : (goal d : ℕ) (ds : List ℕ) → other_than goal (ds ++ (d ∷ [])) ≡ other_than goal ds ++ other_than goal (d ∷ [])
other_more goal d [] = refl
other_more goal d (x ∷ ds) = other_more_by goal d x ds (eqb x goal) (other_more goal d ds)

-- A turn of the loop: what is kept of the first i goals, and of one more.
module _ (goal i : ℕ) (goals : List ℕ) (i_in : i < length goals) where
  abbrev kept_of : ℕ → List ℕ
  kept_of k = other_than goal (take k goals)

  pub turn_kept : (kept : List ℕ) (count : ℕ) → (get_or goals i 0 ≡ goal → ⊥) → count ≡ length (kept_of i)
      → kept ≡ goals_of (kept_of i)
      → (count + 1 ≡ length (kept_of (i + 1))) × (set kept count (get_or goals i 0) ≡ goals_of (kept_of (i + 1)))
  turn_kept kept count h count_is e =
      let d : ℕ = get_or goals i 0 in
      let more : kept_of (i + 1) ≡ kept_of i ++ (d ∷ []) =
      ap (other_than goal) (take_next i goals 0 i_in)
      ∙ other_more goal d (take i goals)
      ∙ ap (λ (l : List ℕ). kept_of i ++ l) (other_kept goal d [] h) in
      let long : count + 1 ≡ length (kept_of i ++ (d ∷ [])) = omega (arith, length-append (kept_of i) (d ∷ [])) in (
        long ∙ ap length (sym more),
        ap (λ (l : List ℕ). set l count d) e
            ∙ sets_one_more (kept_of i) (replicate 8 0) 0 count d (omega arith)
            ∙ ap goals_of (sym more),
      )

  pub turn_dropped : get_or goals i 0 ≡ goal → kept_of i ≡ kept_of (i + 1)
  turn_dropped h =
      let d : ℕ = get_or goals i 0 in
      sym
      (ap (other_than goal) (take_next i goals 0 i_in)
      ∙ other_more goal d (take i goals)
      ∙ ap (λ (l : List ℕ). kept_of i ++ l) (other_dropped goal d [] h)
      ∙ append-nil (kept_of i))

-- `same_answer` is the test of `equal_answer`: the search goes by it.
pub equal_answer_by : (a b : Answer) (stored : List said.Answer)
    → equal_answer (answer a) (answer b ∷ stored)
    ≡ elim (same_answer a b) as (λ _. Option said.Answer) [ true ↦ some (answer b) | false ↦ equal_answer (answer a) stored ]
equal_answer_by a b stored = refl

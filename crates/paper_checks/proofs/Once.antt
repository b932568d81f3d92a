-- The contract of `levels` leaves nothing open: for a byte string there is one profile. For the marks are those of the goals on a cycle,
-- and a goal is on one or is not.
use Prim.Native.Nat.{ℕ, ◌<◌}
use native.Mathlib.Omega.{arith}
use native.Mathlib.Decide.{dec_lt}
use mathlib.Core.Path.{◌≡◌, refl, sym, ap, ap₂, ◌∙◌}
use mathlib.Core.Bool.{Bool, true, false}
use mathlib.Core.List.{List}
use lib.Dec.{eqb}
use lib.ListN.{length, get_or, take, length-take}
use lib.Seq.{ext_get_or, get_or-take}
use Rattle.std.proofs.Common.{Result, Ok, Err}
use Rattle.definitions.specs.Book.{Book}
use Rattle.definitions.proofs.Refusal.{same_accepted, same_refused, not_accepted}
use Rattle.papers.proofs.Levels.{check_38}
use Rattle.book.specs.declared.refusal.Refusal.{Refusal}
use Rattle.book.specs.declared.refusal.Refusal.TheVariants as why
use Rattle.book.specs.Refusals.{number}
use Rattle.paper_checks.specs.declared.LeastLevels.{LeastLevels}
use Rattle.paper_checks.specs.declared.Unlevelled.{Unlevelled}
use Rattle.paper_checks.specs.declared.Unlevelled.TheVariants.{Refused, OnCycles}
use Rattle.paper_checks.specs.Profile.{Marks, Whole, Profiles}

pub marks_once : (book : Book) (a b : List Bool) → Marks book a → Marks book b → a ≡ b
marks_once book a b x y = ext_get_or false a b (x.whole ∙ sym y.whole) (λ g h. on g (get_or a g false) (get_or b g false) refl refl)
  where
    on : (g : ℕ) (s t : Bool) → get_or a g false ≡ s → get_or b g false ≡ t → get_or a g false ≡ get_or b g false
    on g true true d e = d ∙ sym e
    on g false false d e = d ∙ sym e
    on g true false d e = absurd (y.off_cycle g e (x.on_cycle g d))
    on g false true d e = absurd (x.off_cycle g d (y.on_cycle g e))

-- the number settles a refusal
of_number : ℕ → Refusal
of_number n =
    elim (eqb n 1) [
      | true ↦ why.PartMissing
      | false ↦
          elim (eqb n 2) [
            | true ↦ why.UnknownCommand
            | false ↦
                elim (eqb n 3) [
                  | true ↦ why.OutOfPlace
                  | false ↦
                      elim (eqb n 4) [
                        | true ↦ why.UnknownFlag
                        | false ↦
                            elim (eqb n 5) [
                              | true ↦ why.TooMany
                              | false ↦
                                  elim (eqb n 6) [
                                    | true ↦ why.NoSuchGoal
                                    | false ↦
                                        elim (eqb n 7) [
                                          | true ↦ why.BehindEnd
                                          | false ↦
                                              elim (eqb n 8) [
                                                | true ↦ why.NoGoal
                                                | false ↦
                                                    elim (eqb n 32) [
                                                      | true ↦ why.CrossedRange
                                                      | false ↦
                                                          elim (eqb n 36) [
                                                            | true ↦ why.RepeatedClause
                                                            | false ↦
                                                                elim (eqb n 37) [
                                                                  | true ↦ why.NotPlain
                                                                  | false ↦
                                                                      elim (eqb n 38) [
                                                                        | true ↦ why.NotLevelled
                                                                        | false ↦
                                                                            why.NotText
                                                                      ]
                                                                ]
                                                          ]
                                                    ]
                                              ]
                                        ]
                                  ]
                            ]
                      ]
                ]
          ]
    ]

of_its_number : (e : Refusal) → of_number (number e) ≡ e
unfolding of_number
of_its_number why.PartMissing = refl
of_its_number why.UnknownCommand = refl
of_its_number why.OutOfPlace = refl
of_its_number why.UnknownFlag = refl
of_its_number why.TooMany = refl
of_its_number why.NoSuchGoal = refl
of_its_number why.BehindEnd = refl
of_its_number why.NoGoal = refl
of_its_number why.CrossedRange = refl
of_its_number why.RepeatedClause = refl
of_its_number why.NotPlain = refl
of_its_number why.NotLevelled = refl
of_its_number why.NotText = refl

-- accepted: as many levels, and the same
module _ (p r : LeastLevels) (x : Whole p) (y : Whole r) (e : take p.goals p.levels ≡ take r.goals r.levels) where
  same_count : p.goals ≡ r.goals
  same_count =
      let a = length-take p.goals p.levels in
      let b = length-take r.goals r.levels in
      let c = ap length e in
      omega (arith, x.few, x.filled.whole, y.few, y.filled.whole)

  same_levels : p.levels ≡ r.levels
  same_levels = ext_get_or 0 p.levels r.levels (x.filled.whole ∙ sym y.filled.whole) (λ g h. at g (dec_lt g p.goals))
    where
      at : (g : ℕ) → Dec (g < p.goals) → get_or p.levels g 0 ≡ get_or r.levels g 0
      at g (yes h) =
          sym (get_or-take p.goals p.levels g 0 h) ∙ ap (λ (l : List ℕ). get_or l g 0) e
          ∙ get_or-take r.goals r.levels g 0 (omega (arith, same_count))
      at g (no o) = x.filled.past g (omega arith) ∙ sym (y.filled.past g (omega (arith, same_count)))

  same_whole : p ≡ r
  same_whole = ap₂ (λ (n : ℕ) (l : List ℕ). made n l) same_count same_levels
    where
      made : ℕ → List ℕ → LeastLevels
      made n l = record { goals = n; levels = l }

pub profiled_once : (bytes : List ℕ) (p r : Result LeastLevels Unlevelled) → Profiles bytes p → Profiles bytes r → p ≡ r
profiled_once bytes (Ok p) (Ok r) x y =
    ap (λ (l : LeastLevels). Ok l) (same_whole p r x.levels y.levels (same_accepted (x.means ∙ sym y.means)))
profiled_once bytes (Ok p) (Err e) x y = absurd (not_accepted (sym (x.means ∙ sym y.means)))
profiled_once bytes (Err e) (Ok r) x y = absurd (not_accepted (x.means ∙ sym y.means))
profiled_once bytes (Err (Refused e)) (Err (Refused f)) x y =
    ap (λ (z : Refusal). Err (Refused z))
    (sym (of_its_number e) ∙ ap of_number (same_refused (x.means ∙ sym y.means)) ∙ of_its_number f)
profiled_once bytes (Err (Refused e)) (Err (OnCycles marks)) x y = absurd (x.reason (same_refused (x.means ∙ sym y.means)))
profiled_once bytes (Err (OnCycles marks)) (Err (Refused f)) x y = absurd (y.reason (same_refused (y.means ∙ sym x.means)))
profiled_once bytes (Err (OnCycles a)) (Err (OnCycles b)) x y =
    let at = check_38 bytes (sym x.means) in
    ap (λ (l : List Bool). Err (OnCycles l)) (marks_once at.0 a b (x.reason at.0 at.1) (y.reason at.0 at.1))

-- No call meets an assert: what is listed of a call is neither stop 0 nor, of a peek, InvalidAnswer.
use Prim.Native.Nat.{ℕ, zero, suc}
use native.Mathlib.Omega.{arith}
use mathlib.Core.Bool.{false≢true}
use mathlib.Core.List.{List, [], ◌∷◌}
use mathlib.Core.Path.{◌≡◌, refl, sym, ap, subst, ◌∙◌}
use Rattle.forest.specs.declared.Forest.{Forest}
use Rattle.forest.specs.declared.open.Opening.{Opening}
use Rattle.forest.specs.declared.open.Opening.TheVariants as openings
use Rattle.forest.specs.declared.searches.Outcome.{Outcome}
use Rattle.forest.specs.declared.searches.Outcome.TheVariants as outcomes
use Rattle.forest.specs.Sittings.{Told, opens, searches, peeks, asks_future, left}
use Rattle.theorems.specs.Right.{is_stopped, opening_stopped, TellsNoAssert, AllTellNoAssert}
use Rattle.theorems.specs.Promises.{NoAssertMet}
use Rattle.theorems.specs.Total.{OpeningListed, OutcomeListed, UnmarkedListed, MarkedListed, ToldListed, mark_after, AllListed}
use Rattle.theorems.proofs.Right.{entry_sound}
use Rattle.theorems.proofs.Steps.{tell_so}
use Rattle.theorems.proofs.Total.{all_listed}

module _ (f g : Forest) where
  opening_without : (o : Opening) → OpeningListed f g o → o ≡ openings.Stopped 0 → ⊥
  opening_without o x e = let z = subst (OpeningListed f g) e x in omega (arith, z)

  outcome_without : (o : Outcome) → OutcomeListed f g o → o ≡ outcomes.Stopped 0 → ⊥
  outcome_without o x e = let z = (subst (OutcomeListed f g) e x).0 in omega (arith, z)

unmarked : (f : Forest) (t : Told) → UnmarkedListed f t → TellsNoAssert t
unmarked f (opens goal r) x = opening_without f r.forest r.opening x
unmarked f (searches table index limit r) x = outcome_without f r.forest r.outcome x.0
unmarked f (peeks table index rounds limit r) x = (outcome_without f r.forest r.outcome x.0, x.1)
unmarked f (asks_future table index variant r) x = tt

-- a refusal is no stop
refused_goes_on : (o : Outcome) → o ≡ outcomes.Refused 20 → o ≡ outcomes.Stopped 0 → ⊥
refused_goes_on o x e = false≢true (ap is_stopped (sym x ∙ e))

refused_otherwise : (o : Outcome) → o ≡ outcomes.Refused 20 → o ≡ outcomes.InvalidAnswer → ⊥
refused_otherwise o x e = let z : ◌≡◌ {A = ℕ} 0 1 = cc in omega arith

marked : (f : Forest) (t : Told) → MarkedListed f t → TellsNoAssert t
marked f (opens goal r) x = λ e. false≢true (ap opening_stopped (sym x.0 ∙ e))
marked f (searches table index limit r) x = refused_goes_on r.outcome x.0
marked f (peeks table index rounds limit r) x = (refused_goes_on r.outcome x.0, refused_otherwise r.outcome x.0)
marked f (asks_future table index variant r) x = tt

none_asserts : (mark : ℕ) (f : Forest) (t : Told) → ToldListed mark f t → TellsNoAssert t
none_asserts zero f t x = unmarked f t x
none_asserts (suc mark) f t x = marked f t x

all_none : (ts : List Told) (mark : ℕ) (f : Forest) → AllListed mark f ts → AllTellNoAssert ts
all_none [] mark f x = tt
all_none (t ∷ ts) mark f x = (none_asserts mark f t x.1, all_none ts (mark_after mark t) (left f t) x.2)

pub steps_meet_none : NoAssertMet
steps_meet_none bytes limit m says ss runs =
    let s = entry_sound bytes limit m says in
    let mark = m.forest.mark in
    tell_so AllTellNoAssert ss m.forest s runs (λ ts g. all_none ts mark m.forest (all_listed ts mark m.forest s refl g))

-- Whatever the steps, they tell one sitting.
use mathlib.Core.List.{List, [], ◌∷◌, ◌++◌}
use mathlib.Core.Path.{◌≡◌, refl, subst}
use Rattle.forest.specs.declared.Forest.{Forest}
use Rattle.forest.specs.ServeCalls.{all_left}
use Rattle.forest.specs.Sittings.{Told, left, Gives, Sits}
use Rattle.forest.specs.View.{Sound}
use Rattle.forest.proofs.Serving.{left_sound}
use Rattle.theorems.specs.Steps.{Lent, opens, searches, peeks, LentGives, lent_told, Step, by_value, lent, together, step_left}
use Rattle.theorems.specs.Steps.{StepGives, Runs, StepTells, TellSo}

-- a call of a forest that is lent gives what the same call by value may give
lent_gives : (f : Forest) (l : Lent) → LentGives f l → Gives f (lent_told l)
lent_gives f (opens goal r g) h = h
lent_gives f (searches table index limit r g) h = h
lent_gives f (peeks table index rounds limit r g) h = h

-- what a step tells: a sitting, which leaves what the step leaves, and that is sound
record ToldBy (f : Forest) (s : Step) : Type 0 where
  told : List Told
  tells : StepTells f s told
  sits : Sits f told
  leaves : step_left f s ≡ all_left f told
  sound : Sound (step_left f s)

step_told : (f : Forest) → Sound f → (s : Step) → StepGives f s → ToldBy f s
step_told f o (by_value t) h = record {
  told = t ∷ [];
  tells = refl;
  sits = (h, tt);
  leaves = refl;
  sound = left_sound f t o h;
}
step_told f o (lent l) h = let g = lent_gives f l h in record {
  told = lent_told l ∷ [];
  tells = refl;
  sits = (g, tt);
  leaves = refl;
  sound = left_sound f (lent_told l) o g;
}
step_told f o (together count calls before g after) h = let says = h o in record {
  told = says.told;
  tells = (says, refl);
  sits = says.sits;
  leaves = says.left;
  sound = says.sound;
}

sits_append : (f : Forest) (ts us : List Told) → Sits f ts → Sits (all_left f ts) us → Sits f (ts ++ us)
sits_append f [] us a b = b
sits_append f (t ∷ ts) us a b = (a.0, sits_append (left f t) ts us a.1 b)

pub tell_sits : (ss : List Step) (f : Forest) → Sound f → Runs f ss → TellSo f ss (Sits f)
tell_sits [] f o h = ([], refl, tt)
tell_sits (s ∷ ss) f o h =
    let x = step_told f o s h.0 in
    let rest = tell_sits ss (step_left f s) x.sound h.1 in (
      x.told ++ rest.0,
      (x.told, rest.0, x.tells, rest.1, refl),
      sits_append f x.told rest.0 x.sits (subst (λ (g : Forest). Sits g rest.0) x.leaves rest.2),
    )

-- what holds of every sitting holds of what the steps tell
pub tell_so : (Holds : List Told → Type 0) (ss : List Step) (f : Forest) → Sound f → Runs f ss
    → ((ts : List Told) → Sits f ts → Holds ts) → TellSo f ss Holds
tell_so Holds ss f o h all = let x = tell_sits ss f o h in (x.0, x.1, all x.0 x.2)

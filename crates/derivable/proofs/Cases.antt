-- The table of cases: what is run gives what stands there, by computation; the pairs are those that can be derived, and no other; and
-- whatever a run says yes to is among them, where nothing spoils a goal.
use mathlib.Core.Path.{◌≡◌, refl, sym, ap, subst, ◌∙◌}
use mathlib.Core.Bool.{true, false}
use mathlib.Core.List.{List, [], ◌∷◌, map}
use Rattle.definitions.specs.Refusal.{Refusable, refused, accepted}
use Rattle.definitions.specs.Book.{Book, clause_count}
use Rattle.papers.specs.Levels.{each_passes}
use Rattle.definitions.specs.Lists.{Each}
use Rattle.definitions.proofs.Refusal.{same_accepted}
use Rattle.derivable.specs.Rounds.{Pairs, JustDerivable}
use Rattle.derivable.specs.Cases.{DerivableCase, runs_to, expected, rounds_of, computed, CaseDerivable, is_promised, yes_derivable}
use Rattle.derivable.specs.Cases.{derivable_cases, derivable_cases_agree, outside_cases, outside_cases_agree}
use Rattle.derivable.proofs.Rounds.{rounds_compute}

head_same : {A : Type 0} {a b : A} {l m : List A} → a ∷ l ≡ b ∷ m → a ≡ b
head_same {a = a} {b} {l} {m} e = cc

tail_same : {A : Type 0} {a b : A} {l m : List A} → a ∷ l ≡ b ∷ m → l ≡ m
tail_same {a = a} {b} {l} {m} e = cc

case_derivable : (c : DerivableCase) → computed c.case.book ≡ accepted (c.derivable, c.derivable) → CaseDerivable c
case_derivable c e book is =
    let both : rounds_of book ≡ (c.derivable, c.derivable) = same_accepted
    (ap (λ (r : Refusable Book). elim r [ refused n ↦ refused n | accepted b ↦ accepted (rounds_of b) ]) (sym is) ∙ e) in
    let first = ap (λ (p : Pairs × Pairs). p.0) both in
    let second = ap (λ (p : Pairs × Pairs). p.1) both in
    subst (JustDerivable book) first (rounds_compute book (clause_count book) (second ∙ sym first))

each_derivable : (cs : List DerivableCase)
    → map (λ (c : DerivableCase). computed c.case.book) cs ≡ map (λ (c : DerivableCase). accepted (c.derivable, c.derivable)) cs
    → Each CaseDerivable cs
each_derivable [] e = tt
each_derivable (c ∷ cs) e = (case_derivable c (head_same e), each_derivable cs (tail_same e))

pub cases_derivable : Each CaseDerivable derivable_cases
cases_derivable = each_derivable derivable_cases derivable_cases_agree

pub outside_derivable : Each CaseDerivable outside_cases
outside_derivable = each_derivable outside_cases outside_cases_agree

-- By computation.

pub cases_run : map runs_to derivable_cases ≡ map expected derivable_cases
cases_run = refl

pub cases_promised : each_passes is_promised derivable_cases ≡ true
cases_promised = refl

pub cases_yes_derivable : each_passes yes_derivable derivable_cases ≡ true
cases_yes_derivable = refl

pub outside_run : map runs_to outside_cases ≡ map expected outside_cases
outside_run = refl

pub outside_unpromised : map is_promised outside_cases ≡ false ∷ false ∷ []
outside_unpromised = refl

pub outside_yes_underived : map yes_derivable outside_cases ≡ false ∷ false ∷ []
outside_yes_underived = refl

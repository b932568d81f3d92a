-- Floundering a literal, and reconsidering the floundered ones: each pass finds its literal, those return whose time is below the
-- strand's answer time, and of the others none is left that could return.
use Prim.Native.Nat.{ℕ, zero, suc, ◌+◌, ◌≤◌, ◌<◌}
use native.Mathlib.Omega.{arith}
use borrow.Author.Tests.{le-ltb}
use mathlib.Core.Path.{◌≡◌, refl, ap}
use mathlib.Core.Bool.{Bool, true, false}
use mathlib.Core.Option.{some}
use mathlib.Core.List.{List, [], ◌∷◌, ◌++◌}
use lib.ListN.{length, get_elem?, take, length-append}
use lib.Dec.{ltb}
use lib.Seq.{take-length}
use Rattle.definitions.specs.{ExClause, FlounderedSubgoal}
use Rattle.definitions.specs.Lists.{total, push, swap_remove}
use Rattle.definitions.specs.Strand.{with_floundered}
use Rattle.definitions.specs.Logic.{flounder_subgoal, reconsider_from, reconsider_floundered_subgoals}
use Rattle.definitions.proofs.Lists.{all_push, all_remove, all_swap_remove, length_remove, swapped}
use Rattle.asserts.specs.NeverAsserts.{PassesFind}
use Rattle.laws.proofs.Lists.{at_place}
use Rattle.laws.proofs.All.{all_at}
use Rattle.laws.proofs.Totals.{total_append, total_length, total_take_suc, total_take_past}
use Rattle.laws.proofs.Options.{case_option}
use Rattle.laws.proofs.Bools.{case_bool}
use Rattle.asserts.proofs.Safe.{Safe, goes, known, unwraps}
use Rattle.asserts.specs.Sound.{SoundClause}

-- 1 for a literal that would return at this answer time
abbrev pub late : (time : ℕ) → FlounderedSubgoal → ℕ
late time l = elim (ltb l.floundered_time time) [ true ↦ 1 | false ↦ 0 ]

-- how many would
abbrev pub lates : ExClause → ℕ
lates x = total (late x.answer_time) x.floundered_subgoals

pub record Floundered (n : ℕ) (x x' : ExClause) : Type 0 where
  pub clause : SoundClause n x'
  pub fewer : suc (length x'.subgoals) ≡ length x.subgoals
  pub same_lates : lates x' ≡ lates x

pub flounders : {n : ℕ} {x : ExClause} → SoundClause n x → (i : ℕ) → i < length x.subgoals → Safe (Floundered n x) (flounder_subgoal x i)
flounders {n} {x} s i lt =
    let l = at_place x.subgoals i lt in
    let new : FlounderedSubgoal = record { floundered_literal = l.0; floundered_time = x.answer_time } in
    let none_late : late x.answer_time new ≡ 0 =
    ap (λ b. elim b [ true ↦ 1 | false ↦ 0 ]) (le-ltb x.answer_time x.answer_time (omega arith)) in
    let count = total_append (late x.answer_time) x.floundered_subgoals (new ∷ []) in
    known _ (unwraps (get_elem? x.subgoals i) l.0 l.1) (goes (record {
      clause = record {
        subgoals_named = all_remove i s.subgoals_named;
        floundered_named = all_push s.floundered_named (all_at i s.subgoals_named l.1);
        delayed_named = s.delayed_named;
        few_literals = let o = s.few_literals in let p = length_remove x.subgoals i lt in
            let q : length (x.floundered_subgoals ++ (new ∷ [])) ≡ length x.floundered_subgoals + 1 = length-append
            x.floundered_subgoals (new ∷ []) in omega arith;
        few_delayed = s.few_delayed;
      };
      fewer = length_remove x.subgoals i lt;
      same_lates = omega arith;
    }))

-- A pass at a place takes away that one literal at most, so that the places below it are still there.
module _ (i : ℕ) (ih : (x : ExClause) → i ≤ length x.floundered_subgoals → PassesFind i x) (x : ExClause)
    (enough : suc i ≤ length x.floundered_subgoals) where
  one_less : (l : FlounderedSubgoal) → get_elem? x.floundered_subgoals i ≡ some l → i ≤ length (swap_remove x.floundered_subgoals i)
  one_less l e =
      let less = (swapped (λ a. 1) x.floundered_subgoals i l e).less in
      let before = total_length x.floundered_subgoals in
      let after = total_length (swap_remove x.floundered_subgoals i) in
      omega arith

  pass_finds : PassesFind (suc i) x
  pass_finds =
      let here = at_place x.floundered_subgoals i enough in
      let l = here.0 in
      rw (here.1, PassesFind) (whichever (ltb l.floundered_time x.answer_time)
      (ih (with_floundered x (push x.subgoals l.floundered_literal) (swap_remove x.floundered_subgoals i)) (one_less l here.1))
      (ih x (omega arith)))
    where
      whichever : (b : Bool) {P Q : Type 0} → P → Q → elim b as (λ c. Type 0) [ true ↦ P | false ↦ Q ]
      whichever true p q = p
      whichever false p q = q

pub passes_find : (i : ℕ) (x : ExClause) → i ≤ length x.floundered_subgoals → PassesFind i x
passes_find zero x o = tt
passes_find (suc i) x o = pass_finds i (passes_find i) x o

-- after the places below i are gone through
pub record Reconsidered (n : ℕ) (x : ExClause) (i : ℕ) (x' : ExClause) : Type 0 where
  pub clause : SoundClause n x'
  pub returned : length x'.subgoals ≡ length x.subgoals + total (late x.answer_time) (take i x.floundered_subgoals)
  pub stayed : lates x' + total (late x.answer_time) (take i x.floundered_subgoals) ≡ lates x
  pub together : length x'.subgoals + length x'.floundered_subgoals ≡ length x.subgoals + length x.floundered_subgoals

abbrev Reconsiders : (n i : ℕ) → Type 0
Reconsiders n i = (x : ExClause) → SoundClause n x → Reconsidered n x i (reconsider_from i x)

module _ (n i : ℕ) (ih : Reconsiders n i) (x : ExClause) (s : SoundClause n x) where
  passed_by : total (late x.answer_time) (take (suc i) x.floundered_subgoals) ≡ total (late x.answer_time)
      (take i x.floundered_subgoals) → Reconsidered n x (suc i) (reconsider_from i x)
  passed_by e = let r = ih x s in record {
    clause = r.clause;
    returned = let y = r.returned in omega arith;
    stayed = let y = r.stayed in omega arith;
    together = r.together;
  }

  comes_back : (l : FlounderedSubgoal) → get_elem? x.floundered_subgoals i ≡ some l → late x.answer_time l ≡ 1
      → Reconsidered n x (suc i) (reconsider_from i (with_floundered x (push x.subgoals l.floundered_literal)
      (swap_remove x.floundered_subgoals i)))
  comes_back l e one =
      let fs = x.floundered_subgoals in
      let next = total_take_suc (late x.answer_time) fs i l e in
      let out = swapped (late x.answer_time) fs i l e in
      let size = swapped (λ a. 1) fs i l e in
      let size-before = total_length fs in
      let size-after = total_length (swap_remove fs i) in
      let longer : length (x.subgoals ++ (l.floundered_literal ∷ [])) ≡ length x.subgoals + 1 =
      length-append x.subgoals (l.floundered_literal ∷ []) in
      let shorter = size.less in
      let few = s.few_literals in
      let r = ih (with_floundered x (push x.subgoals l.floundered_literal) (swap_remove fs i))
      (record {
        subgoals_named = all_push s.subgoals_named (all_at i s.floundered_named e);
        floundered_named = all_swap_remove i s.floundered_named;
        delayed_named = s.delayed_named;
        few_literals = omega arith;
        few_delayed = s.few_delayed;
      }) in
      let front = out.front in
      let less = out.less in
      record {
        clause = r.clause;
        returned = let y = r.returned in omega arith;
        stayed = let y = r.stayed in omega arith;
        together = let y = r.together in omega arith;
      }

  at_next : Reconsidered n x (suc i) (reconsider_from (suc i) x)
  at_next = case_option (Reconsidered n x (suc i)) (get_elem? x.floundered_subgoals i)
      (λ e. passed_by (total_take_past (late x.answer_time) x.floundered_subgoals i e))
      (λ l e. case_bool (Reconsidered n x (suc i)) (ltb l.floundered_time x.answer_time)
      (λ b. comes_back l e (ap (λ b. elim b [ true ↦ 1 | false ↦ 0 ]) b))
      (λ b. let z : late x.answer_time l ≡ 0 = ap (λ b. elim b [ true ↦ 1 | false ↦ 0 ]) b in
      let y = total_take_suc (late x.answer_time) x.floundered_subgoals i l e in passed_by (omega arith)))

reconsiders : (n i : ℕ) → Reconsiders n i
reconsiders n zero x s = record {
  clause = s;
  returned = nothing x.floundered_subgoals (length x.subgoals);
  stayed = nothing' x.floundered_subgoals;
  together = refl;
}
  where
    nothing : (l : List FlounderedSubgoal) (k : ℕ) → k ≡ k + total (late x.answer_time) (take 0 l)
    nothing [] k = omega arith
    nothing (a ∷ l) k = omega arith

    nothing' : (l : List FlounderedSubgoal) → lates x + total (late x.answer_time) (take 0 l) ≡ lates x
    nothing' [] = omega arith
    nothing' (a ∷ l) = omega arith
reconsiders n (suc i) x s = at_next n i (reconsiders n i) x s

-- all of them gone through
pub record Returned (n : ℕ) (x x' : ExClause) : Type 0 where
  pub clause : SoundClause n x'
  pub returned : length x'.subgoals ≡ length x.subgoals + lates x
  pub none_late : lates x' ≡ 0
  pub together : length x'.subgoals + length x'.floundered_subgoals ≡ length x.subgoals + length x.floundered_subgoals

pub returns : {n : ℕ} (x : ExClause) → SoundClause n x → Returned n x (reconsider_floundered_subgoals x)
returns {n} x s =
    let r = reconsiders n (length x.floundered_subgoals) x s in
    let whole = ap (total (late x.answer_time)) (take-length x.floundered_subgoals) in
    record {
      clause = r.clause;
      returned = let y = r.returned in omega arith;
      none_late = let y = r.stayed in omega arith;
      together = r.together;
    }

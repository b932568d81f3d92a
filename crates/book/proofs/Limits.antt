-- A sound book is within the limits of the definitions, so that it can be written, and what is written is read back.
use Prim.Native.Nat.{ℕ, zero, suc, ◌*◌, ◌/◌, ◌%◌, ◌≤◌, ◌<◌}
use native.Mathlib.Omega.{arith}
use mathlib.Core.Path.{◌≡◌, sym, subst}
use mathlib.Core.Bool.{Bool, true, false}
use lib.ListN.{get_or}
use lib.Dec.{ltb}
use borrow.Author.Tests.{ltb-true, ltb-false}
use Rattle.definitions.specs.Book.{
  bit0,
  bit1,
  low,
  high,
  crossed,
  goal_of,
  literals_name,
  clauses_name,
  goals_name,
  WantWithin,
  LiteralWithin,
  LiteralsWithin,
  ClausesWithin,
  GoalsWithin,
  Within,
}
use Rattle.laws.proofs.Bools.{both_true}
use Rattle.laws.proofs.Spans.{length_span}
use Rattle.laws.specs.Spans.{span}
use Rattle.book.specs.declared.Book.{Book}
use Rattle.book.specs.View.{wanted, bit2, signed, literal_viewed, clause_viewed, goal_viewed, view, Sound}
use Rattle.book.proofs.Held.{goals_counted, clauses_counted}

-- a want that is not crossed, of numbers that two bytes can say
wanted_within : (ranged : Bool) (want most : ℕ) → want < 65536 → most < 65536
    → ltb (high (wanted ranged want most)) (low (wanted ranged want most)) ≡ false → WantWithin (wanted ranged want most)
wanted_within true want most w m e = (ltb-false most want e, m)
wanted_within false zero most w m e = tt
wanted_within false (suc v) most w m e = (omega arith, w)

signed_within : (n : ℕ) (t ranged : Bool) (goal want most : ℕ) (o : Bool) → want < 65536 → most < 65536
    → crossed (signed t goal (wanted ranged want most) o) ≡ false → goal_of (signed t goal (wanted ranged want most) o) < n
    → LiteralWithin n (signed t goal (wanted ranged want most) o)
signed_within n true ranged goal want most o w m e h = h
signed_within n false ranged goal want most o w m e h = (h, wanted_within ranged want most w m e)

module _ (b : Book) (s : Sound b) (n : ℕ) where
  literals_within : (i k : ℕ) → literals_name n (span (literal_viewed b) i k) ≡ true → LiteralsWithin n (span (literal_viewed b) i k)
  literals_within i zero e = tt
  literals_within i (suc k) e =
      let first = ltb (goal_of (literal_viewed b i)) n in
      let rest = literals_name n (span (literal_viewed b) (suc i) k) in (
        signed_within n (bit1 (get_or b.literal_kind i 0)) (bit2 (get_or b.literal_kind i 0)) (get_or b.literal_goal i 0)
            (get_or b.literal_want i 0 % 65536) (get_or b.literal_want i 0 / 65536) (bit0 (get_or b.literal_kind i 0))
            (omega arith) (omega (arith, s.ranged.wants i)) (s.ranged.straight i)
            (ltb-true (goal_of (literal_viewed b i)) n (both_true first rest e).0),
        literals_within (suc i) k (both_true first rest e).1,
      )

  clauses_within : (c k : ℕ) → clauses_name n (span (clause_viewed b) c k) ≡ true → ClausesWithin n (span (clause_viewed b) c k)
  clauses_within c zero e = tt
  clauses_within c (suc k) e =
      let first = literals_name n (clause_viewed b c).literals in
      let rest = clauses_name n (span (clause_viewed b) (suc c) k) in (
        record {
          variant_fits = s.ranged.variants c;
          few_literals =
              subst (λ (m : ℕ). m ≤ 8) (sym (length_span (literal_viewed b) (8 * c) (get_or b.clause_len c 0))) (s.few_literals c);
          literals_fit = literals_within (8 * c) (get_or b.clause_len c 0) (both_true first rest e).0;
        },
        clauses_within (suc c) k (both_true first rest e).1,
      )

  goals_within : (g k : ℕ) → goals_name n (span (goal_viewed b) g k) ≡ true → GoalsWithin n (span (goal_viewed b) g k)
  goals_within g zero e = tt
  goals_within g (suc k) e =
      let first = clauses_name n (goal_viewed b g).clauses in
      let rest = goals_name n (span (goal_viewed b) (suc g) k) in (
        clauses_within (get_or b.goal_first g 0) (get_or b.goal_len g 0) (both_true first rest e).0,
        goals_within (suc g) k (both_true first rest e).1,
      )

pub sound_within : (b : Book) → Sound b → 0 < b.goals → Within (view b)
sound_within b s some = record {
  some_goal = omega (arith, some, goals_counted b);
  few_goals = omega (arith, s.few_goals, goals_counted b);
  few_clauses = omega (arith, s.few_clauses, clauses_counted b s.tiles);
  clauses_fit = subst (λ (n : ℕ). GoalsWithin n (view b)) (sym (goals_counted b)) (goals_within b s b.goals 0 b.goals s.named);
}

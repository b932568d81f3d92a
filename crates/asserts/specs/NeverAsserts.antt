-- "The Rust's other asserts and panics are proved never to be met" (document 01, "Stopped by the state"). In the definitions each of
-- them is stop 0, but for one: where `reconsider_floundered_subgoals` would index past its list, the definition passes by. And a
-- peek whose passes ran out would end in InvalidAnswer. The statement is for every book, every clock limit that making accepts and
-- every list of calls. The proof is in proofs/Theorem.
use Rattle.std.specs.Prelude.{ℕ, zero, suc, ◌≡◌, true, false, List, length, ltb}
use Rattle.std.proofs.Math.Option.{none, some}
use Rattle.std.proofs.Math.ListN.{get_elem?}
use Rattle.definitions.specs.{ExClause}
use Rattle.definitions.specs.Refusal.{accepted}
use Rattle.definitions.specs.Stop.{stop}
use Rattle.definitions.specs.Lists.{push, swap_remove, Each}
use Rattle.definitions.specs.Strand.{with_floundered}
use Rattle.definitions.specs.Tables.{Forest}
use Rattle.definitions.specs.Logic.{InvalidAnswer}
use Rattle.definitions.specs.Turn.{fail, stopped}
use Rattle.definitions.specs.Forest.{make}
use Rattle.definitions.specs.Calls.{Call, Reply, table, searched, peeked, sitting, calls}

-- the reply of a call that met no assert
pub record NoAssert (r : Reply) : Type 0 where
  pub opens_without : r ≡ table (stop 0) → ⊥
  pub searches_without : (turns : ℕ) → r ≡ searched (stopped 0) turns → ⊥
  pub peeks_without : (index turns exceeded : ℕ) → r ≡ peeked (stopped 0) index turns exceeded → ⊥
  pub peeks_past_invalid : (index turns exceeded : ℕ) → r ≡ peeked (fail InvalidAnswer) index turns exceeded → ⊥

-- The passes of `reconsider_from`, at index i - 1 and down to 0, written as there: each finds its literal.
abbrev pub PassesFind : ℕ → ExClause → Type 0
PassesFind zero x = Unit {0}
PassesFind (suc i) x = elim (get_elem? x.floundered_subgoals i) [
  | none ↦ ⊥
  | some f ↦ elim (ltb f.floundered_time x.answer_time) [
    | true ↦ PassesFind i (with_floundered x (push x.subgoals f.floundered_literal) (swap_remove x.floundered_subgoals i))
    | false ↦ PassesFind i x
  ]
]

pub record NeverAsserts : Type 0 where
  pub in_calls :
      (bytes : List ℕ) (clock_limit : ℕ) (f : Forest) → make bytes clock_limit ≡ accepted f →
      (cs : List Call) → Each (λ c. NoAssert c.reply) (calls (sitting f) cs)
  pub in_reconsidering : (x : ExClause) → PassesFind (length x.floundered_subgoals) x

-- A TURN DONE, for sound stores: what is left, and how it ends, is the definitions' turn of the state that the stores hold; and what holds
-- of the stores then, by how it ends.
use Prim.Native.Nat.{ℕ, zero, suc}
use native.Mathlib.Omega.{arith}
use mathlib.Core.Bool.{Bool, true, false}
use mathlib.Core.List.{[]}
use mathlib.Core.Path.{◌≡◌, refl, sym, ap, subst, ◌∙◌}
use lib.ListN.{length}
use Rattle.definitions.specs.Stop.{Stops, stop, go, ◌>>=◌}
use Rattle.definitions.specs.Turn.{turn}
use Rattle.asserts.proofs.Safe.{NotZero, Safe, stops, goes}
use Rattle.asserts.specs.Sound.{SoundForest, Rooted}
use Rattle.asserts.proofs.Turns.{turn_keeps}
use Rattle.asserts.proofs.Unwinding.{Left, Flows}
use Rattle.small_steps.specs.Acts.{Act, perform}
use Rattle.small_steps.proofs.Theorem.{split}
use Rattle.stores.specs.declared.queue.Strands.{Strands}
use Rattle.stores.specs.declared.stack.Stack.{Stack}
use Rattle.stores.specs.View.{FirstStrands, entries}
use Rattle.control.specs.declared.performed.Flow.{Flow}
use Rattle.control.specs.declared.performed.Flow.TheVariants as ways
use Rattle.control.specs.InHand.{Sounds, flows}
use Rattle.control.specs.Perform as performing
use Rattle.control.specs.TurnWrites.{chosen, turn_done, turned, Performs}
use Rattle.control.specs.Stores.{Stores, first_strands, forest, state, SoundStores}
use Rattle.control.specs.TurnReads.{next, decided_for, idle}
use Rattle.control.proofs.EffectBack.{stop_performs, strand_found}
use Rattle.control.proofs.EffectIdle.{idle_performs}
use Rattle.control.proofs.EffectSteps.{sounds_of}
use Rattle.control.proofs.EffectTurn.{strand_performs}
use Rattle.control.proofs.TurnReads.{never_empty, turn_decides}

-- a result that is known
module _ {A : Type 0} {P : A → Type 0} where
  gone_on : {a : A} → Safe P (go a) → P a
  gone_on (goes p) = p

  stopped : {n : ℕ} → Safe P (stop n) → NotZero n
  stopped (stops z) = z

-- nothing entered, nothing on the stack
none_entered : (fresh : FirstStrands) (k : Stack) (s : Strands) (n : ℕ) → entries fresh k s n ≡ [] → n ≡ 0
none_entered fresh k s zero e = refl
none_entered fresh k s (suc n) e = absurd (omega (arith, ap length e))

-- WHAT A TURN LEAVES BE
module _ (z : Stores) where
  pub turned_book : (turned z).book ≡ z.book
  turned_book = refl

  pub turned_limit : (turned z).clock_limit ≡ z.clock_limit
  turned_limit = refl

  pub turned_mark : (turned z).mark ≡ z.mark
  turned_mark = refl

-- the root has its answer: the stack is empty, and the answer is in the root's table
pub record Answered (root index : ℕ) (z : Stores) : Type 0 where
  pub no_entries : (state (turned z)).stack ≡ []
  pub no_depth : (turned z).stack.depth ≡ 0
  pub sound_forest : SoundForest z.book.goals (forest (turned z))
  pub rooted : Rooted (forest (turned z)).tables root (suc index)

-- the turn stops by a number of document 01, and the state is as it was
pub record Stopped (z : Stores) (n : ℕ) : Type 0 where
  pub as_it_was : state (turned z) ≡ state z
  pub stops_by : turn (state z) ≡ stop n
  pub not_zero : NotZero n

module _ (root index first : ℕ) (z : Stores) (o : SoundStores root index first z) where
  -- with n entries below the top
  module _ (n : ℕ) (d : z.stack.depth ≡ suc n) where
    with_strand : (next z).found ≡ true → (halts : Bool) → performing.stops (decided_for z (chosen z)).deed ≡ halts → Performs z
    with_strand is true e = stop_performs z (sounds_of root index first z o n d) (strand_found z ∙ is) e
    with_strand is false e = strand_performs root index first z o n d is e

    by_found : (found : Bool) → (next z).found ≡ found → Performs z
    by_found true is = with_strand is (performing.stops (decided_for z (chosen z)).deed) refl
    by_found false is = idle_performs root index first z o n d (idle z) refl (strand_found z ∙ is)

  by_depth : (m : ℕ) → z.stack.depth ≡ m → Performs z
  by_depth zero d = absurd (never_empty root index first z o d)
  by_depth (suc n) d = by_found n d (next z).found refl

  -- what is decided is done
  pub turn_performs : Performs z
  turn_performs = by_depth z.stack.depth refl

  -- THE TURN
  pub turn_is : flows (turn_done z).flow (state (turned z)) ≡ turn (state z)
  turn_is =
      turn_performs.does
      ∙ ap (λ (a : Stops Act). a >>= λ act. go (perform act (state z))) (turn_decides root index first z o)
      ∙ sym (split z.book.goals root index first (state z) o.state)

  -- however it ends
  pub turn_sounds : Sounds [] (turned z)
  turn_sounds = turn_performs.sound

  -- what holds by how it ends
  ends : (f : Flow) → (turn_done z).flow ≡ f → Safe (Flows z.book.goals root index first) (flows f (state (turned z)))
  ends f e =
      subst (λ (g : Flow). Safe (Flows z.book.goals root index first) (flows g (state (turned z)))) e
      (subst (Safe (Flows z.book.goals root index first)) (sym turn_is)
      (turn_keeps z.book.goals root index first (state z) o.state))

  -- the search goes on
  pub turn_goes_on : (turn_done z).flow ≡ ways.Continue → SoundStores root index first (turned z)
  turn_goes_on e = record {
    book = o.book;
    tables = turn_sounds.tables;
    strands = turn_sounds.strands;
    answers = turn_sounds.answers;
    stack = turn_sounds.stack;
    state = gone_on (ends ways.Continue e);
  }

  -- it has its answer
  pub turn_answers : (turn_done z).flow ≡ ways.ReturnOk → Answered root index z
  turn_answers e =
      let x = gone_on (ends ways.ReturnOk e) in
      record {
        no_entries = x.0;
        no_depth = none_entered (first_strands z.book) (turned z).stack (turned z).strands (turned z).stack.depth x.0;
        sound_forest = x.1;
        rooted = x.2;
      }

  -- it is given up, and can be put back
  pub turn_finishes : (turn_done z).flow ≡ ways.NoMoreSolutions → Left z.book.goals root index (state (turned z))
  turn_finishes e = (gone_on (ends ways.NoMoreSolutions e)).1

  pub turn_exceeds : (turn_done z).flow ≡ ways.QuantumExceeded → Left z.book.goals root index (state (turned z))
  turn_exceeds e = (gone_on (ends ways.QuantumExceeded e)).1

  pub turn_cycles : (turn_done z).flow ≡ ways.NegativeCycle → Left z.book.goals root index (state (turned z))
  turn_cycles e = (gone_on (ends ways.NegativeCycle e)).1

  -- it is stopped
  pub turn_stops : (n : ℕ) → (turn_done z).flow ≡ ways.Stop n → Stopped z n
  turn_stops n e = record {
    as_it_was = turn_performs.undone n e;
    stops_by = sym turn_is ∙ ap (λ (f : Flow). flows f (state (turned z))) e;
    not_zero = stopped (ends (ways.Stop n) e);
  }

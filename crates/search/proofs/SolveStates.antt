-- A search by value. With nothing on its stack a turn of it is the definitions' turn, which stops with 0. For sound stores a turn of it is
-- the definitions' turn and a step of the search that stands, a stop leaves it as it was, and put back it is the search cut short, between
-- two searches again.
use Prim.Native.Nat.{ℕ, zero, suc, ◌<◌}
use mathlib.Core.Bool.{Bool, true, false, false≢true}
use mathlib.Core.List.{[]}
use mathlib.Core.Path.{◌≡◌, refl, sym, ap, subst, ◌∙◌}
use lib.Dec.{eqb}
use borrow.Author.Tests.{ne_eqb}
use Rattle.definitions.specs.{MAX}
use Rattle.definitions.specs.Logic as logic
use Rattle.definitions.specs.Stop.{Stops}
use Rattle.definitions.specs.Turn as turns
use Rattle.asserts.proofs.Unwinding.{Ended}
use Rattle.small_steps.specs.Steps as steps
use Rattle.stores.specs.View.{entries}
use Rattle.control.specs.declared.performed.Flow.{Flow}
use Rattle.control.specs.declared.performed.Flow.TheVariants as ways
use Rattle.control.specs.InHand.{Sounds, flows}
use Rattle.control.specs.TurnWrites.{turned, turn_done, backed}
use Rattle.control.specs.Stores.{Stores, first_strands, forest, state, SoundStores}
use Rattle.control.proofs.EffectSteps.{sounds_of}
use Rattle.control.proofs.PutBack.{backed_sound, backed_view, backed_kept, standing_drops}
use Rattle.control.proofs.TurnReads.{never_empty}
use Rattle.control.proofs.TurnDoes as does
use Rattle.search.specs.declared.solve_state.Search.{Search}
use Rattle.search.specs.declared.solve_state.Turned.{Turned}
use Rattle.search.specs.Means.{Rests}
use Rattle.search.specs.RootAnswer.{one_more}
use Rattle.search.specs.SolveState.{stores_in, standing_in, with_stores, is_stop, left_by, turn_so, turn_by, turn_of, cut_of}
use Rattle.search.proofs.Passing.{counts, stepped, searched_so}

-- WHAT A TURN LEAVES, whatever the search
module _ (s : Search) where
  abbrev flow_by : (empty : Bool) → Flow
  flow_by empty = (turn_by empty s).flow

  -- what it was, where the turn stops
  undone_by : (empty : Bool) → is_stop (flow_by empty) ≡ true → (turn_by empty s).search ≡ s
  undone_by true e = refl
  undone_by false e = ap (λ (b : Bool). left_by b s) e

  pub turn_undone : is_stop (turn_of s).flow ≡ true → (turn_of s).search ≡ s
  turn_undone e = undone_by (eqb s.stack.depth 0) e

  -- else the stores that the turn left, and a turn more
  went_by : (empty : Bool) → is_stop (flow_by empty) ≡ false
      → (turn_by empty s).search ≡ with_stores (turned (stores_in s)) (one_more s.done) s
  went_by true e = absurd (false≢true (sym e))
  went_by false e = ap (λ (b : Bool). left_by b s) e

  pub turn_stores : is_stop (turn_of s).flow ≡ false → stores_in (turn_of s).search ≡ turned (stores_in s)
  turn_stores e = ap stores_in (went_by (eqb s.stack.depth 0) e)

  pub turn_counted : is_stop (turn_of s).flow ≡ false → (turn_of s).search.done ≡ one_more s.done
  turn_counted e = ap (λ (x : Search). x.done) (went_by (eqb s.stack.depth 0) e)

  -- and what is searched for stays
  abbrev Kept : Search → Type 0
  Kept x = (x.table ≡ s.table) × (x.index ≡ s.index) × (x.limit ≡ s.limit)

  left_keeps : (b : Bool) → Kept (left_by b s)
  left_keeps true = (refl, refl, refl)
  left_keeps false = (refl, refl, refl)

  kept_by : (empty : Bool) → Kept (turn_by empty s).search
  kept_by true = (refl, refl, refl)
  kept_by false = left_keeps (is_stop (turn_done (stores_in s)).flow)

  pub turn_keeps : ((turn_of s).search.table ≡ s.table) × ((turn_of s).search.index ≡ s.index) × ((turn_of s).search.limit ≡ s.limit)
  turn_keeps = kept_by (eqb s.stack.depth 0)

  -- WITH NOTHING ON THE STACK there is no turn, and all stays; so the definitions have it
  module _ (empty : s.stack.depth ≡ 0) where
    pub turn_of_none : turn_of s ≡ turn_so (ways.Stop 0) s
    turn_of_none = ap (λ (n : ℕ). turn_by (eqb n 0) s) empty

    pub turn_of_none_is : flows (turn_of s).flow (state (stores_in (turn_of s).search)) ≡ turns.turn (state (stores_in s))
    turn_of_none_is =
        let z = stores_in s in
        ap (λ (x : Turned). flows x.flow (state (stores_in x.search))) turn_of_none
        ∙ sym (ap (λ (n : ℕ). turns.turn (record {
          forest = forest z;
          stack = entries (first_strands z.book) z.stack z.strands n;
        })) empty)

  -- how it ends, over the stores that the search holds then: a stop tells nothing of them
  flows_so : (f : Flow) → flows f (state (stores_in (left_by (is_stop f) s))) ≡ flows f (state (turned (stores_in s)))
  flows_so ways.Continue = refl
  flows_so ways.ReturnOk = refl
  flows_so ways.NoMoreSolutions = refl
  flows_so ways.QuantumExceeded = refl
  flows_so ways.NegativeCycle = refl
  flows_so (ways.Stop n) = refl

-- the stores of a search put back
pub cut_stores : (s : Search) → stores_in (cut_of s) ≡ backed (stores_in s)
cut_stores s = refl

-- sound stores are sound with nothing in hand
standing_sounds : (root index first : ℕ) (z : Stores) → SoundStores root index first z → Sounds [] z
standing_sounds root index first z o = at z.stack.depth refl
  where
    at : (m : ℕ) → z.stack.depth ≡ m → Sounds [] z
    at zero d = absurd (never_empty root index first z o d)
    at (suc n) d = sounds_of root index first z o n d

module _ (root index first : ℕ) (s : Search) (o : SoundStores root index first (stores_in s)) where
  abbrev z : Stores
  z = stores_in s

  -- something is on the stack
  stands : turn_of s ≡ turn_by false s
  stands = ap (λ (empty : Bool). turn_by empty s) (ne_eqb s.stack.depth 0 (never_empty root index first z o))

  -- A TURN is the definitions' turn
  pub search_turn_is : flows (turn_of s).flow (state (stores_in (turn_of s).search)) ≡ turns.turn (state (stores_in s))
  search_turn_is =
      ap (λ (x : Turned). flows x.flow (state (stores_in x.search))) stands
      ∙ flows_so s (turn_done z).flow
      ∙ does.turn_is root index first z o

  -- and leaves sound stores where the search goes on
  pub turn_goes_on : (turn_of s).flow ≡ ways.Continue → SoundStores root index first (stores_in (turn_of s).search)
  turn_goes_on =
      subst (λ (x : Turned). x.flow ≡ ways.Continue → SoundStores root index first (stores_in x.search)) (sym stands)
      (λ e. subst (λ (f : Flow). SoundStores root index first (stores_in (left_by (is_stop f) s))) (sym e)
      (does.turn_goes_on root index first z o e))

  -- then the search stands a step later
  steps_by : (turn_by false s).flow ≡ ways.Continue → s.done < MAX
      → steps.standing (standing_in first (turn_by false s).search) ≡ steps.step (standing_in first s)
  steps_by e few =
      ap (λ (f : Flow). steps.standing (standing_in first (left_by (is_stop f) s))) e
      ∙ ap (λ (n : ℕ). steps.standing (record {
        state = state (turned z);
        table = s.table;
        index = s.index;
        limit = s.limit;
        done = n;
        first = first;
      })) (counts s.done few)
      ∙ ap (λ (f : Flow). stepped (standing_in first s) (flows f (state (turned z)))) (sym e)
      ∙ ap (stepped (standing_in first s)) (does.turn_is root index first z o)

  pub turn_steps : (turn_of s).flow ≡ ways.Continue → s.done < MAX
      → steps.standing (standing_in first (turn_of s).search) ≡ steps.step (standing_in first s)
  turn_steps =
      subst (λ (x : Turned). x.flow ≡ ways.Continue → s.done < MAX
      → steps.standing (standing_in first x.search) ≡ steps.step (standing_in first s)) (sym stands) steps_by

  -- A SEARCH PUT BACK is the search cut short
  pub cut_is : steps.cut_short (standing_in first s) ≡ searched_so turns.cut s.done (forest (stores_in (cut_of s)))
  cut_is =
      rw (
        turns.put_back,
        backed_view z (standing_sounds root index first z o) (standing_drops root index first z o),
      )

  -- and its stores are between two searches, with the root's answers below the index or a floundered root
  pub cut_ended : Ended s.book.goals root index (forest (stores_in (cut_of s)))
  cut_ended = backed_kept z (standing_sounds root index first z o) (standing_drops root index first z o)

  pub cut_rests : Rests (stores_in (cut_of s))
  cut_rests = record {
    book = o.book;
    sounds = backed_sound z (standing_sounds root index first z o);
    empty = refl;
    forest = cut_ended.sound;
  }

-- A SEARCH PUT BACK, for sound stores: the strands of all entries are in their tables' queues again, and the forest is what `Drop` leaves.
use Prim.Native.Nat.{ℕ}
use native.Mathlib.Omega.{arith}
use mathlib.Core.List.{[], ◌∷◌}
use mathlib.Core.Option.{Option, none, some}
use mathlib.Core.Path.{◌≡◌, refl, sym, ap, subst, ◌∙◌}
use Rattle.definitions.specs.Logic.{drop_state, unwind_callers}
use Rattle.definitions.specs.Stack as said
use Rattle.definitions.specs.Stop.{Stops, go, ◌>>=◌}
use Rattle.definitions.specs.Strand as held
use Rattle.definitions.specs.Table.{enqueue_strand}
use Rattle.definitions.specs.Tables.{Forest, change_table}
use Rattle.asserts.proofs.Safe.{Safe, stops, goes}
use Rattle.asserts.proofs.Turns.{state_left}
use Rattle.asserts.proofs.Unwinding.{Ended}
use Rattle.small_steps.specs.Acts.{changed, callers_unwound}
use Rattle.small_steps.proofs.Matches.{Goes, asserting, going, goes_after}
use Rattle.small_steps.proofs.Writing.{changes, unwinds_callers}
use Rattle.stores.specs.declared.queue.Strands.{Strands}
use Rattle.stores.specs.Numbers.{within}
use Rattle.stores.specs.Queue.{with_places}
use Rattle.stores.specs.Sound.{SoundStrands}
use Rattle.control.specs.InHand.{with_strands, Sounds}
use Rattle.control.specs.TurnWrites.{backed}
use Rattle.control.specs.Stores.{Stores, first_strands, forest, entries_of, state, SoundStores}
use Rattle.control.specs.UnwindStack.{all_back}
use Rattle.control.proofs.EffectStack.{Back, unwinds}

-- WHAT `Drop` LEAVES, unless it asserts: the top's entry may have no strand, a caller's is unwrapped
drops : (f : Forest) (es : said.Stack) → Goes (callers_unwound f es) (drop_state (record { forest = f; stack = es }))
drops f [] = going
drops f (e ∷ es) = on e.active_strand
  where
    on : (o : Option held.Strand)
        → Goes {A = Forest}
        (elim o [ none ↦ callers_unwound f es | some strand ↦ callers_unwound (changed f e.table (enqueue_strand strand)) es ])
        (elim o [
          | none ↦ unwind_callers f es
          | some strand ↦ change_table f e.table (enqueue_strand strand) >>= λ g. unwind_callers g es
        ])
    on none = unwinds_callers f es
    on (some strand) =
        goes_after _ (changes f e.table (enqueue_strand strand)) (unwinds_callers (changed f e.table (enqueue_strand strand)) es)

-- what goes on safely
module _ {A : Type 0} {a : A} {P : A → Type 0} where
  went : {r : Stops A} → Goes a r → Safe P r → r ≡ go a
  went asserting (stops z) = absurd z
  went going s = refl

  keeps : {r : Stops A} → Goes a r → Safe P r → P a
  keeps asserting (stops z) = absurd z
  keeps going (goes p) = p

module _ (z : Stores) (o : Sounds [] z) where
  abbrev over_by : (m : ℕ) → Strands
  over_by m = with_places z.strands (all_back z.stack.table z.stack.active m z.strands.places)

  all_within : within z.stack.depth ≡ z.stack.depth
  all_within = let few = o.stack.few in omega arith

  unwound : Back z o.made o.stack.places z.stack.depth z.strands
  unwound = unwinds z o.made o.stack.places z.stack.depth (omega arith) z.strands o.strands

  pub backed_sound : Sounds [] (backed z)
  backed_sound = record {
    tables = o.tables;
    strands = subst (λ (m : ℕ). SoundStrands (first_strands z.book) (over_by m) z.tables.count []) (sym all_within) unwound.sound;
    answers = o.answers;
    stack = record {
      few = omega arith;
      long_table = o.stack.long_table;
      long_clock = o.stack.long_clock;
      long_positive = o.stack.long_positive;
      long_negative = o.stack.long_negative;
      long_active = o.stack.long_active;
      places = λ i h. absurd (omega arith);
    };
    made = λ i h. absurd (omega arith);
  }

  -- what it shows: all entries unwound
  backed_shows : forest (backed z) ≡ callers_unwound (forest z) (entries_of z)
  backed_shows = ap (λ (m : ℕ). forest (with_strands (over_by m) z)) all_within ∙ unwound.view

  -- so where `Drop` doesn't assert, it leaves that
  backed_goes : Goes (forest (backed z)) (drop_state (state z))
  backed_goes = subst (λ (f : Forest). Goes f (drop_state (state z))) (sym backed_shows) (drops (forest z) (entries_of z))

  pub backed_view : {P : Forest → Type 0} → Safe P (drop_state (state z)) → drop_state (state z) ≡ go (forest (backed z))
  backed_view s = went backed_goes s

  -- and what is known of that holds
  pub backed_kept : {P : Forest → Type 0} → Safe P (drop_state (state z)) → P (forest (backed z))
  backed_kept s = keeps backed_goes s

-- A search between two turns can be put back.
pub standing_drops : (root index first : ℕ) (z : Stores) → SoundStores root index first z
    → Safe (Ended z.book.goals root index) (drop_state (state z))
standing_drops root index first z o = (state_left z.book.goals root index first (state z) o.state).1

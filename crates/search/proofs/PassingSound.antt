-- What one pass of the loop leaves is sound: in a search with a turn left where the search goes on, between two searches where it ended.
use Prim.Native.Nat.{ℕ, zero, suc, ◌<◌}
use native.Mathlib.Omega.{arith}
use mathlib.Core.Bool.{Bool, true, false, false≢true}
use mathlib.Core.List.{List, []}
use mathlib.Core.Path.{◌≡◌, refl, sym, ap, subst, ◌∙◌}
use lib.Dec.{ltb}
use lib.ListN.{get_or}
use borrow.Author.Tests.{ltb-true}
use Rattle.definitions.specs.{MAX}
use Rattle.asserts.proofs.Unwinding.{Ended}
use Rattle.book.specs.declared.Book.{Book}
use Rattle.stores.specs.declared.places.Places.{Places}
use Rattle.stores.specs.Numbers.{within}
use Rattle.stores.specs.Places.{places}
use Rattle.stores.specs.Queue.{with_places}
use Rattle.stores.specs.Stack.{pushed}
use Rattle.stores.proofs.StackViews.{push_sound}
use Rattle.control.specs.declared.performed.Flow.{Flow}
use Rattle.control.specs.declared.performed.Flow.TheVariants as ways
use Rattle.control.specs.InHand.{with_strands, with_stack, Sounds}
use Rattle.control.specs.PerformDeed.{bare}
use Rattle.control.specs.TurnWrites.{turn_done, turned, backed}
use Rattle.control.specs.PerformStrand.{Lent}
use Rattle.control.specs.Stores.{Stores, SoundStores, first_strands, forest}
use Rattle.control.specs.UnwindStack.{enqueued_if, enqueued_back, all_back}
use Rattle.control.proofs.PutBack.{backed_sound, backed_kept}
use Rattle.control.proofs.TurnDoes.{turn_goes_on}
use Rattle.search.specs.declared.course.Asked.{Asked}
use Rattle.search.specs.declared.course.Course.{Course}
use Rattle.search.specs.Course.{is_turn}
use Rattle.search.specs.Means.{Rests, stores_of}
use Rattle.search.specs.RootAnswer.{one_more}
use Rattle.search.specs.Walk.{walk, goes_by, goes_on, course_ended, put_back_in, conclude_by}
use Rattle.search.proofs.Passing.{before, left, after, concluded, further, finished_walk, noted, drops, noted_sounds, answered_drops}

-- the stores, with the places that were never used from here on
abbrev pub with_top : (top : ℕ) → Stores → Stores
with_top top z =
    let p = z.strands.places in
    with_strands (with_places z.strands (places p.next p.tail p.len top)) z

-- putting back takes no place
if_kept : (any : Bool) (t q : ℕ) (p : Places) → (enqueued_if any t q p).top ≡ p.top
if_kept true t q p = refl
if_kept false t q p = refl

all_kept : (table active : List ℕ) (n : ℕ) (p : Places) → (all_back table active n p).top ≡ p.top
all_kept table active zero p = refl
all_kept table active (suc n) p =
    let t = get_or table n 0 in
    let q = get_or active n 0 in
    all_kept table active n (enqueued_back t q p) ∙ if_kept (ltb q 256) t q p

backed_top : (z : Stores) → (backed z).strands.places.top ≡ z.strands.places.top
backed_top z = all_kept z.stack.table z.stack.active (within z.stack.depth) z.strands.places

-- put back, with the root's entry written where no entry is
root_written : (z : Stores) → Sounds [] z → (root clock : ℕ)
    → Sounds [] (with_stack (bare (pushed root clock MAX (bare z.stack))) (backed z))
root_written z o root clock =
    let y = backed_sound z o in
    let k = push_sound (first_strands z.book) (bare z.stack) z.strands root clock MAX y.stack (omega arith) in
    record {
      tables = y.tables;
      strands = y.strands;
      answers = y.answers;
      stack = record {
        few = omega arith;
        long_table = k.long_table;
        long_clock = k.long_clock;
        long_positive = k.long_positive;
        long_negative = k.long_negative;
        long_active = k.long_active;
        places = λ j h. absurd (omega arith);
      };
      made = λ j h. absurd (omega arith);
    }

module _ (b : Book) (asked : Asked) (c : Course) (w : Lent) where
  abbrev flow : Flow
  flow = (turn_done (before b asked c w)).flow

  -- whether the search goes on
  abbrev pub goes : Bool
  goes = goes_by false (turn_done (before b asked c w)).flow (one_more c.done) asked.limit

  -- WHAT THE PASS COMES TO, by that
  module _ (no_turn : is_turn asked.mode ≡ false) where
    is_goes : (g : Bool) → goes ≡ g → g ≡ goes_on asked (after b asked c w flow)
    is_goes g e = sym e ∙ sym (ap (λ (b : Bool). goes_by b flow (one_more c.done) asked.limit) no_turn)

    pub pass_further : goes ≡ true → further b asked c w (turn_done (before b asked c w)).flow
        ≡ concluded b asked c w (turn_done (before b asked c w)).flow
    pass_further e =
        ap (λ (g : Bool). conclude_by g (is_turn asked.mode) asked (after b asked c w flow) (left b asked c w)) (is_goes true e)

    pub pass_ended : goes ≡ false
        → walk (course_ended asked (left b asked c w) (after b asked c w (turn_done (before b asked c w)).flow))
        (put_back_in asked.table
        (course_ended asked (left b asked c w) (after b asked c w (turn_done (before b asked c w)).flow)).clock (left b asked c w))
        ≡ concluded b asked c w (turn_done (before b asked c w)).flow
    pass_ended e =
        ap (λ (t : Bool). conclude_by false t asked (after b asked c w flow) (left b asked c w)) (sym no_turn)
        ∙ ap (λ (g : Bool). conclude_by g (is_turn asked.mode) asked (after b asked c w flow) (left b asked c w)) (is_goes false e)

  module _ (first : ℕ) (o : SoundStores asked.table c.index first (stores_of b asked (walk c w))) where
    abbrev t : ℕ
    t = asked.table

    abbrev n : ℕ
    n = b.goals

    -- THE SEARCH GOES ON
    on_goes : (f : Flow) → (turn_done (before b asked c w)).flow ≡ f → goes_by false f (one_more c.done) asked.limit ≡ true
        → SoundStores t c.index first (turned (before b asked c w)) × (one_more c.done < asked.limit)
    on_goes ways.Continue e g =
        (turn_goes_on t c.index first (before b asked c w) o e, ltb-true (one_more c.done) asked.limit g)
    on_goes ways.ReturnOk e g = absurd (false≢true g)
    on_goes ways.NoMoreSolutions e g = absurd (false≢true g)
    on_goes ways.QuantumExceeded e g = absurd (false≢true g)
    on_goes ways.NegativeCycle e g = absurd (false≢true g)
    on_goes (ways.Stop m) e g = absurd (false≢true g)

    pub further_sound : goes ≡ true → SoundStores asked.table c.index first
        (stores_of b asked (further b asked c w (turn_done (before b asked c w)).flow))
    further_sound g = (on_goes flow refl g).0

    -- a turn is left
    pub further_left : goes ≡ true → one_more c.done < asked.limit
    further_left g = (on_goes flow refl g).1

    -- THE SEARCH ENDED
    pub backed_ended : (f : Flow) → (turn_done (before b asked c w)).flow ≡ f
        → Ended b.goals asked.table c.index (forest (backed (noted b asked c w f)))
    backed_ended f e = backed_kept (noted b asked c w f) (noted_sounds b asked c w first o f) (drops b asked c w first o f e)

    -- with its answer, the root's table has the answers below the next index
    pub answered_ended : (turn_done (before b asked c w)).flow ≡ ways.ReturnOk
        → Ended b.goals asked.table (suc c.index) (forest (backed (noted b asked c w ways.ReturnOk)))
    answered_ended e =
        backed_kept (noted b asked c w ways.ReturnOk) (noted_sounds b asked c w first o ways.ReturnOk)
        (answered_drops b asked c w first o e (suc c.index) (omega arith))

    -- the stores between two searches, before a further start
    bare_rests : (f : Flow) → (turn_done (before b asked c w)).flow ≡ f → Rests (backed (noted b asked c w f))
    bare_rests f e = record {
      book = o.book;
      sounds = backed_sound (noted b asked c w f) (noted_sounds b asked c w first o f);
      empty = refl;
      forest = (backed_ended f e).sound;
    }

    pub backed_rests : (f : Flow) → (turn_done (before b asked c w)).flow ≡ f
        → Rests (with_top (noted b asked c w f).strands.places.top (backed (noted b asked c w f)))
    backed_rests f e =
        let z = noted b asked c w f in
        subst (λ (top : ℕ). Rests (with_top top (backed z))) (backed_top z) (bare_rests f e)

    -- and where there is none
    written_rests : (f : Flow) → (turn_done (before b asked c w)).flow ≡ f → (clock : ℕ)
        → Rests (with_stack (bare (pushed t clock MAX (bare (noted b asked c w f).stack))) (backed (noted b asked c w f)))
    written_rests f e clock = record {
      book = o.book;
      sounds = root_written (noted b asked c w f) (noted_sounds b asked c w first o f) t clock;
      empty = refl;
      forest = (backed_ended f e).sound;
    }

    pub finished_rests : (f : Flow) → (turn_done (before b asked c w)).flow ≡ f → (clock : ℕ)
        → Rests (stores_of b asked (finished_walk b asked c w f clock))
    finished_rests f e clock =
        let z = noted b asked c w f in
        subst (λ (top : ℕ). Rests (with_top top (with_stack (bare (pushed t clock MAX (bare z.stack))) (backed z)))) (backed_top z)
        (written_rests f e clock)

    pub finished_ended : (f : Flow) → (turn_done (before b asked c w)).flow ≡ f → (clock : ℕ)
        → Ended b.goals asked.table c.index (forest (stores_of b asked (finished_walk b asked c w f clock)))
    finished_ended f e clock = backed_ended f e

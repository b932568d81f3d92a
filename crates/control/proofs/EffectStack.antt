-- Steps of a turn on the stack, for sound stores: a cycle taken, a push, a pop, and the stack unwound.
use Prim.Native.Nat.{ℕ, zero, suc, ◌-◌, ◌≤◌, ◌<◌}
use native.Mathlib.Omega.{arith}
use mathlib.Core.Bool.{Bool, true, false}
use mathlib.Core.List.{List, [], ◌∷◌, ◌++◌}
use mathlib.Core.Option.{Option, none, some}
use mathlib.Core.Path.{◌≡◌, refl, sym, ap, ap₂, subst, ◌∙◌}
use lib.Dec.{eqb, ltb}
use lib.ListN.{get_or, set}
use lib.Seq.{get_or-set_same, get_or-set_other}
use borrow.Author.Tests.{lt-ltb, le-ltb, eqb-true, eqb-false}
use Rattle.definitions.specs.{TimeStamp, MAX, Minimums}
use Rattle.definitions.specs.Book as books
use Rattle.definitions.specs.Book.{Positive, Negative}
use Rattle.definitions.specs.Stack as said
use Rattle.definitions.specs.Stack.{with_minimums, push_entry}
use Rattle.definitions.specs.Strand as held
use Rattle.definitions.specs.Table.{enqueue_strand}
use Rattle.definitions.specs.Tables.{Forest}
use Rattle.definitions.specs.Turn.{cycle_minimums}
use Rattle.small_steps.specs.Acts as split
use Rattle.strands.specs.Times.{incremented}
use Rattle.strands.specs.View.{is_negative}
use Rattle.stores.specs.declared.queue.Strands.{Strands}
use Rattle.stores.specs.declared.stack.Stack.{Stack}
use Rattle.stores.specs.Numbers.{within, set_if, add_if}
use Rattle.stores.specs.Queue.{with_places, enqueued_strand}
use Rattle.stores.specs.Sound.{SoundStrands}
use Rattle.stores.specs.Stack.{pushed, popped}
use Rattle.stores.specs.View.{FirstStrands, strand_at, entries, active_places}
use Rattle.stores.proofs.QueueSound.{enqueue_sound}
use Rattle.stores.proofs.QueueViews.{enqueue_view}
use Rattle.stores.proofs.StackCallers.{push_places, pop_places}
use Rattle.stores.proofs.StackViews.{entries_same, minimize_view, minimize_sound, push_view, push_sound, pop_sound}
use Rattle.control.specs.OnPositiveCycle.{minimums_at, cycle_by, top_cycled, cycled}
use Rattle.control.specs.PerformDeed.{bare}
use Rattle.control.specs.PerformStrand.{lent_of}
use Rattle.control.specs.UnwindStack.{enqueued_if, all_back}
use Rattle.control.specs.InHand.{with_lent, with_strands, with_stack, Sounds, state_above}
use Rattle.control.specs.Stores.{Stores, first_strands, forest, entries_of, state}
use Rattle.control.proofs.EffectSteps.{forest_is, changed_is, top_changed, one_at_least, last_is, top_idle}
use Rattle.control.proofs.Stores.{table_held, top_entry, entries_below}

-- A CYCLE
cycle_is : (l : books.Literal) (m : Minimums) (e : said.StackEntry)
    → cycle_minimums l m e ≡ with_minimums e (cycle_by (is_negative l) e.cyclic_minimums m e.clock)
cycle_is (Positive goal want outsized) m e = refl
cycle_is (Negative goal outsized) m e = refl

module _ (z : Stores) (n : ℕ) (d : z.stack.depth ≡ suc n) where
  abbrev fresh : FirstStrands
  fresh = first_strands z.book

  abbrev k : Stack
  k = z.stack

  -- the top takes the minimums of a cycle that it meets through this literal
  module _ (hand : List ℕ) (o : Sounds hand z) (l : books.Literal) (m : Minimums) where
    abbrev after : Stack
    after = cycled (is_negative l) m k

    abbrev taken : Minimums
    taken = top_cycled (is_negative l) m k.clock k.positive k.negative k.depth

    pub cycled_sound : Sounds hand (with_stack (cycled (is_negative l) m z.stack) z)
    cycled_sound = record {
      tables = o.tables;
      strands = o.strands;
      answers = o.answers;
      stack = minimize_sound fresh k z.strands o.stack (one_at_least z n d) taken.positive taken.negative;
      made = o.made;
    }

    pub cycled_view : state_above n (with_stack (cycled (is_negative l) m z.stack) z)
        ≡ split.top_entry (cycle_minimums l m) (state_above n z)
    cycled_view =
        ap (λ (es : said.Stack). record { forest = forest z; stack = es })
        (top_changed fresh k after z.strands n d d (λ e. with_minimums e taken)
        (minimize_view fresh k z.strands o.stack (one_at_least z n d) taken.positive taken.negative)
        ∙ ap (λ (i : ℕ). with_minimums (top_entry z n)
        (cycle_by (is_negative l) (minimums_at (get_or k.positive i 0) (get_or k.negative i 0)) m (get_or k.clock i 0))
        ∷ entries_below z n) (last_is z n d)
        ∙ ap (λ (e : said.StackEntry). e ∷ entries_below z n) (sym (cycle_is l m (top_entry z n))))

  -- A POP of an entry that holds nothing
  module _ (hand : List ℕ) (o : Sounds hand z) (no_strand : get_or k.active n 0 ≡ 256) where
    pub popped_sound : Sounds hand (with_stack (popped z.stack) z)
    popped_sound = record {
      tables = o.tables;
      strands = subst (λ (l : List ℕ). SoundStrands fresh z.strands z.tables.count (hand ++ l))
          (pop_places k (one_at_least z n d) (top_idle z n d no_strand)) o.strands;
      answers = o.answers;
      stack = pop_sound fresh k z.strands o.stack;
      made = λ i h. o.made i (omega arith);
    }

    pub popped_view : state (with_stack (popped z.stack) z) ≡ split.popped (state_above n z)
    popped_view =
        ap (λ (es : said.Stack). record { forest = forest z; stack = es })
        (ap (entries fresh (popped k) z.strands) (last_is z n d)
        ∙ entries_same fresh k (popped k) z.strands z.strands n (λ i h. refl))

-- A PUSH, at the clock's next time
module _ (z : Stores) (t : ℕ) (o : Sounds [] z) (there : t < z.tables.count) (room : z.stack.depth < 64)
    (in_time : z.clock < MAX) where
  abbrev shows : FirstStrands
  shows = first_strands z.book

  next_is : incremented z.clock ≡ suc z.clock
  next_is = omega arith

  abbrev higher : Stack
  higher = pushed t (incremented z.clock) MAX z.stack

  table_at : (b : Bool) → ltb z.stack.depth 64 ≡ b → (i : ℕ) → i < add_if b z.stack.depth
      → get_or (set_if b z.stack.depth t z.stack.table) i 0 < z.tables.count
  table_at true e i h = at (eqb i z.stack.depth) refl
    where
      at : (same : Bool) → eqb i z.stack.depth ≡ same → get_or (set z.stack.table z.stack.depth t) i 0 < z.tables.count
      at true s =
          let is : i ≡ z.stack.depth = eqb-true i z.stack.depth s in
          let long = o.stack.long_table in
          omega (
            arith,
            there,
            ap (λ (j : ℕ). get_or (set z.stack.table z.stack.depth t) j 0) is,
            get_or-set_same z.stack.table z.stack.depth t 0 (omega arith),
          )
      at false s =
          let not : i ≡ z.stack.depth → ⊥ = eqb-false i z.stack.depth s in
          omega (arith, get_or-set_other z.stack.table z.stack.depth i t 0 not, o.made i (omega arith))
  table_at false e i h = o.made i h

  pub pushed_sound : Sounds []
      (with_lent (lent_of z.tables z.strands z.answers (pushed t (incremented z.clock) MAX z.stack) (incremented z.clock))
      z)
  pushed_sound = record {
    tables = o.tables;
    strands = subst (SoundStrands shows z.strands z.tables.count)
        (sym (push_places z.stack t (incremented z.clock) MAX o.stack room)) o.strands;
    answers = o.answers;
    stack = push_sound shows z.stack z.strands t (incremented z.clock) MAX o.stack room;
    made = table_at (ltb z.stack.depth 64) refl;
  }

  pub pushed_view : state (with_lent
      (lent_of z.tables z.strands z.answers (pushed t (incremented z.clock) MAX z.stack) (incremented z.clock)) z)
      ≡ split.pushed t (state z)
  pushed_view =
      ap₂ (λ (c : TimeStamp) (es : said.Stack). record {
        forest = record {
          book = (forest z).book;
          clock_limit = z.clock_limit;
          mark = z.mark;
          tables = (forest z).tables;
          clock = c;
        };
        stack = es;
      }) next_is
      (push_view shows z.stack z.strands t (incremented z.clock) MAX o.stack room
      ∙ ap (λ (c : TimeStamp). push_entry t (record { positive = MAX; negative = MAX }) c (entries_of z)) next_is)

-- THE STACK UNWOUND: the strands of the lowest m entries go back to their tables, the topmost first
module _ (z : Stores) (made : (i : ℕ) → i < z.stack.depth → get_or z.stack.table i 0 < z.tables.count)
    (placed : (i : ℕ) → i < z.stack.depth → get_or z.stack.active i 0 ≤ 256) where
  abbrev first : FirstStrands
  first = first_strands z.book

  abbrev tb : List ℕ
  tb = z.stack.table

  abbrev ac : List ℕ
  ac = z.stack.active

  abbrev back : (m : ℕ) → Strands → Strands
  back m s = with_places s (all_back tb ac m s.places)

  -- what holds after it
  pub record Back (m : ℕ) (s : Strands) : Type 0 where
    pub sound : SoundStrands (first_strands z.book) (with_places s (all_back z.stack.table z.stack.active m s.places))
        z.tables.count []
    pub view : forest (with_strands (with_places s (all_back z.stack.table z.stack.active m s.places)) z)
        ≡ split.callers_unwound (forest (with_strands s z)) (entries (first_strands z.book) z.stack s m)

  -- one entry, by whether it has a strand
  abbrev unwound_by : Forest → (none_active : Bool) → held.Strand → (t : ℕ) → said.Stack → Forest
  unwound_by f b x t es =
      elim (elim b as (λ (c : Bool). Option held.Strand) [ true ↦ none | false ↦ some x ]) as (λ (c : Option held.Strand). Forest) [
        | none ↦ split.callers_unwound f es
        | some strand ↦ split.callers_unwound (split.changed f t (enqueue_strand strand)) es
      ]

  -- one entry more, once those below it are known: by whether a place is enqueued, and whether an entry has a strand
  module _ (m : ℕ) (h : m < z.stack.depth) (s : Strands)
      (below : (r : Strands) → SoundStrands first r z.tables.count (active_places ac m) → Back m r) where
    abbrev t : ℕ
    t = get_or tb m 0

    abbrev q : ℕ
    q = get_or ac m 0

    abbrev es : said.Stack
    es = entries first z.stack s m

    abbrev Then : (enqueues none_active : Bool) → Type 0
    Then e b =
        SoundStrands first (with_places s (all_back tb ac m (enqueued_if e t q s.places))) z.tables.count []
        × (forest (with_strands (with_places s (all_back tb ac m (enqueued_if e t q s.places))) z)
        ≡ unwound_by (forest (with_strands s z)) b (strand_at first s q) t es)

    abbrev held_by : (none_active : Bool) → List ℕ
    held_by b = elim b as (λ (c : Bool). List ℕ) [ true ↦ active_places ac m | false ↦ q ∷ active_places ac m ]

    -- the strand goes to the end of its table's queue
    module _ (o : SoundStrands first s z.tables.count (q ∷ active_places ac m)) where
      abbrev s'' : Strands
      s'' = enqueued_strand t q s

      abbrev before : Stores
      before = with_strands s z

      enqueues : Then true false
      enqueues =
          let r = below s'' (enqueue_sound first s z.tables.count (active_places ac m) t q (made m h) o) in (
            r.sound,
            r.view ∙ ap₂ split.callers_unwound
                (forest_is before (forest (with_strands s'' z)).tables
                (set (forest before).tables t (enqueue_strand (strand_at first s q) (table_held before t)))
                (enqueue_view first s z.tables.count (active_places ac m) t q (made m h) o.places z.tables z.answers refl)
                ∙ sym (changed_is before t (made m h) (enqueue_strand (strand_at first s q))))
                (entries_same first z.stack z.stack s s'' m (λ i a. refl)),
          )

    by_test : (b : Bool) → eqb q 256 ≡ b → SoundStrands first s z.tables.count (held_by b) → Then (ltb q 256) b
    by_test true e o =
        let all : q ≡ 256 = eqb-true q 256 e in
        let r = below s o in
        subst (λ (c : Bool). Then c true) (sym (le-ltb q 256 (omega arith))) (r.sound, r.view)
    by_test false e o =
        let not : q ≡ 256 → ⊥ = eqb-false q 256 e in
        let few = placed m h in
        subst (λ (c : Bool). Then c false) (sym (lt-ltb q 256 (omega arith))) (enqueues o)

    one_more : SoundStrands first s z.tables.count (active_places ac (suc m)) → Back (suc m) s
    one_more o = let r = by_test (eqb q 256) refl o in record { sound = r.0; view = r.1 }

  pub unwinds : (m : ℕ) → m ≤ z.stack.depth → (s : Strands)
      → SoundStrands (first_strands z.book) s z.tables.count (active_places z.stack.active m) → Back m s
  unwinds zero h s o = record { sound = o; view = refl }
  unwinds (suc m) h s o = one_more m (omega arith) s (unwinds m (omega arith)) o

-- the search is over: the callers' strands go back, and the stack is empty. The top has none.
module _ (z : Stores) (n : ℕ) (d : z.stack.depth ≡ suc n) (o : Sounds [] z) (no_strand : get_or z.stack.active n 0 ≡ 256) where
  abbrev tb' : List ℕ
  tb' = z.stack.table

  abbrev ac' : List ℕ
  ac' = z.stack.active

  abbrev over : Strands
  over = with_places z.strands (all_back tb' ac' (within (z.stack.depth - 1)) z.strands.places)

  pub below_is : within (z.stack.depth - 1) ≡ n
  below_is = let few = o.stack.few in omega arith

  pub popped_off : active_places ac' z.stack.depth ≡ active_places ac' n
  popped_off =
      pop_places z.stack (omega arith) (top_idle z n d no_strand)
      ∙ ap (active_places ac') (last_is z n d)

  unwound : Back z o.made o.stack.places n z.strands
  unwound = unwinds z o.made o.stack.places n (omega arith) z.strands
      (subst (SoundStrands (first_strands z.book) z.strands z.tables.count) popped_off o.strands)

  abbrev over_by : (m : ℕ) → Strands
  over_by m = with_places z.strands (all_back tb' ac' m z.strands.places)

  abbrev gone : Stores
  gone = with_lent (lent_of z.tables over z.answers (bare z.stack) z.clock) z

  pub gone_sound : Sounds [] (with_lent (lent_of z.tables
      (with_places z.strands
      (all_back z.stack.table z.stack.active (within (z.stack.depth - 1)) z.strands.places))
      z.answers (bare z.stack) z.clock) z)
  gone_sound = record {
    tables = o.tables;
    strands = subst (λ (m : ℕ). SoundStrands (first_strands z.book) (over_by m) z.tables.count []) (sym below_is) unwound.sound;
    answers = o.answers;
    stack = record {
      few = omega arith;
      long_table = o.stack.long_table;
      long_clock = o.stack.long_clock;
      long_positive = o.stack.long_positive;
      long_negative = o.stack.long_negative;
      long_active = o.stack.long_active;
      places = λ i h. absurd (omega arith);
    };
    made = λ i h. absurd (omega arith);
  }

  pub gone_view : state (with_lent (lent_of z.tables
      (with_places z.strands
      (all_back z.stack.table z.stack.active (within (z.stack.depth - 1)) z.strands.places))
      z.answers (bare z.stack) z.clock) z)
      ≡ split.gone (state_above n z)
  gone_view =
      ap (λ (f : Forest). record { forest = f; stack = [] })
      (ap (λ (m : ℕ). forest (with_strands (over_by m) z)) below_is ∙ unwound.view)

-- A cycle cleared where the top has no strand to go on with, done, for sound stores: 29 leaves everything as it was; else the tables lose
-- their queues, the callers' strands go back, and the search is over.
use Prim.Native.Nat.{ℕ, suc, ◌-◌, ◌%◌, ◌≤◌, ◌<◌}
use native.Mathlib.Nat.{mod-eq_of_lt}
use native.Mathlib.Omega.{arith}
use mathlib.Core.Bool.{Bool, true, false}
use mathlib.Core.List.{List, [], ◌∷◌, map}
use mathlib.Core.Option.{Option, none, some}
use mathlib.Core.Path.{◌≡◌, refl, sym, ap, ap₂, subst, ◌∙◌}
use lib.Dec.{eqb}
use lib.ListN.{length, get_or, get_elem?}
use borrow.Author.Tests.{lt-ltb, eqb-true}
use Rattle.definitions.specs.{TableIndex}
use Rattle.definitions.specs.Book as books
use Rattle.definitions.specs.Lists.{any_passes}
use Rattle.definitions.specs.Logic as logic
use Rattle.definitions.specs.Logic.{SolveState}
use Rattle.definitions.specs.Stop.{Stops, stop, go, ◌>>=◌}
use Rattle.definitions.specs.Strand as held
use Rattle.definitions.specs.Table.{Table}
use Rattle.definitions.specs.Tables.{Forest, queued}
use Rattle.asserts.specs.Sound.{SoundStrand, Selects}
use Rattle.laws.specs.All.{All}
use Rattle.laws.proofs.All.{all_first, all_rest, all_at}
use Rattle.laws.proofs.Lists.{place_under}
use Rattle.rings.specs.Lists.{times}
use Rattle.small_steps.specs.Acts as splits
use Rattle.small_steps.specs.Decide.{table_of, decide_clear}
use Rattle.strands.specs.declared.Strand.{Strand}
use Rattle.strands.specs.View.{clause, selected}
use Rattle.stores.specs.declared.places.Places.{Places}
use Rattle.stores.specs.declared.queue.Strands.{Strands}
use Rattle.stores.specs.Numbers.{within}
use Rattle.stores.specs.Places.{ring}
use Rattle.stores.specs.Queue.{is_not, waits_on, waits_for, with_places}
use Rattle.stores.specs.Sound.{SoundStrands}
use Rattle.stores.specs.View.{FirstStrands, strand_by, strand_at, is_fresh, unread_strand}
use Rattle.stores.proofs.ListsAlike.{times_cases}
use Rattle.control.specs.declared.clear_strands_after_cycle.Cleared.{Cleared}
use Rattle.control.specs.declared.on_no_strands_left.Idle.TheVariants as idles
use Rattle.control.specs.declared.performed.Flow.TheVariants as ways
use Rattle.control.specs.ClearStrandsAfterCycle.{cleared, awaited, Told, Shows, rings_in, queue_unless, Emptied, Clears}
use Rattle.control.specs.InHand.{with_lent, with_strands, Sounds, flows}
use Rattle.control.specs.TurnWrites.{read_place, Performs}
use Rattle.control.specs.PerformIdle.{cleared_by, clearing, clearing_flow, clearing_depth, with_depth}
use Rattle.control.specs.PerformStrand.{lent_of}
use Rattle.control.specs.Stores.{Stores, first_strands, forest, state, held_places, SoundStores}
use Rattle.control.specs.TurnReads.{top, idle}
use Rattle.control.specs.UnwindStack.{all_back}
use Rattle.control.proofs.ClearStrandsAfterCycleDecides.{clear_decides}
use Rattle.control.proofs.ClearStrandsAfterCycleEmptied.{emptied_view}
use Rattle.control.proofs.EffectSteps.{sounds_of, state_is, entries_moved}
use Rattle.control.proofs.EffectBack.{hand_was}
use Rattle.control.proofs.EffectNoStrand.{no_stop, read_back, top_table_is, no_strand, over_with, over_sound}
use Rattle.control.proofs.EffectStack.{Back, unwinds, popped_off, below_is}
use Rattle.control.proofs.Stores.{table_held, few_made, counted, table_found, table_made, searching}

-- the number beside a strand tells the table that it has selected, which can be
told_on : (not : Bool) (t n w : ℕ) → t < n → n ≤ 64 → w ≡ waits_on true not t → (w < 128) × (t ≡ awaited w) × (awaited w < n)
told_on true t n w h few e =
    let same : w % 64 ≡ t = omega arith in
    (omega arith, sym same, omega arith)
told_on false t n w h few e =
    let same : w % 64 ≡ t = ap (λ (x : ℕ). x % 64) e ∙ mod-eq_of_lt (omega arith) in
    (omega arith, sym same, omega arith)

told_of : (n w : ℕ) → n ≤ 64 → (ts : List Table) → length ts ≡ n → (ls : List books.Literal) (k : ℕ) (found : Option held.SelectedSubgoal)
    → w ≡ waits_for ls found → Selects ts k found → Told n w found
told_of n w few ts size ls k none e a = omega arith
told_of n w few ts size ls k (some j) e a =
    let made : j.subgoal_table < n = omega (arith, place_under ts j.subgoal_table a.table a.is_made) in
    told_on (is_not (get_elem? ls j.subgoal_index)) j.subgoal_table n w made few
    (e ∙ ap (λ (b : Bool). waits_on b (is_not (get_elem? ls j.subgoal_index)) j.subgoal_table)
    (lt-ltb j.subgoal_table 64 (omega arith)))

-- what holds of all that a list of places shows holds at each of them
all_shown : {A : Type 0} (P : A → Type 0) (f : ℕ → A) (l : List ℕ) (q : ℕ) → All P (map f l) → 1 ≤ times q l → P (f q)
all_shown P f [] q a k = absurd (omega arith)
all_shown P f (x ∷ l) q a k =
    times_cases q x l k (P (f q)) (λ e. subst (λ (y : ℕ). P (f y)) (sym e) (all_first a)) (λ j. all_shown P f l q (all_rest a) j)

module _ (root index first : ℕ) (z : Stores) (o : SoundStores root index first z) (n : ℕ) (d : z.stack.depth ≡ suc n) where
  abbrev fresh : FirstStrands
  fresh = first_strands z.book

  abbrev count : ℕ
  count = z.tables.count

  abbrev waits : List ℕ
  waits = z.strands.waits

  abbrev was : Places
  was = z.strands.places

  abbrev tb : List ℕ
  tb = z.stack.table

  abbrev ac : List ℕ
  ac = z.stack.active

  -- THE QUEUES and what the numbers beside their strands tell
  module _ (t q : ℕ) (h : t < z.tables.count) (k : 1 ≤ times q (ring z.strands.places t)) where
    abbrev x : Strand
    x = get_or z.strands.strands q unread_strand

    abbrev shown_by : (unwritten : Bool) → held.Strand
    shown_by unwritten =
        strand_by unwritten (get_or z.strands.time q 0) (fresh (get_or z.strands.wants q 0)) x

    sound_there : SoundStrand z.book.goals (forest z).tables (strand_at fresh z.strands q)
    sound_there =
        let table = all_at t (searching root index first z o n d).forest.sound_tables (table_found root index first z o t h) in
        all_shown (SoundStrand z.book.goals (forest z).tables) (strand_at fresh z.strands) (ring was t) q table.sound_strands k

    told_by : (unwritten : Bool) → is_fresh z.strands q ≡ unwritten → Selects (forest z).tables
        (length (shown_by unwritten).ex_clause.subgoals) (shown_by unwritten).selected_subgoal
        → Told z.tables.count (get_or waits q 0) (shown_by unwritten).selected_subgoal
    told_by true e a = omega (arith, eqb-true (get_or waits q 0) 254 e)
    told_by false e a =
        told_of count (get_or waits q 0) (few_made root index first z o) (forest z).tables (counted root index first z o)
        (clause x).subgoals (length (clause x).subgoals) (selected x.selected)
        ((o.strands.queued t q h k).is_written e).is_waits a

    told_there : Told z.tables.count (get_or z.strands.waits q 0)
        (strand_at (first_strands z.book) z.strands q).selected_subgoal
    told_there = told_by (is_fresh z.strands q) refl sound_there.1

  shows : Shows z.strands.waits (strand_at (first_strands z.book) z.strands) z.tables.count z.strands.places
      (table_held z)
  shows = record { queues = λ t. refl; told = λ t q h k. told_there t q h k }

  -- WHAT IS LEFT where these tables have lost their queues
  module _ (gone : List TableIndex) (p : Places) (e : Emptied z.tables.count (held_places z) z.strands.places gone p) where
    abbrev s : Strands
    s = with_places z.strands p

    still_queued : (t q : ℕ) → t < count → 1 ≤ times q (ring p t) → 1 ≤ times q (ring was t)
    still_queued t q h k = by_test (any_passes (eqb t) gone) (e.left t h)
      where
        by_test : (b : Bool) → ring p t ≡ queue_unless b (ring was t) → 1 ≤ times q (ring was t)
        by_test true is = absurd (omega (arith, k, ap (times q) is))
        by_test false is = omega (arith, k, ap (times q) is)

    emptied_strands : SoundStrands (first_strands z.book) (with_places z.strands p) z.tables.count (held_places z)
    emptied_strands = record {
      places = e.sound;
      long = o.strands.long;
      queued = λ t q h k. o.strands.queued t q h (still_queued t q h k);
      in_hand = o.strands.in_hand;
    }

    emptied_forest : forest (with_strands (with_places z.strands p) z) ≡ splits.emptied gone (forest z)
    emptied_forest =
        sym (emptied_view (table_held z) count (forest z) refl waits (strand_at fresh z.strands) was shows (held_places z) gone p e)

    -- and the search is over
    module _ (idle_top : get_or z.stack.active n 0 ≡ 256) where
      abbrev fine : Sounds [] z
      fine = sounds_of root index first z o n d

      below : within (z.stack.depth - 1) ≡ n
      below = below_is z n d fine idle_top

      unwound : Back z fine.made o.stack.places n s
      unwound =
          unwinds z fine.made o.stack.places n (omega arith) s
          (subst (SoundStrands fresh s count) (popped_off z n d fine idle_top) emptied_strands)

      abbrev over_by : (m : ℕ) → Stores
      over_by m = over_with root index first z o n d (all_back tb ac m p)

      out_sound : Sounds [] (over_by (within (z.stack.depth - 1)))
      out_sound =
          subst (λ (m : ℕ). Sounds [] (over_by m)) (sym below) (over_sound root index first z o n d (all_back tb ac n p) unwound.sound)

      abbrev without_queues : SolveState → SolveState
      without_queues y = logic.with_forest y (splits.emptied gone y.forest)

      out_view : state (over_by (within (z.stack.depth - 1))) ≡ splits.gone (without_queues (state z))
      out_view =
          ap (λ (m : ℕ). state (over_by m)) below
          ∙ ap (λ (f : Forest). record { forest = f; stack = [] })
          (unwound.view ∙ ap₂ splits.callers_unwound emptied_forest (entries_moved z p n))
          ∙ sym (ap (λ (y : SolveState). splits.gone (without_queues y)) (state_is z n d))

  -- WHAT CLEARING COMES TO: c is what it leaves, and r what the split decides
  abbrev after_by : (met : Bool) → Cleared → Stores
  after_by met c = with_lent (lent_of z.tables
      (with_places z.strands (cleared_by met tb ac z.stack.depth was (rings_in was.top c))) z.answers
      (with_depth z.stack (clearing_depth met z.stack.depth)) z.clock) z

  record Came (met : Bool) (c : Cleared) (r : Stops (List TableIndex)) : Type 0 where
    does : flows (clearing_flow met) (state (after_by met c))
        ≡ (r >>= (λ gone. go (splits.clears gone)) >>= λ act. go (splits.perform act (state z)))
    undone : (k : ℕ) → clearing_flow met ≡ ways.Stop k → state (after_by met c) ≡ state z
    sound : Sounds [] (after_by met c)

  module _ (idle_top : get_or z.stack.active n 0 ≡ 256) where
    came : (c : Cleared) (r : Stops (List TableIndex)) → Clears z.tables.count (held_places z) z.strands.places c r
        → Came c.met_29 c r
    came c (stop k) e =
        subst (λ (b : Bool). Came b c (stop k)) (sym e.1) (record {
          does = ap stop (sym e.0);
          undone = λ i is. refl;
          sound = sounds_of root index first z o n d;
        })
    came c (go gone) e =
        subst (λ (b : Bool). Came b c (go gone)) (sym e.0) (record {
          does = ap (λ (y : SolveState). go (logic.return_err logic.QuantumExceeded y))
              (out_view gone (rings_in was.top c) e.1 idle_top);
          undone = λ i is. no_stop (clearing_flow false) i refl is;
          sound = out_sound gone (rings_in was.top c) e.1 idle_top;
        })

    abbrev cleared_at : (t : ℕ) → Cleared
    cleared_at t = clearing waits t was

    abbrev decided_at : (t : ℕ) → Stops (List TableIndex)
    decided_at t =
        decide_clear (forest z) (suc (queued (forest z) - length (table_of (forest z) t).strands)) (table_of (forest z) t).strands
        (t ∷ [])

    came_there : Came (cleared_at (get_or tb n 0)).met_29 (cleared_at (get_or tb n 0)) (decided_at (get_or tb n 0))
    came_there =
        came (cleared_at (get_or tb n 0)) (decided_at (get_or tb n 0))
        (clear_decides waits (strand_at fresh z.strands) count (held_places z) was.top
        (cleared false was.next was.tail was.len) (table_held z) (forest z) refl shows o.strands.places refl
        (get_or tb n 0) (table_made root index first z o n d))

    came_here : Came (cleared_at (top z).table).met_29 (cleared_at (top z).table) (decided_at (top z).table)
    came_here =
        subst (λ (t : ℕ). Came (cleared_at t).met_29 (cleared_at t) (decided_at t)) (sym (top_table_is root index first z o n d))
        came_there

  pub clear_performs : idle z ≡ idles.Clears → Performs z
  clear_performs is =
      let r = came_here (no_strand root index first z o n d idles.Clears is refl) in
      read_back z idles.Clears is refl (hand_was z (read_place z)) r.does r.undone r.sound

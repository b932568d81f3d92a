-- What is done where the top has no strand to go on with, for sound stores, is `decide_idle` of crate `small_steps`: the number beside the
-- caller's strand tells the sign of the literal that it waits on.
use Prim.Native.Nat.{ℕ, zero, suc, ◌+◌, ◌-◌, ◌≤◌, ◌<◌}
use native.Mathlib.Omega.{arith}
use mathlib.Core.Bool.{Bool, true, false, ◌&&◌, true≢false}
use mathlib.Core.List.{List, [], ◌∷◌, map}
use mathlib.Core.Option.{Option, none, some}
use mathlib.Core.Path.{◌≡◌, refl, sym, ap, ap₂, subst, ◌∙◌}
use lib.Dec.{eqb, leb, ltb}
use lib.ListN.{length, get_or, get_elem?}
use borrow.Author.Tests.{lt-ltb, le-ltb, ltb-true, ltb-false, le-leb, lt-leb, eq-eqb, ne_eqb}
use Rattle.definitions.specs as said_numbers
use Rattle.definitions.specs.{TimeStamp, MAX, is_complete}
use Rattle.definitions.specs.Book as books
use Rattle.definitions.specs.Lists.{is_empty}
use Rattle.definitions.specs.Stack as said
use Rattle.definitions.specs.Stop.{Stops, go}
use Rattle.definitions.specs.Strand as held
use Rattle.definitions.specs.Table.{Table}
use Rattle.definitions.specs.Tables.{Forest}
use Rattle.asserts.specs.Sound.{SoundStrand, Awaits, Selects, Calls, Below}
use Rattle.laws.proofs.Lists.{at_place, place_under}
use Rattle.laws.proofs.Options.{no_such, same_some}
use Rattle.small_steps.specs.Acts as acts
use Rattle.small_steps.specs.Acts.{Act}
use Rattle.small_steps.specs.Decide.{or, no_literal, no_strand, no_selected, table_of, caller_strand, selected_literal}
use Rattle.small_steps.specs.Decide.{decide_failed, decide_no_strands, decide_part_of_cycle, decide_idle}
use Rattle.strands.specs.declared.Strand.{Strand}
use Rattle.strands.specs.View.{is_negative}
use Rattle.stores.specs.Numbers.{flag}
use Rattle.stores.specs.Places.{ring}
use Rattle.stores.specs.Queue.{is_not, waits_on, waits_for}
use Rattle.stores.specs.View.{FirstStrands, strand_by, strand_at, active_strand_at, is_fresh, unread_strand}
use Rattle.stores.proofs.PlacesViews.{length_ring}
use Rattle.stores.proofs.StackCallers.{caller_place_is, active_held}
use Rattle.control.specs.declared.ensure_root_answer.Top.{Top}
use Rattle.control.specs.declared.on_no_strands_left.Idle.{Idle}
use Rattle.control.specs.declared.on_no_strands_left.Idle.TheVariants as idles
use Rattle.control.specs.OnNoStrandsLeft.{waits_on_not_by, waits_on_not, caller_by, caller_waits_on_not, no_strands_by, no_strands}
use Rattle.control.specs.OnNoStrandsLeft.{minimum_at, part_by, part_of_cycle, head_by, cycle_by, cycle, left_by, no_strands_left}
use Rattle.control.specs.Stores.{Stores, first_strands, forest, entries_of, SoundStores}
use Rattle.control.specs.TurnReads.{top, not_proved, with_caller, clearing, act_means}
use Rattle.control.proofs.EnsureRootAnswer.{top_read, top_is}
use Rattle.control.proofs.OnNoStrandsLeftCases.{minimum_some}
use Rattle.control.proofs.Stores.{below_next, top_entry, entries_below, table_held, few_made, counted, table_still, mode_flag}
use Rattle.control.proofs.Stores.{table_made, stack_is, searching}

-- a mapped list is empty where the list is
empty_is : {A : Type 0} (f : ℕ → A) (l : List ℕ) → eqb (length l) 0 ≡ is_empty (map f l)
empty_is f [] = refl
empty_is f (x ∷ l) = ne_eqb (suc (length l)) 0 (λ e. omega arith)

-- the number of a table that can be tells its sign
sign_told : (negative : Bool) (t : ℕ) → t < 64 → waits_on_not (waits_on true negative t) ≡ negative
sign_told true t h =
    ap (λ (b : Bool). waits_on_not_by b (t + 64)) (le-ltb (t + 64) 64 (omega arith)) ∙ lt-ltb (t + 64) 128 (omega arith)
sign_told false t h = ap (λ (b : Bool). waits_on_not_by b t) (lt-ltb t 64 h)

sign_is : (found : Option books.Literal) (l : books.Literal) → found ≡ some l → is_not found ≡ is_negative (or no_literal found)
sign_is none l e = absurd (no_such e)
sign_is (some l) m e = refl

pub under : (q : ℕ) → q ≤ 256 → (q ≡ 256 → ⊥) → q < 256
under q h n = below_next q 256 (omega arith) n

module _ (root index first : ℕ) (z : Stores) (o : SoundStores root index first z) (n : ℕ) (d : z.stack.depth ≡ suc n) where
  abbrev fresh : FirstStrands
  fresh = first_strands z.book

  abbrev f : Forest
  f = forest z

  abbrev t : ℕ
  t = (top_entry z n).table

  made : t < z.tables.count
  made = table_made root index first z o n d

  abbrev stack_read : said.Stack
  stack_read = top_entry z n ∷ entries_below z n

  -- with the table of any top
  abbrev means_at : (t : ℕ) → Idle → Stops Act
  means_at u idles.Nothing = act_means z idles.Nothing
  means_at u idles.Finishes = act_means z idles.Finishes
  means_at u idles.CallerFailed = act_means z idles.CallerFailed
  means_at u idles.CallerProved = act_means z idles.CallerProved
  means_at u idles.ChangesMode = act_means z idles.ChangesMode
  means_at u idles.NegativeCycle = act_means z idles.NegativeCycle
  means_at u idles.Clears = clearing z u
  means_at u idles.PartOfCycle = act_means z idles.PartOfCycle

  -- THE CALLER, at height m: its strand, which has selected a literal, is written
  module _ (m : ℕ) (below : n ≡ suc m) where
    abbrev caller : said.StackEntry
    caller = top_entry z m

    abbrev q : ℕ
    q = get_or z.stack.active m 0

    abbrev shown : held.Strand
    shown = strand_at fresh z.strands q

    pub calls : Calls z.book.goals f.tables t (active_strand_at fresh z.strands q)
    calls =
        (subst (λ (i : ℕ). Below z.book.goals f.tables root first t (top_entry z n).clock (entries_below z i)) below
        (searching root index first z o n d).below
        ).1

    abbrev active_by : (none_active : Bool) → Option held.Strand
    active_by none_active = elim none_active [ true ↦ none | false ↦ some shown ]

    pub is_there : q ≡ 256 → ⊥
    is_there e = no_such (sym (ap active_by (eq-eqb q 256 e)) ∙ calls.is_active)

    pub active_is : active_strand_at fresh z.strands q ≡ some shown
    active_is = ap active_by (ne_eqb q 256 is_there)

    pub strand_is : calls.strand ≡ shown
    strand_is = same_some (sym calls.is_active ∙ active_is)

    abbrev literals : List books.Literal
    literals = shown.ex_clause.subgoals

    pub selected_is : shown.selected_subgoal ≡ some calls.selected
    selected_is = ap (λ (x : held.Strand). x.selected_subgoal) (sym strand_is) ∙ calls.is_selected

    pub awaits : Awaits f.tables (length literals) calls.selected
    awaits =
        subst (Selects f.tables (length literals)) selected_is
        (subst (SoundStrand z.book.goals f.tables) strand_is calls.sound).1

    abbrev w : ℕ
    w = get_or z.strands.waits q 0

    abbrev shown_by : (unwritten : Bool) → held.Strand
    shown_by unwritten =
        strand_by unwritten (get_or z.strands.time q 0) (fresh (get_or z.strands.wants q 0))
        (get_or z.strands.strands q unread_strand)

    -- the sign of what it waits on is that of the literal that it has selected
    sign_beside : (unwritten : Bool) → is_fresh z.strands q ≡ unwritten → waits_on_not w ≡ is_negative (selected_literal shown)
    sign_beside true e = absurd (no_such (sym (ap (λ (b : Bool). (shown_by b).selected_subgoal) e) ∙ selected_is))
    sign_beside false e =
        let x : Strand = get_or z.strands.strands q unread_strand in
        let k : held.SelectedSubgoal = calls.selected in
        let own = o.strands.in_hand q (active_held z.stack.active z.stack.depth m (omega arith) is_there) in
        let there = at_place literals k.subgoal_index awaits.at_literal in
        let known : k.subgoal_table < 64 =
        omega (
          arith,
          place_under f.tables k.subgoal_table awaits.table awaits.is_made,
          counted root index first z o,
          few_made root index first z o,
        ) in
        ap waits_on_not
        ((own.is_written e).is_waits
        ∙ sym (ap (λ (b : Bool). waits_for (shown_by b).ex_clause.subgoals (shown_by b).selected_subgoal) e)
        ∙ ap (waits_for literals) selected_is
        ∙ ap (λ (b : Bool). waits_on b (is_not (get_elem? literals k.subgoal_index)) k.subgoal_table)
        (lt-ltb k.subgoal_table 64 known))
        ∙ sign_told (is_not (get_elem? literals k.subgoal_index)) k.subgoal_table known
        ∙ sign_is (get_elem? literals k.subgoal_index) there.0 there.1
        ∙ ap (λ (j : Option held.SelectedSubgoal). is_negative (or no_literal (get_elem? literals (or no_selected j).subgoal_index)))
        (sym selected_is)

    pub sign_of_caller : caller_waits_on_not z.strands.waits z.stack.active z.stack.depth ≡ is_negative (selected_literal shown)
    sign_of_caller =
        let back : z.stack.depth - 2 ≡ m = omega arith in
        let few = o.stack.places m (omega arith) in
        ap (λ (p : ℕ). caller_by (ltb p 256) (get_or z.strands.waits p 0))
        (caller_place_is fresh z.stack z.strands o.stack (omega arith) ∙ ap (λ (i : ℕ). get_or z.stack.active i 0) back)
        ∙ ap (λ (b : Bool). caller_by b w) (lt-ltb q 256 (under q few is_there))
        ∙ sign_beside (is_fresh z.strands q) refl

    caller_is : caller_strand caller ≡ shown
    caller_is = ap (or no_strand) active_is

    -- what the caller's strand is for
    pub for_caller : (act : held.Strand → Act) → with_caller act (entries_of z) ≡ act shown
    for_caller act =
        ap (with_caller act) (stack_is root index first z o n d ∙ ap (λ (i : ℕ). top_entry z n ∷ entries_below z i) below)
        ∙ ap act caller_is

    failed_by : (l : books.Literal) (b : Bool) → b ≡ is_negative l → means_at t (no_strands_by false b) ≡ go (decide_failed shown l)
    failed_by (books.Positive goal want outsized) true e = absurd (true≢false e)
    failed_by (books.Positive goal want outsized) false e = refl
    failed_by (books.Negative goal outsized) true e = ap go (for_caller (λ s. acts.caller_proved (not_proved s)))
    failed_by (books.Negative goal outsized) false e = absurd (true≢false (sym e))

    caller_failed : means_at t (no_strands z.strands.waits z.stack.active z.stack.depth) ≡ go (decide_no_strands stack_read)
    caller_failed =
        ap
        (λ (b : Bool). means_at t (no_strands_by b (caller_waits_on_not z.strands.waits z.stack.active z.stack.depth)))
        (le-ltb z.stack.depth 2 (omega arith))
        ∙ failed_by (selected_literal shown) (caller_waits_on_not z.strands.waits z.stack.active z.stack.depth) sign_of_caller
        ∙ ap (λ (s : held.Strand). go (decide_failed s (selected_literal s))) (sym caller_is)
        ∙ ap (λ (i : ℕ). go (decide_no_strands (top_entry z n ∷ entries_below z i))) (sym below)

    caller_waits : means_at t (part_of_cycle z.stack.depth) ≡ go (decide_part_of_cycle stack_read)
    caller_waits =
        ap (λ (b : Bool). means_at t (part_by b)) (le-ltb z.stack.depth 2 (omega arith))
        ∙ ap go (for_caller (λ s. acts.part_of_cycle s (selected_literal s)))
        ∙ ap (λ (s : held.Strand). go (acts.part_of_cycle s (selected_literal s))) (sym caller_is)
        ∙ ap (λ (i : ℕ). go (decide_part_of_cycle (top_entry z n ∷ entries_below z i))) (sym below)

  -- THE QUEUE IS EMPTY, and the top is part of a cycle: at the root, or with a caller
  no_strand_decides : (i : ℕ) → n ≡ i
      → means_at t (no_strands z.strands.waits z.stack.active z.stack.depth) ≡ go (decide_no_strands stack_read)
  no_strand_decides zero e =
      ap
      (λ (b : Bool). means_at t (no_strands_by b (caller_waits_on_not z.strands.waits z.stack.active z.stack.depth)))
      (lt-ltb z.stack.depth 2 (omega arith))
      ∙ ap (λ (j : ℕ). go (decide_no_strands (top_entry z n ∷ entries_below z j))) (sym e)
  no_strand_decides (suc m) e = caller_failed m e

  part_decides : (i : ℕ) → n ≡ i → means_at t (part_of_cycle z.stack.depth) ≡ go (decide_part_of_cycle stack_read)
  part_decides zero e =
      ap (λ (b : Bool). means_at t (part_by b)) (lt-ltb z.stack.depth 2 (omega arith))
      ∙ ap (λ (j : ℕ). go (decide_part_of_cycle (top_entry z n ∷ entries_below z j))) (sym e)
  part_decides (suc m) e = caller_waits m e

  -- A CYCLE: the minimums against the clock
  abbrev clock : TimeStamp
  clock = (top_entry z n).clock

  abbrev least : said_numbers.Minimums
  least = (top_entry z n).cyclic_minimums

  abbrev head_decided : (negative : Bool) → Stops Act
  head_decided negative = elim negative [ true ↦ go acts.negative_cycle | false ↦ clearing z t ]

  head_decides : (b : Bool) → means_at t (head_by b) ≡ head_decided b
  head_decides true = refl
  head_decides false = refl

  abbrev cycle_decided : (own : Bool) → Stops Act
  cycle_decided own = elim own [ true ↦ head_decided (ltb least.negative MAX) | false ↦ go (decide_part_of_cycle stack_read) ]

  cycle_decides : (p q : Bool) → ltb least.positive clock ≡ p → ltb least.negative clock ≡ q
      → means_at t (cycle_by p q least.negative z.stack.depth)
      ≡ cycle_decided (leb clock least.positive && leb clock least.negative)
  cycle_decides true q e e' =
      part_decides n refl
      ∙ sym
      (ap (λ (b : Bool). cycle_decided (b && leb clock least.negative))
      (lt-leb clock least.positive (ltb-true least.positive clock e)))
  cycle_decides false true e e' =
      part_decides n refl
      ∙ sym
      (ap₂ (λ (b c : Bool). cycle_decided (b && c)) (le-leb clock least.positive (ltb-false least.positive clock e))
      (lt-leb clock least.negative (ltb-true least.negative clock e')))
  cycle_decides false false e e' =
      head_decides (ltb least.negative MAX)
      ∙ sym
      (ap₂ (λ (b c : Bool). cycle_decided (b && c)) (le-leb clock least.positive (ltb-false least.positive clock e))
      (le-leb clock least.negative (ltb-false least.negative clock e')))

  pub minimum_is : (l : List ℕ) → minimum_at l z.stack.depth ≡ get_or l n 0
  minimum_is l =
      let last : z.stack.depth - 1 ≡ n = omega arith in
      sym (minimum_some l z.stack.depth (λ e. omega arith) o.stack.few) ∙ ap (λ (i : ℕ). get_or l i 0) last

  -- THE WHOLE, by the queue and the mode
  abbrev complete : Bool
  complete = flag (get_or z.tables.complete t 0)

  abbrev mode_decided : (wants_complete : Bool) → Stops Act
  mode_decided wants_complete = elim wants_complete [
    | true ↦ go acts.changes_mode
    | false ↦ cycle_decided (leb clock least.positive && leb clock least.negative)
  ]

  abbrev queue_decided : (empty wants_complete : Bool) → Stops Act
  queue_decided empty wants_complete = elim empty [ true ↦ go (decide_no_strands stack_read) | false ↦ mode_decided wants_complete ]

  abbrev left : (empty wants_complete : Bool) → Idle
  left empty wants_complete =
      left_by z.strands.places.len z.strands.waits z.stack.positive z.stack.negative z.stack.active empty
      wants_complete (top_read root index first z o n d)

  left_decides : (empty wants_complete : Bool) → means_at t (left empty wants_complete) ≡ queue_decided empty wants_complete
  left_decides true wants_complete = no_strand_decides n refl
  left_decides false true = refl
  left_decides false false =
      ap₂ (λ (p q : TimeStamp). means_at t (cycle clock p q z.stack.depth)) (minimum_is z.stack.positive)
      (minimum_is z.stack.negative)
      ∙ cycle_decides (ltb least.positive clock) (ltb least.negative clock) refl refl

  empty_queue : eqb (get_or z.strands.places.len t 0) 0 ≡ is_empty (table_held z t).strands
  empty_queue =
      ap (λ (i : ℕ). eqb i 0) (sym (length_ring z.strands.places t))
      ∙ empty_is (strand_at fresh z.strands) (ring z.strands.places t)

  means_is : (k : Idle) → act_means z k ≡ means_at (top z).table k
  means_is idles.Nothing = refl
  means_is idles.Finishes = refl
  means_is idles.CallerFailed = refl
  means_is idles.CallerProved = refl
  means_is idles.ChangesMode = refl
  means_is idles.NegativeCycle = refl
  means_is idles.Clears = refl
  means_is idles.PartOfCycle = refl

  abbrev left_under : Top → Idle
  left_under x =
      no_strands_left z.strands.places.len z.strands.waits z.stack.positive z.stack.negative z.stack.active x

  pub idle_decides : act_means z (left_under (top z))
      ≡ decide_idle (record { forest = f; stack = stack_read }) (top_entry z n) (table_of f t)
  idle_decides =
      let here : table_held z t ≡ table_of f t = sym (table_still root index first z o t made []) in
      means_is (left_under (top z))
      ∙ ap (λ (x : Top). means_at x.table (left_under x)) (top_is root index first z o n d)
      ∙ left_decides (eqb (get_or z.strands.places.len t 0) 0) complete
      ∙ ap₂ queue_decided (empty_queue ∙ ap (λ (u : Table). is_empty u.strands) here)
      (sym (mode_flag root index first z o t made) ∙ ap (λ (u : Table). is_complete u.answer_mode) here)

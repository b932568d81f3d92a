-- What a deed needs is there, for sound stores: what is decided for a strand is told by what the turn saw, and a table is pushed only where
-- it isn't on the stack, so that the stack has room for it.
use Prim.Native.Nat.{ℕ, zero, suc, ◌+◌, ◌≤◌, ◌<◌}
use native.Mathlib.Omega.{arith}
use mathlib.Core.Bool.{Bool, true, false, not, ◌&&◌, true≢false}
use mathlib.Core.List.{List, [], ◌∷◌, map}
use mathlib.Core.Path.{◌≡◌, refl, sym, ap, subst, ◌∙◌}
use lib.Dec.{eqb, leb, ltb}
use lib.ListN.{length, get_or}
use borrow.Author.Tests.{leb-true, leb-false, ltb-true, ltb-false, eqb-true, eqb-false, ne_eqb}
use Rattle.std.specs.Prelude.{Option, Some, None}
use Rattle.definitions.specs.{MAX}
use Rattle.definitions.specs.Fitting.{answer_fits, is_trivial}
use Rattle.definitions.specs.Lists.{is_empty}
use Rattle.definitions.specs.Stack as said
use Rattle.definitions.specs.Tables.{Tables}
use Rattle.asserts.specs.Sound.{Below, Off}
use Rattle.laws.proofs.All.{all_first, all_rest}
use Rattle.rings.specs.Lists.{one, times}
use Rattle.rings.proofs.Counts.{is_or_not, times_self, pigeons}
use Rattle.book.specs.View.{meant}
use Rattle.book.specs.declared.Literal.{Literal}
use Rattle.strands.specs.declared.Answer.{Answer}
use Rattle.strands.specs.declared.Selected.{Selected}
use Rattle.strands.specs.declared.Strand.{Strand}
use Rattle.strands.specs.Answers.{answer_of}
use Rattle.strands.specs.Fields.{with_selected, with_ambiguous, next_of}
use Rattle.strands.specs.Floundering.{flounder}
use Rattle.strands.specs.Literals.{last_removed}
use Rattle.strands.specs.Merging.{take_answer}
use Rattle.strands.specs.View.{clause, is_negative}
use Rattle.stores.specs.declared.places.Places.{Places}
use Rattle.stores.specs.declared.queue.Strands.{Strands}
use Rattle.stores.specs.declared.stack.Stack.{Stack}
use Rattle.stores.specs.Numbers.{within, first_at}
use Rattle.stores.specs.Places.{free_place}
use Rattle.stores.specs.Tables.{table_goal_at}
use Rattle.stores.specs.View.{FirstStrands, unread_answer, entries}
use Rattle.stores.proofs.NumbersSearch.{choose, first_bound, first_more}
use Rattle.stores.proofs.PlacesCases.{freed_room}
use Rattle.stores.proofs.PlacesViews.{in_use_is}
use Rattle.control.specs.declared.choose.Chosen.{Chosen}
use Rattle.control.specs.declared.choose.Sight.TheVariants as sights
use Rattle.control.specs.declared.choose.Sight.{Sight}
use Rattle.control.specs.declared.decision.Decision.{Decision}
use Rattle.control.specs.declared.decision.Deed.{Deed}
use Rattle.control.specs.declared.decision.Deed.TheVariants.{Stop, GoesOn, GivesUp, Cycles, Pushes, Requeues, Flounders, Answers}
use Rattle.control.specs.declared.ensure_root_answer.Top.{Top}
use Rattle.control.specs.declared.on_subgoal_selected.Look.TheVariants as looks
use Rattle.control.specs.declared.on_subgoal_selected.Look.{Look}
use Rattle.control.specs.declared.select_subgoal.Choice.{Choice}
use Rattle.control.specs.declared.select_subgoal.Selection.TheVariants as selection
use Rattle.control.specs.declared.select_subgoal.Selection.{Selection}
use Rattle.control.specs.Choose.{on_stack_by, on_stack, look_by, height_of, coinductive_from, answer_place, same_by, same_at}
use Rattle.control.specs.Choose.{sight_for, sight_of, decide_by}
use Rattle.control.specs.CreateRefinementStrand.{gives_answer}
use Rattle.control.specs.Decision.{decided}
use Rattle.control.specs.OnNoRemainingSubgoals.{outsized, answer_again_by, answer_anew_by, pursue_by, no_remaining_by, no_remaining}
use Rattle.control.specs.OnSubgoalSelected.{deselected, merge_not_by, merge_into_by, merge_into, merge_positive_by, merge_literal_by}
use Rattle.control.specs.OnSubgoalSelected.{merge_answer_by, coinductive_by, goal_delayed, push_table, selected_deed}
use Rattle.control.specs.TurnWrites.{chosen}
use Rattle.control.specs.SelectSubgoal as selecting
use Rattle.control.specs.SelectSubgoal.{Outcome, Ended}
use Rattle.control.specs.Stores.{Stores, first_strands, in_use, forest, entries_of, SoundStores}
use Rattle.control.specs.TurnReads.{top, next, hand_at, chosen_for, decided_for, origin}
use Rattle.control.proofs.ChooseDecides.{sound_forest, choice, choice_known}
use Rattle.control.proofs.EffectBegun.{began, read_is, begun_count, begun_room}
use Rattle.control.proofs.EffectDecision.{may_copy, Able}
use Rattle.control.proofs.EnsureRootAnswer.{top_is, known, in_hand_sound, in_hand_kept}
use Rattle.control.proofs.SelectRoom.{room_for_noted}
use Rattle.control.proofs.Stores.{top_entry, entries_below, counted, stack_is, searching, entries_made}

-- WHAT WAS SEEN is told of a stack of this depth and so many tables, with those to be made
module _ (depth count : ℕ) where
  abbrev LookFits : Look → Type 0
  LookFits (looks.Answer place) = Unit {0}
  LookFits looks.Coinductive = Unit {0}
  LookFits (looks.Cycle height) = height < depth
  LookFits (looks.Push table) = (table < count) × (depth < 64)

  abbrev SightFits : Sight → Type 0
  SightFits sights.Nothing = Unit {0}
  SightFits (sights.Looks look) = LookFits look
  SightFits (sights.Same place) = Unit {0}
  SightFits sights.Fresh = Unit {0}

-- WHAT A DEED ASKS of a stack of this depth, so many tables with those to be made, the clock and the places of the answers
module _ (depth count clock : ℕ) (p : Places) where
  abbrev Asks : Deed → Type 0
  Asks (Stop n) = Unit {0}
  Asks GoesOn = Unit {0}
  Asks GivesUp = Unit {0}
  Asks (Cycles height) = height < depth
  Asks (Pushes table) = (table < count) × (depth < 64) × (clock < MAX)
  Asks Requeues = Unit {0}
  Asks Flounders = Unit {0}
  Asks (Answers empties) = free_place p < 256

  -- and what a decision keeps to, with the answer a that was read
  record Suits (a : Answer) (d : Decision) : Type 0 where
    alone : may_copy d.deed ≡ false → d.copies ≡ false
    same : gives_answer d.deed ≡ false → d.answer ≡ a
    asks : Asks d.deed

  -- THE DECISIONS about the strand s, with the answer a that was read
  module _ (s : Strand) (a : Answer) where
    plain : (deed : Deed) (t u : Strand) → Asks deed → Suits a (decided deed false t u a)
    plain deed t u h = record { alone = λ e. refl; same = λ e. refl; asks = h }

    not_suits : (delays ambiguous : Bool) → Suits a (merge_not_by delays ambiguous s a)
    not_suits true ambiguous = plain (Stop 27) s s tt
    not_suits false true =
        let t : Strand = with_ambiguous (last_removed (deselected s)) true in
        plain GoesOn t t tt
    not_suits false false = plain GivesUp s s tt

    into_suits_by : (fits : Bool) (d : Option Strand) (copies : Bool) (copy : Strand) → Suits a (merge_into_by fits d s a copies copy)
    into_suits_by true None copies copy = plain (Stop 24) s s tt
    into_suits_by true (Some t) copies copy = record { alone = λ e. absurd (true≢false e); same = λ e. refl; asks = tt }
    into_suits_by false d copies copy = record { alone = λ e. absurd (true≢false e); same = λ e. refl; asks = tt }

    into_suits : (l : Literal) (copies : Bool) (copy : Strand) → Suits a (merge_into s a l copies copy)
    into_suits l copies copy = into_suits_by (answer_fits (meant l) a.variant) (take_answer a (deselected s)) copies copy

    positive_suits : (trivial full : Bool) (l : Literal) → Suits a (merge_positive_by trivial full s a l)
    positive_suits true full l = into_suits l false s
    positive_suits false true l = plain (Stop 22) s s tt
    positive_suits false false l = into_suits l true (with_selected s (next_of s.selected))

    literal_suits : (negative : Bool) (live : ℕ) → Suits a (merge_literal_by negative s a live)
    literal_suits true live = not_suits (not (eqb a.delayed_count 0)) a.ambiguous
    literal_suits false live = positive_suits (is_trivial a.variant) (leb 256 live) (selecting.chosen s)

    merge_suits : (unwanted : Bool) (live : ℕ) → Suits a (merge_answer_by unwanted s a live)
    merge_suits true live = plain GoesOn (flounder (deselected s)) (flounder (deselected s)) tt
    merge_suits false live = literal_suits (is_negative (meant (selecting.chosen s))) live

    coinductive_suits : (negative : Bool) (d : Option Strand) → Suits a (coinductive_by negative d s a)
    coinductive_suits true d = plain (Stop 28) s s tt
    coinductive_suits false None = plain (Stop 24) s s tt
    coinductive_suits false (Some t) = plain GoesOn t t tt

    push_suits : (late : Bool) → (late ≡ false → clock < MAX) → (table : ℕ) → table < count → depth < 64
        → Suits a (push_table late table s a)
    push_suits true in_time table made room = plain (Stop 21) s s tt
    push_suits false in_time table made room = plain (Pushes table) s s (made, room, in_time refl)

    selected_suits : (look : Look) → LookFits depth count look → (complete : Bool) (live : ℕ) (late : Bool) → (late ≡ false → clock < MAX)
        → Suits a (selected_deed look s a complete live late)
    selected_suits (looks.Answer place) h complete live late in_time = merge_suits (complete && a.ambiguous) live
    selected_suits looks.Coinductive h complete live late in_time =
        coinductive_suits (is_negative (meant (selecting.chosen s))) (goal_delayed s)
    selected_suits (looks.Cycle height) h complete live late in_time = plain (Cycles height) s s h
    selected_suits (looks.Push table) h complete live late in_time = push_suits late in_time table h.0 h.1

    -- with no literal left: x is the answer that is given, and so many are held
    again_suits : (ambiguous was_ambiguous : Bool) → Suits a (answer_again_by ambiguous was_ambiguous s a)
    again_suits true was_ambiguous = plain GivesUp s s tt
    again_suits false true = plain (Stop 26) s s tt
    again_suits false false = plain GivesUp s s tt

    module _ (x : Answer) (held : ℕ) (fits : leb 256 held ≡ false → free_place p < 256) where
      anew_suits : (full : Bool) → leb 256 held ≡ full → Suits a (answer_anew_by full s a x)
      anew_suits true e = plain (Stop 23) s s tt
      anew_suits false e = record { alone = λ q. refl; same = λ q. absurd (true≢false q); asks = fits e }

      pursue_suits : (none_left large is_new : Bool) → Suits a (pursue_by none_left large is_new s a x held)
      pursue_suits false large is_new = plain (Stop 25) s s tt
      pursue_suits true true is_new = plain Flounders s s tt
      pursue_suits true false true = anew_suits (leb 256 held) refl
      pursue_suits true false false = again_suits s.ambiguous a.ambiguous

      remaining_suits_by : (puts_off is_new : Bool) → Suits a (no_remaining_by puts_off s a x is_new held)
      remaining_suits_by true is_new = plain Requeues s s tt
      remaining_suits_by false is_new = pursue_suits (is_empty (clause s).subgoals) (outsized s) is_new

      remaining_suits : (is_new complete : Bool) → Suits a (no_remaining s a x is_new complete held)
      remaining_suits is_new complete = remaining_suits_by (complete && s.ambiguous) is_new

  -- THE DECISION, by what was seen
  decision_suits : (c : Chosen) (a : Answer) (complete late : Bool) (held : ℕ) → (late ≡ false → clock < MAX)
      → (leb 256 held ≡ false → free_place p < 256) → (sight : Sight) → SightFits depth count sight
      → Suits a (decide_by sight c a complete late held)
  decision_suits c a complete late held in_time fits sights.Nothing h = plain c.strand a _ c.strand c.strand tt
  decision_suits c a complete late held in_time fits (sights.Looks look) h =
      selected_suits c.strand a look h complete c.live late in_time
  decision_suits c a complete late held in_time fits (sights.Same place) h =
      remaining_suits c.strand a c.gives held fits false complete
  decision_suits c a complete late held in_time fits sights.Fresh h =
      remaining_suits c.strand a c.gives held fits true complete

-- with room for a copy it is all that the deed needs
module _ (d : Decision) (read : ℕ) (z : Stores) where
  abbrev Asked : Deed → Type 0
  Asked deed = Asks z.stack.depth z.tables.count z.clock z.answers.places deed

  gives_fits : (deed : Deed) → gives_answer deed ≡ true → Asked deed → free_place z.answers.places < 256
  gives_fits (Answers empties) e h = h
  gives_fits (Stop n) e h = absurd (true≢false (sym e))
  gives_fits GoesOn e h = absurd (true≢false (sym e))
  gives_fits GivesUp e h = absurd (true≢false (sym e))
  gives_fits (Cycles height) e h = absurd (true≢false (sym e))
  gives_fits (Pushes table) e h = absurd (true≢false (sym e))
  gives_fits Requeues e h = absurd (true≢false (sym e))
  gives_fits Flounders e h = absurd (true≢false (sym e))

  able_by : (d.copies ≡ true → free_place z.strands.places < 256)
      → Suits z.stack.depth z.tables.count z.clock z.answers.places (get_or z.answers.answers read unread_answer) d
      → Able d read z
  able_by copy_fits h = record {
    copy_fits = copy_fits;
    no_copy = h.alone;
    answer_fits = λ e. gives_fits d.deed e h.asks;
    same_answer = h.same;
    meets = λ height e. subst Asked e h.asks;
    is_made = λ table e. (subst Asked e h.asks).0;
    has_room = λ table e. (subst Asked e h.asks).1;
    in_time = λ table e. (subst Asked e h.asks).2;
  }

-- THE STACK'S TABLES: each is there once
abbrev tables_of : said.Stack → List ℕ
tables_of es = map (λ e. e.table) es

off_absent : (t : ℕ) (es : said.Stack) → Off t es → times t (tables_of es) ≡ 0
off_absent t [] off = refl
off_absent t (e ∷ es) off =
    let here : one (eqb t e.table) ≡ 0 = ap one (ne_eqb t e.table (λ q. all_first off (sym q))) in
    omega (arith, here, off_absent t es (all_rest off))

once_more : (t : ℕ) (l : List ℕ) → times t l ≡ 0 → ((q : ℕ) → times q l ≤ 1) → (q : ℕ) → times q (t ∷ l) ≤ 1
once_more t l absent once =
    is_or_not t (λ q. times q (t ∷ l) ≤ 1) (omega (arith, absent, times_self t))
    (λ q other. omega (arith, once q, ap one (ne_eqb q t other)))

below_once : (n : ℕ) (ts : Tables) (root first t c : ℕ) (es : said.Stack) → Below n ts root first t c es → (q : ℕ)
    → times q (tables_of es) ≤ 1
below_once n ts root first t c [] below q = omega arith
below_once n ts root first t c (e ∷ es) below q =
    once_more e.table (tables_of es) (off_absent e.table es below.3)
    (below_once n ts root first e.table e.clock es below.2) q

-- a number that isn't found among the first n is at none of them
not_found : (test : ℕ → Bool) (n : ℕ) → n ≤ first_at test 0 n → (i : ℕ) → i < n → test i ≡ false
not_found test zero h i less = absurd (omega arith)
not_found test (suc n) h i less = at (ltb (first_at test 0 n) n) refl (not_found test n)
  where
    last : (b : Bool) → test n ≡ b → suc n ≤ choose b n (suc n) → test n ≡ false
    last true e k = absurd (omega arith)
    last false e k = e

    by_place : (b : Bool) → eqb i n ≡ b → test n ≡ false → (i < n → test i ≡ false) → test i ≡ false
    by_place true e here below = ap test (eqb-true i n e) ∙ here
    by_place false e here below = let other = eqb-false i n e in below (omega arith)

    at : (b : Bool) → ltb (first_at test 0 n) n ≡ b → (n ≤ first_at test 0 n → (j : ℕ) → j < n → test j ≡ false) → test i ≡ false
    at true e below =
        let less : first_at test 0 n < n = ltb-true (first_at test 0 n) n e in
        let same : first_at test 0 (suc n) ≡ first_at test 0 n = (first_more test 0 n).0 (omega arith) in
        absurd (omega (arith, h, same, less))
    at false e below =
        let past : n ≤ first_at test 0 n = ltb-false (first_at test 0 n) n e in
        let here : 0 + n ≡ n = omega arith in
        let whole : first_at test 0 n ≡ n = omega (arith, past, (first_bound test 0 n).1) in
        let next_is : first_at test 0 (suc n) ≡ choose (test n) n (suc n) =
        (first_more test 0 n).1 (whole ∙ sym here) ∙ ap (λ (j : ℕ). choose (test j) j (suc j)) here in
        by_place (eqb i n) refl (last (test n) refl (subst (λ (r : ℕ). suc n ≤ r) next_is h)) (below past i)

-- A table below m that isn't among the tables of n entries below m leaves room: the entries are fewer than m.
module _ (fresh : FirstStrands) (k : Stack) (s : Strands) where
  abbrev stacked : ℕ → List ℕ
  stacked n = tables_of (entries fresh k s n)

  stacked_absent : (t n : ℕ) → ((i : ℕ) → i < n → eqb (get_or k.table i 0) t ≡ false) → times t (stacked n) ≡ 0
  stacked_absent t zero none = refl
  stacked_absent t (suc n) none =
      let here : one (eqb t (get_or k.table n 0)) ≡ 0 =
      ap one (ne_eqb t (get_or k.table n 0) (λ e. eqb-false (get_or k.table n 0) t (none n (omega arith)) (sym e))) in
      omega (arith, here, stacked_absent t n (λ i h. none i (omega arith)))

  stacked_under : (m n : ℕ) → ((i : ℕ) → i < n → get_or k.table i 0 < m) → (q : ℕ) → m ≤ q → times q (stacked n) ≡ 0
  stacked_under m n under q h =
      stacked_absent q n (λ i less. ne_eqb (get_or k.table i 0) q (λ e. omega (arith, under i less, e)))

  stacked_long : (n : ℕ) → length (stacked n) ≡ n
  stacked_long zero = refl
  stacked_long (suc n) = ap suc (stacked_long n)

  room_above : (m n t : ℕ) → ((q : ℕ) → times q (stacked n) ≤ 1) → ((i : ℕ) → i < n → get_or k.table i 0 < m) → t < m
      → ((i : ℕ) → i < n → eqb (get_or k.table i 0) t ≡ false) → n < m
  room_above m n t once under less none =
      omega (
        arith,
        stacked_long n,
        pigeons m (t ∷ stacked n) (once_more t (stacked n) (stacked_absent t n none) once)
            (λ q h. omega (arith, stacked_under m n under q h, ap one (ne_eqb q t (λ e. omega (arith, less, h, e))))),
      )

-- FOR SOUND STORES
module _ (root index first : ℕ) (z : Stores) (o : SoundStores root index first z) (n : ℕ) (d : z.stack.depth ≡ suc n) where
  abbrev depth : ℕ
  depth = z.stack.depth

  few_entries : depth ≤ 64
  few_entries = o.stack.few

  stack_once : (q : ℕ) → times q (tables_of (entries_of z)) ≤ 1
  stack_once =
      let x = searching root index first z o n d in
      subst (λ (es : said.Stack). (q : ℕ) → times q (tables_of es) ≤ 1) (sym (stack_is root index first z o n d))
      (once_more (top_entry z n).table (tables_of (entries_below z n))
      (off_absent (top_entry z n).table (entries_below z n) x.off)
      (below_once z.book.goals (forest z).tables root first (top_entry z n).table (top_entry z n).clock (entries_below z n)
      x.below))

  -- WHAT IS SEEN, of a choice that is known
  module _ (start : Selected) (c : Choice) (ends : Ended (forest z) start c) where
    abbrev count : ℕ
    count = z.tables.count + c.made.count

    few_tables : count ≤ 64
    few_tables =
        omega (
          arith,
          room_for_noted (forest z) c.made (sound_forest root index first z o n d) ends.noted,
          counted root index first z o,
        )

    -- a table that is made or noted
    module _ (u : ℕ) (there : u < count) where
      abbrev height : ℕ
      height = height_of z.stack.table depth u

      off_stack : leb (within depth) height ≡ true → (i : ℕ) → i < depth → eqb (get_or z.stack.table i 0) u ≡ false
      off_stack e i h =
          not_found (λ j. eqb (get_or z.stack.table j 0) u) (within depth) (leb-true (within depth) height e) i
          (omega (arith, h, few_entries))

      push_fits : leb (within depth) height ≡ true → LookFits depth count (looks.Push u)
      push_fits e =
          let fewer : depth < count = room_above (first_strands z.book) z.stack z.strands count depth u stack_once
          (λ i h. omega (arith, entries_made root index first z o n d i (omega arith))) there (off_stack e) in
          (there, omega (arith, fewer, few_tables))

      stack_fits : (off co : Bool) → leb (within depth) height ≡ off → LookFits depth count (on_stack_by off co u height)
      stack_fits true co e = push_fits e
      stack_fits false true e = tt
      stack_fits false false e = omega (arith, leb-false (within depth) height e, few_entries)

      look_fits : (b : Bool) (place : ℕ)
          → LookFits depth count (look_by b place (on_stack z.stack.table z.tables.coinductive depth u))
      look_fits true place = tt
      look_fits false place =
          stack_fits (leb (within depth) height) (coinductive_from z.stack.table z.tables.coinductive depth height) refl

    same_fits : (b : Bool) (place : ℕ) → SightFits depth count (same_by b place)
    same_fits true place = tt
    same_fits false place = tt

    abbrev sight_by : Selection → Selected → (t : ℕ) → Answer → Sight
    sight_by k selects t x =
        sight_for z.stack.table z.tables.coinductive depth z.answers.places.next z.answers.places.tail
        z.answers.places.len z.answers.variant z.answers.key k selects t x

    sight_fits_by : (k : Selection) → Outcome (forest z) start c k → (t : ℕ) (x : Answer)
        → SightFits depth count (sight_by k c.strand.selected t x)
    sight_fits_by selection.Again out t x = absurd out
    sight_fits_by selection.Selected r t x =
        let place = answer_place z.answers.places.next z.answers.places.tail z.answers.places.len r.table r.answer in
        subst (λ (j : Selected). SightFits depth count (sight_by selection.Selected j t x)) (sym r.is_selected)
        (look_fits r.table (omega (arith, r.awaits.there, counted root index first z o)) (ltb place 256) place)
    sight_fits_by selection.NotSelected out t x =
        let place = same_at z.answers.places.next z.answers.places.tail z.answers.places.len z.answers.variant
        z.answers.key t x in
        same_fits (ltb place 256) place
    sight_fits_by (selection.Stop m) out t x = tt

    -- by the numbers of any top
    abbrev sight_under : Top → Sight
    sight_under x =
        sight_of z.tables.goal z.tables.coinductive z.tables.floundered z.tables.count z.book.goal_flags
        z.book.goal_len z.stack.table z.answers.places.next z.answers.places.tail z.answers.places.len
        z.answers.variant z.answers.key x c

    sight_fits : SightFits depth count (sight_under (top z))
    sight_fits =
        subst (λ (x : Top). SightFits depth count (sight_under x)) (sym (top_is root index first z o n d))
        (sight_fits_by c.selection ends.outcome (top_entry z n).table
        (answer_of c.strand (table_goal_at (top_entry z n).table z.tables.goal)))

  -- a push is decided only before the clock's limit, and an answer is given only where fewer than 256 are held
  in_time : leb z.clock_limit z.clock ≡ false → z.clock < MAX
  in_time e = omega (arith, leb-false z.clock_limit z.clock e, (searching root index first z o n d).forest.limit_within)

  answer_room : leb 256 (in_use z.answers.places) ≡ false → free_place z.answers.places < 256
  answer_room e =
      freed_room z.answers.places z.tables.count [] o.answers.places
      (omega (
        arith,
        leb-false 256 (in_use z.answers.places) e,
        in_use_is z.answers.places z.tables.count [] o.answers.places,
      ))

  -- THE STRAND that the turn goes on with
  module _ (is : (next z).found ≡ true) where
    abbrev q : ℕ
    q = (next z).place

    abbrev SuitsAt : (p : ℕ) → Type 0
    SuitsAt p =
        let c : Chosen = chosen_for z (hand_at z p) in
        Suits depth (z.tables.count + c.made.count) z.clock z.answers.places
        (get_or z.answers.answers c.place unread_answer) (decided_for z c)

    suits : SuitsAt q
    suits =
        let k = known root index first z o n d is in
        let s : Strand = hand_at z q in
        let kept = in_hand_kept root index first z o n d q k (top_entry z n).clock in
        let sound = in_hand_sound root index first z o n d q k in
        let x : Chosen = chosen_for z s in
        let c : Choice = choice root index first z o n d s sound kept (origin z (next z)) in
        decision_suits depth (z.tables.count + c.made.count) z.clock z.answers.places x
        (get_or z.answers.answers x.place unread_answer) (top z).complete (leb z.clock_limit z.clock)
        (in_use z.answers.places) in_time answer_room x.sight
        (sight_fits s.selected c (choice_known root index first z o n d s sound kept (origin z (next z))))

    -- WHAT ITS DEED NEEDS is there once the turn is begun
    pub strand_able : Able (decided_for z (chosen z)) (chosen z).place (began z)
    strand_able =
        able_by (decided_for z (chosen z)) (chosen z).place (began z) (begun_room root index first z o n d is)
        (subst (λ (m : ℕ). Suits depth m z.clock z.answers.places
        (get_or z.answers.answers (chosen z).place unread_answer) (decided_for z (chosen z)))
        (sym (begun_count root index first z o n d is)) (subst SuitsAt (read_is root index first z o n d is) suits))

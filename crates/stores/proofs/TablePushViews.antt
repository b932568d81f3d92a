-- `push_answer` is the definition's: the stored answer is what the search by numbers finds, 26 and 23 come where the definition stops, and
-- a new answer is pushed. From TableViews and the keys of delayed lists.
use Prim.Native.Nat.{ℕ, ◌≤◌, ◌<◌}
use native.Mathlib.Omega.{arith}
use mathlib.Core.Path.{◌≡◌, refl, sym, ap, ap₂, ◌∙◌}
use mathlib.Core.Bool.{Bool, true, false, not, ◌&&◌}
use mathlib.Core.Option.{Option, none, some}
use mathlib.Core.List.{List, [], ◌∷◌, map}
use lib.ListN.{length, get_or, set}
use lib.Dec.{eqb, ltb, leb}
use borrow.Author.Tests.{lt-ltb, le-leb, lt-leb, ltb-true, ltb-false}
use Rattle.definitions.specs as said
use Rattle.definitions.specs.Lists.{push, same, total}
use Rattle.definitions.specs.Stop.{Stops, go, ◌>>◌, stop_if}
use Rattle.definitions.specs.Table.{Table, with_answers, equal_answer, push_answer}
use Rattle.laws.specs.All.{All}
use Rattle.laws.proofs.All.{all_first, all_rest}
use Rattle.rings.proofs.RingViews.{below_top}
use Rattle.strands.specs.declared.Answer.{Answer}
use Rattle.strands.specs.View as view
use Rattle.stores.specs.declared.places.Places.{Places}
use Rattle.stores.specs.declared.queue.Strands.{Strands}
use Rattle.stores.specs.declared.table.Answers.{Answers}
use Rattle.stores.specs.declared.tables.Tables.{Tables}
use Rattle.stores.specs.Numbers.{flag, flag_number}
use Rattle.stores.specs.Places.{ring, freed, free_place, numbered, found_or, found_in}
use Rattle.stores.specs.View.{FirstStrands, answer_at, held_table, tables}
use Rattle.stores.specs.Sound.{GoodAnswer, Stored, SoundAnswers}
use Rattle.stores.specs.Table.{
  key_of,
  with_answer_places,
  written_answer,
  answer_stored,
  repeated_of,
  new_if,
  outcome_if,
  room_if,
  pushed_if,
  same_place,
  push_outcome,
  pushed_places,
  PushMeans,
  PushLeaves,
}
use Rattle.stores.proofs.ListsSpans.{all_times}
use Rattle.stores.proofs.NumbersCases.{flag_of}
use Rattle.stores.proofs.PlacesWaiting.{waiting_same}
use Rattle.stores.proofs.PlacesCases.{freed_sound, freed_none, freed_still}
use Rattle.stores.proofs.TableKeys.{same_key}
use Rattle.stores.proofs.TableViews.{held_is, stored_answer_own}

-- THE SEARCH by variant and key is the definitions' by variant and delayed goals
abbrev pub found_if : Bool → said.Answer → Option said.Answer
found_if true b = some b
found_if false b = none

module _ (x : Answer) (good : GoodAnswer x) (a : Answers) where
  abbrev test : ℕ → Bool
  test = numbered true a.variant x.variant a.key (key_of (view.answer x).delayed_subgoals)

  test_same : (q : ℕ) → Stored a q
      → test q ≡ eqb (answer_at a q).variant x.variant && same (answer_at a q).delayed_subgoals (view.answer x).delayed_subgoals
  test_same q o =
      ap₂ (λ (v k : ℕ). eqb v x.variant && eqb k (key_of (view.answer x).delayed_subgoals)) o.is_variant o.is_key
      ∙ ap (λ (b : Bool). eqb (answer_at a q).variant x.variant && b)
      (sym (same_key (answer_at a q).delayed_subgoals (view.answer x).delayed_subgoals o.good.goals good.goals))

  pub equal_is : (l : List ℕ) → All (λ q. q < 256) l → All (Stored a) l
      → equal_answer (view.answer x) (map (answer_at a) l) ≡ found_if (ltb (found_in test l) 256) (answer_at a (found_in test l))
  equal_is [] few o = refl
  equal_is (q ∷ l) few o =
      ap (λ (b : Bool). elim b as (λ (c : Bool). Option said.Answer) [
        | true ↦ some (answer_at a q)
        | false ↦ equal_answer (view.answer x)
            (map (answer_at a) l)
      ]) (sym (test_same q (all_first o)))
      ∙ by (test q) (equal_is l (all_rest few) (all_rest o))
    where
      by : (b : Bool) → equal_answer (view.answer x) (map (answer_at a) l) ≡ found_if (ltb (found_in test l) 256)
          (answer_at a (found_in test l))
          → ◌≡◌ {A = Option said.Answer} (elim b [
            | true ↦ some (answer_at a q)
            | false ↦ equal_answer (view.answer x)
                (map (answer_at a) l)
          ])
          (found_if (ltb (found_or b q (found_in test l)) 256) (answer_at a (found_or b q (found_in test l))))
      by true e = ap (λ (c : Bool). found_if c (answer_at a q)) (sym (lt-ltb q 256 (all_first few)))
      by false e = e

-- WHAT THE OUTCOME MEANS, in a table that isn't floundered
module _ (fresh : FirstStrands) (ts : Tables) (s : Strands) (a : Answers) (t : ℕ) (x : Answer) (h : t < ts.count)
    (sound : SoundAnswers a ts.count) (good : GoodAnswer x)
    (live : (held_table fresh ts s a t).floundered ≡ false) where
  abbrev p : Places
  p = a.places

  abbrev table : Table
  table = held_table fresh ts s a t

  abbrev new : Table
  new = held_table fresh ts s (answer_stored t x a) t

  abbrev held : ℕ
  held = total (λ u. length u.answers) (tables fresh ts s a)

  abbrev said_x : said.Answer
  said_x = view.answer x

  abbrev after : Option said.Answer → Stops (Option ℕ × Table)
  after o = elim o [
    | some was ↦ stop_if (was.ambiguous && not said_x.ambiguous) 26 >> go (none, table)
    | none ↦ stop_if (leb 256 held) 23 >> go (some (length table.answers), with_answers table (push table.answers said_x))
  ]

  start : push_answer held said_x table ≡ after (equal_answer said_x table.answers)
  start = ap (λ (b : Bool). stop_if b 0 >> after (equal_answer said_x table.answers)) live

  abbrev at : ℕ
  at = same_place a.variant a.key a.ambiguous t x p

  places_few : All (λ q. q < 256) (ring p t)
  places_few = all_times (λ q. q < 256) (ring p t)
      (λ q k. omega (arith, below_top p.next p.tail p.len p.top sound.places.rings t q k, sound.places.rings.room))

  all_stored : All (Stored a) (ring p t)
  all_stored = all_times (Stored a) (ring p t) (λ q k. sound.stored t q h k)

  equal : equal_answer said_x table.answers ≡ found_if (ltb at 256) (answer_at a at)
  equal = equal_is x good a (ring p t) places_few all_stored

  -- what is found stands there with its flag
  found_flag : at < 256 → flag (get_or a.ambiguous at 0) ≡ (answer_at a at).ambiguous
  found_flag k = found_stored (ring p t) all_stored k
    where
      found_stored : (l : List ℕ) → All (Stored a) l → found_in (test x good a) l < 256
          → flag (get_or a.ambiguous (found_in (test x good a) l) 0) ≡ (answer_at a (found_in (test x good a) l)).ambiguous
      found_stored [] o i = absurd (omega arith)
      found_stored (q ∷ l) o i = by (test x good a q) i (found_stored l (all_rest o))
        where
          by : (b : Bool) → found_or b q (found_in (test x good a) l) < 256
              → (found_in (test x good a) l < 256 → flag (get_or a.ambiguous (found_in (test x good a) l) 0) ≡ (answer_at a
              (found_in (test x good a) l)).ambiguous)
              → flag (get_or a.ambiguous (found_or b q (found_in (test x good a) l)) 0) ≡ (answer_at a
              (found_or b q (found_in (test x good a) l))).ambiguous
          by true j more = ap flag (all_first o).is_ambiguous ∙ flag_of (answer_at a q).ambiguous
          by false j more = more j

  repeat_means : (was is : Bool) → (answer_at a at).ambiguous ≡ was → said_x.ambiguous ≡ is
      → equal_answer said_x table.answers ≡ some (answer_at a at)
      → PushMeans held said_x table new (repeated_of was is)
  repeat_means true true ew ei e = start ∙ ap after e ∙ ap₂ (λ (b c : Bool). stop_if (b && not c) 26 >> go (none, table)) ew ei
  repeat_means true false ew ei e = start ∙ ap after e ∙ ap₂ (λ (b c : Bool). stop_if (b && not c) 26 >> go (none, table)) ew ei
  repeat_means false is ew ei e = start ∙ ap after e ∙ ap (λ (b : Bool). stop_if (b && not said_x.ambiguous) 26 >> go (none, table)) ew

  held_few : free_place p < 256 → leb 256 held ≡ false
  held_few k = lt-leb 256 held (room_for k)
    where
      room_for : free_place p < 256 → held < 256
      room_for i =
          let f = freed_sound p ts.count [] sound.places i in
          omega (
            arith,
            held_is fresh ts s a,
            f.sound.all,
            f.sound.rings.room,
            waiting_same p (freed p) ts.count
                (λ u j. ap length (f.same u j)),
          )

  new_means : (room : Bool) → ltb (free_place p) 256 ≡ room → equal_answer said_x table.answers ≡ none
      → PushMeans held said_x table new (new_if room (free_place p))
  new_means true er e =
      let k : free_place p < 256 = ltb-true (free_place p) 256 er in
      start ∙ ap after e ∙ ap (λ (b : Bool). stop_if b 23 >> go
      (some (length table.answers), with_answers table (push table.answers said_x))) (held_few k)
      ∙ ap (λ (l : List said.Answer). go (some (length table.answers), with_answers table l))
      (sym (stored_answer_own a ts.count t x h sound good k))
  new_means false er e =
      let k : 256 ≤ free_place p = ltb-false (free_place p) 256 er in
      let f : held ≡ 256 = omega (arith, held_is fresh ts s a, freed_none p ts.count [] sound.places k) in
      start ∙ ap after e ∙ ap (λ (b : Bool). stop_if b 23 >> go
      (some (length table.answers), with_answers table (push table.answers said_x))) (le-leb 256 held (omega arith))

  by_search : (b : Bool) → ltb at 256 ≡ b
      → PushMeans held said_x table new (outcome_if b (repeated_of (flag (get_or a.ambiguous at 0)) x.ambiguous)
      (new_if (ltb (free_place p) 256) (free_place p)))
  by_search true e =
      repeat_means (flag (get_or a.ambiguous at 0)) x.ambiguous (sym (found_flag (ltb-true at 256 e))) refl
      (equal ∙ ap (λ (c : Bool). found_if c (answer_at a at)) e)
  by_search false e = new_means (ltb (free_place p) 256) refl (equal ∙ ap (λ (c : Bool). found_if c (answer_at a at)) e)

  -- the outcome of `push_answer` is the definition's result
  pub push_means : PushMeans (total (λ u. length u.answers) (tables fresh ts s a)) (view.answer x) (held_table fresh ts s a t)
      (held_table fresh ts s (answer_stored t x a) t) (push_outcome a.variant a.key a.ambiguous t x a.places)
  push_means = by_search (ltb at 256) refl

  -- WHAT IT LEAVES: the places as they were, or the new answer's place at the end of the table's ring
  repeat_leaves : (was is : Bool) → PushLeaves p (answer_stored t x a).places p (repeated_of was is)
  repeat_leaves true true = refl
  repeat_leaves true false = refl
  repeat_leaves false is = refl

  new_leaves : (room : Bool) → ltb (free_place p) 256 ≡ room
      → PushLeaves p (answer_stored t x a).places (room_if room t p) (new_if room (free_place p))
  new_leaves true e = (refl, ltb-true (free_place p) 256 e, refl)
  new_leaves false e = freed_still p ts.count [] sound.places (ltb-false (free_place p) 256 e)

  leaves_by : (b : Bool) → PushLeaves p (answer_stored t x a).places (pushed_if b p (room_if (ltb (free_place p) 256) t p))
      (outcome_if b (repeated_of (flag (get_or a.ambiguous at 0)) x.ambiguous) (new_if (ltb (free_place p) 256) (free_place p)))
  leaves_by true = repeat_leaves (flag (get_or a.ambiguous at 0)) x.ambiguous
  leaves_by false = new_leaves (ltb (free_place p) 256) refl

  pub push_leaves : PushLeaves a.places (answer_stored t x a).places
      (pushed_places a.variant a.key a.ambiguous t x a.places)
      (push_outcome a.variant a.key a.ambiguous t x a.places)
  push_leaves = leaves_by (ltb at 256)

-- WHAT THE OWNER'S STATEMENTS LEAVE: an answer written with the numbers beside it
pub written_answer_is : (a : Answers) (q : ℕ) (x : Answer) (variant key ambiguous : List ℕ)
    → variant ≡ set a.variant q (view.answer x).variant
    → key ≡ set a.key q (key_of (view.answer x).delayed_subgoals)
    → ambiguous ≡ set a.ambiguous q (flag_number (view.answer x).ambiguous)
    → record { answers = set a.answers q x; variant = variant; key = key; ambiguous = ambiguous; places = a.places } ≡ written_answer q
    x a
written_answer_is a q x variant key ambiguous ev ek ea = cc

-- what the owner's write of a new answer, with its numbers, leaves
pub stored_answer_is : (a : Answers) (t q : ℕ) (x : Answer) (p' : Places) → q ≡ free_place a.places → p' ≡ (answer_stored t x a).places
    → with_answer_places (written_answer q x a) p' ≡ answer_stored t x a
stored_answer_is a t q x p' eq ep = ap₂ (λ (i : ℕ) (r : Places). with_answer_places (written_answer i x a) r) eq ep

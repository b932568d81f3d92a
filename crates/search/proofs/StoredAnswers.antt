-- The answer stored at an index, read by the numbers beside the answers, is the definitions' stored answer of the view.
use Prim.Native.Nat.{ℕ, ◌≤◌, ◌<◌}
use native.Mathlib.Omega.{arith}
use mathlib.Core.Bool.{Bool, true, false, true≢false, false≢true}
use mathlib.Core.List.{List, [], ◌∷◌}
use mathlib.Core.Option.{none, some}
use mathlib.Core.Path.{◌≡◌, refl, sym, ap, ap₂, ◌∙◌}
use lib.Dec.{ltb, leb}
use lib.ListN.{get_or}
use borrow.Author.Tests.{lt-ltb, le-ltb, leb-true, leb-false}
use Rattle.definitions.specs as said
use Rattle.definitions.specs.Logic as logic
use Rattle.definitions.specs.Lists.{is_empty}
use Rattle.definitions.specs.Stop.{Stops, stop, go, ◌>>=◌, unwrap}
use Rattle.definitions.specs.Table as tables
use Rattle.definitions.specs.Table.{Table}
use Rattle.definitions.specs.Turn as turns
use Rattle.rings.specs.Lists.{times}
use Rattle.rings.specs.Rings.{place_if}
use Rattle.rings.proofs.RingViews.{below_top}
use Rattle.stores.specs.declared.table.Answers.{Answers}
use Rattle.stores.specs.Numbers.{flag}
use Rattle.stores.specs.Places.{ring}
use Rattle.stores.specs.Sound.{Stored}
use Rattle.stores.specs.Table.{key_of}
use Rattle.stores.specs.View.{answer_at}
use Rattle.stores.proofs.ListsAlike.{times_at}
use Rattle.stores.proofs.NumbersCases.{flag_of}
use Rattle.stores.proofs.PlacesViews.{length_ring}
use Rattle.stores.proofs.TableViews.{answer_there, answer_past, answer_count_is}
use Rattle.stores.proofs.TablesViews.{table_at_is}
use Rattle.control.specs.InHand.{Sounds}
use Rattle.control.specs.Stores.{Stores, first_strands, forest}
use Rattle.control.proofs.ClearStrandsAfterCycleSound.{waiting_moved}
use Rattle.control.proofs.Stores.{table_held}
use Rattle.search.specs.declared.course.Ending.{Ending}
use Rattle.search.specs.declared.course.Ending.TheVariants as endings
use Rattle.search.specs.Means.{ending_means}
use Rattle.search.specs.RootAnswer.{stored_answer}
use Rattle.search.proofs.RootAnswerCases.{stored_far, stored_none, stored_delayed, stored_found}

-- THE MODEL at the answers of a store
abbrev pub stored_in : Answers → (t index : ℕ) → Ending
stored_in a t i = stored_answer a.places.next a.places.tail a.places.len a.variant a.key a.ambiguous t i

-- what the definitions say of an answer that is there, by whether nothing is delayed
abbrev ends_by : said.Answer → (none_delayed : Bool) → turns.Ending
ends_by x b = elim b as (λ (c : Bool). turns.Ending) [
  | true ↦ turns.found (record { variant = x.variant; ambiguous = x.ambiguous })
  | false ↦ turns.fail logic.InvalidAnswer
]

-- a key is 0 where nothing is delayed, and there only
pub key_none : (l : List ℕ) → is_empty l ≡ true → key_of l ≡ 0
key_none [] e = omega arith
key_none (g ∷ l) e = absurd (false≢true e)

pub key_some : (l : List ℕ) → is_empty l ≡ false → 0 < key_of l
key_some [] e = absurd (true≢false e)
key_some (g ∷ l) e = omega arith

module _ (z : Stores) (o : Sounds [] z) (t : ℕ) (there : t < z.tables.count) where
  abbrev a : Answers
  a = z.answers

  abbrev table : Table
  table = table_held z t

  abbrev count : ℕ
  count = get_or a.places.len t 0

  -- HOW MANY
  pub answers_counted : tables.next_answer_index (table_held z t) ≡ get_or z.answers.places.len t 0
  answers_counted = answer_count_is (first_strands z.book) z.tables z.strands a t

  pub answers_few : get_or z.answers.places.len t 0 ≤ 256
  answers_few =
      let s = o.answers.places in
      omega (arith, waiting_moved a.places z.tables.count [] t there s, length_ring a.places t, s.all, s.rings.room)

  -- THE ANSWER AT AN INDEX that the table has
  module _ (i : ℕ) (h : i < get_or z.answers.places.len t 0) where
    abbrev place : ℕ
    place = get_or (ring a.places t) i 0

    in_ring : 1 ≤ times place (ring a.places t)
    in_ring = times_at (ring a.places t) i (omega (arith, length_ring a.places t))

    own : Stored a place
    own = o.answers.stored t place there in_ring

    near : i < 256
    near = omega (arith, answers_few)

    small : place < 256
    small =
        let r = o.answers.places.rings in
        let below = below_top a.places.next a.places.tail a.places.len a.places.top r t place in_ring in
        omega (arith, r.room)

    is_place : place ≡ place_if (ltb i count) place
    is_place = sym (ap (λ (b : Bool). place_if b place) (lt-ltb i count h))

    pub answer_is : tables.answer (table_held z t) i ≡ some (answer_at z.answers (get_or (ring z.answers.places t) i 0))
    answer_is =
        answer_there (first_strands z.book) z.tables z.strands a t i place is_place o.answers.places small

    reads : turns.stored_answer (forest z) t i ≡ ends_by (answer_at a place) (is_empty (answer_at a place).delayed_subgoals)
    reads =
        ap (λ (r : Stops said.Answer). elim r as (λ (q : Stops said.Answer). turns.Ending) [
          | stop n ↦ turns.stopped n
          | go x ↦ ends_by x (is_empty x.delayed_subgoals)
        ])
        (ap (λ (r : Stops Table). r >>= λ x. unwrap (tables.answer x i))
        (table_at_is (first_strands z.book) z.tables z.strands a (forest z) refl t there)
        ∙ ap unwrap answer_is)

    by_delayed : (b : Bool) → is_empty (answer_at a place).delayed_subgoals ≡ b
        → ending_means (stored_in a t i) ≡ ends_by (answer_at a place) b
    by_delayed true e =
        let none_delayed : get_or a.key place 0 ≡ 0 = own.is_key ∙ key_none (answer_at a place).delayed_subgoals e in
        sym (ap ending_means (stored_found a.places.next a.places.tail a.places.len a.variant a.key a.ambiguous t i
        place near is_place small (omega arith)))
        ∙ ap₂ (λ (v : ℕ) (b : Bool). turns.found (record { variant = v; ambiguous = b })) own.is_variant
        (ap flag own.is_ambiguous ∙ flag_of (answer_at a place).ambiguous)
    by_delayed false e =
        let some-delayed = key_some (answer_at a place).delayed_subgoals e in
        sym (ap ending_means (stored_delayed a.places.next a.places.tail a.places.len a.variant a.key a.ambiguous t i
        place near is_place small (omega (arith, own.is_key))))

    pub stored_is : ending_means (stored_in z.answers t i) ≡ turns.stored_answer (forest z) t i
    stored_is = by_delayed (is_empty (answer_at a place).delayed_subgoals) refl ∙ sym reads

    pub ok_is : ending_means (stored_in z.answers t i) ≡ turns.ok_ending (record { forest = forest z; stack = [] }) t i
    ok_is = stored_is

    -- where its key is not 0 it is invalid
    pub invalid_is : (get_or z.answers.key (get_or (ring z.answers.places t) i 0) 0 ≡ 0 → ⊥)
        → turns.stored_answer (forest z) t i ≡ turns.fail logic.InvalidAnswer
    invalid_is d = reads ∙ at (is_empty (answer_at a place).delayed_subgoals) refl
      where
        at : (b : Bool) → is_empty (answer_at a place).delayed_subgoals ≡ b
            → ends_by (answer_at a place) b ≡ turns.fail logic.InvalidAnswer
        at true e = absurd (d (own.is_key ∙ key_none (answer_at a place).delayed_subgoals e))
        at false e = refl

  -- PAST THE END
  module _ (i : ℕ) (h : get_or z.answers.places.len t 0 ≤ i) where
    nowhere : 256 ≡ place_if (ltb i count) (get_or (ring a.places t) i 0)
    nowhere = sym (ap (λ (b : Bool). place_if b (get_or (ring a.places t) i 0)) (le-ltb i count h))

    pub answer_none : tables.answer (table_held z t) i ≡ none
    answer_none =
        answer_past (first_strands z.book) z.tables z.strands a t i 256 nowhere o.answers.places (omega arith)

    by_far : (far : Bool) → leb 256 i ≡ far → endings.Stopped 0 ≡ stored_in a t i
    by_far true e =
        stored_far a.places.next a.places.tail a.places.len a.variant a.key a.ambiguous t i (leb-true 256 i e)
    by_far false e =
        stored_none a.places.next a.places.tail a.places.len a.variant a.key a.ambiguous t i 256
        (leb-false 256 i e) nowhere (omega arith)

    pub stored_past : stored_in z.answers t i ≡ endings.Stopped 0
    stored_past = sym (by_far (leb 256 i) refl)

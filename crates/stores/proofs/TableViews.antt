-- What the operations on the answers do to the view, each as the definition does, and that `SoundAnswers` is kept: lookup, count, a new
-- answer, freeing them all, and `mark_floundered`, which frees answers and strands. From the theorems on places and the laws of spans.
use Prim.Native.Nat.{ℕ, suc, ◌≤◌, ◌<◌}
use native.Mathlib.Omega.{arith}
use mathlib.Core.Path.{◌≡◌, refl, sym, ap, ap₂, subst, ◌∙◌}
use mathlib.Core.Bool.{Bool, true, false}
use mathlib.Core.Option.{none, some}
use mathlib.Core.List.{List, [], ◌∷◌, ◌++◌, map, map-append}
use lib.ListN.{length, get_or, set, length-map, length-set, length-replicate}
use lib.Seq.{get_or-set_same, get_or-set_other}
use lib.Dec.{ltb}
use borrow.Author.Tests.{lt-ltb, ne_eqb, ltb-true, ltb-false}
use Rattle.definitions.specs as said
use Rattle.definitions.specs.Lists.{push, total}
use Rattle.definitions.specs.Strand as said_strand
use Rattle.definitions.specs.Table.{Table, with_answers, mark_floundered, answer, next_answer_index}
use Rattle.rings.specs.Lists.{one, times}
use Rattle.rings.specs.Rings.{place_if}
use Rattle.laws.proofs.All.{all_map}
use Rattle.laws.proofs.Maps.{get_elem_map, get_elem_map_past}
use Rattle.rings.proofs.Counts.{is_or_not, map_cong, absent_all, times_append, times_first}
use Rattle.rings.proofs.RingViews.{below_top}
use Rattle.strands.specs.declared.Answer.{Answer}
use Rattle.strands.specs.View as view
use Rattle.stores.specs.declared.queue.Strands.{Strands}
use Rattle.stores.specs.declared.table.Answers.{Answers}
use Rattle.stores.specs.declared.tables.Tables.{Tables}
use Rattle.stores.specs.Numbers.{free, flag, flag_number, set_if}
use Rattle.stores.specs.Places.{ring, enqueued, freed, free_place, moved_to}
use Rattle.stores.specs.View.{FirstStrands, unread_answer, answer_at, strand_at, held_table, tables}
use Rattle.stores.specs.Sound.{waiting, SoundPlaces, GoodAnswer, Stored, SoundAnswers, SoundTables}
use Rattle.stores.specs.Queue.{strands_of, cleared}
use Rattle.stores.specs.Table.{marked, answers_of, answer_stored, cleared_answers, key_of, blank_answer, blank_answers}
use Rattle.stores.proofs.ListsAlike.{times_at}
use Rattle.stores.proofs.PlacesWaiting.{sound_grown, total_waiting}
use Rattle.stores.proofs.ListsSpans.{span_set}
use Rattle.stores.proofs.PlacesViews.{length_ring, number_here, enqueued_own, enqueued_other, enqueued_sound, blank_places_sound}
use Rattle.stores.proofs.PlacesCases.{Freed, freed_sound}
use Rattle.stores.proofs.PlacesMoves.{moved_own, moved_other, moved_sound}

-- THE LIST OF TABLES, when the answers of one change
pub answers_changed : (fresh : FirstStrands) (ts : Tables) (s : Strands) (a a' : Answers) (t : ℕ) → t < ts.count
    → ((u : ℕ) → u < ts.count → (u ≡ t → ⊥) → answers_of a' u ≡ answers_of a u)
    → tables fresh ts s a' ≡ set (tables fresh ts s a) t (with_answers (held_table fresh ts s a t) (answers_of a' t))
answers_changed fresh ts s a a' t h other =
    span_set (held_table fresh ts s a) (held_table fresh ts s a') ts.count t h
    (λ u k d. ap (with_answers (held_table fresh ts s a u)) (other u k d))

-- LOOKUP: what stands at the place that `ring_at` finds
module _ (fresh : FirstStrands) (ts : Tables) (s : Strands) (a : Answers) (t i r : ℕ)
    (found : r ≡ place_if (ltb i (get_or a.places.len t 0)) (get_or (ring a.places t) i 0))
    (sound : SoundPlaces a.places ts.count []) where
  abbrev place : ℕ
  place = get_or (ring a.places t) i 0

  by_index : (b : Bool) → ltb i (get_or a.places.len t 0) ≡ b
      → (r < 256 → answer (held_table fresh ts s a t) i ≡ some (answer_at a r)) × (256 ≤ r → answer (held_table fresh ts s a t) i ≡ none)
  by_index true e =
      let k : i < length (ring a.places t) = omega (arith, length_ring a.places t, ltb-true i (get_or a.places.len t 0) e) in
      let is : r ≡ place = found ∙ ap (λ (b : Bool). place_if b place) e in
      let small : place < a.places.top =
      below_top a.places.next a.places.tail a.places.len a.places.top sound.rings t place
      (times_at (ring a.places t) i k) in (
        λ h. get_elem_map (answer_at a) (ring a.places t) i 0 k ∙ ap (λ (p : ℕ). some (answer_at a p)) (sym is),
        λ h. absurd (omega (arith, sound.rings.room)),
      )
  by_index false e =
      let k : length (ring a.places t) ≤ i = omega (arith, length_ring a.places t, ltb-false i (get_or a.places.len t 0) e) in
      let is : r ≡ 256 = found ∙ ap (λ (b : Bool). place_if b place) e in
      (λ h. absurd (omega arith), λ h. get_elem_map_past (answer_at a) (ring a.places t) i k)

  pub answer_there : r < 256 → answer (held_table fresh ts s a t) i ≡ some (answer_at a r)
  answer_there = (by_index (ltb i (get_or a.places.len t 0)) refl).0

  pub answer_past : 256 ≤ r → answer (held_table fresh ts s a t) i ≡ none
  answer_past = (by_index (ltb i (get_or a.places.len t 0)) refl).1

-- HOW MANY: of a table, and of all
pub answer_count_is : (fresh : FirstStrands) (ts : Tables) (s : Strands) (a : Answers) (t : ℕ)
    → next_answer_index (held_table fresh ts s a t) ≡ get_or a.places.len t 0
answer_count_is fresh ts s a t = length-map (ring a.places t) (answer_at a) ∙ length_ring a.places t

pub held_is : (fresh : FirstStrands) (ts : Tables) (s : Strands) (a : Answers)
    → total (λ t. length t.answers) (tables fresh ts s a) ≡ waiting a.places ts.count
held_is fresh ts s a = total_waiting (held_table fresh ts s a) (λ t. length t.answers) a.places
    (λ u. length-map (ring a.places u) (answer_at a)) ts.count

-- for one table more, which has no answer
pub answers_grown : (a : Answers) (n : ℕ) → n < free → SoundAnswers a n → SoundAnswers a (suc n)
answers_grown a n room sound = record {
  places = sound_grown a.places n [] room sound.places;
  long = sound.long;
  stored = λ t q h k. go t q (ltb t n) refl h k;
}
  where
    go : (t q : ℕ) (b : Bool) → ltb t n ≡ b → t < suc n → 1 ≤ times q (ring a.places t) → Stored a q
    go t q true e h k = sound.stored t q (ltb-true t n e) k
    go t q false e h k = absurd (omega (arith, ap (times q) (sound.places.empty t (ltb-false t n e) (λ d. omega arith))))

-- A NEW ANSWER
module _ (a : Answers) (n t : ℕ) (x : Answer) (h : t < n) (sound : SoundAnswers a n) (good : GoodAnswer x)
    (room : free_place a.places < 256) where
  abbrev q : ℕ
  q = free_place a.places

  abbrev f : Freed a.places n [] (freed a.places) q
  f = freed_sound a.places n [] sound.places room

  small : t < 256
  small = omega (arith, sound.places.few)

  own : ring (enqueued t q (freed a.places)) t ≡ ring a.places t ++ (q ∷ [])
  own = enqueued_own (freed a.places) n [] q t f.sound small ∙ ap (λ (l : List ℕ). l ++ (q ∷ [])) (f.same t h)

  other : (u : ℕ) → u < n → (u ≡ t → ⊥) → ring (enqueued t q (freed a.places)) u ≡ ring a.places u
  other u k d = enqueued_other (freed a.places) n [] q t f.sound small u d ∙ f.same u k

  -- the place waited nowhere
  apart : (u : ℕ) → u < n → times q (ring a.places u) ≡ 0
  apart u k = sym (ap (times q) (f.same u k)) ∙ f.sound.apart q u (times_first q [])

  here : get_or (set a.answers q x) q unread_answer ≡ x
  here = get_or-set_same a.answers q x unread_answer (omega (arith, sound.long.long_answers))

  away : (u : ℕ) → (u ≡ q → ⊥) → get_or (set a.answers q x) u unread_answer ≡ get_or a.answers u unread_answer
  away u d = get_or-set_other a.answers q u x unread_answer d

  kept : (u : ℕ) → u < n → map (answer_at (answer_stored t x a)) (ring a.places u) ≡ answers_of a u
  kept u k = map_cong (answer_at (answer_stored t x a)) (answer_at a) (ring a.places u)
      (all_map (λ y d. ap view.answer (away y d)) (absent_all q (ring a.places u) (apart u k)))

  pub stored_answer_own : answers_of (answer_stored t x a) t ≡ push (answers_of a t) (view.answer x)
  stored_answer_own =
      ap (map (answer_at (answer_stored t x a))) own ∙ map-append (answer_at (answer_stored t x a)) (ring a.places t) (q ∷ [])
      ∙ ap₂ (λ (l : List said.Answer) (y : said.Answer). push l y) (kept t h) (ap view.answer here)

  pub stored_answer_other : (u : ℕ) → u < n → (u ≡ t → ⊥) → answers_of (answer_stored t x a) u ≡ answers_of a u
  stored_answer_other u k d = ap (map (answer_at (answer_stored t x a))) (other u k d) ∙ kept u k

  stored_here : Stored (answer_stored t x a) q
  stored_here = rw (
    here,
    number_here q room a.variant (view.answer x).variant sound.long.long_variant,
    number_here q room a.key (key_of (view.answer x).delayed_subgoals) sound.long.long_key,
    number_here q room a.ambiguous (flag_number (view.answer x).ambiguous) sound.long.long_ambiguous,
  ) (record { good = good; is_variant = refl; is_key = refl; is_ambiguous = refl })

  stored_away : (u : ℕ) → (u ≡ q → ⊥) → Stored a u → Stored (answer_stored t x a) u
  stored_away u d i = rw (
    away u d,
    get_or-set_other a.variant q u (view.answer x).variant 0 d,
    get_or-set_other a.key q u (key_of (view.answer x).delayed_subgoals) 0 d,
    get_or-set_other a.ambiguous q u (flag_number (view.answer x).ambiguous) 0 d,
  ) i

  pub stored_answer_sound : SoundAnswers (answer_stored t x a) n
  stored_answer_sound = record {
    places = enqueued_sound (freed a.places) n [] q t h f.sound;
    long = record {
      long_answers = length-set a.answers q x ∙ sound.long.long_answers;
      long_variant = length-set a.variant q (view.answer x).variant ∙ sound.long.long_variant;
      long_key = length-set a.key q (key_of (view.answer x).delayed_subgoals) ∙ sound.long.long_key;
      long_ambiguous = length-set a.ambiguous q (flag_number (view.answer x).ambiguous) ∙ sound.long.long_ambiguous;
    };
    stored = λ u y k i. is_or_not q (λ z. 1 ≤ times z (ring (enqueued t q (freed a.places)) u) → Stored (answer_stored t x a) z)
        (λ j. stored_here) (λ z d j. stored_away z d (old u z k d j)) y i;
  }
    where
      old : (u z : ℕ) → u < n → (z ≡ q → ⊥) → 1 ≤ times z (ring (enqueued t q (freed a.places)) u) → Stored a z
      old u z k d j = is_or_not t (λ v. v < n → 1 ≤ times z (ring (enqueued t q (freed a.places)) v) → Stored a z)
          (λ i c. sound.stored t z h (omega (arith, ap (times z) own, times_append z (ring a.places t) (q ∷ []), absent)))
          (λ v e i c. sound.stored v z i (subst (λ (l : List ℕ). 1 ≤ times z l) (other v i e) c)) u k j
        where
          absent : times z (q ∷ []) ≡ 0
          absent = omega (arith, ap one (ne_eqb z q d))

  pub stored_answer_view : (fresh : FirstStrands) (ts : Tables) (s : Strands) → ts.count ≡ n
      → tables fresh ts s (answer_stored t x a) ≡ set (tables fresh ts s a) t
      (with_answers (held_table fresh ts s a t) (push (answers_of a t) (view.answer x)))
  stored_answer_view fresh ts s e =
      answers_changed fresh ts s a (answer_stored t x a) t (omega arith) (λ u k d. stored_answer_other u (omega arith) d)
      ∙ ap (λ (l : List said.Answer). set (tables fresh ts s a) t (with_answers (held_table fresh ts s a t) l)) stored_answer_own

-- FREE THEM ALL
pub cleared_answers_sound : (a : Answers) (n t : ℕ) → t < n → SoundAnswers a n → SoundAnswers (cleared_answers t a) n
cleared_answers_sound a n t h sound = record {
  places = moved_sound a.places n [] t h sound.places;
  long = sound.long;
  stored = λ u q k i. is_or_not t (λ v. v < n → 1 ≤ times q (ring (moved_to t free a.places) v) → Stored a q)
      (λ j c. absurd (omega (arith, ap (times q) (moved_own a.places n [] t h sound.places))))
      (λ v d j c. sound.stored v q j (subst (λ (l : List ℕ). 1 ≤ times q l)
      (moved_other a.places n [] t h sound.places v (λ e. omega (arith, sound.places.few)) d) c)) u k i;
}

-- MARK FLOUNDERED: the flag, and no answers and no strands
module _ (fresh : FirstStrands) (ts : Tables) (s : Strands) (a : Answers) (held : List ℕ) (t : ℕ) (h : t < ts.count)
    (sound : SoundTables ts) (ss : SoundPlaces s.places ts.count held) (rs : SoundPlaces a.places ts.count []) where
  abbrev ts' : Tables
  ts' = record {
    count = ts.count;
    goal = ts.goal;
    coinductive = ts.coinductive;
    floundered = set ts.floundered t 1;
    complete = ts.complete;
  }

  marked_is : marked t ts ≡ ts'
  marked_is = ap (λ (b : Bool). record {
    count = ts.count;
    goal = ts.goal;
    coinductive = ts.coinductive;
    floundered = set_if b t 1 ts.floundered;
    complete = ts.complete;
  }) (lt-ltb t 64 (omega (arith, sound.few)))

  pub marked_sound : SoundTables (marked t ts)
  marked_sound = subst SoundTables (sym marked_is) (record {
    few = sound.few;
    long_goal = sound.long_goal;
    long_coinductive = sound.long_coinductive;
    long_floundered = length-set ts.floundered t 1 ∙ sound.long_floundered;
    long_complete = sound.long_complete;
  })

  abbrev table_with : ℕ → (floundered : ℕ) → List said.Answer → List said_strand.Strand → Table
  table_with u f l m = record {
    table_goal = get_or ts.goal u 0;
    coinductive_goal = flag (get_or ts.coinductive u 0);
    floundered = flag f;
    answers = l;
    strands = m;
    answer_mode = (held_table fresh ts s a u).answer_mode;
  }

  table_is : (u f f' : ℕ) (l l' : List said.Answer) (m m' : List said_strand.Strand) → f ≡ f' → l ≡ l' → m ≡ m'
      → table_with u f l m ≡ table_with u f' l' m'
  table_is u f f' l l' m m' e c d = ap₂ (λ (x : List said.Answer) (y : List said_strand.Strand). table_with u f x y) c d
      ∙ ap (λ (x : ℕ). table_with u x l' m') e

  pub marked_view : tables fresh (marked t ts) (cleared t s) (cleared_answers t a) ≡ set (tables fresh ts s a) t
      (mark_floundered (held_table fresh ts s a t))
  marked_view =
      ap (λ (r : Tables). tables fresh r (cleared t s) (cleared_answers t a)) marked_is
      ∙ span_set (held_table fresh ts s a) (held_table fresh ts' (cleared t s) (cleared_answers t a)) ts.count t h
      (λ u k d. table_is u (get_or (set ts.floundered t 1) u 0) (get_or ts.floundered u 0) (answers_of (cleared_answers t a) u)
      (answers_of a u) (strands_of fresh (cleared t s) u) (strands_of fresh s u)
      (get_or-set_other ts.floundered t u 1 0 d)
      (ap (map (answer_at a)) (moved_other a.places ts.count [] t h rs u (λ e. omega (arith, rs.few)) d))
      (ap (map (strand_at fresh s)) (moved_other s.places ts.count held t h ss u (λ e. omega (arith, ss.few)) d)))
      ∙ ap (set (tables fresh ts s a) t)
      (table_is t (get_or (set ts.floundered t 1) t 0) 1 (answers_of (cleared_answers t a) t) [] (strands_of fresh (cleared t s) t) []
      (get_or-set_same ts.floundered t 1 0 (omega (arith, sound.few, sound.long_floundered)))
      (ap (map (answer_at a)) (moved_own a.places ts.count [] t h rs))
      (ap (map (strand_at fresh s)) (moved_own s.places ts.count held t h ss)))

-- BLANK: no table has an answer
pub blank_answers_sound : SoundAnswers blank_answers 0
blank_answers_sound = record {
  places = blank_places_sound;
  long = record {
    long_answers = length-replicate 256 blank_answer;
    long_variant = length-replicate {A = ℕ} 256 0;
    long_key = length-replicate {A = ℕ} 256 0;
    long_ambiguous = length-replicate {A = ℕ} 256 0;
  };
  stored = λ t q h k. absurd (omega arith);
}

-- What the operations on the strand store do to the view of the tables: each is the definition's, at the one table that it names. From
-- the theorems on places and the laws of spans.
use Prim.Native.Nat.{ℕ, ◌<◌}
use native.Mathlib.Omega.{arith}
use mathlib.Core.Path.{◌≡◌, refl, sym, ap, ap₂, subst, ◌∙◌}
use mathlib.Core.Bool.{Bool, true, false, not, ◌&&◌}
use mathlib.Core.Option.{Option, none, some}
use mathlib.Core.List.{List, [], ◌∷◌, map, map-append}
use lib.ListN.{length, get_or, set, length-map}
use lib.Seq.{get_or-set_same, get_or-set_other}
use lib.Dec.{eqb, ltb}
use borrow.Author.Tests.{ltb-true}
use Rattle.laws.proofs.All.{all_map}
use Rattle.definitions.specs as said
use Rattle.definitions.specs.Book as books
use Rattle.definitions.specs.Lists.{push, position, rotate_left}
use Rattle.definitions.specs.Strand as said_strand
use Rattle.definitions.specs.Table.{with_strands, enqueue_strand, take_strands, pop_front, dequeue_next_strand_that}
use Rattle.definitions.specs.Turn as turns
use Rattle.rings.specs.Lists.{first_index, times, turned}
use Rattle.rings.proofs.Counts.{map_cong, absent_all}
use Rattle.strands.specs.declared.Strand.{Strand}
use Rattle.strands.specs.View.{seen}
use Rattle.rings.specs.Rings.{place_if}
use Rattle.stores.specs.declared.queue.Strands.{Strands}
use Rattle.stores.specs.declared.table.Answers.{Answers}
use Rattle.stores.specs.declared.tables.Tables.{Tables}
use Rattle.stores.specs.Places.{ring, taken_at, taken_if, free_place, first_of}
use Rattle.stores.specs.View.{FirstStrands, is_fresh, strand_by, unread_strand, strand_at, mode, held_table, tables}
use Rattle.stores.specs.Numbers.{waits_fresh, flag, flag_number}
use Rattle.stores.specs.Sound.{SoundPlaces, InUse, FirstOf, Long, SoundStrands}
use Rattle.stores.specs.Queue.{waits_of, wants_of, with_places, strands_of, with_numbers, written, made_fresh}
use Rattle.stores.specs.Queue.{enqueued_strand, given, test_at, taken_strand, strand_place, any_strand, cleared, freed_strands}
use Rattle.stores.specs.QueueInPlace.{TakenAt}
use Rattle.stores.proofs.NumbersCases.{flag_of}
use Rattle.stores.proofs.ListsSpans.{
  span_same,
  span_set,
  first_if,
  position_is,
  first_map,
  first_cong,
  rotate_front,
  map_at,
  all_times,
}
use Rattle.stores.proofs.PlacesViews.{enqueued_own, enqueued_other, given_other}
use Rattle.stores.proofs.PlacesCases.{freed_sound}
use Rattle.stores.proofs.PlacesMoves.{moved_own, moved_other}
use Rattle.stores.proofs.QueueCases.{waits_written}
use Rattle.stores.proofs.QueueSound.{taken_there}

-- THE LIST OF TABLES, when the strands of one change or of none
module _ (fresh : FirstStrands) (ts : Tables) (a : Answers) (s s'' : Strands) where
  pub tables_kept : ((u : ℕ) → u < ts.count → strands_of fresh s'' u ≡ strands_of fresh s u) → tables fresh ts s'' a ≡ tables fresh ts s a
  tables_kept h = span_same (held_table fresh ts s a) (held_table fresh ts s'' a) ts.count
      (λ u k. ap (with_strands (held_table fresh ts s a u)) (h u k))

  pub tables_changed : (t : ℕ) → t < ts.count → ((u : ℕ) → u < ts.count → (u ≡ t → ⊥) → strands_of fresh s'' u ≡ strands_of fresh s u)
      → tables fresh ts s'' a ≡ set (tables fresh ts s a) t (with_strands (held_table fresh ts s a t) (strands_of fresh s'' t))
  tables_changed t h other =
      span_set (held_table fresh ts s a) (held_table fresh ts s'' a) ts.count t h
      (λ u k d. ap (with_strands (held_table fresh ts s a u)) (other u k d))

-- WRITE at a place that waits nowhere: what another place shows is as it was
module _ (fresh : FirstStrands) (s : Strands) (q : ℕ) (strands : List Strand) (time ambiguous variant waits wants : ℕ)
    (away : (u : ℕ) → (u ≡ q → ⊥) → get_or strands u unread_strand ≡ get_or s.strands u unread_strand) where
  abbrev s'' : Strands
  s'' = with_numbers q strands time ambiguous variant waits wants s

  pub numbers_away : (u : ℕ) → (u ≡ q → ⊥) → strand_at fresh
      (with_numbers q strands time ambiguous variant waits wants s) u ≡ strand_at fresh s u
  numbers_away u d = rw (
    away u d,
    get_or-set_other s.time q u time 0 d,
    get_or-set_other s.waits q u waits 0 d,
    get_or-set_other s.wants q u wants 0 d,
  ) refl

  pub numbers_queue : (t : ℕ) → times q (ring s.places t) ≡ 0
      → strands_of fresh (with_numbers q strands time ambiguous variant waits wants s) t ≡ strands_of fresh s t
  numbers_queue t waits_nowhere =
      map_cong (strand_at fresh s'') (strand_at fresh s) (ring s.places t)
      (all_map numbers_away (absent_all q (ring s.places t) waits_nowhere))

module _ (fresh : FirstStrands) (s : Strands) (q time : ℕ) (x : Strand) where
  pub written_here : q < 256 → Long s → strand_at fresh (written q time x s) q ≡ seen time x
  written_here h long = rw (
    get_or-set_same s.strands q x unread_strand (omega (arith, long.long_strands)),
    get_or-set_same s.time q time 0 (omega (arith, long.long_time)),
    get_or-set_same s.waits q (waits_of x) 0 (omega (arith, long.long_waits)),
    waits_written x,
  ) refl

  pub written_away : (u : ℕ) → (u ≡ q → ⊥) → strand_at fresh (written q time x s) u ≡ strand_at fresh s u
  written_away =
      numbers_away fresh s q (set s.strands q x) time (flag_number x.ambiguous) x.variant (waits_of x) (wants_of x)
      (λ u d. get_or-set_other s.strands q u x unread_strand d)

  pub written_queue : (t : ℕ) → times q (ring s.places t) ≡ 0 → strands_of fresh (written q time x s) t ≡ strands_of fresh s t
  written_queue =
      numbers_queue fresh s q (set s.strands q x) time (flag_number x.ambiguous) x.variant (waits_of x) (wants_of x)
      (λ u d. get_or-set_other s.strands q u x unread_strand d)

-- a fresh place shows the first strand of its clause
unpursued : (x : said_strand.Strand) → x.last_pursued_time ≡ 0 → said_strand.with_pursued x 0 ≡ x
unpursued x e = ap (said_strand.with_pursued x) (sym e)

module _ (fresh : FirstStrands) (s : Strands) (q c variant flags : ℕ) where
  pub made_fresh_here : q < 256 → Long s → FirstOf (fresh c) variant flags → strand_at fresh (made_fresh q c variant flags s) q ≡ fresh c
  made_fresh_here h long first = rw (
    get_or-set_same s.time q 0 0 (omega (arith, long.long_time)),
    get_or-set_same s.waits q waits_fresh 0 (omega (arith, long.long_waits)),
    get_or-set_same s.wants q c 0 (omega (arith, long.long_wants)),
  ) (unpursued (fresh c) first.is_unpursued)

  pub made_fresh_away : (u : ℕ) → (u ≡ q → ⊥) → strand_at fresh (made_fresh q c variant flags s) u ≡ strand_at fresh s u
  made_fresh_away = numbers_away fresh s q s.strands 0 (flag_number (books.bit0 flags)) variant waits_fresh c (λ u d. refl)

  pub made_fresh_queue : (t : ℕ) → times q (ring s.places t) ≡ 0
      → strands_of fresh (made_fresh q c variant flags s) t ≡ strands_of fresh s t
  made_fresh_queue = numbers_queue fresh s q s.strands 0 (flag_number (books.bit0 flags)) variant waits_fresh c (λ u d. refl)

-- ENQUEUE
module _ (fresh : FirstStrands) (s : Strands) (n : ℕ) (held : List ℕ) (t q : ℕ) (h : t < n)
    (sound : SoundPlaces s.places n (q ∷ held)) where
  small : t < 256
  small = omega (arith, sound.few)

  pub enqueue_own : strands_of fresh (enqueued_strand t q s) t ≡ push (strands_of fresh s t) (strand_at fresh s q)
  enqueue_own = ap (map (strand_at fresh s)) (enqueued_own s.places n held q t sound small)
      ∙ map-append (strand_at fresh s) (ring s.places t) (q ∷ [])

  pub enqueue_other : (u : ℕ) → (u ≡ t → ⊥) → strands_of fresh (enqueued_strand t q s) u ≡ strands_of fresh s u
  enqueue_other u d = ap (map (strand_at fresh s)) (enqueued_other s.places n held q t sound small u d)

  -- the definitions' `enqueue_strand`, at table t alone
  pub enqueue_view : (ts : Tables) (a : Answers) → ts.count ≡ n
      → tables fresh ts (enqueued_strand t q s) a ≡ set (tables fresh ts s a) t
      (enqueue_strand (strand_at fresh s q) (held_table fresh ts s a t))
  enqueue_view ts a e =
      tables_changed fresh ts a s (enqueued_strand t q s) t (omega arith) (λ u k d. enqueue_other u d)
      ∙ ap (λ (l : List said_strand.Strand). set (tables fresh ts s a) t (with_strands (held_table fresh ts s a t) l)) enqueue_own

-- GIVE BACK, and a place taken: no queue changes
pub given_view : (fresh : FirstStrands) (ts : Tables) (a : Answers) (s : Strands) (held : List ℕ) (q : ℕ)
    → SoundPlaces s.places ts.count (q ∷ held)
    → tables fresh ts (given q s) a ≡ tables fresh ts s a
given_view fresh ts a s held q sound =
    tables_kept fresh ts a s (given q s) (λ u k. ap (map (strand_at fresh s)) (given_other s.places ts.count held q sound u k))

pub freed_view : (fresh : FirstStrands) (ts : Tables) (a : Answers) (s : Strands) (held : List ℕ)
    → SoundPlaces s.places ts.count held → free_place s.places < 256
    → tables fresh ts (freed_strands s) a ≡ tables fresh ts s a
freed_view fresh ts a s held sound h =
    tables_kept fresh ts a s (freed_strands s) (λ u k. ap (map (strand_at fresh s))
    ((freed_sound s.places ts.count held sound h).same u k))

-- TAKE ALL
pub cleared_view : (fresh : FirstStrands) (ts : Tables) (a : Answers) (s : Strands) (held : List ℕ) (t : ℕ) → t < ts.count
    → SoundPlaces s.places ts.count held
    → tables fresh ts (cleared t s) a ≡ set (tables fresh ts s a) t (take_strands (held_table fresh ts s a t))
cleared_view fresh ts a s held t h sound =
    tables_changed fresh ts a s (cleared t s) t h
    (λ u k d. ap (map (strand_at fresh s)) (moved_other s.places ts.count held t h sound u (λ e. omega (arith, sound.few)) d))
    ∙ ap (λ (l : List ℕ). set (tables fresh ts s a) t (with_strands (held_table fresh ts s a t) (map (strand_at fresh s) l)))
    (moved_own s.places ts.count held t h sound)

-- TAKE THE FIRST ELIGIBLE. The numbers beside the strands test as the strands do.
is_mode : (k : ℕ) → said.is_complete (mode k) ≡ flag k
is_mode k = go (flag k)
  where
    go : (b : Bool) → said.is_complete (elim b [ true ↦ said.Complete | false ↦ said.Ambiguous ]) ≡ b
    go true = refl
    go false = refl

shown_time : (unwritten : Bool) (time : ℕ) (first : said_strand.Strand) (x : Strand)
    → (strand_by unwritten time first x).last_pursued_time ≡ time
shown_time true time first x = refl
shown_time false time first x = refl

pub test_is : (fresh : FirstStrands) (s : Strands) (clock k q : ℕ) → InUse fresh s q
    → test_at clock (flag k) s q ≡ turns.eligible clock (mode k) (strand_at fresh s q)
test_is fresh s clock k q u =
    ap₂ (λ (x y : ℕ). ltb x clock && not (flag k && not (eqb y 0)))
    (sym (shown_time (is_fresh s q) (get_or s.time q 0) (fresh (get_or s.wants q 0)) (get_or s.strands q unread_strand)))
    u.is_ambiguous
    ∙ ap₂ (λ (b c : Bool). ltb (strand_at fresh s q).last_pursued_time clock && not (b && c)) (sym (is_mode k))
    (flag_of (strand_at fresh s q).ex_clause.ambiguous)

module _ (fresh : FirstStrands) (ts : Tables) (a : Answers) (s : Strands) (held : List ℕ) (t clock : ℕ) (h : t < ts.count)
    (sound : SoundStrands fresh s ts.count held) where
  abbrev complete : Bool
  complete = flag (get_or ts.complete t 0)

  abbrev test : said_strand.Strand → Bool
  test = turns.eligible clock (mode (get_or ts.complete t 0))

  abbrev places : List ℕ
  places = ring s.places t

  abbrev j : ℕ
  j = first_of (test_at clock complete s) t s.places

  first_is : first_index test (strands_of fresh s t) ≡ j
  first_is = first_map test (strand_at fresh s) places
      ∙ sym (first_cong (test_at clock complete s) (λ q. test (strand_at fresh s q)) places
      (all_times (λ q. test_at clock complete s q ≡ test (strand_at fresh s q)) places
      (λ q k. test_is fresh s clock (get_or ts.complete t 0) q (sound.queued t q h k))))

  pub first_eligible : (b : Bool) → any_strand clock complete t s ≡ b → position test (strands_of fresh s t) ≡ first_if b j
  first_eligible b e = position_is test (strands_of fresh s t) ∙ ap₂ (λ (i m : ℕ). first_if (ltb i m) i) first_is
      (length-map places (strand_at fresh s)) ∙ ap (λ (c : Bool). first_if c j) e

  -- none where none is found
  pub taken_none : any_strand clock complete t s ≡ false → dequeue_next_strand_that test (held_table fresh ts s a t) ≡ none
  taken_none e =
      ap (λ (o : Option ℕ). elim o [
        | none ↦ none
        | some first ↦ pop_front
            (with_strands (held_table fresh ts s a t) (rotate_left (strands_of fresh s t) first))
      ]) (first_eligible false e)

  module _ (e : any_strand clock complete t s ≡ true) where
    there : j < length places
    there = ltb-true j (length places) e

    taken_is : taken_strand clock complete t s ≡ with_places s (taken_at t j s.places)
    taken_is = ap (λ (b : Bool). with_places s (taken_if b t j s.places)) e

    pub place_is : strand_place clock complete t s ≡ get_or (ring s.places t) (first_of (test_at clock complete s) t s.places) 0
    place_is = ap (λ (b : Bool). place_if b (get_or places j 0)) e

    took : TakenAt fresh ts.count held t j s (with_places s (taken_at t j s.places)) (get_or places j 0)
    took = taken_there fresh s ts.count held t j h sound there

    -- what the queue gives, and what it leaves: those behind, and then those before
    pub taken_view : dequeue_next_strand_that test (held_table fresh ts s a t) ≡ some
        (strand_at fresh s (strand_place clock complete t s), held_table fresh ts (taken_strand clock complete t s) a t)
    taken_view =
        let l : List said_strand.Strand = strands_of fresh s t in
        let d : said_strand.Strand = strand_at fresh s 256 in
        let k : j < length l = omega (arith, there, length-map places (strand_at fresh s)) in
        let f : rotate_left l j ≡ strand_at fresh s (get_or places j 0) ∷ turned j l = rotate_front l j d k
        ∙ ap (λ (x : said_strand.Strand). x ∷ turned j l) (map_at (strand_at fresh s) places j 0 d there) in
        ap (λ (o : Option ℕ). elim o [
          | none ↦ none
          | some first ↦ pop_front
              (with_strands (held_table fresh ts s a t) (rotate_left l first))
        ]) (first_eligible true e)
        ∙ ap (λ (m : List said_strand.Strand). pop_front (with_strands (held_table fresh ts s a t) m)) f
        ∙ ap₂ (λ (x : said_strand.Strand) (m : List said_strand.Strand). some (x, with_strands (held_table fresh ts s a t) m))
        (ap (strand_at fresh s) (sym place_is))
        (sym took.leaves ∙ ap (λ (r : Strands). strands_of fresh r t) (sym taken_is))

    -- no other table changes
    pub taken_tables : tables fresh ts (taken_strand clock complete t s) a ≡ set (tables fresh ts s a) t
        (held_table fresh ts (taken_strand clock complete t s) a t)
    taken_tables = subst (λ (r : Strands). tables fresh ts r a ≡ set (tables fresh ts s a) t (held_table fresh ts r a t)) (sym taken_is)
        (tables_changed fresh ts a s (with_places s (taken_at t j s.places)) t h (λ u k d. (took.others u d).1))

-- New strands and fresh places in a table's queue, and how many strands are live: `SoundStrands` is kept, the view is the definition's,
-- and there is room below 256. From the steps in QueueSound and QueueViews.
use Prim.Native.Nat.{ℕ, zero, suc, ◌+◌, ◌≤◌, ◌<◌}
use native.Mathlib.Omega.{arith}
use mathlib.Core.Path.{◌≡◌, refl, sym, ap, ap₂, subst, ◌∙◌}
use mathlib.Core.Bool.{Bool}
use mathlib.Core.List.{List, [], ◌∷◌, ◌++◌, map, append_assoc, append-nil}
use lib.ListN.{length, get_or, set, length-map, length-append}
use borrow.Author.Tests.{lt-ltb}
use Rattle.definitions.specs.Lists.{push, total}
use Rattle.definitions.specs.Strand as said_strand
use Rattle.definitions.specs.Table.{with_strands, enqueue_strand}
use Rattle.rings.specs.Lists.{times}
use Rattle.laws.specs.Spans.{span}
use Rattle.sizes.specs.Limits.{most_clauses, most_places}
use Rattle.rings.specs.Rings.{linked, lengthened}
use Rattle.rings.proofs.Counts.{times_self, times_first}
use Rattle.strands.specs.declared.Strand.{Strand}
use Rattle.strands.specs.View.{seen, Sound}
use Rattle.stores.specs.declared.places.Places.{Places}
use Rattle.stores.specs.declared.queue.Strands.{Strands}
use Rattle.stores.specs.declared.table.Answers.{Answers}
use Rattle.stores.specs.declared.tables.Tables.{Tables}
use Rattle.stores.specs.Numbers.{flag_number}
use Rattle.stores.specs.Places.{ring, places, free_place, TookPlace}
use Rattle.stores.specs.View.{FirstStrands, strand_at, held_table, tables}
use Rattle.stores.specs.Sound.{waiting, FirstOf, SoundStrands, Ready}
use Rattle.stores.specs.Queue.{waits_of, wants_of, with_places, strands_of, written, made_fresh, enqueued_strand, freed_strands}
use Rattle.stores.specs.Queue.{stored}
use Rattle.stores.specs.Queue.{fresh_if, fresh_stored, clauses_from, fresh_each}
use Rattle.stores.proofs.PlacesWaiting.{waiting_one, total_waiting}
use Rattle.stores.proofs.PlacesCases.{freed_sound, freed_none, freed_room}
use Rattle.stores.proofs.PlacesMoves.{freed_enqueued_is}
use Rattle.stores.proofs.QueueSound.{written_sound, made_fresh_sound, freed_ready, enqueue_sound}
use Rattle.stores.proofs.QueueViews.{tables_changed, written_here, written_away, written_queue, enqueue_own, enqueue_other}
use Rattle.stores.proofs.QueueViews.{made_fresh_here, made_fresh_away, made_fresh_queue}

-- what the held places show is as it was
abbrev pub HeldStill : FirstStrands → (s s'' : Strands) → (held : List ℕ) → Type 0
HeldStill fresh s s'' held = (u : ℕ) → 1 ≤ times u held → strand_at fresh s'' u ≡ strand_at fresh s u

-- THE QUEUE OF TABLE t GROWS at its end: every other queue, and what the held places show, is as it was
pub record Grown (fresh : FirstStrands) (s s'' : Strands) (n : ℕ) (held : List ℕ) (t : ℕ) (new : List said_strand.Strand) : Type 0 where
  pub sound : SoundStrands fresh s'' n held
  pub own : strands_of fresh s'' t ≡ strands_of fresh s t ++ new
  pub others : (u : ℕ) → u < n → (u ≡ t → ⊥) → strands_of fresh s'' u ≡ strands_of fresh s u
  pub holds : HeldStill fresh s s'' held

module _ (fresh : FirstStrands) (s s'' : Strands) (n : ℕ) (held : List ℕ) (t : ℕ) (new : List said_strand.Strand) (h : t < n)
    (grown : Grown fresh s s'' n held t new) where
  pub grown_view : (ts : Tables) (a : Answers) → ts.count ≡ n
      → tables fresh ts s'' a ≡ set (tables fresh ts s a) t (with_strands (held_table fresh ts s a t) (strands_of fresh s t ++ new))
  grown_view ts a e =
      tables_changed fresh ts a s s'' t (omega arith) (λ u k d. grown.others u (omega arith) d)
      ∙ ap (λ (l : List said_strand.Strand). set (tables fresh ts s a) t (with_strands (held_table fresh ts s a t) l)) grown.own

  -- so many more are live
  pub grown_count : waiting s''.places n ≡ waiting s.places n + length new
  grown_count =
      let a : length (strands_of fresh s'' t) ≡ length (strands_of fresh s t) + length new =
      ap length grown.own ∙ length-append (strands_of fresh s t) new in
      let l : (u : ℕ) → length (ring s''.places u) ≡ length (strands_of fresh s'' u) =
      λ u. sym (length-map (ring s''.places u) (strand_at fresh s'')) in
      let m : (u : ℕ) → length (strands_of fresh s u) ≡ length (ring s.places u) =
      λ u. length-map (ring s.places u) (strand_at fresh s) in
      let w = waiting_one s.places s''.places n t h (λ u k d. l u ∙ ap length (grown.others u k d) ∙ m u) in
      omega (arith, a, w, l t, m t)

-- it grows, and grows again
pub grown_on : (fresh : FirstStrands) (s s'' s''' : Strands) (n : ℕ) (held : List ℕ) (t : ℕ) (new more : List said_strand.Strand)
    → Grown fresh s s'' n held t new → Grown fresh s'' s''' n held t more → Grown fresh s s''' n held t (new ++ more)
grown_on fresh s s'' s''' n held t new more g m = record {
  sound = m.sound;
  own = m.own ∙ ap (λ (l : List said_strand.Strand). l ++ more) g.own ∙ append_assoc (strands_of fresh s t) new more;
  others = λ u k d. m.others u k d ∙ g.others u k d;
  holds = λ u k. m.holds u k ∙ g.holds u k;
}

-- A PLACE TAKEN, WRITTEN AND ENQUEUED
module _ (fresh : FirstStrands) (s : Strands) (n : ℕ) (held : List ℕ) (t : ℕ) (h : t < n) (sound : SoundStrands fresh s n held)
    (room : free_place s.places < most_places) where
  abbrev q : ℕ
  q = free_place s.places

  abbrev ready : Ready fresh (freed_strands s) n held q
  ready = freed_ready fresh s n held sound room

  -- w is what was written there
  enqueued_grown : (w : Strands) (x : said_strand.Strand) → SoundStrands fresh w n (q ∷ held) → strand_at fresh w q ≡ x
      → ((u : ℕ) → times q (ring (freed_strands s).places u) ≡ 0 → strands_of fresh w u ≡ strands_of fresh (freed_strands s) u)
      → ((u : ℕ) → (u ≡ q → ⊥) → strand_at fresh w u ≡ strand_at fresh s u)
      → Grown fresh s (enqueued_strand t q w) n held t (x ∷ [])
  enqueued_grown w x put shown queue away =
      let same : (u : ℕ) → u < n → strands_of fresh w u ≡ strands_of fresh s u =
      λ u k. queue u (ready.places.apart q u (times_first q held))
      ∙ ap (map (strand_at fresh s)) ((freed_sound s.places n held sound.places room).same u k) in
      record {
        sound = enqueue_sound fresh w n held t q h put;
        own =
            enqueue_own fresh w n held t q h put.places
            ∙ ap₂ (λ (l : List said_strand.Strand) (y : said_strand.Strand). push l y) (same t h) shown;
        others = λ u k d. enqueue_other fresh w n held t q h put.places u d ∙ same u k;
        holds = λ u k. away u (λ e. omega (arith, k, ap (λ (v : ℕ). times v held) e, times_self q, ready.places.once q));
      }

  -- a new strand
  pub stored_grown : (time : ℕ) (x : Strand) → Sound x → Grown fresh s (stored t time x s) n held t (seen time x ∷ [])
  stored_grown time x good =
      enqueued_grown (written q time x (freed_strands s)) (seen time x)
      (written_sound fresh (freed_strands s) n held q ready time x good)
      (written_here fresh (freed_strands s) q time x room sound.long)
      (written_queue fresh (freed_strands s) q time x) (written_away fresh (freed_strands s) q time x)

  -- or a fresh place
  pub fresh_grown : (c variant flags : ℕ) → FirstOf (fresh c) variant flags
      → Grown fresh s (fresh_stored t c variant flags s) n held t (fresh c ∷ [])
  fresh_grown c variant flags first =
      subst (λ (b : Bool). Grown fresh s (fresh_if b t c variant flags s) n held t (fresh c ∷ [])) (sym (lt-ltb q most_places room))
      (enqueued_grown (made_fresh q c variant flags (freed_strands s)) (fresh c)
      (made_fresh_sound fresh (freed_strands s) n held q ready c variant flags first)
      (made_fresh_here fresh (freed_strands s) q c variant flags room sound.long first)
      (made_fresh_queue fresh (freed_strands s) q c variant flags) (made_fresh_away fresh (freed_strands s) q c variant flags))

-- a new strand: what control cites
module _ (fresh : FirstStrands) (s : Strands) (n : ℕ) (held : List ℕ) (t time : ℕ) (x : Strand) (h : t < n)
    (sound : SoundStrands fresh s n held) (good : Sound x) (room : free_place s.places < most_places) where
  pub stored_sound : SoundStrands fresh (stored t time x s) n held
  stored_sound = (stored_grown fresh s n held t h sound room time x good).sound

  -- the definitions' `enqueue_strand` of the strand that is written
  pub stored_view : (ts : Tables) (a : Answers) → ts.count ≡ n
      → tables fresh ts (stored t time x s) a ≡ set (tables fresh ts s a) t (enqueue_strand (seen time x) (held_table fresh ts s a t))
  stored_view =
      grown_view fresh s (stored t time x s) n held t (seen time x ∷ []) h (stored_grown fresh s n held t h sound room time x good)

  pub stored_count : waiting (stored t time x s).places n ≡ waiting s.places n + 1
  stored_count =
      grown_count fresh s (stored t time x s) n held t (seen time x ∷ []) h (stored_grown fresh s n held t h sound room time x good)

-- FRESH PLACES for the clauses from c on: there is room for each as long as all live strands are at most 256 together
module _ (fresh : FirstStrands) (variants flags : List ℕ) (n : ℕ) (held : List ℕ) (t : ℕ) (h : t < n) where
  pub fresh_all : (left c : ℕ) (s : Strands) → SoundStrands fresh s n held
      → ((i : ℕ) → c ≤ i → i < c + left → FirstOf (fresh i) (get_or variants i 0) (get_or flags i 0))
      → waiting s.places n + length held + left ≤ most_places
      → Grown fresh s (fresh_each variants flags t left c s) n held t (span fresh c left)
  fresh_all zero c s sound first room = record {
    sound = sound;
    own = sym (append-nil (strands_of fresh s t));
    others = λ u k d. refl;
    holds = λ u k. refl;
  }
  fresh_all (suc left) c s sound first room =
      let v : ℕ = get_or variants c 0 in
      let f : ℕ = get_or flags c 0 in
      let r : free_place s.places < most_places = freed_room s.places n held sound.places (omega arith) in
      let one : Grown fresh s (fresh_stored t c v f s) n held t (fresh c ∷ []) =
      fresh_grown fresh s n held t h sound r c v f (first c (omega arith) (omega arith)) in
      let more = grown_count fresh s (fresh_stored t c v f s) n held t (fresh c ∷ []) h one in
      grown_on fresh s (fresh_stored t c v f s) (fresh_each variants flags t left (suc c) (fresh_stored t c v f s)) n held t
      (fresh c ∷ []) (span fresh (suc c) left) one
      (fresh_all left (suc c) (fresh_stored t c v f s) one.sound (λ i a b. first i (omega arith) (omega arith)) (omega (arith, more)))

-- what `fresh_places` says, where the clauses are a book's
pub fresh_whole : (variants flags : List ℕ) (t first count : ℕ) (s : Strands) → first + count ≤ most_clauses
    → fresh_each variants flags t (clauses_from first count) first s ≡ fresh_each variants flags t count first s
fresh_whole variants flags t first count s h =
    let all : clauses_from first count ≡ count = omega arith in
    ap (λ (left : ℕ). fresh_each variants flags t left first s) all

-- HOW MANY: the definitions' count of the strands in the queues is what waits in the tables' rings
pub queued_is : (fresh : FirstStrands) (ts : Tables) (s : Strands) (a : Answers)
    → total (λ t. length t.strands) (tables fresh ts s a) ≡ waiting s.places ts.count
queued_is fresh ts s a = total_waiting (held_table fresh ts s a) (λ t. length t.strands) s.places
    (λ u. length-map (ring s.places u) (strand_at fresh s)) ts.count

-- 22: no place is found exactly where 256 strands are live, queued or held
pub no_place_is_full : (fresh : FirstStrands) (ts : Tables) (s : Strands) (a : Answers) (held : List ℕ)
    → SoundStrands fresh s ts.count held
    → 256 ≤ free_place s.places → total (λ t. length t.strands) (tables fresh ts s a) + length held ≡ 256
no_place_is_full fresh ts s a held sound h = omega
    (arith, queued_is fresh ts s a, freed_none s.places ts.count held sound.places h)

pub a_place_is_found : (fresh : FirstStrands) (ts : Tables) (s : Strands) (a : Answers) (held : List ℕ)
    → SoundStrands fresh s ts.count held
    → total (λ t. length t.strands) (tables fresh ts s a) + length held < 256 → free_place s.places < 256
a_place_is_found fresh ts s a held sound h = freed_room s.places ts.count held sound.places (omega (arith, queued_is fresh ts s a))

-- WHAT THE OWNER'S STATEMENTS LEAVE: a strand written with the numbers beside it
pub written_is : (s : Strands) (q at : ℕ) (x : Strand) (time ambiguous variant waits wants : List ℕ) → time ≡ set s.time q at
    → ambiguous ≡ set s.ambiguous q (flag_number x.ambiguous) → variant ≡ set s.variant q x.variant
    → waits ≡ set s.waits q (waits_of x) → wants ≡ set s.wants q (wants_of x)
    → record {
      strands = set s.strands q x;
      time = time;
      ambiguous = ambiguous;
      variant = variant;
      waits = waits;
      wants = wants;
      places = s.places;
    } ≡ written q at x s
written_is s q at x time ambiguous variant waits wants et ea ev ew en = cc

-- a place taken, enqueued and written with the numbers beside it
pub stored_is : (s : Strands) (t time : ℕ) (x : Strand) (n' l' : List ℕ) (m' q : ℕ)
    → TookPlace s.places.next s.places.tail s.places.len s.places.top n' l' m' q
    → (n'' t'' l'' : List ℕ) → n'' ≡ linked n' s.places.tail l' t q → t'' ≡ set s.places.tail t q → l'' ≡ lengthened l' t
    → with_places (written q time x s) (places n'' t'' l'' m') ≡ stored t time x s
stored_is s t time x n' l' m' q took n'' t'' l'' en et el =
    ap₂ (λ (i : ℕ) (r : Places). with_places (written i time x s) r) took.is
    (freed_enqueued_is s.places t n' l' m' q took n'' t'' l'' en et el)

-- Clearing meets 29 exactly where `decide_clear` of crate `small_steps` stops with it; else the tables that `decide_clear` names have lost
-- their queues, and the rings are sound. By induction on the waiting strands; a walk along the places taken is one on the strands of the
-- queue.
use Prim.Native.Nat.{ℕ, zero, suc, ◌+◌, ◌-◌, ◌≤◌, ◌<◌}
use native.Mathlib.Nat.{mod-eq_of_lt}
use native.Mathlib.Omega.{arith}
use mathlib.Core.Path.{◌≡◌, refl, sym, ap, ap₂, subst, subst⁻¹, ◌∙◌}
use mathlib.Core.Bool.{Bool, true, false}
use mathlib.Core.Option.{Option, none, some}
use mathlib.Core.List.{List, [], ◌∷◌, ◌++◌, map, append-nil, append_assoc}
use lib.ListN.{length, get_or, get_elem?, length-map}
use lib.Seq.{append_snoc}
use lib.Dec.{eqb}
use Rattle.definitions.specs.{TableIndex}
use Rattle.definitions.specs.Stop.{Stops, stop, go, ◌>>=◌}
use Rattle.definitions.specs.Lists.{any_passes, total}
use Rattle.definitions.specs.Strand.{SelectedSubgoal, Strand}
use Rattle.definitions.specs.Table.{Table}
use Rattle.definitions.specs.Tables.{Forest, queued}
use Rattle.small_steps.specs.Decide.{or, no_table, table_of, strands_left, decide_each, decide_clear}
use Rattle.rings.specs.Lists.{times}
use Rattle.rings.proofs.Counts.{true_false, times_append, times_self}
use Rattle.laws.specs.Spans.{span}
use Rattle.stores.specs.declared.places.Places.{Places}
use Rattle.stores.specs.Numbers.{free}
use Rattle.stores.specs.Places.{ring}
use Rattle.stores.specs.Sound.{waiting, SoundPlaces}
use Rattle.stores.proofs.PlacesViews.{length_ring}
use Rattle.stores.proofs.PlacesWaiting.{total_waiting}
use Rattle.stores.proofs.ListsSpans.{span_at}
use Rattle.stores.proofs.PlacesMoves.{moved_free, moved_own, moved_other, moved_sound}
use Rattle.control.specs.declared.clear_strands_after_cycle.Cleared.{Cleared}
use Rattle.control.specs.ClearStrandsAfterCycle.{
  awaited,
  first_place,
  taken,
  clear_each,
  clear,
  Told,
  Shows,
  rings_in,
  queue_unless,
  Emptied,
  Clears,
}
use Rattle.control.proofs.ClearStrandsAfterCycleCases.{clear_empty, clear_some, each_over, each_nothing, each_step}
use Rattle.control.proofs.ClearStrandsAfterCycleSound.{
  emptied_more,
  Went,
  Agrees,
  went_nowhere,
  agrees_on,
  starts_next,
  starts_walk,
  Starts,
  waiting_moved,
  strands_found,
}

decided_none : (f : Forest) (depth : ℕ) (gone : List ℕ) → decide_clear f depth [] gone ≡ go gone
decided_none f zero gone = refl
decided_none f (suc depth) gone = refl

module _ (waits : List ℕ) (strand_at : ℕ → Strand) (n : ℕ) (held : List ℕ) (was : Places) (f : Forest)
    (told : (t q : ℕ) → t < n → 1 ≤ times q (ring was t) → Told n (get_or waits q 0) (strand_at q).selected_subgoal)
    (queues : (t : ℕ) → t < n → (table_of f t).strands ≡ map strand_at (ring was t)) where
  abbrev at : Cleared → Places
  at c = rings_in was.top c

  -- a call of a table: it may go `depth` deep below its own queue
  record Calling (gone : List ℕ) (w depth : ℕ) (c : Cleared) : Type 0 where
    on : c.met_29 ≡ false
    emptied : Emptied n held was gone (at c)
    table : awaited w < n
    deep : 0 < length (ring (at c) (awaited w)) → waiting (at c) n < depth + length (ring (at c) (awaited w))

  abbrev Called : List ℕ → (w depth : ℕ) → Cleared → Type 0
  Called gone w depth c = Agrees n held was (at c) (clear waits w c)
      (decide_clear f depth (map strand_at (ring (at c) (awaited w))) (awaited w ∷ gone))

  -- where at most b wait
  abbrev Calls : ℕ → Type 0
  Calls b = (gone : List ℕ) (w depth : ℕ) (c : Cleared) → Calling gone w depth c → waiting (at c) n ≤ b → Called gone w depth c

  -- the way along the places l from a on, which stand in the free ring
  record Walking (l gone : List ℕ) (a depth : ℕ) (c : Cleared) : Type 0 where
    on : c.met_29 ≡ false
    emptied : Emptied n held was gone (at c)
    front : List ℕ
    back : List ℕ
    stand : ring (at c) free ≡ front ++ (l ++ back)
    starts : Starts a l
    tell : (q : ℕ) → 1 ≤ times q l → Told n (get_or waits q 0) (strand_at q).selected_subgoal
    deep : waiting (at c) n ≤ depth

  abbrev Walked : (l gone : List ℕ) → (a depth : ℕ) → Cleared → Type 0
  Walked l gone a depth c = Agrees n held was (at c) (clear_each waits (clear waits) (length l) a c)
      (decide_each f (λ ss g. decide_clear f depth ss g) (map strand_at l) gone)

  abbrev Walks : ℕ → List ℕ → Type 0
  Walks b l = (gone : List ℕ) (a depth : ℕ) (c : Cleared) → Walking l gone a depth c → waiting (at c) n ≤ b → Walked l gone a depth c

  walks_none : (b : ℕ) → Walks b []
  walks_none b gone a depth c g k = rw (each_over waits (clear waits) 0 a c (omega arith))
      (g.on, went_nowhere n held was (at c) gone g.emptied)

  -- THE WAY from x on: by what its strand has selected, and by what the call comes to
  module _ (b x : ℕ) (l gone : List ℕ) (a depth : ℕ) (c : Cleared) (g : Walking (x ∷ l) gone a depth c) (k : waiting (at c) n ≤ b)
      (calls : Calls b) (rest : Walks b l) where
    abbrev w : ℕ
    w = get_or waits x 0

    abbrev d : Cleared
    d = clear waits w c

    -- the places of l stand behind x when the call has appended to the free ring
    module _ (gone' : List ℕ) (go_on : d.met_29 ≡ false) (went : Went n held was (at c) gone' (at d)) where
      behind : ring (at d) free ≡ g.front ++ (x ∷ (l ++ (g.back ++ went.more)))
      behind = went.grown ∙ ap (λ (m : List ℕ). m ++ went.more) g.stand ∙ simp append_assoc

      further : Walking l gone' (get_or d.next x 0) depth d
      further = record {
        on = go_on;
        emptied = went.emptied;
        front = g.front ++ (x ∷ []);
        back = g.back ++ went.more;
        stand = behind ∙ sym (append_snoc g.front x (l ++ (g.back ++ went.more)));
        starts = starts_next (at d) n held went.emptied.sound g.front x l (g.back ++ went.more) behind;
        tell = λ q h. g.tell q (omega arith);
        deep = omega (arith, went.fewer, g.deep);
      }

    by_result : w < 128 → (r : Stops (List TableIndex)) → Agrees n held was (at c) d r
        → Agrees n held was (at c) (clear_each waits (clear waits) (suc (length l)) x c)
        (r >>= λ gone'. decide_each f (λ ss g. decide_clear f depth ss g) (map strand_at l) gone')
    by_result h (stop j) a = (
      a.0,
      ap (λ (s : Cleared). s.met_29) (each_step waits (clear waits) (length l) x c h d refl true a.1)
          ∙ a.1,
    )
    by_result h (go gone') a =
        let next : Cleared = clear_each waits (clear waits) (length l) (get_or d.next x 0) d in
        let r = decide_each f (λ ss g. decide_clear f depth ss g) (map strand_at l) gone' in
        subst⁻¹ (λ (s : Cleared). Agrees n held was (at c) s r) (each_step waits (clear waits) (length l) x c h d refl false a.0)
        (agrees_on n held was (at c) (at d) gone' next a.1 r
        (rest gone' (get_or d.next x 0) depth d (further gone' a.0 a.1) (omega (arith, a.1.fewer, k))))

    by_selected : (o : Option SelectedSubgoal) → Told n w o
        → Agrees n held was (at c) (clear_each waits (clear waits) (suc (length l)) x c) (elim o [
          | none ↦ stop 29
          | some selected ↦
              decide_clear f depth (strands_left gone selected.subgoal_table (table_of f selected.subgoal_table))
              (selected.subgoal_table ∷ gone)
              >>= λ gone'. decide_each f (λ ss g. decide_clear f depth ss g) (map strand_at l) gone'
        ])
    by_selected none t = (refl, ap (λ (s : Cleared). s.met_29) (each_nothing waits (clear waits) (suc (length l)) x c (omega arith) t))
    by_selected (some selected) t =
        let same : strands_left gone selected.subgoal_table (table_of f selected.subgoal_table) ≡ map strand_at
        (ring (at c) (awaited w)) =
        ap (λ (u : ℕ). strands_left gone u (table_of f u)) t.1
        ∙ strands_found strand_at n held was gone (at c) g.emptied (awaited w) t.2 (table_of f (awaited w))
        (queues (awaited w) t.2) in
        subst⁻¹ (λ (r : Stops (List TableIndex)). Agrees n held was (at c) (clear_each waits (clear waits) (suc (length l)) x c)
        (r >>= λ gone'. decide_each f (λ ss g. decide_clear f depth ss g) (map strand_at l) gone'))
        (ap₂ (λ (ss : List Strand) (u : ℕ). decide_clear f depth ss (u ∷ gone)) same t.1)
        (by_result t.0 (decide_clear f depth (map strand_at (ring (at c) (awaited w))) (awaited w ∷ gone))
        (calls gone w depth c called k))
      where
        called : Calling gone w depth c
        called = record { on = g.on; emptied = g.emptied; table = t.2; deep = λ h. omega (arith, g.deep) }

    walked_some : Walked (x ∷ l) gone a depth c
    walked_some = subst⁻¹ (λ (y : ℕ). Walked (x ∷ l) gone y depth c) g.starts
        (by_selected (strand_at x).selected_subgoal (g.tell x (omega (arith, times_self x))))

  walks : (b : ℕ) → Calls b → (l : List ℕ) → Walks b l
  walks b calls [] gone a depth c g k = walks_none b gone a depth c g k
  walks b calls (x ∷ l) gone a depth c g k = walked_some b x l gone a depth c g k calls (walks b calls l)

  -- THE CALL of a table with no queue, and of one with a queue
  module _ (gone : List ℕ) (w depth : ℕ) (c : Cleared) (g : Calling gone w depth c) where
    abbrev t : ℕ
    t = awaited w

    abbrev sound : SoundPlaces (at c) n held
    sound = g.emptied.sound

    called_empty : ring (at c) t ≡ [] → Called gone w depth c
    called_empty e =
        let none : get_or c.len t 0 ≡ 0 = sym (length_ring (at c) t) ∙ ap length e in
        let all : Emptied n held was (t ∷ gone) (at c) =
        emptied_more n held was (at c) (at c) gone t g.emptied sound e (λ u h d. refl) (λ q. omega (arith, ap (times q) e)) in
        rw (e, decided_none f depth, clear_empty waits w c none) (g.on, went_nowhere n held was (at c) (t ∷ gone) all)

    moved : ring (at (taken t c)) free ≡ ring (at c) free ++ ring (at c) t
    moved = moved_free (at c) n held t g.table sound

    went_taken : Went n held was (at c) (t ∷ gone) (at (taken t c))
    went_taken = record {
      emptied = emptied_more n held was (at c) (at (taken t c)) gone t g.emptied (moved_sound (at c) n held t g.table sound)
          (moved_own (at c) n held t g.table sound)
          (λ u h d. moved_other (at c) n held t g.table sound u (λ e. omega (arith, sound.few)) d)
          (λ q. ap (times q) moved ∙ times_append q (ring (at c) free) (ring (at c) t));
      fewer = omega (arith, waiting_moved (at c) n held t g.table sound);
      more = ring (at c) t;
      grown = moved;
    }

    -- what waits in the queue has waited there from the start
    tell_here : (q : ℕ) → 1 ≤ times q (ring (at c) t) → Told n (get_or waits q 0) (strand_at q).selected_subgoal
    tell_here q h = told t q g.table (by_test (any_passes (eqb t) gone) (g.emptied.left t g.table))
      where
        by_test : (b : Bool) → ring (at c) t ≡ queue_unless b (ring was t) → 1 ≤ times q (ring was t)
        by_test true e = absurd (omega (arith, ap (times q) e))
        by_test false e = omega (arith, ap (times q) e)

  called_some : (b : ℕ) → Calls b → (gone : List ℕ) (w depth : ℕ) (c : Cleared) → Calling gone w depth c → waiting (at c) n ≤ suc b
      → 0 < length (ring (at c) (awaited w)) → Called gone w depth c
  called_some b calls gone w zero c g k has =
      absurd (omega (arith, g.deep has, waiting_moved (at c) n held (awaited w) g.table g.emptied.sound))
  called_some b calls gone w (suc depth) c g k has =
      let t = awaited w in
      let fewer : waiting (at (taken t c)) n + length (ring (at c) t) ≡ waiting (at c) n =
      waiting_moved (at c) n held t g.table g.emptied.sound in
      let size : length (ring (at c) t) ≡ get_or c.len t 0 = length_ring (at c) t in
      let way : Walking (ring (at c) t) (t ∷ gone) (first_place t c) depth (taken t c) = record {
        on = g.on;
        emptied = (went_taken gone w (suc depth) c g).emptied;
        front = ring (at c) free;
        back = [];
        stand = moved gone w (suc depth) c g ∙ ap (λ (l : List ℕ). ring (at c) free ++ l) (sym (append-nil (ring (at c) t)));
        starts = starts_walk (get_or c.len t 0) c.next (get_or c.tail t 0);
        tell = tell_here gone w (suc depth) c g;
        deep = omega (arith, g.deep has);
      } in
      let r = decide_each f (λ ss g. decide_clear f depth ss g) (map strand_at (ring (at c) t)) (t ∷ gone) in
      subst⁻¹ (λ (s : Cleared). Agrees n held was (at c) s r)
      (clear_some waits w c (λ e. omega (arith, size, has))
      ∙ ap (λ (m : ℕ). clear_each waits (clear waits) m (first_place t c) (taken t c)) (sym size))
      (agrees_on n held was (at c) (at (taken t c)) (t ∷ gone)
      (clear_each waits (clear waits) (length (ring (at c) t)) (first_place t c) (taken t c))
      (went_taken gone w (suc depth) c g) r (walks b calls (ring (at c) t) (t ∷ gone) (first_place t c) depth (taken t c) way
      (omega arith)))

  called_by : (b : ℕ) → Calls b → (gone : List ℕ) (w depth : ℕ) (c : Cleared) → Calling gone w depth c → waiting (at c) n ≤ suc b
      → (l : List ℕ) → ring (at c) (awaited w) ≡ l → Called gone w depth c
  called_by b calls gone w depth c g k [] e = called_empty gone w depth c g e
  called_by b calls gone w depth c g k (x ∷ l) e = called_some b calls gone w depth c g k (omega (arith, ap length e))

  none_left : (gone : List ℕ) (w depth : ℕ) (c : Cleared) → Calling gone w depth c → waiting (at c) n ≤ 0
      → (l : List ℕ) → ring (at c) (awaited w) ≡ l → Called gone w depth c
  none_left gone w depth c g k [] e = called_empty gone w depth c g e
  none_left gone w depth c g k (x ∷ l) e =
      absurd (omega (arith, ap length e, waiting_moved (at c) n held (awaited w) g.table g.emptied.sound))

  calls : (b : ℕ) → Calls b
  calls zero gone w depth c g k = none_left gone w depth c g k (ring (at c) (awaited w)) refl
  calls (suc b) gone w depth c g k = called_by b (calls b) gone w depth c g k (ring (at c) (awaited w)) refl

-- THE WHOLE
emptied_none : (n : ℕ) (held : List ℕ) (p : Places) → SoundPlaces p n held → Emptied n held p [] p
emptied_none n held p sound = record { sound = sound; left = λ t h. refl; freed = λ t q h e k. true_false false e refl }

agrees_clears : (n : ℕ) (held : List ℕ) (was p : Places) (c : Cleared) (r : Stops (List TableIndex)) → Agrees n held was p c r
    → Clears n held was c r
agrees_clears n held was p c (stop k) a = a
agrees_clears n held was p c (go gone) a = (a.0, a.1.emptied)

module _ (waits : List ℕ) (strand_at : ℕ → Strand) (n : ℕ) (held : List ℕ) (top : ℕ) (c : Cleared) (table : ℕ → Table) (f : Forest)
    (view : f.tables ≡ span table 0 n) (shows : Shows waits strand_at n (rings_in top c) table)
    (sound : SoundPlaces (rings_in top c) n held) (on : c.met_29 ≡ false) (t : ℕ) (h : t < n) where
  abbrev p : Places
  p = rings_in top c

  table_is : (u : ℕ) → u < n → table_of f u ≡ table u
  table_is u k = ap (or no_table) (ap (λ (ts : List Table). get_elem? ts u) view ∙ span_at table n u k)

  queue_is : (u : ℕ) → u < n → (table_of f u).strands ≡ map strand_at (ring p u)
  queue_is u k = ap (λ (x : Table). x.strands) (table_is u k) ∙ shows.queues u

  queued_is : queued f ≡ waiting p n
  queued_is = ap (total (λ x. length x.strands)) view
      ∙ total_waiting table (λ x. length x.strands) p (λ u. ap length (shows.queues u) ∙ length-map (ring p u) strand_at) n

  abbrev strands : List Strand
  strands = (table_of f t).strands

  own : awaited t ≡ t
  own = mod-eq_of_lt (omega (arith, sound.few))

  found : map strand_at (ring p (awaited t)) ≡ strands
  found = ap (λ (u : ℕ). map strand_at (ring p u)) own ∙ sym (queue_is t h)

  calling : Calling waits strand_at n held p f shows.told queue_is [] t (suc (queued f - length strands)) c
  calling = record {
    on = on;
    emptied = emptied_none n held p sound;
    table = omega (arith, own);
    deep = λ k. omega (arith, queued_is, ap length found, length-map (ring p (awaited t)) strand_at);
  }

  pub clear_decides : Clears n held (rings_in top c) (clear waits t c)
      (decide_clear f (suc (queued f - length (table_of f t).strands)) (table_of f t).strands (t ∷ []))
  clear_decides = agrees_clears n held p p (clear waits t c) (decide_clear f (suc (queued f - length strands)) strands (t ∷ []))
      (subst (λ (r : Stops (List TableIndex)). Agrees n held p p (clear waits t c) r)
      (ap₂ (λ (ss : List Strand) (u : ℕ). decide_clear f (suc (queued f - length strands)) ss (u ∷ [])) found own)
      (calls waits strand_at n held p f shows.told queue_is (waiting p n) [] t (suc (queued f - length strands)) c calling
      (omega arith)))

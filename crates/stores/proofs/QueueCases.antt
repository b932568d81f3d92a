-- The sign of a strand's selected literal; looking along a queue: what `find_strand` finds by where the first eligible strand stands, and
-- that looking and then unlinking is taking. From the laws of walks.
use Prim.Native.Nat.{ℕ, zero, suc, ◌+◌, ◌-◌, ◌≤◌, ◌<◌}
use native.Mathlib.Numerals.{add-one}
use native.Mathlib.Omega.{arith}
use mathlib.Core.Path.{◌≡◌, refl, sym, ap, ap₂, ◌∙◌}
use mathlib.Core.Bool.{Bool, true, false}
use mathlib.Core.Option.{Option, none, some}
use mathlib.Core.List.{List, [], ◌∷◌, map}
use lib.ListN.{length, take, get_or, set, get_elem?, length-take}
use lib.Seq.{get_or-take}
use lib.Dec.{eqb, ltb}
use borrow.Author.Tests.{lt-ltb, le-ltb, ltb-true, ne_eqb}
use Rattle.std.specs.Prelude as code
use Rattle.std.specs.Option.{unwrap_or}
use Rattle.laws.proofs.Maps.{get_elem_map, get_elem_map_past}
use Rattle.definitions.specs.Book as books
use Rattle.definitions.specs.Strand.{SelectedSubgoal}
use Rattle.book.specs.declared.Literal.{Literal}
use Rattle.book.specs.View.{meant}
use Rattle.strands.specs.declared.Strand.{Strand}
use Rattle.strands.specs.View.{clause, selected, is_negative}
use Rattle.rings.specs.Lists.{stop, first_index}
use Rattle.sizes.specs.Limits.{most_places}
use Rattle.rings.specs.Rings.{walk, ring_of, end, place_if, unlinked, shortened, linked, lengthened}
use Rattle.rings.proofs.Walks.{walk_step, walk_at}
use Rattle.stores.specs.declared.places.Places.{Places}
use Rattle.stores.specs.declared.queue.Spot.{Spot}
use Rattle.stores.specs.declared.queue.Strands.{Strands}
use Rattle.stores.specs.Places.{places, ring, unlinked_at, taken_if, taken, taken_place, has_one, first_of, TookPlace}
use Rattle.stores.specs.Numbers.{waits_fresh, flag_number}
use Rattle.stores.specs.Queue.{is_not, waits_on, waits_for, waits_of, spot_if, spot_from, is_found, TookStrand}
use Rattle.stores.specs.Queue.{with_places, made_fresh, fresh_if, fresh_stored, fresh_each, store, Does}
use Rattle.stores.proofs.ListsSpans.{ltb_suc}
use Rattle.stores.proofs.PlacesViews.{length_ring}
use Rattle.stores.proofs.PlacesMoves.{places_is, freed_enqueued_is}

-- THE NUMBERS BESIDE A STRAND: `is_not`, `waits_on` and `waits_of` at their tests' answers
module _ (l : List Literal) (count index : ℕ) (long : length l ≡ 8) where
  pub not_past : count ≤ index → false ≡ is_not (get_elem? (map meant (take count l)) index)
  not_past h = ap is_not (sym (get_elem_map_past meant (take count l) index (omega (arith, length-take count l))))

  pub not_far : 8 ≤ index → false ≡ is_not (get_elem? (map meant (take count l)) index)
  not_far h = ap is_not (sym (get_elem_map_past meant (take count l) index (omega (arith, length-take count l))))

  pub not_there : index < count → index < 8 → (d : Literal)
      → is_negative (meant (get_or l index d)) ≡ is_not (get_elem? (map meant (take count l)) index)
  not_there h k d =
      ap is_not (ap (λ (x : Literal). some (meant x)) (sym (get_or-take count l index d h))
      ∙ sym (get_elem_map meant (take count l) index d (omega (arith, length-take count l))))

-- a strand that is written never waits on the number that says that a place is fresh
on_no_mark : (can_be negative : Bool) (t : ℕ) → ltb t 64 ≡ can_be → eqb (waits_on can_be negative t) waits_fresh ≡ false
on_no_mark true true t e = ne_eqb (t + 64) waits_fresh (λ z. omega (arith, ltb-true t 64 e))
on_no_mark true false t e = ne_eqb t waits_fresh (λ z. omega (arith, ltb-true t 64 e))
on_no_mark false negative t e = ne_eqb 255 waits_fresh (λ z. omega arith)

for_no_mark : (l : List books.Literal) (k : Option SelectedSubgoal) → eqb (waits_for l k) waits_fresh ≡ false
for_no_mark l none = ne_eqb 255 waits_fresh (λ z. omega arith)
for_no_mark l (some w) = on_no_mark (ltb w.subgoal_table 64) (is_not (get_elem? l w.subgoal_index)) w.subgoal_table refl

pub waits_written : (x : Strand) → eqb (waits_of x) waits_fresh ≡ false
waits_written x = for_no_mark (clause x).subgoals (selected x.selected)

-- THE LOOP
module _ (test : ℕ → Bool) (next : List ℕ) (n a : ℕ) (h : 0 < n) where
  pub spot_here : test (get_or next a 0) ≡ true
      → spot_from test a (walk n next a) ≡ record { before = a; place = code.Some (get_or next a 0) }
  spot_here e =
      ap (spot_from test a) (walk_step n next a h)
      ∙ ap (λ (b : Bool). spot_if b a (get_or next a 0) (spot_from test (get_or next a 0) (walk (n - 1) next (get_or next a 0)))) e

  pub spot_next : test (get_or next a 0) ≡ false → spot_from test a (walk n next a) ≡ spot_from test (get_or next a 0)
      (walk (n - 1) next (get_or next a 0))
  spot_next e =
      ap (spot_from test a) (walk_step n next a h)
      ∙ ap (λ (b : Bool). spot_if b a (get_or next a 0) (spot_from test (get_or next a 0) (walk (n - 1) next (get_or next a 0)))) e

pub spot_over : (test : ℕ → Bool) (next : List ℕ) (n a : ℕ) → n ≤ 0
    → spot_from test a (walk n next a) ≡ record { before = a; place = code.None }
spot_over test next n a h = let e : n ≡ 0 = omega arith in ap (λ (m : ℕ). spot_from test a (walk m next a)) e

-- what is found, by where the first that passes the test stands
abbrev pub spot_by : (there : Bool) → (before place : ℕ) → Spot
spot_by true before place = record { before = before; place = code.Some place }
spot_by false before place = record { before = before; place = code.None }

abbrev pub spot_at : (a j : ℕ) → List ℕ → Spot
spot_at a j l = spot_by (ltb j (length l)) (end a (take j l)) (get_or l j 0)

pub spot_is : (test : ℕ → Bool) (a : ℕ) (l : List ℕ) → spot_from test a l ≡ spot_at a (first_index test l) l
spot_is test a [] = refl
spot_is test a (x ∷ l) = step (test x) (spot_is test x l)
  where
    step : (b : Bool) → spot_from test x l ≡ spot_at x (first_index test l) l
        → spot_if b a x (spot_from test x l) ≡ spot_at a (stop b (first_index test l)) (x ∷ l)
    step true e = ap (λ (b : Bool). spot_by b a x) (sym (lt-ltb 0 (suc (length l)) (omega arith)))
    step false e =
        e ∙ ap (λ (b : Bool). spot_by b (end x (take (first_index test l) l)) (get_or l (first_index test l) 0))
        (sym (ltb_suc (first_index test l) (length l)))

pub found_by : (b : Bool) (before place : ℕ) → is_found (spot_by b before place) ≡ b
found_by true before place = refl
found_by false before place = refl

none_by : (b : Bool) (before place : ℕ) → (spot_by b before place).place ≡ code.None → b ≡ false
none_by true before place e = cc
none_by false before place e = refl

some_by : (b : Bool) (before place q : ℕ) → (spot_by b before place).place ≡ code.Some q
    → (b ≡ true) × ((spot_by b before place).before ≡ before) × (q ≡ place)
some_by true before place q e = (refl, refl, sym (ap (λ (o : code.Option ℕ). unwrap_or o 0) e))
some_by false before place q e = cc

-- LOOKING AND THEN UNLINKING IS TAKING
module _ (test : ℕ → Bool) (t : ℕ) (p : Places) where
  abbrev found : Spot
  found = spot_from test (get_or p.tail t 0) (ring p t)

  abbrev j : ℕ
  j = first_of test t p

  abbrev behind : ℕ
  behind = end (get_or p.tail t 0) (take j (ring p t))

  looked : found ≡ spot_at (get_or p.tail t 0) j (ring p t)
  looked = spot_is test (get_or p.tail t 0) (ring p t)

  pub looked_none : found.place ≡ code.None → (256 ≡ taken_place test t p) × (p ≡ taken test t p)
  looked_none e =
      let n : has_one test t p ≡ false =
      none_by (has_one test t p) behind (get_or (ring p t) j 0) (sym (ap (λ (s : Spot). s.place) looked) ∙ e) in
      (ap (λ (b : Bool). place_if b (get_or (ring p t) j 0)) (sym n), ap (λ (b : Bool). taken_if b t j p) (sym n))

  module _ (q : ℕ) (e : found.place ≡ code.Some q) where
    here : (has_one test t p ≡ true) × (found.before ≡ behind) × (q ≡ get_or (ring p t) j 0)
    here =
        let found_there = some_by (has_one test t p) behind (get_or (ring p t) j 0) q
        (sym (ap (λ (s : Spot). s.place) looked) ∙ e) in
        (found_there.0, ap (λ (s : Spot). s.before) looked ∙ found_there.1, found_there.2)

    pub looked_unlinked : (q ≡ taken_place test t p) × (unlinked_at t found.before p ≡ taken test t p)
    looked_unlinked = (
      here.2 ∙ ap (λ (b : Bool). place_if b (get_or (ring p t) j 0)) (sym here.0),
      ap (λ (b : ℕ). unlinked_at t b p) here.1 ∙ ap (λ (b : Bool). taken_if b t j p) (sym here.0),
    )

    -- what is found is behind the place before it
    pub looked_behind : get_or p.next found.before 0 ≡ q
    looked_behind =
        let h : j < length (ring p t) = ltb-true j (length (ring p t)) here.0 in
        ap (λ (b : ℕ). get_or p.next b 0) here.1
        ∙ sym (walk_at (get_or p.len t 0) p.next (get_or p.tail t 0) j (omega (arith, length_ring p t)))
        ∙ sym here.2

-- `take_strand` at the answers of looking
module _ (test : ℕ → Bool) (t : ℕ) (next tail len : List ℕ) (s : Spot)
    (is : s ≡ spot_from test (get_or tail t 0) (ring_of next tail len t)) where
  looked_at : (o : code.Option ℕ) → s.place ≡ o → (spot_from test (get_or tail t 0) (ring_of next tail len t)).place ≡ o
  looked_at o e = ap (λ (x : Spot). x.place) (sym is) ∙ e

  pub strand_none : s.place ≡ code.None → TookStrand test t next tail len next tail len 256
  strand_none e =
      let none : (top : ℕ) → (256 ≡ taken_place test t (places next tail len top))
      × (places next tail len top ≡ taken test t (places next tail len top)) =
      λ top. looked_none test t (places next tail len top) (looked_at code.None e) in
      record { is = (none 0).0; left = λ top. (none top).1 }

  pub strand_taken : (q : ℕ) → s.place ≡ code.Some q → (next' tail' len' : List ℕ) → next' ≡ unlinked next s.before
      → tail' ≡ set tail t s.before → len' ≡ shortened len t → TookStrand test t next tail len next' tail' len' q
  strand_taken q e next' tail' len' en et el = record {
    is = (looked_unlinked test t (places next tail len 0) q (looked_at (code.Some q) e)).0;
    left = λ top. places_is next' (unlinked next s.before) tail' (set tail t s.before) len' (shortened len t) top top en et el refl
        ∙ ap (λ (x : Spot). unlinked_at t x.before (places next tail len top)) is
        ∙ (looked_unlinked test t (places next tail len top) q (looked_at (code.Some q) e)).1;
  }

-- A FRESH PLACE, by what `take_place` found
module _ (t c v f : ℕ) (time ambiguous variant waits wants next tail len : List ℕ) (top : ℕ) (n' l' : List ℕ) (m' q : ℕ)
    (took : TookPlace next tail len top n' l' m' q) where
  abbrev was : List Strand → Strands
  was strands = store strands time ambiguous variant waits wants (places next tail len top)

  by_room : (b : Bool) → ltb q most_places ≡ b → (strands : List Strand)
      → fresh_if b t c v f (was strands) ≡ fresh_stored t c v f (was strands)
  by_room b e strands = ap (λ (x : Bool). fresh_if x t c v f (was strands)) (sym (ap (λ (i : ℕ). ltb i most_places) (sym took.is) ∙ e))

  pub fresh_none : most_places ≤ q
      → Does (fresh_stored t c v f) (λ strands. store strands time ambiguous variant waits wants (places next tail len top))
      (λ strands. store strands time ambiguous variant waits wants (places n' tail l' m'))
  fresh_none h strands =
      ap (store strands time ambiguous variant waits wants) took.left ∙ by_room false (le-ltb q most_places h) strands

  pub fresh_some : q < most_places → (a : ℕ) → a ≡ flag_number (books.bit0 f)
      → (n'' t'' l'' : List ℕ) → n'' ≡ linked n' tail l' t q → t'' ≡ set tail t q → l'' ≡ lengthened l' t
      → Does (fresh_stored t c v f) (λ strands. store strands time ambiguous variant waits wants (places next tail len top))
      (λ strands. store strands (set time q 0) (set ambiguous q a) (set variant q v) (set waits q waits_fresh) (set wants q c)
      (places n'' t'' l'' m'))
  fresh_some h a ea n'' t'' l'' en et el strands =
      ap (λ (x : ℕ). store strands (set time q 0) (set ambiguous q x) (set variant q v) (set waits q waits_fresh) (set wants q c)
      (places n'' t'' l'' m')) ea
      ∙ ap₂ (λ (i : ℕ) (r : Places). with_places (made_fresh i c v f (was strands)) r) took.is
      (freed_enqueued_is (places next tail len top) t n' l' m' q took n'' t'' l'' en et el)
      ∙ by_room true (lt-ltb q most_places h) strands

-- THE LOOP over clauses
module _ (variants flags : List ℕ) (t : ℕ) where
  pub fresh_step : (left m c : ℕ) (s s'' : Strands) → 0 < left → m ≡ left - 1
      → s'' ≡ fresh_stored t c (get_or variants c 0) (get_or flags c 0) s
      → fresh_each variants flags t m (c + 1) s'' ≡ fresh_each variants flags t left c s
  fresh_step zero m c s s'' h on e = absurd (omega arith)
  fresh_step (suc left) m c s s'' h on e =
      let less : m ≡ left = omega arith in
      ap₂ (λ (m d : ℕ). fresh_each variants flags t m d s'') less (add-one c) ∙ ap (fresh_each variants flags t left (suc c)) e

  pub fresh_over : (left c : ℕ) (s : Strands) → left ≤ 0 → fresh_each variants flags t left c s ≡ s
  fresh_over zero c s h = refl
  fresh_over (suc left) c s h = absurd (omega arith)

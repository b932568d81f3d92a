-- The ways out of the functions of root_answer.rt, over variables: what a return says is the model at the tests that led there.
use Prim.Native.Nat.{ℕ, suc, ◌+◌, ◌-◌, ◌≤◌, ◌<◌}
use native.Mathlib.Omega.{arith}
use native.Mathlib.Numerals.{add-one}
use mathlib.Core.Bool.{Bool, true, false, not}
use mathlib.Core.List.{List, ◌∷◌}
use mathlib.Core.Path.{◌≡◌, sym, ap, ap₂, ◌∙◌}
use lib.Dec.{eqb, leb, ltb}
use lib.ListN.{get_or}
use borrow.Author.Tests.{lt-ltb, le-ltb, le-leb, lt-leb, eq-eqb, ne_eqb}
use Rattle.definitions.specs.{MAX}
use Rattle.rings.specs.Rings.{walk, ring_of, place_if}
use Rattle.rings.proofs.Walks.{walk_step}
use Rattle.strands.specs.Times.{incremented}
use Rattle.control.specs.declared.performed.Flow.{Flow}
use Rattle.search.specs.declared.course.Asked.{Asked}
use Rattle.search.specs.declared.course.Course.{Course}
use Rattle.search.specs.declared.course.Ending.{Ending}
use Rattle.search.specs.declared.course.Ending.TheVariants as endings
use Rattle.search.specs.declared.course.Mode.{Mode}
use Rattle.stores.specs.Numbers.{flag_at}
use Rattle.search.specs.Course.{is_peek, ended}
use Rattle.search.specs.RootAnswer.{first_valid, index_by, index_from, stored_by, stored_at, stored_answer}
use Rattle.search.specs.RootAnswer.{course_at, pushes_by, pushes_root, from_index, start_by, start_at, start}
use Rattle.search.specs.RootAnswer.{one_more_by, one_more, ending_of, counted, marked, finish, is_invalid, is_exceeded}
use Rattle.search.specs.RootAnswer.{last_index, skip_by, skip_invalid, round_by, next_round, next_by, next_search}
use Rattle.search.specs.RootAnswer.{unless_over, ended_so, end_search}

-- BEFORE THE FIRST TURN

-- `first_valid` at index i of the ring
module _ (key : List ℕ) (from i : ℕ) where
  abbrev valid_by : (past valid : Bool) → (later : ℕ) → ℕ
  valid_by past valid later = elim past [ false ↦ later | true ↦ elim valid [ true ↦ i | false ↦ later ] ]

  module _ (p : ℕ) (ps : List ℕ) where
    abbrev met : (past valid : Bool) → ℕ
    met past valid = valid_by past valid (first_valid key from (suc i) ps)

    before : i < from → first_valid key from (suc i) ps ≡ first_valid key from i (p ∷ ps)
    before h = sym (ap (λ (b : Bool). met b (eqb (get_or key p 0) 0)) (lt-leb from i h))

    found : from ≤ i → get_or key p 0 ≡ 0 → i ≡ first_valid key from i (p ∷ ps)
    found h z = sym (ap₂ met (le-leb from i h) (eq-eqb (get_or key p 0) 0 z))

    passed : from ≤ i → (get_or key p 0 ≡ 0 → ⊥) → first_valid key from (suc i) ps ≡ first_valid key from i (p ∷ ps)
    passed h d = sym (ap₂ met (le-leb from i h) (ne_eqb (get_or key p 0) 0 d))

  -- n places are left behind a, which was read as b
  module _ (next : List ℕ) (n a b : ℕ) (is : b ≡ a) where
    abbrev left : ℕ
    left = first_valid key from i (walk n next a)

    -- what is left once the first of them is passed
    abbrev later : (index : ℕ) → ℕ
    later index = first_valid key from index (walk (n - 1) next (get_or next b 0))

    step : 0 < n → first_valid key from i (get_or next b 0 ∷ walk (n - 1) next (get_or next b 0)) ≡ left
    step some = sym (ap (first_valid key from i) (walk_step n next b some)) ∙ ap (λ (x : ℕ). first_valid key from i (walk n next x)) is

    pub valid_before : 0 < n → i < from → later (i + 1) ≡ left
    valid_before some h = ap later (add-one i) ∙ before (get_or next b 0) (walk (n - 1) next (get_or next b 0)) h ∙ step some

    -- the first of them, read as q
    module _ (q : ℕ) (is_q : q ≡ get_or next b 0) where
      pub valid_passed : 0 < n → from ≤ i → (get_or key q 0 ≡ 0 → ⊥) → later (i + 1) ≡ left
      valid_passed some h d =
          ap later (add-one i)
          ∙ passed (get_or next b 0) (walk (n - 1) next (get_or next b 0)) h (λ z. d (ap (λ (x : ℕ). get_or key x 0) is_q ∙ z))
          ∙ step some

  -- none is left
  module _ (next : List ℕ) (n a : ℕ) where
    abbrev ends : (below : Bool) → ℕ
    ends below = elim below [ true ↦ from | false ↦ i ]

    over : n ≤ 0 → ends (ltb i from) ≡ first_valid key from i (walk n next a)
    over h = let e : 0 ≡ n = omega arith in ap (λ (m : ℕ). first_valid key from i (walk m next a)) e

-- the answer stored at an index
module _ (next tail len variant key ambiguous : List ℕ) (t index : ℕ) where
  abbrev answered : Ending
  answered = stored_answer next tail len variant key ambiguous t index

  pub stored_far : 256 ≤ index → endings.Stopped 0 ≡ answered
  stored_far h =
      let q = place_if (ltb index (get_or len t 0)) (get_or (ring_of next tail len t) index 0) in
      sym (ap (λ (b : Bool). stored_at next tail len variant key ambiguous b q) (le-leb 256 index h))

  -- it stands at the place p
  module _ (p : ℕ) (near : index < 256) (is : p ≡ place_if (ltb index (get_or len t 0)) (get_or (ring_of next tail len t) index 0)) where
    abbrev by : (none delayed : Bool) → Ending
    by none delayed = stored_by false none delayed (get_or variant p 0) (not (eqb (get_or ambiguous p 0) 0))

    here : by (leb 256 p) (ltb 0 (get_or key p 0)) ≡ answered
    here = sym (ap (λ (b : Bool). stored_at next tail len variant key ambiguous b p) (lt-leb 256 index near))
        ∙ ap (stored_at next tail len variant key ambiguous (leb 256 index)) is

    pub stored_none : 256 ≤ p → endings.Stopped 0 ≡ answered
    stored_none h = sym (ap (λ (b : Bool). by b (ltb 0 (get_or key p 0))) (le-leb 256 p h)) ∙ here

    pub stored_delayed : p < 256 → 0 < get_or key p 0 → endings.InvalidAnswer ≡ answered
    stored_delayed h d = sym (ap₂ by (lt-leb 256 p h) (lt-ltb 0 (get_or key p 0) d)) ∙ here

    pub stored_found : p < 256 → get_or key p 0 ≤ 0 → endings.Found (get_or variant p 0) (not (eqb (get_or ambiguous p 0) 0)) ≡ answered
    stored_found h d = sym (ap₂ by (lt-leb 256 p h) (le-ltb 0 (get_or key p 0) d)) ∙ here

-- the first push: below the clock's limit there is a next time
next_time : (t limit : ℕ) → limit ≤ MAX → t < limit → incremented t ≡ suc t
next_time t limit few h = omega (arith, few, h)

module _ (asked : Asked) (c : Course) where
  abbrev pushed : (late none_left : Bool) → Course
  pushed late none_left = pushes_by late none_left c

  abbrev clocked : (over : Bool) → (depth clock : ℕ) → Course
  clocked over depth clock = course_at over endings.Cut c.index c.more c.exceeded c.done c.mark depth clock c

  module _ (few : asked.clock_limit ≤ MAX) (h : c.clock < asked.clock_limit) (n : ℕ) (ticked : n ≡ incremented c.clock) where
    next_is : n ≡ suc c.clock
    next_is = ticked ∙ next_time c.clock asked.clock_limit few h

    pub push_new : (asked.limit ≡ 0 → ⊥) → clocked false 1 n ≡ pushes_root asked c
    push_new e =
        ap (clocked false 1) next_is
        ∙ sym (ap₂ pushed (lt-leb asked.clock_limit c.clock h) (ne_eqb asked.limit 0 e))

-- all before the first turn
module _ (asked : Asked) (floundered next tail len variant key ambiguous : List ℕ) (c : Course) where
  abbrev started : Course
  started = start asked floundered next tail len variant key ambiguous c

  abbrev stored : (index : ℕ) → Ending
  stored i = stored_answer next tail len variant key ambiguous asked.table i

  abbrev started_by : (index : ℕ) → (missing floundered new : Bool) → Course
  started_by i missing f new = start_by missing f new asked i (stored i) c

  abbrev first : ℕ
  first = index_from asked.mode next tail len key asked.table c.index

  -- the table's flag is read as f
  module _ (there : asked.table < c.count) (f : Bool) (is_f : f ≡ flag_at asked.table floundered) where
    flagged : (d : Bool) → f ≡ d → (i : ℕ) → (new : Bool)
        → started_by i false d new ≡ started_by i (leb c.count asked.table) (flag_at asked.table floundered) new
    flagged d e i new =
        sym (ap₂ (λ (b g : Bool). started_by i b g new) (lt-leb c.count asked.table there) (sym is_f ∙ e))

    pub start_floundered : f ≡ true → ended endings.Floundered (from_index c.index c) ≡ started
    start_floundered e = flagged true e first (eqb first (get_or len asked.table 0))

    -- the index is i, and the answers are n
    module _ (sane : f ≡ false) (i : ℕ) (is_i : i ≡ first) (n : ℕ) (is_n : n ≡ get_or len asked.table 0) where
      at_index : (new : Bool) → eqb i n ≡ new → started_by i false false new ≡ started
      at_index new e =
          flagged false sane i new
          ∙ ap (started_by i (leb c.count asked.table) (flag_at asked.table floundered)) (sym e ∙ ap (eqb i) is_n)
          ∙ ap (λ (j : ℕ). start_at asked floundered next tail len variant key ambiguous j c) is_i

      pub start_new : i ≡ n → pushes_root asked (from_index i c) ≡ started
      start_new e = at_index true (eq-eqb i n e)

      pub start_stored : (i ≡ n → ⊥) → (e : Ending) → e ≡ stored i → ended e (from_index i c) ≡ started
      start_stored d e is-e = ap (λ (x : Ending). ended x (from_index i c)) is-e ∙ at_index false (ne_eqb i n d)

-- AFTER THE LAST TURN

module _ (n : ℕ) where
  pub more_most : MAX ≤ n → n ≡ one_more n
  more_most h = sym (ap (λ (b : Bool). one_more_by b n) (le-ltb n MAX h))

-- the search put back
module _ (f : Flow) (stored : Ending) (c : Course) where
  abbrev finished : Ending → (done mark : ℕ) → Course
  finished e done mark = course_at true e c.index c.more c.exceeded done mark 0 c.clock c

module _ (c : Course) where
  abbrev moved : (index : ℕ) → Course
  moved index = course_at false c.ending index c.more c.exceeded c.done c.mark c.depth c.clock c

  -- QuantumExceeded, counted as x
  module _ (x : ℕ) (is : x ≡ one_more c.exceeded) where
    abbrev round : (over : Bool) → (more exceeded : ℕ) → Course
    round over more exceeded =
        course_at over c.ending c.index more exceeded c.done c.mark c.depth c.clock c

-- what comes after a search
module _ (mode : Mode) (c : Course) (peeks : Bool) (is : peeks ≡ is_peek mode) where
  abbrev next : (peeks invalid exceeded : Bool) → Course
  next peeks invalid exceeded = next_by peeks invalid exceeded c

  pub next_none : peeks ≡ false → c ≡ next_search mode c
  next_none e = sym (ap (λ (b : Bool). next b (is_invalid c.ending) (is_exceeded c.ending)) (sym is ∙ e))

  module _ (peek : peeks ≡ true) (invalid : Bool) (is_i : invalid ≡ is_invalid c.ending) where
    pub next_skips : invalid ≡ true → skip_invalid c ≡ next_search mode c
    next_skips i = sym (ap₂ (λ (b d : Bool). next b d (is_exceeded c.ending)) (sym is ∙ peek) (sym is_i ∙ i))

    past : invalid ≡ false → next true false (is_exceeded c.ending) ≡ next_search mode c
    past i = sym (ap₂ (λ (b d : Bool). next b d (is_exceeded c.ending)) (sym is ∙ peek) (sym is_i ∙ i))

    module _ (valid : invalid ≡ false) (exceeded : Bool) (is_x : exceeded ≡ is_exceeded c.ending) where
      pub next_rounds : exceeded ≡ true → next_round c ≡ next_search mode c
      next_rounds x = sym (ap (next true false) (sym is_x ∙ x)) ∙ past valid

      pub next_ends : exceeded ≡ false → c ≡ next_search mode c
      next_ends x = sym (ap (next true false) (sym is_x ∙ x)) ∙ past valid

-- the search has ended so: it comes to n
module _ (asked : Asked) (floundered next tail len variant key ambiguous : List ℕ) (c : Course) (s : Ending)
    (is_s : s ≡ stored_answer next tail len variant key ambiguous asked.table c.index)
    (m : Course) (is_m : m ≡ finish c.flow s c) (n : Course) (is_n : n ≡ next_search asked.mode m) where
  abbrev last : Course
  last = end_search asked floundered next tail len variant key ambiguous c

  comes_to : n ≡ ended_so asked floundered next tail len variant key ambiguous c
  comes_to = is_n ∙ ap (next_search asked.mode) (is_m ∙ ap (λ (x : Ending). finish c.flow x c) is_s)

  abbrev ends_by : (over : Bool) → Course → Course
  ends_by over x = unless_over over x (start asked floundered next tail len variant key ambiguous x)

  ends_so : (over : Bool) → n.over ≡ over → ends_by over n ≡ last
  ends_so over e = sym (ap (λ (b : Bool). ends_by b n) e) ∙ ap (λ (x : Course). ends_by x.over x) comes_to

  pub end_over : n.over ≡ true → n ≡ last
  end_over e = ends_so true e

  pub end_starts : n.over ≡ false → (r : Course) → r ≡ start asked floundered next tail len variant key ambiguous n → r ≡ last
  end_starts e r is-r = is-r ∙ ends_so false e

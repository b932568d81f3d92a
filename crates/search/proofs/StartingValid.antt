-- What is started for a peek: where it is over already, its ending is none that a peek goes by; so with its steps from there on.
use Prim.Native.Nat.{ℕ, zero, suc, ◌+◌, ◌≤◌, ◌<◌}
use native.Mathlib.Nat.{le_refl}
use native.Mathlib.Omega.{arith}
use mathlib.Core.Bool.{Bool, true, false, false≢true}
use mathlib.Core.List.{List, [], ◌∷◌}
use mathlib.Core.Path.{◌≡◌, refl, sym, ap, subst, ◌∙◌}
use lib.Dec.{eqb, leb, ltb}
use lib.ListN.{length, get_or}
use borrow.Author.Tests.{eqb-true, ltb-true, le-ltb}
use Rattle.definitions.specs.Forest as forests
use Rattle.definitions.specs.Forest.{Peeked}
use Rattle.laws.proofs.Bools.{case_bool}
use Rattle.asserts.proofs.Unwinding.{Ended}
use Rattle.small_steps.specs.Steps as steps
use Rattle.small_steps.specs.Steps.{Peeks, ends}
use Rattle.book.specs.declared.Book.{Book}
use Rattle.rings.specs.Rings.{place_if}
use Rattle.stores.specs.declared.table.Answers.{Answers}
use Rattle.stores.specs.Numbers.{flag_at}
use Rattle.stores.specs.Places.{ring}
use Rattle.stores.proofs.PlacesViews.{length_ring}
use Rattle.control.specs.PerformStrand.{Lent}
use Rattle.control.specs.Stores.{forest}
use Rattle.search.specs.declared.course.Asked.{Asked}
use Rattle.search.specs.declared.course.Course.{Course}
use Rattle.search.specs.declared.course.Ending.{Ending}
use Rattle.search.specs.declared.course.Ending.TheVariants as endings
use Rattle.search.specs.Course.{is_peek}
use Rattle.search.specs.Means.{ending_means, Rests, stores_of, progress_by, peeked_by, PeekedBy}
use Rattle.search.specs.RootAnswer.{first_valid, index_by, stored_by, pushes_by, from_index, start_by}
use Rattle.search.specs.RootAnswer.{is_invalid, is_exceeded}
use Rattle.search.specs.Walk.{Walk, walk}
use Rattle.search.proofs.Starting.{begun, started, first_index}
use Rattle.search.proofs.StartingPeeks.{start_peeks}
use Rattle.search.proofs.StoredAnswers.{stored_in}

-- A PEEK GOES BY AN ENDING as by what it means
pub invalid_means : (e : Ending) → forests.is_invalid (ending_means e) ≡ is_invalid e
invalid_means (endings.Found variant ambiguous) = refl
invalid_means endings.NoMoreSolutions = refl
invalid_means endings.Floundered = refl
invalid_means endings.QuantumExceeded = refl
invalid_means endings.NegativeCycle = refl
invalid_means endings.InvalidAnswer = refl
invalid_means endings.Cut = refl
invalid_means (endings.Stopped n) = refl

pub exceeded_means : (e : Ending) → forests.is_exceeded (ending_means e) ≡ is_exceeded e
exceeded_means (endings.Found variant ambiguous) = refl
exceeded_means endings.NoMoreSolutions = refl
exceeded_means endings.Floundered = refl
exceeded_means endings.QuantumExceeded = refl
exceeded_means endings.NegativeCycle = refl
exceeded_means endings.InvalidAnswer = refl
exceeded_means endings.Cut = refl
exceeded_means (endings.Stopped n) = refl

-- an ending that a peek ends with
pub record Final (e : Ending) : Type 0 where
  pub valid : is_invalid e ≡ false
  pub counts_not : is_exceeded e ≡ false

-- THE FIRST ANSWER FROM AN INDEX ON that has no delayed goals
module _ (key : List ℕ) (from : ℕ) where
  not_before : (i : ℕ) (ps : List ℕ) → i ≤ first_valid key from i ps
  not_before i [] = case_bool (λ n. i ≤ n) (ltb i from) (λ e. let h = ltb-true i from e in omega arith) (λ e. le_refl i)
  not_before i (p ∷ ps) =
      let later : i ≤ first_valid key from (suc i) ps = omega (arith, not_before (suc i) ps) in
      case_bool (λ n. i ≤ n) (leb from i)
      (λ e. case_bool (λ n. i ≤ n) (eqb (get_or key p 0) 0) (λ z. le_refl i) (λ d. later))
      (λ e. later)

  none_delayed : (i : ℕ) (ps : List ℕ) (j : ℕ) → first_valid key from i ps ≡ i + j → j < length ps → get_or key (get_or ps j 0) 0 ≡ 0
  none_delayed i [] j e h = absurd (omega arith)
  none_delayed i (p ∷ ps) zero e h =
      let after = not_before (suc i) ps in
      at after e
    where
      at : suc i ≤ first_valid key from (suc i) ps → first_valid key from i (p ∷ ps) ≡ i + 0 → get_or key p 0 ≡ 0
      at after = case_bool (λ n. n ≡ i + 0 → get_or key p 0 ≡ 0) (leb from i)
          (λ a. case_bool (λ n. n ≡ i + 0 → get_or key p 0 ≡ 0) (eqb (get_or key p 0) 0)
          (λ z q. eqb-true (get_or key p 0) 0 z) (λ d q. absurd (omega arith)))
          (λ a q. absurd (omega arith))
  none_delayed i (p ∷ ps) (suc j) e h =
      let later : first_valid key from (suc i) ps ≡ suc i + j = at e in
      none_delayed (suc i) ps j later (omega arith)
    where
      at : first_valid key from i (p ∷ ps) ≡ i + suc j → first_valid key from (suc i) ps ≡ suc i + j
      at = case_bool (λ n. n ≡ i + suc j → first_valid key from (suc i) ps ≡ suc i + j) (leb from i)
          (λ a. case_bool (λ n. n ≡ i + suc j → first_valid key from (suc i) ps ≡ suc i + j) (eqb (get_or key p 0) 0)
          (λ z q. absurd (omega arith)) (λ d q. omega arith))
          (λ a q. omega arith)

-- THE STORED ANSWER is not invalid where its key is 0, or where there is none
stored_final : (far none delayed : Bool) (variant : ℕ) (ambiguous : Bool) → (none ≡ false → delayed ≡ false)
    → Final (stored_by far none delayed variant ambiguous)
stored_final true none delayed variant ambiguous h = record { valid = refl; counts_not = refl }
stored_final false true delayed variant ambiguous h = record { valid = refl; counts_not = refl }
stored_final false false true variant ambiguous h = absurd (false≢true (sym (h refl)))
stored_final false false false variant ambiguous h = record { valid = refl; counts_not = refl }

-- the place that is read, by whether the index has an answer
place_valid : (key : List ℕ) (place : ℕ) (below : Bool) → (below ≡ true → get_or key place 0 ≡ 0) → leb 256 (place_if below place) ≡ false
    → ltb 0 (get_or key (place_if below place) 0) ≡ false
place_valid key place true h e = let z = h refl in le-ltb 0 (get_or key place 0) (omega arith)
place_valid key place false h e = absurd (false≢true (sym e))

module _ (asked : Asked) where
  -- WHAT IS STARTED
  push_final : (late none_left : Bool) (c : Course) → (pushes_by late none_left c).over ≡ true → Final (pushes_by late none_left c).ending
  push_final true none_left c e = record { valid = refl; counts_not = refl }
  push_final false true c e = record { valid = refl; counts_not = refl }
  push_final false false c e = absurd (false≢true e)

  start_by_final : (missing floundered new : Bool) (i : ℕ) (stored : Ending) (c : Course) → Final stored
      → (start_by missing floundered new asked i stored c).over ≡ true → Final (start_by missing floundered new asked i stored c).ending
  start_by_final true floundered new i stored c h e = record { valid = refl; counts_not = refl }
  start_by_final false true new i stored c h e = record { valid = refl; counts_not = refl }
  start_by_final false false true i stored c h e =
      push_final (leb asked.clock_limit c.clock) (eqb asked.limit 0) (from_index i c) e
  start_by_final false false false i stored c h e = h

  -- the rounds are as they were
  push_rounds : (late none_left : Bool) (c : Course)
      → ((pushes_by late none_left c).more ≡ c.more) × ((pushes_by late none_left c).exceeded ≡ c.exceeded)
  push_rounds true none_left c = (refl, refl)
  push_rounds false true c = (refl, refl)
  push_rounds false false c = (refl, refl)

  start_by_rounds : (missing floundered new : Bool) (i : ℕ) (stored : Ending) (c : Course)
      → ((start_by missing floundered new asked i stored c).more ≡ c.more)
      × ((start_by missing floundered new asked i stored c).exceeded ≡ c.exceeded)
  start_by_rounds true floundered new i stored c = (refl, refl)
  start_by_rounds false true new i stored c = (refl, refl)
  start_by_rounds false false true i stored c =
      push_rounds (leb asked.clock_limit c.clock) (eqb asked.limit 0) (from_index i c)
  start_by_rounds false false false i stored c = (refl, refl)

  module _ (w : Lent) (c : Course) where
    abbrev a : Answers
    a = w.answers

    abbrev t : ℕ
    t = asked.table

    abbrev i : ℕ
    i = first_index asked w c

    abbrev missing : Bool
    missing = leb c.count t

    abbrev floundered : Bool
    floundered = flag_at t w.tables.floundered

    abbrev new : Bool
    new = eqb i (get_or a.places.len t 0)

    pub start_more : (started asked w c).more ≡ c.more
    start_more = (start_by_rounds missing floundered new i (stored_in a t i) c).0

    pub start_exceeded : (started asked w c).exceeded ≡ c.exceeded
    start_exceeded = (start_by_rounds missing floundered new i (stored_in a t i) c).1

    module _ (peeks : is_peek asked.mode ≡ true) where
      is_first : first_valid a.key c.index 0 (ring a.places t) ≡ i
      is_first = sym (ap (λ (b : Bool). index_by b c.index (first_valid a.key c.index 0 (ring a.places t))) peeks)

      key_zero : ltb i (get_or a.places.len t 0) ≡ true → get_or a.key (get_or (ring a.places t) i 0) 0 ≡ 0
      key_zero e =
          none_delayed a.key c.index 0 (ring a.places t) i (omega (arith, is_first))
          (omega (arith, ltb-true i (get_or a.places.len t 0) e, length_ring a.places t))

      stored_valid : Final (stored_in a t i)
      stored_valid =
          let below = ltb i (get_or a.places.len t 0) in
          let place = get_or (ring a.places t) i 0 in
          let p = place_if below place in
          stored_final (leb 256 i) (leb 256 p) (ltb 0 (get_or a.key p 0)) (get_or a.variant p 0) _
          (place_valid a.key place below key_zero)

      -- over at once: the peek ends with it
      pub start_final : (started asked w c).over ≡ true → Final (started asked w c).ending
      start_final e = start_by_final missing floundered new i (stored_in a t i) c stored_valid e

-- A PEEK from what is started on
module _ (b : Book) (asked : Asked) (peeks : is_peek asked.mode ≡ true) (c : Course) (w : Lent)
    (o : Rests (stores_of b asked (walk c w)))
    (x : Ended b.goals asked.table c.index (forest (stores_of b asked (walk c w)))) where
  abbrev d : Course
  d = started asked w c

  abbrev u : Walk
  u = begun asked w d

  abbrev first : ℕ
  first = suc c.clock

  -- by its steps, or by nothing more where it is over
  by_over : (p : Peeked) (over : Bool) → d.over ≡ over → peeked_by b asked over first u p
      → Peeks asked.limit asked.table d.more d.exceeded d.index (progress_by b asked over first u) p
  by_over p true e h =
      let l = start_final asked w c peeks e in
      subst (Peeks asked.limit asked.table d.more d.exceeded d.index (progress_by b asked true first u)) (sym h)
      (ends (invalid_means d.ending ∙ l.valid) (exceeded_means d.ending ∙ l.counts_not))
  by_over p false e h = h

  pub started_peeks : (p : Peeked) → PeekedBy b asked (suc c.clock) (begun asked w (started asked w c)) p
      → Peeks asked.limit asked.table c.more c.exceeded c.index
      (steps.start asked.limit asked.table c.index (forest (stores_of b asked (walk c w)))) p
  started_peeks p h =
      start_peeks b asked c w o x c.more c.exceeded p
      (subst (λ (k : ℕ). Peeks asked.limit asked.table c.more k d.index (progress_by b asked d.over first u) p)
      (start_exceeded asked w c)
      (subst (λ (m : ℕ). Peeks asked.limit asked.table m d.exceeded d.index (progress_by b asked d.over first u) p)
      (start_more asked w c) (by_over p d.over refl h)))

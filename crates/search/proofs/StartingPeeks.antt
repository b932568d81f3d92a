-- A peek passes the stored answers that are invalid before it starts a search: each is a search that ends at once, and is skipped.
use Prim.Native.Nat.{ℕ, zero, suc, ◌+◌, ◌-◌, ◌≤◌, ◌<◌}
use native.Mathlib.Omega.{arith}
use mathlib.Core.Bool.{Bool, true, false}
use mathlib.Core.List.{List, [], ◌∷◌}
use mathlib.Core.Path.{◌≡◌, refl, sym, ap, ap₂, subst, ◌∙◌}
use lib.Dec.{eqb, leb}
use lib.ListN.{length, get_or}
use borrow.Author.Tests.{lt-leb, eqb-false, leb-false}
use Rattle.definitions.specs.Forest.{Peeked}
use Rattle.definitions.specs.Logic as logic
use Rattle.definitions.specs.Table.{Table}
use Rattle.definitions.specs.Tables.{Forest}
use Rattle.definitions.specs.Turn as turns
use Rattle.laws.proofs.Bools.{case_bool}
use Rattle.asserts.proofs.Unwinding.{Ended}
use Rattle.small_steps.specs.Steps as steps
use Rattle.small_steps.specs.Steps.{Progress, Peeks, skips}
use Rattle.book.specs.declared.Book.{Book}
use Rattle.stores.specs.declared.table.Answers.{Answers}
use Rattle.stores.specs.Numbers.{flag_at}
use Rattle.stores.specs.Places.{ring}
use Rattle.stores.specs.View.{answer_at}
use Rattle.stores.proofs.PlacesViews.{length_ring}
use Rattle.control.specs.PerformStrand.{Lent}
use Rattle.control.specs.Stores.{Stores, forest}
use Rattle.control.proofs.Stores.{table_held}
use Rattle.search.specs.declared.course.Asked.{Asked}
use Rattle.search.specs.declared.course.Course.{Course}
use Rattle.search.specs.declared.course.Ending.{Ending}
use Rattle.search.specs.Course.{is_peek}
use Rattle.search.specs.Means.{Rests, stores_of, progress_of}
use Rattle.search.specs.RootAnswer.{first_valid, index_by, pushes_by, from_index, start_by}
use Rattle.search.specs.Walk.{walk}
use Rattle.search.proofs.RootAnswerFalls.{index_from_from}
use Rattle.search.proofs.Starting.{begun, started, first_index, ended_so, floundered_ends, stored_ends, is_table, is_flag, start_at}
use Rattle.search.proofs.StartingSound.{root_there, first_few}
use Rattle.search.proofs.StoredAnswers.{stored_in, answer_is, invalid_is}

-- THE ANSWERS THAT ARE PASSED are those with delayed goals

module _ (key : List ℕ) (from : ℕ) where
  -- the first place is passed
  here : (i p : ℕ) (later : ℕ) → from ≤ i → i < elim (leb from i) as (λ (b : Bool). ℕ) [
    | false ↦ later
    | true ↦ elim (eqb (get_or key p 0) 0) as (λ (b : Bool). ℕ) [ true ↦ i | false ↦ later ]
  ] → get_or key p 0 ≡ 0 → ⊥
  here i p later h = case_bool (λ n. i < n → get_or key p 0 ≡ 0 → ⊥) (leb from i)
      (λ e. case_bool (λ n. i < n → get_or key p 0 ≡ 0 → ⊥) (eqb (get_or key p 0) 0) (λ q k z. omega arith)
      (λ q k z. eqb-false (get_or key p 0) 0 q z))
      (λ e k z. let far = leb-false from i e in omega arith)

  -- where a later one is passed, it is so from the next place on
  later_on : (i p n later : ℕ) → i < n → n < elim (leb from i) as (λ (b : Bool). ℕ) [
    | false ↦ later
    | true ↦ elim (eqb (get_or key p 0) 0) as (λ (b : Bool). ℕ) [ true ↦ i | false ↦ later ]
  ] → n < later
  later_on i p n later h = case_bool (λ x. n < x → n < later) (leb from i)
      (λ e. case_bool (λ x. n < x → n < later) (eqb (get_or key p 0) 0) (λ q k. absurd (omega arith)) (λ q k. k))
      (λ e k. k)

  passed : (i : ℕ) (ps : List ℕ) (j : ℕ) → from ≤ i + j → i + j < first_valid key from i ps → j < length ps
      → get_or key (get_or ps j 0) 0 ≡ 0 → ⊥
  passed i [] j h k few z = omega arith
  passed i (p ∷ ps) zero h k few z = here i p (first_valid key from (suc i) ps) (omega arith) (omega (arith, k)) z
  passed i (p ∷ ps) (suc j) h k few z =
      passed (suc i) ps j (omega arith)
      (omega (arith, later_on i p (i + suc j) (first_valid key from (suc i) ps) (omega arith) k)) (omega arith) z

-- by whether it is a peek
index_passed : (peeks : Bool) (key : List ℕ) (from : ℕ) (ps : List ℕ) (j : ℕ) → from ≤ j
    → j < index_by peeks from (first_valid key from 0 ps) → j < length ps → get_or key (get_or ps j 0) 0 ≡ 0 → ⊥
index_passed true key from ps j h k few z = passed key from 0 ps j (omega arith) (omega (arith, k)) few z
index_passed false key from ps j h k few z = omega arith

-- SEARCHES that end at once with an invalid answer are skipped
module _ (limit t m k : ℕ) (f : Forest) (p : Peeked) where
  abbrev Peeking : (i : ℕ) → Progress → Type 0
  Peeking i q = Peeks limit t m k i q p

  skips_all : (n i l : ℕ) → l ≡ n + i
      → ((j : ℕ) → i ≤ j → j < l → steps.start limit t j f ≡ ended_so (turns.fail logic.InvalidAnswer) f)
      → Peeking l (steps.start limit t l f) → Peeking i (steps.start limit t i f)
  skips_all zero i l e h x = let same : l ≡ i = omega arith in subst (λ (j : ℕ). Peeking j (steps.start limit t j f)) same x
  skips_all (suc n) i l e h x =
      subst (Peeking i) (sym (h i (omega arith) (omega arith)))
      (skips refl (skips_all n (suc i) l (omega arith) (λ j a b. h j (omega arith) b) x))

-- THE INDEX of what is started
push_index : (late none_left : Bool) (i : ℕ) (c : Course) → (pushes_by late none_left (from_index i c)).index ≡ i
push_index true none_left i c = refl
push_index false true i c = refl
push_index false false i c = refl

index_by_new : (new : Bool) (asked : Asked) (i : ℕ) (stored : Ending) (c : Course)
    → (start_by false false new asked i stored c).index ≡ i
index_by_new true asked i stored c = push_index (leb asked.clock_limit c.clock) (eqb asked.limit 0) i c
index_by_new false asked i stored c = refl

module _ (b : Book) (asked : Asked) (c : Course) (w : Lent) (o : Rests (stores_of b asked (walk c w)))
    (x : Ended b.goals asked.table c.index (forest (stores_of b asked (walk c w)))) where
  abbrev z : Stores
  z = stores_of b asked (walk c w)

  abbrev t : ℕ
  t = asked.table

  abbrev f : Forest
  f = forest z

  abbrev a : Answers
  a = w.answers

  abbrev first : ℕ
  first = first_index asked w c

  abbrev table : Table
  table = table_held z t

  there : t < c.count
  there = root_there b asked c w o x

  abbrev index_so : (missing floundered : Bool) → ℕ
  index_so missing floundered =
      (start_by missing floundered (eqb first (get_or a.places.len t 0)) asked first (stored_in a t first) c).index

  index_is : (u : Bool) → flag_at t w.tables.floundered ≡ u → (started asked w c).index ≡ index_so false u
  index_is u e = ap₂ index_so (lt-leb c.count t there) e

  -- a stored answer that is passed ends its search at once
  module _ (sane : flag_at t w.tables.floundered ≡ false) where
    unfloundered : table.floundered ≡ false
    unfloundered = sym (is_flag b asked c w o there) ∙ sane

    ends_invalid : (j : ℕ) → c.index ≤ j → j < first
        → steps.start asked.limit t j f ≡ ended_so (turns.fail logic.InvalidAnswer) f
    ends_invalid j h k =
        let few : j < get_or a.places.len t 0 = omega (arith, first_few b asked c w o x sane) in
        let delayed = index_passed (is_peek asked.mode) a.key c.index (ring a.places t) j h k
        (omega (arith, length_ring a.places t)) in
        stored_ends asked.limit t j f table (is_table b asked c w o there) unfloundered
        (answer_at z.answers (get_or (ring a.places t) j 0)) (answer_is z o.sounds t there j few)
        ∙ ap (λ (e : turns.Ending). ended_so e f) (invalid_is z o.sounds t there j few delayed)

  module _ (m k : ℕ) (p : Peeked) where
    abbrev PeekedFrom : (i : ℕ) → Progress → Type 0
    PeekedFrom i q = Peeks asked.limit t m k i q p

    abbrev Goes : (index : ℕ) → Type 0
    Goes i = PeekedFrom i (steps.start asked.limit t first f) → PeekedFrom c.index (steps.start asked.limit t c.index f)

    by_floundered : (u : Bool) → flag_at t w.tables.floundered ≡ u → Goes (started asked w c).index
    by_floundered true e =
        let r : table.floundered ≡ true = sym (is_flag b asked c w o there) ∙ e in
        let is = is_table b asked c w o there in
        subst Goes (sym (index_is true e))
        (subst (PeekedFrom c.index)
        (floundered_ends asked.limit t first f table is r ∙ sym (floundered_ends asked.limit t c.index f table is r)))
    by_floundered false e =
        let from = index_from_from asked.mode a.places.next a.places.tail a.places.len a.key t c.index in
        subst Goes (sym (index_is false e ∙ index_by_new (eqb first (get_or a.places.len t 0)) asked first (stored_in a t first) c))
        (skips_all asked.limit t m k f p (first - c.index) c.index first (omega arith) (ends_invalid e))

    -- A PEEK goes on from what is started as from the definitions' start at the course's index
    pub start_peeks : Peeks asked.limit asked.table m k (started asked w c).index
        (progress_of b asked (suc c.clock) (begun asked w (started asked w c))) p
        → Peeks asked.limit asked.table m k c.index
        (steps.start asked.limit asked.table c.index (forest (stores_of b asked (walk c w)))) p
    start_peeks h =
        by_floundered (flag_at t w.tables.floundered) refl
        (subst (PeekedFrom (started asked w c).index) (start_at b asked c w o there first refl) h)

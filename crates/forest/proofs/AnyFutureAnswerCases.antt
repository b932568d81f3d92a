-- The ways out of `any_future_answer`, over variables.
use Prim.Native.Nat.{ℕ, ◌%◌, ◌≤◌, ◌<◌}
use native.Mathlib.Nat.{mod-eq_of_lt}
use native.Mathlib.Omega.{arith}
use mathlib.Core.Bool.{Bool, true, false, ◌||◌}
use mathlib.Core.List.{List, [], ◌∷◌}
use mathlib.Core.Logic.{◌⊎◌, ⊎_elim}
use mathlib.Core.Path.{◌≡◌, refl, sym, ap, ap₂, ◌∙◌}
use lib.Dec.{ltb, leb}
use lib.ListN.{drop, get_or, length, drop_of_length-le}
use borrow.Author.Tests.{le-leb, lt-leb, ne_eqb}
use Rattle.definitions.specs.Forest as said
use Rattle.definitions.specs.Refusal.{Refusable, accepted, ◌refuses◌, unless}
use Rattle.stores.specs.Places.{ring, found_in, numbered}
use Rattle.stores.proofs.PlacesViews.{length_ring}
use Rattle.stores.proofs.TableFuture.{future_view}
use Rattle.control.specs.Stores.{Stores, first_strands}
use Rattle.search.proofs.StoredAnswers.{answers_few}
use Rattle.batch.proofs.ServeCases.{found_none}
use Rattle.forest.specs.declared.Forest.{Forest}
use Rattle.forest.specs.declared.any_future_answer.Future.TheVariants as futures
use Rattle.forest.specs.AnyFutureAnswer.{FutureSays}
use Rattle.forest.specs.View.{stores_in, view, Sound}
use Rattle.forest.proofs.Running.{tables_counted}

-- an index, or 256 in place of a larger one
abbrev pub Within : (i from : ℕ) → Type 0
Within i from = ((256 < i) × (from ≡ 256)) ⊎ ((i ≤ 256) × (from ≡ i))

-- either way as much is dropped
drop_alike : (l : List ℕ) (from i : ℕ) → length l ≤ 256 → Within i from → drop from l ≡ drop i l
drop_alike l from i few came =
    ⊎_elim
    (λ c. ap (λ (n : ℕ). drop n l) c.1 ∙ drop_of_length-le l {i = 256} few
    ∙ sym (drop_of_length-le l {i = i} (omega (arith, few, c.0))))
    (λ c. ap (λ (n : ℕ). drop n l) c.1) came

-- a variant of 16 bits
pub low_variant : (variant : ℕ) → variant ≤ 65535 → variant % 65536 ≡ variant
low_variant variant low = mod-eq_of_lt (omega (arith, low))

module _ (f : Forest) (table index variant : ℕ) where
  abbrev z : Stores
  z = stores_in f

  abbrev says_by : (unmade : Bool) → Refusable Bool
  says_by b = unless (b refuses 10 ∷ []) (said.future (view f) table index variant)

  pub says_unmade : f.stores.tables.count ≤ table → FutureSays f table index variant (futures.Refused 10)
  says_unmade h = record {
    says = λ s. sym (ap says_by (ap (λ (n : ℕ). leb n table) (tables_counted f) ∙ le-leb f.stores.tables.count table h));
    unmade = λ _. refl;
  }

  module _ (made : table < f.stores.tables.count) where
    found_as : (any : Bool) → (Sound f → said.future (view f) table index variant ≡ any)
        → FutureSays f table index variant (futures.Found any)
    found_as any h = record {
      says = λ s. sym (ap says_by (ap (λ (n : ℕ). leb n table) (tables_counted f) ∙ lt-leb f.stores.tables.count table made) ∙ ap accepted (h s));
      unmade = λ k. absurd (omega (arith, made, k));
    }

    abbrev stored_at : (t from v : ℕ) → Bool
    stored_at t from v =
        let a = z.answers in
        ltb (found_in (numbered false a.variant v a.key 0) (drop from (ring a.places t))) 256

    abbrev queued_at : (t v : ℕ) → Bool
    queued_at t v =
        let s = z.strands in
        ltb (found_in (numbered false s.variant v s.time 0) (ring s.places t)) 256

    in_view : Sound f → said.future (view f) table index variant ≡ stored_at table index variant || queued_at table variant
    in_view s = future_view (first_strands z.book) z.tables z.strands z.answers [] table index variant made
        s.sounds.strands s.sounds.answers (view f) refl (stored_at table index variant) (queued_at table variant) refl refl

    -- no variant is above 65535
    pub says_large : 65535 < variant → ((q : ℕ) → get_or f.stores.strands.variant q 0 < 65536) → ((q : ℕ) → get_or f.stores.answers.variant q 0 < 65536)
        → FutureSays f table index variant (futures.Found false)
    says_large large small small' = found_as false (λ s. in_view s ∙ ap₂ (λ (b c : Bool). b || c)
        (found_none (numbered false f.stores.answers.variant variant f.stores.answers.key 0)
        (λ q. ne_eqb (get_or f.stores.answers.variant q 0) variant (λ e. omega (arith, e, large, small' q)))
        (drop index (ring z.answers.places table)))
        (found_none (numbered false f.stores.strands.variant variant f.stores.strands.time 0)
        (λ q. ne_eqb (get_or f.stores.strands.variant q 0) variant (λ e. omega (arith, e, large, small q)))
        (ring z.strands.places table)))

    -- the variant, by a number that is the same
    module _ (v : ℕ) (same_variant : v ≡ variant) (from : ℕ) (came : Within index from) where
      same_table : Sound f → table % 256 ≡ table
      same_table s = mod-eq_of_lt (omega (arith, made, s.sounds.tables.few))

      few : Sound f → length (ring z.answers.places table) ≤ 256
      few s = omega (arith, length_ring z.answers.places table, answers_few z s.sounds table made)

      same_stored : Sound f → stored_at (table % 256) from v ≡ stored_at table index variant
      same_stored s =
          let a = z.answers in
          ap₂ (λ (t x : ℕ). stored_at t from x) (same_table s) same_variant
          ∙ ap (λ (l : List ℕ). ltb (found_in (numbered false a.variant variant a.key 0) l) 256)
          (drop_alike (ring a.places table) from index (few s) came)

      -- an answer is stored
      pub says_stored : (stored : Bool) → stored ≡ stored_at (table % 256) from v → stored ≡ true
          → FutureSays f table index variant (futures.Found true)
      says_stored stored is e = found_as true
          (λ s. in_view s ∙ ap (λ (b : Bool). b || queued_at table variant) (sym (same_stored s) ∙ sym is ∙ e))

      -- none is, and the queue is looked through
      pub says_queued : (stored : Bool) → stored ≡ stored_at (table % 256) from v → stored ≡ false
          → (queued : Bool) → queued ≡ queued_at (table % 256) v → FutureSays f table index variant (futures.Found queued)
      says_queued stored is e queued eq = found_as queued
          (λ s. in_view s
          ∙ ap₂ (λ (b c : Bool). b || c) (sym (same_stored s) ∙ sym is ∙ e)
          (sym (ap₂ (λ (t x : ℕ). queued_at t x) (same_table s) same_variant) ∙ sym eq))

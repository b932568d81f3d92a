-- The ways out of the functions of serve.rt, over variables: the model at the tests that led there.
use Prim.Native.Nat.{ℕ, ◌+◌, ◌-◌, ◌%◌, ◌≤◌, ◌<◌}
use native.Mathlib.Nat.{mod-eq_of_lt}
use native.Mathlib.Omega.{arith}
use mathlib.Core.Bool.{Bool, true, false}
use mathlib.Core.List.{List, [], ◌∷◌}
use mathlib.Core.Path.{◌≡◌, refl, sym, ap, ap₂, ◌∙◌}
use lib.Dec.{eqb, leb, ltb}
use lib.ListN.{drop, get_or}
use borrow.Author.Tests.{lt-ltb, le-ltb, le-leb, lt-leb, eq-eqb, ne_eqb}
use Rattle.definitions.specs.{MAX}
use Rattle.definitions.specs.Book.{bit1}
use Rattle.book.specs.Access.{entry}
use Rattle.book.specs.declared.Book.{Book}
use Rattle.rings.specs.Rings.{ring_of}
use Rattle.stores.specs.Numbers.{free, first_at, within, written_at}
use Rattle.stores.specs.Places as numbers
use Rattle.stores.specs.Places.{found_or, found_in}
use Rattle.control.specs.PerformDeed.{stack_of}
use Rattle.control.specs.PerformStrand.{Lent, lent_of}
use Rattle.control.specs.SelectSubgoal.{strands_by}
use Rattle.search.specs.declared.course.Asked.{Asked}
use Rattle.search.specs.declared.course.Course.{Course}
use Rattle.search.specs.declared.course.Mode.TheVariants as modes
use Rattle.search.specs.Walk.{numbered}
use Rattle.batch.specs.declared.calls.Call.{Call}
use Rattle.batch.specs.declared.calls.Said.{Said}
use Rattle.batch.specs.declared.calls.Said.TheVariants as saying
use Rattle.batch.specs.declared.calls.Serving.{Serving}
use Rattle.batch.specs.Calls.{call_at, reply_of, reply_put}
use Rattle.batch.specs.Serve.{Stage, stage, over_with, came_to, said_at_once}
use Rattle.batch.specs.Serve.{tables_made, opened_with, open_by, table_of, live_with, opens}
use Rattle.batch.specs.Serve.{first_course, started, begins, asked_for, refusal_at, search_by, searches, peek_by, peeks}
use Rattle.batch.specs.Serve.{from_index, future_by, stored_from, queued_in, asks_future}
use Rattle.batch.specs.Serve.{next_call, begun_by, begun, served_by, served}

-- nothing is found where no place passes
pub found_none : (test : ℕ → Bool) → ((q : ℕ) → test q ≡ false) → (l : List ℕ) → ltb (found_in test l) 256 ≡ false
found_none test never [] = refl
found_none test never (q ∷ l) = ap (λ (b : Bool). ltb (found_or b q (found_in test l)) 256) (never q) ∙ found_none test never l

-- of `strands_of`: the goal's flag is read as b
module _ (flags len : List ℕ) (g : ℕ) (b : Bool) (is : b ≡ bit1 (entry 64 flags g)) where
  abbrev strands_for : Bool → ℕ
  strands_for x = strands_by x (entry 64 len g)

module _ (s : Serving) (w : Lent) (replies : List ℕ) where
  -- all that is lent, with the numbers of the course
  abbrev held : Lent
  held = numbered s.course w

  abbrev v : Stage
  v = stage s w replies

  abbrev left : Serving → Stage
  left r = stage r w replies

  -- OPENING
  module _ (b : Book) (goal : ℕ) where
    module _ (t : ℕ) (is : t ≡ table_of b (goal % 256) held) where
      abbrev opened_by : (marked missing there full : Bool) → (t : ℕ) → Stage
      opened_by marked missing there full k = open_by b marked missing there full k (goal % 256) s held replies

    abbrev first : ℕ
    first = table_of b (goal % 256) held

  -- n refuses it before its limits are looked at, where it is not 0
  module _ (clock_limit table index n : ℕ) (read : n ≡ refusal_at table index (stage s w replies)) where
    -- SEARCHING
    module _ (limit : ℕ) where
      searches_as : (refused none_asked : Bool) → ltb 0 n ≡ refused → eqb limit 0 ≡ none_asked
          → search_by refused none_asked n clock_limit table index limit v ≡ searches clock_limit table index limit v
      searches_as refused none_asked e1 e2 =
          (λ i. search_by (sym e1 i) (sym e2 i) n clock_limit table index limit v)
          ∙ ap (λ (k : ℕ). search_by (ltb 0 k) (eqb limit 0) k clock_limit table index limit v) read

      module _ (passed : n ≤ 0) where
        pub searches_begun : (limit ≡ 0 → ⊥)
            → begins saying.Searched (asked_for modes.Search table limit clock_limit) index 0 (stage s w replies)
            ≡ searches clock_limit table index limit (stage s w replies)
        searches_begun d = searches_as false false (le-ltb 0 n passed) (ne_eqb limit 0 d)

    -- PEEKING
    module _ (rounds limit : ℕ) where
      peeks_as : (refused no_round none_asked : Bool) → ltb 0 n ≡ refused → eqb rounds 0 ≡ no_round → eqb limit 0 ≡ none_asked
          → peek_by refused no_round none_asked n clock_limit table index rounds limit v ≡ peeks clock_limit table index rounds limit v
      peeks_as refused no_round none_asked e1 e2 e3 =
          (λ i. peek_by (sym e1 i) (sym e2 i) (sym e3 i) n clock_limit table index rounds limit v)
          ∙ ap (λ (k : ℕ). peek_by (ltb 0 k) (eqb rounds 0) (eqb limit 0) k clock_limit table index rounds limit v) read

      module _ (passed : n ≤ 0) where
        module _ (some : rounds ≡ 0 → ⊥) where
          pub peeks_begun : (limit ≡ 0 → ⊥)
              → begins saying.Peeked (asked_for modes.Peek table limit clock_limit) index (rounds - 1) (stage s w replies)
              ≡ peeks clock_limit table index rounds limit (stage s w replies)
          peeks_begun d = peeks_as false false false (le-ltb 0 n passed) (ne_eqb rounds 0 some) (ne_eqb limit 0 d)

  -- WHAT MAY COME
  module _ (table index variant : ℕ) where
    abbrev stored_in : (from variant : ℕ) → Bool
    stored_in from x = stored_from (table % 256) from x w

    abbrev queue_has : (variant : ℕ) → Bool
    queue_has x = queued_in (table % 256) x w

    comes_as : (missing stored queued : Bool) → leb s.course.count table ≡ missing
        → stored_in (from_index (ltb 256 index) index) variant ≡ stored → queue_has variant ≡ queued → (r : Serving)
        → r ≡ said_at_once (future_by missing stored queued) s → left r ≡ asks_future table index variant v
    comes_as missing stored queued e1 e2 e3 r er =
        ap left er ∙ (λ i. left (said_at_once (future_by (sym e1 i) (sym e2 i) (sym e3 i)) s))

    module _ (made : table < s.course.count) where
      made_test : leb s.course.count table ≡ false
      made_test = lt-leb s.course.count table made

      -- no variant is above 65535
      pub comes_large : 65535 < variant → ((q : ℕ) → get_or w.strands.variant q 0 < 65536)
          → ((q : ℕ) → get_or w.answers.variant q 0 < 65536) → (r : Serving) → r ≡ said_at_once (saying.Future false) s
          → stage r w replies ≡ asks_future table index variant (stage s w replies)
      comes_large h small small' r er =
          let a = w.answers in
          let z = w.strands in
          comes_as false false false made_test
          (found_none (numbers.numbered false a.variant variant a.key 0)
          (λ q. ne_eqb (get_or a.variant q 0) variant (λ e. omega (arith, e, h, small' q)))
          (drop (from_index (ltb 256 index) index) (ring_of a.places.next a.places.tail a.places.len (table % 256))))
          (found_none (numbers.numbered false z.variant variant z.time 0)
          (λ q. ne_eqb (get_or z.variant q 0) variant (λ e. omega (arith, e, h, small q)))
          (ring_of z.places.next z.places.tail z.places.len (table % 256))) r er

      -- whether an answer is stored from there on
      module _ (small : variant ≤ 65535) (from : ℕ) (is_from : from ≡ from_index (ltb 256 index) index) (stored : Bool)
          (is : stored ≡ stored_from (table % 256) from (variant % 65536) w) where
        same_variant : variant % 65536 ≡ variant
        same_variant = mod-eq_of_lt (omega arith)

  -- ONE OR THE OTHER
  module _ (b : Book) (clock_limit : ℕ) (calls : List ℕ) where
    -- the call at hand is k
    module _ (idle : s.busy ≡ false) (k : Call) (is : k ≡ call_at calls s.at) where
      serves_as : (opening search peek : Bool) → eqb k.kind 0 ≡ opening → eqb k.kind 1 ≡ search → eqb k.kind 2 ≡ peek
          → begun_by b clock_limit opening search peek k v ≡ served b clock_limit calls v
      serves_as opening search peek e1 e2 e3 =
          (λ i. begun_by b clock_limit (sym e1 i) (sym e2 i) (sym e3 i) k v)
          ∙ ap (λ (x : Call). begun b clock_limit x v) is
          ∙ ap (λ (x : Bool). served_by b clock_limit calls x v) (sym idle)

      pub serves_opened : k.kind ≡ 0 → opens b k.a (stage s w replies) ≡ served b clock_limit calls (stage s w replies)
      serves_opened e = serves_as true _ _ (eq-eqb k.kind 0 e) refl refl

      module _ (d : k.kind ≡ 0 → ⊥) where
        pub serves_searched : k.kind ≡ 1
            → searches clock_limit k.a k.b k.c (stage s w replies) ≡ served b clock_limit calls (stage s w replies)
        serves_searched e = serves_as false true _ (ne_eqb k.kind 0 d) (eq-eqb k.kind 1 e) refl

        module _ (d' : k.kind ≡ 1 → ⊥) where
          pub serves_peeked : k.kind ≡ 2
              → peeks clock_limit k.a k.b k.c k.d (stage s w replies) ≡ served b clock_limit calls (stage s w replies)
          serves_peeked e = serves_as false false true (ne_eqb k.kind 0 d) (ne_eqb k.kind 1 d') (eq-eqb k.kind 2 e)

          pub serves_future : (k.kind ≡ 2 → ⊥)
              → asks_future k.a k.b k.c (stage s w replies) ≡ served b clock_limit calls (stage s w replies)
          serves_future e = serves_as false false false (ne_eqb k.kind 0 d) (ne_eqb k.kind 1 d') (ne_eqb k.kind 2 e)

-- The test of `any_future_answer` is the definitions': the answers stored from an index on, then the queue. From the search along a ring by
-- numbers.
use Prim.Native.Nat.{ℕ, ◌≤◌, ◌<◌}
use native.Mathlib.Omega.{arith}
use mathlib.Core.Path.{◌≡◌, refl, sym, ap, ap₂, ◌∙◌}
use mathlib.Core.Bool.{Bool, false, ◌||◌}
use mathlib.Core.Option.{Option, none, some}
use mathlib.Core.List.{List, [], ◌∷◌, map}
use lib.ListN.{drop, get_or, get_elem?}
use lib.Dec.{eqb, ltb}
use Rattle.definitions.specs as said
use Rattle.definitions.specs.Lists.{any_passes}
use Rattle.definitions.specs.Strand as said_strand
use Rattle.definitions.specs.Table.{Table}
use Rattle.definitions.specs.Tables.{Forest}
use Rattle.definitions.specs.Forest.{future}
use Rattle.laws.specs.All.{All}
use Rattle.laws.proofs.All.{all_first, all_rest, all_drop}
use Rattle.rings.specs.Lists.{times}
use Rattle.rings.proofs.RingViews.{below_top}
use Rattle.stores.specs.declared.places.Places.{Places}
use Rattle.stores.specs.declared.queue.Strands.{Strands}
use Rattle.stores.specs.declared.table.Answers.{Answers}
use Rattle.stores.specs.declared.tables.Tables.{Tables}
use Rattle.stores.specs.Places.{ring, numbered, found_in}
use Rattle.stores.specs.View.{FirstStrands, answer_at, strand_at, held_table, tables}
use Rattle.stores.specs.Sound.{SoundPlaces, SoundStrands, SoundAnswers}
use Rattle.stores.proofs.ListsSpans.{map_drop, span_at, all_times}
use Rattle.stores.proofs.PlacesSearch.{found_any}

any_map : {A B : Type 0} (test : B → Bool) (f : A → B) (l : List A) → any_passes test (map f l) ≡ any_passes (λ x. test (f x)) l
any_map test f [] = refl
any_map test f (x ∷ l) = ap (λ (b : Bool). test (f x) || b) (any_map test f l)

any_cong : {A : Type 0} (f g : A → Bool) (l : List A) → All (λ x. f x ≡ g x) l → any_passes f l ≡ any_passes g l
any_cong f g [] a = refl
any_cong f g (x ∷ l) a = ap₂ (λ (b c : Bool). b || c) (all_first a) (any_cong f g l (all_rest a))

module _ (fresh : FirstStrands) (ts : Tables) (s : Strands) (a : Answers) (held : List ℕ) (t i v : ℕ) (h : t < ts.count)
    (ss : SoundStrands fresh s ts.count held)
    (rs : SoundAnswers a ts.count) where
  abbrev stored_test : said.Answer → Bool
  stored_test b = eqb b.variant v

  abbrev queued_test : said_strand.Strand → Bool
  queued_test r = eqb r.ex_clause.subst.variant v

  -- one store: the places of ring t that the numbers find are those whose view passes the test
  any_found : {A : Type 0} (test : A → Bool) (at : ℕ → A) (p : Places) (held' : List ℕ) → SoundPlaces p ts.count held'
      → (variant key : List ℕ) (k : ℕ) → ((q : ℕ) → 1 ≤ times q (ring p t) → eqb (get_or variant q 0) v ≡ test (at q)) → (n : ℕ)
      → ltb (found_in (numbered false variant v key k) (drop n (ring p t))) 256 ≡ any_passes test (drop n (map at (ring p t)))
  any_found test at p held' sound variant key k same n =
      found_any (numbered false variant v key k) (drop n (ring p t))
      (all_drop n (all_times (λ q. q < 256) (ring p t)
      (λ q j. omega (arith, below_top p.next p.tail p.len p.top sound.rings t q j, sound.rings.room))))
      ∙ any_cong (numbered false variant v key k) (λ q. test (at q)) (drop n (ring p t))
      (all_drop n
      (all_times (λ q. eqb (get_or variant q 0) v ≡ test (at q)) (ring p t) same))
      ∙ sym (any_map test at (drop n (ring p t))) ∙ ap (any_passes test) (map_drop at n (ring p t))

  -- what `any_answer` and `any_strand` say of the table
  pub future_view : (f : Forest) → f.tables ≡ tables fresh ts s a → (stored queued : Bool)
      → stored ≡ ltb (found_in (numbered false a.variant v a.key 0) (drop i (ring a.places t))) 256
      → queued ≡ ltb (found_in (numbered false s.variant v s.time 0) (ring s.places t)) 256 → future f t i v ≡ stored || queued
  future_view f is stored queued es eq =
      ap (λ (l : List Table). here (get_elem? l t)) is ∙ ap here (span_at (held_table fresh ts s a) ts.count t h)
      ∙ ap₂ (λ (x y : Bool). x || y)
      (sym (es ∙ any_found stored_test (answer_at a) a.places [] rs.places a.variant a.key 0
      (λ q k. ap (λ (n : ℕ). eqb n v) (rs.stored t q h k).is_variant) i))
      (sym (eq ∙ any_found queued_test (strand_at fresh s) s.places held ss.places s.variant s.time 0
      (λ q k. ap (λ (n : ℕ). eqb n v) (ss.queued t q h k).is_variant) 0))
    where
      here : Option Table → Bool
      here o = elim o [
        | none ↦ false
        | some table ↦ any_passes stored_test (drop i table.answers) || any_passes queued_test
            table.strands
      ]

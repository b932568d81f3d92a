-- The first in a list that has something, in a loop over its places; and an array that is filled place by place.
use Prim.Native.Nat.{ℕ, zero, suc, ◌+◌, ◌-◌, ◌≤◌, ◌<◌}
use native.Mathlib.Omega.{arith}
use native.Mathlib.Decide.{dec_lt}
use mathlib.Core.Path.{◌≡◌, refl, sym, ap, subst, ◌∙◌}
use mathlib.Core.Option.{Option, none, some}
use Rattle.std.specs.declared.option.Option as found
use Rattle.std.proofs.Common.{Some, None}
use mathlib.Core.List.{List, [], ◌∷◌, ◌++◌}
use lib.ListN.{length, get_or, set, replicate, length-append, length-replicate, length-set, get_or-eq_default}
use lib.Seq.{get_or-set_same, get_or-set_other, ext_get_or}
use Rattle.laws.specs.Spans.{span}
use Rattle.laws.proofs.Spans.{length_span, get_or_span, span_left, span_done}
use Rattle.papers.specs.NotPlain.{or_else, first_from}
use Rattle.paper_checks.specs.Telling.{option_of}
use Rattle.paper_checks.specs.Spoilers.{filled, Fills}

-- What is left decides, as long as nothing before it has something.

module _ {A B : Type 0} (place : ℕ → A → Option B) (f : ℕ → A) where
  abbrev pub FirstLeft : (i n k : ℕ) → Option B → Type 0
  FirstLeft i n k X = first_from place k (span f i (n - k)) ≡ X

  pub first_begins : (s n : ℕ) → FirstLeft s n 0 (first_from place 0 (span f s n))
  first_begins s n = let z : n - 0 ≡ n = omega arith in ap (λ (k : ℕ). first_from place 0 (span f s k)) z

  module _ (i n k : ℕ) (X : Option B) (left : FirstLeft i n k X) where
    abbrev pub behind : Option B
    behind = first_from place (suc k) (span f (i + 1) (n - (k + 1)))

    pub here : k < n → or_else (place k (f i)) behind ≡ X
    here h = sym (ap (first_from place k) (span_left f i n k h)) ∙ left

    pub first_again : k < n → place k (f i) ≡ none → FirstLeft (i + 1) n (k + 1) X
    first_again h e =
        let one : k + 1 ≡ suc k = omega arith in
        ap (λ (m : ℕ). first_from place m (span f (i + 1) (n - (k + 1)))) one
        ∙ sym (ap (λ (o : Option B). or_else o behind) e) ∙ here h

    pub first_found : k < n → (place k (f i) ≡ none → ⊥) → X ≡ place k (f i)
    first_found h some_there = sym (here h) ∙ on (place k (f i)) behind some_there
      where
        on : (o p : Option B) → (o ≡ none → ⊥) → or_else o p ≡ o
        on none p n = absurd (n refl)
        on (some b) p n = refl

    pub first_over : n ≤ k → X ≡ none
    first_over h = sym left ∙ ap (first_from place k) (span_done f i n k h)

-- The same as the code tells it.

module _ {B C : Type 0} (tell : B → C) where
  pub told_none : (o : Option B) → None ≡ option_of tell o → o ≡ none
  told_none none e = refl
  told_none (some b) e = cc

  pub told_first : (o other : Option B) (c : C) → Some c ≡ option_of tell o → Some c ≡ option_of tell (or_else o other)
  told_first none other c e = cc
  told_first (some b) other c e = e

  pub told_other : (o other : Option B) (r : found.Option C) → None ≡ option_of tell o → r ≡ option_of tell other
      → r ≡ option_of tell (or_else o other)
  told_other none other r e f = f
  told_other (some b) other r e f = cc

  module _ {A : Type 0} (place : ℕ → A → Option B) (f : ℕ → A) (i n k : ℕ) (X : Option B) (left : FirstLeft place f i n k X) where
    pub told_again : k < n → None ≡ option_of tell (place k (f i)) → FirstLeft place f (i + 1) n (k + 1) X
    told_again h e = first_again place f i n k X left h (told_none (place k (f i)) e)

    pub told_found : (c : C) → k < n → Some c ≡ option_of tell (place k (f i)) → Some c ≡ option_of tell X
    told_found c h e =
        told_first (place k (f i)) (behind place f i n k X left) c e ∙ ap (option_of tell) (here place f i n k X left h)

    pub told_over : n ≤ k → None ≡ option_of tell X
    told_over h = sym (ap (option_of tell) (first_over place f i n k X left h))

-- An array, filled up to place g.

module _ {A : Type 0} where
  get_or_same : (n i : ℕ) (a : A) → get_or (replicate n a) i a ≡ a
  get_or_same zero i a = refl
  get_or_same (suc n) zero a = refl
  get_or_same (suc n) (suc i) a = get_or_same n i a

module _ {A : Type 0} (other : A) where
  pub get_or_filled : (l : List A) (g : ℕ) → get_or (filled other l) g other ≡ get_or l g other
  get_or_filled l g = on (64 - length l) l g
    where
      on : (n : ℕ) (m : List A) (i : ℕ) → get_or (m ++ replicate n other) i other ≡ get_or m i other
      on n [] i = get_or_same n i other
      on n (x ∷ m) zero = refl
      on n (x ∷ m) (suc i) = on n m i

  pub length_filled : (l : List A) → length l ≤ 64 → length (filled other l) ≡ 64
  length_filled l h =
      let x = length-append l (replicate (64 - length l) other) in
      let y = length-replicate {A = A} (64 - length l) other in
      omega arith

  module _ (f : ℕ → A) where
    pub fills_start : (l : List A) → l ≡ replicate 64 other → Fills other f 0 l
    fills_start l e = record {
      whole = ap length e ∙ length-replicate {A = A} 64 other;
      there = λ i h. absurd (omega arith);
      past = λ i h. ap (λ (m : List A). get_or m i other) e ∙ get_or_same 64 i other;
    }

    pub fills_next : (g : ℕ) (l : List A) (x : A) → Fills other f g l → g < 64 → x ≡ f g → Fills other f (g + 1) (set l g x)
    fills_next g l x so h e = record {
      whole = length-set l g x ∙ so.whole;
      there = λ i k. up i k (dec_lt i g);
      past = λ i k. get_or-set_other l g i x other (λ q. omega arith) ∙ so.past i (omega arith);
    }
      where
        up : (i : ℕ) → i < g + 1 → Dec (i < g) → get_or (set l g x) i other ≡ f i
        up i k (yes b) = get_or-set_other l g i x other (λ q. omega arith) ∙ so.there i b
        up i k (no o) =
            let z : g ≡ i = omega arith in
            subst (λ (j : ℕ). get_or (set l g x) j other ≡ f j) z (get_or-set_same l g x other (omega (arith, so.whole)) ∙ e)

    pub fills_is : (n : ℕ) (l : List A) → n ≤ 64 → Fills other f n l → l ≡ filled other (span f 0 n)
    fills_is n l h so =
        let long : length (span f 0 n) ≡ n = length_span f 0 n in
        ext_get_or other l (filled other (span f 0 n)) (so.whole ∙ sym (length_filled (span f 0 n) (omega (arith, long))))
        (λ i k. at i (dec_lt i n) ∙ sym (get_or_filled (span f 0 n) i))
      where
        at : (i : ℕ) → Dec (i < n) → get_or l i other ≡ get_or (span f 0 n) i other
        at i (yes k) =
            let z : i ≡ 0 + i = omega arith in
            so.there i k ∙ ap f z ∙ sym (get_or_span f 0 n i other k)
        at i (no o) =
            so.past i (omega arith) ∙ sym (get_or-eq_default (span f 0 n) other {n = i} (omega (arith, length_span f 0 n)))

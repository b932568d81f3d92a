-- Bytes that are written one behind the other.
use Prim.Native.Nat.{ℕ, zero, suc, ◌+◌, ◌-◌, ◌%◌, ◌/◌, ◌≤◌, ◌<◌}
use native.Mathlib.Omega.{arith}
use mathlib.Core.Path.{◌≡◌, refl, sym, ap, subst, ◌∙◌}
use mathlib.Core.Bool.{false}
use mathlib.Core.List.{List, [], ◌∷◌, ◌++◌, append-nil, append_assoc}
use lib.Seq.{take_all}
use lib.ListN.{length, take, set, get_or, length-append, length-set}
use Rattle.laws.proofs.Takes.{take_next, take_set_next}
use Rattle.definitions.specs.Book.{any, Positive, Negative, write_literal}
use Rattle.xsb_import.specs.Keeping.{capped_to, capped_literal, goal_bytes, Writes}

pub writes_none : (l : List ℕ) (u : ℕ) → Writes l u [] l u
writes_none l u = record { same = refl; ends = λ h. omega arith; written = λ h. sym (append-nil (take u l)) }

pub put_room : (l after : List ℕ) (u b r : ℕ) → u < length l → after ≡ set l u b → r ≡ u + 1 → Writes l u (b ∷ []) after r
put_room l after u b r h e m = record {
  same = ap length e ∙ length-set l u b;
  ends = λ k. m;
  written = λ k. ap (λ (n : ℕ). take n after) m ∙ ap (take (u + 1)) e ∙ take_set_next u l b h;
}

pub put_full : (l : List ℕ) (u b : ℕ) → length l ≤ u → Writes l u (b ∷ []) l u
put_full l u b h = record { same = refl; ends = λ k. absurd (omega arith); written = λ k. absurd (omega arith) }

pub writes_more : (a b c xs ys : List ℕ) (u v w : ℕ) → Writes a u xs b v → Writes b v ys c w → Writes a u (xs ++ ys) c w
writes_more a b c xs ys u v w f g =
    let s = f.same in
    let l = length-append xs ys in
    let fits : (u + length (xs ++ ys) ≤ length a) → u + length xs ≤ length a = λ h. omega arith in
    let then : (u + length (xs ++ ys) ≤ length a) → v + length ys ≤ length b = λ h. let e = f.ends (fits h) in omega arith in
    record {
      same = g.same ∙ s;
      ends = λ h. (let e = f.ends (fits h) in let k = g.ends (then h) in omega arith);
      written = λ h. g.written (then h) ∙ ap (λ (t : List ℕ). t ++ ys) (f.written (fits h)) ∙ append_assoc (take u a) xs ys;
    }

pub writes_next : (a b c more : List ℕ) (u v w i : ℕ) → i < length more → Writes a u (take i more) b v
    → Writes b v (get_or more i 0 ∷ []) c w → Writes a u (take (i + 1) more) c w
writes_next a b c more u v w i h f g =
    subst (λ (t : List ℕ). Writes a u t c w) (sym (take_next i more 0 h)) (writes_more a b c (take i more) (get_or more i 0 ∷ []) u v w f g)

goal_bytes_push : (n : ℕ) → goal_bytes n ++ (0x47 ∷ 0 ∷ []) ≡ goal_bytes (suc n)
goal_bytes_push zero = refl
goal_bytes_push (suc n) = ap (λ (t : List ℕ). 0x47 ∷ 0 ∷ t) (goal_bytes_push n)

pub goals_next : (a b c : List ℕ) (u v w g from : ℕ) → from ≤ g → Writes a u (goal_bytes (g - from)) b v
    → Writes b v (0x47 ∷ 0 ∷ []) c w → Writes a u (goal_bytes ((g + 1) - from)) c w
goals_next a b c u v w g from h f k =
    let e : (g + 1) - from ≡ suc (g - from) = omega arith in
    subst (λ (t : List ℕ). Writes a u t c w) (goal_bytes_push (g - from) ∙ ap goal_bytes (sym e))
    (writes_more a b c (goal_bytes (g - from)) (0x47 ∷ 0 ∷ []) u v w f k)

pub writes_as : (a b xs ys : List ℕ) (u v : ℕ) → xs ≡ ys → Writes a u xs b v → Writes a u ys b v
writes_as a b xs ys u v e f = subst (λ (t : List ℕ). Writes a u t b v) e f

pub positive_bytes : (v g : ℕ) → g ≡ capped_to v
    → 0x50 ∷ g % 256 ∷ g / 256 ∷ 0 ∷ 0 ∷ 0 ∷ [] ≡ write_literal (capped_literal (Positive v any false))
positive_bytes v g e = ap (λ (x : ℕ). write_literal (Positive x any false)) e

pub negative_bytes : (v g : ℕ) → g ≡ capped_to v → 0x4E ∷ g % 256 ∷ g / 256 ∷ 0 ∷ [] ≡ write_literal (capped_literal (Negative v false))
negative_bytes v g e = ap (λ (x : ℕ). write_literal (Negative x false)) e

pub writes_all : (a b more : List ℕ) (u v i : ℕ) → length more ≤ i → Writes a u (take i more) b v → Writes a u more b v
writes_all a b more u v i h f = writes_as a b (take i more) more u v (take_all i more h) f

pub goals_all : (a b : List ℕ) (u v g from to : ℕ) → to ≤ g → g - from ≤ to - from → Writes a u (goal_bytes (g - from)) b v
    → Writes a u (goal_bytes (to - from)) b v
goals_all a b u v g from to p q f =
    let e : g - from ≡ to - from = omega arith in
    writes_as a b (goal_bytes (g - from)) (goal_bytes (to - from)) u v (ap goal_bytes e) f

pub goals_none : (a : List ℕ) (u from : ℕ) → Writes a u (goal_bytes (from - from)) a u
goals_none a u from =
    let e : 0 ≡ from - from = omega arith in
    writes_as a a [] (goal_bytes (from - from)) u u (ap goal_bytes e) (writes_none a u)

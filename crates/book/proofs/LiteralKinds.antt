-- A literal's kind says its sign, its flag and whether it wants a range; and what it wants is kept in one number.
use Prim.Native.Nat.{ℕ, ◌+◌, ◌*◌, ◌/◌, ◌%◌, ◌≤◌, ◌<◌}
use native.Mathlib.Omega.{arith}
use mathlib.Core.Path.{◌≡◌, ap, ap₂, ◌∙◌}
use mathlib.Core.Bool.{Bool, true, false}
use lib.Dec.{eqb}
use Rattle.definitions.specs.Book.{bit0, want_of, between, Positive, Negative}
use Rattle.book.specs.View.{wanted, bit2, numbered, signed, kept}
use Rattle.book.specs.Operands.{kind_by}

-- the two ends, out of the number that keeps them
pub kept_ends : (k g want high : ℕ) → want < 65536 → kept k g (want + 65536 * high) ≡ numbered k g want high
kept_ends k g want high h =
    let l : (want + 65536 * high) % 65536 ≡ want = omega arith in
    let m : (want + 65536 * high) / 65536 ≡ high = omega arith in
    ap₂ (numbered k g) l m

pub positive_literal : (f g w h : ℕ) → numbered (f % 2) g w h ≡ Positive g (want_of w) (bit0 f)
positive_literal f g w h =
    let n : f % 2 / 2 % 2 ≡ 0 = omega arith in
    let r : f % 2 / 4 % 2 ≡ 0 = omega arith in
    let o : f % 2 % 2 ≡ f % 2 = omega arith in
    ap (λ (k : ℕ). signed (eqb k 1) g (wanted (bit2 (f % 2)) w h) (bit0 (f % 2))) n
    ∙ ap (λ (k : ℕ). Positive g (wanted (eqb k 1) w h) (bit0 (f % 2))) r
    ∙ ap (λ (k : ℕ). Positive g (want_of w) (eqb k 1)) o

pub ranged_literal : (f g w h : ℕ) → numbered (f % 2 + 4) g w h ≡ Positive g (between w h) (bit0 f)
ranged_literal f g w h =
    let n : (f % 2 + 4) / 2 % 2 ≡ 0 = omega arith in
    let r : (f % 2 + 4) / 4 % 2 ≡ 1 = omega arith in
    let o : (f % 2 + 4) % 2 ≡ f % 2 = omega arith in
    ap (λ (k : ℕ). signed (eqb k 1) g (wanted (bit2 (f % 2 + 4)) w h) (bit0 (f % 2 + 4))) n
    ∙ ap (λ (k : ℕ). Positive g (wanted (eqb k 1) w h) (bit0 (f % 2 + 4))) r
    ∙ ap (λ (k : ℕ). Positive g (between w h) (eqb k 1)) o

pub negative_literal : (f g w h : ℕ) → numbered (f % 2 + 2) g w h ≡ Negative g (bit0 f)
negative_literal f g w h =
    let n : (f % 2 + 2) / 2 % 2 ≡ 1 = omega arith in
    let o : (f % 2 + 2) % 2 ≡ f % 2 = omega arith in
    ap (λ (k : ℕ). signed (eqb k 1) g (wanted (bit2 (f % 2 + 2)) w h) (bit0 (f % 2 + 2))) n ∙ ap (λ (k : ℕ). Negative g (eqb k 1)) o

pub kind_small : (p q : Bool) (f : ℕ) → kind_by p q f ≤ 5
kind_small true q f = omega arith
kind_small false true f = omega arith
kind_small false false f = omega arith

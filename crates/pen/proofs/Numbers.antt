-- The decimal digits of a number are those that the library prints. Assumes nothing.
use Rattle.std.proofs.Common.{ℕ, zero, suc, ◌+◌, ◌/◌, ◌%◌, ◌^◌, ◌<◌, ◌≡◌, refl, sym, ap, ◌∙◌}
use Rattle.std.proofs.Common.{List, [], ◌∷◌, arith}
use mathlib.Core.List.{append-nil}
use Rattle.std.specs.Fmt.{decimal as printed}
use Rattle.std.proofs.lemmas.Fmt.{PrependsLastDigit, decimal_from_prepends, length-decimal-le_succ}
use Rattle.definitions.specs.Text.{digits, decimal}

-- the digits of a number, by whether it has more than one
one_digit : (f n t : ℕ) (after : List ℕ) → n / 10 ≡ t → t ≡ 0 → digits (suc f) n after ≡ (48 + n % 10) ∷ after
one_digit f n zero after e z = rw (e, digits)
one_digit f n (suc t) after e z = absurd (omega arith)

more_digits : (f n t : ℕ) (after : List ℕ) → n / 10 ≡ t → 0 < t → digits (suc f) n after ≡ digits f (n / 10) ((48 + n % 10) ∷ after)
more_digits f n zero after e h = absurd (omega arith)
more_digits f n (suc t) after e h = rw (e, digits)

own : PrependsLastDigit digits
own = record {
  one = λ k n acc h. one_digit k n (n / 10) acc refl (omega arith) ∙ ap (λ (d : ℕ). (48 + d) ∷ acc) (omega arith);
  more = λ k n acc h. more_digits k n (n / 10) acc refl (omega arith);
}

pub decimal_printed : (n : ℕ) → n < 2 ^ 64 → printed n ≡ decimal n
decimal_printed n h =
    sym (decimal_from_prepends digits own (suc n) n [] h (omega (arith, length-decimal-le_succ n h)) ∙ append-nil (printed n))

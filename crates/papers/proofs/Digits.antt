-- The decimal digits of a number, with one more; and how many there are.
use Prim.Native.Nat.{ℕ, zero, suc, ◌+◌, ◌*◌, ◌/◌, ◌%◌, ◌<◌, ◌≤◌}
use native.Mathlib.Omega.{arith}
use native.Mathlib.Decide.{dec_lt}
use mathlib.Core.Path.{◌≡◌, refl, ap, ◌∙◌}
use mathlib.Core.List.{List, [], ◌∷◌, ◌++◌}
use lib.ListN.{length, length-append}
use Rattle.definitions.specs.Text.{digits, decimal}

-- the digits stand before what was there
digits_append : (m n : ℕ) (a b : List ℕ) → digits m n (a ++ b) ≡ digits m n a ++ b
digits_append zero n a b = refl
digits_append (suc m) n a b = on (digits_append m) (n / 10)
  where
    on : ((t : ℕ) (a b : List ℕ) → digits m t (a ++ b) ≡ digits m t a ++ b) → (q : ℕ)
        → elim q [ zero ↦ (48 + n % 10) ∷ (a ++ b) | suc t ↦ digits m (suc t) ((48 + n % 10) ∷ (a ++ b)) ]
        ≡ elim q [ zero ↦ (48 + n % 10) ∷ a | suc t ↦ digits m (suc t) ((48 + n % 10) ∷ a) ] ++ b
    on h zero = refl
    on h (suc t) = h (suc t) ((48 + n % 10) ∷ a) b

-- any bound above the number will do
digits_bound : (m k n : ℕ) (after : List ℕ) → n < m → n < k → digits m n after ≡ digits k n after
digits_bound zero k n after a b = absurd (omega arith)
digits_bound (suc m) zero n after a b = absurd (omega arith)
digits_bound (suc m) (suc k) n after a b = on (digits_bound m k) (n / 10) refl
  where
    on : ((t : ℕ) (after : List ℕ) → t < m → t < k → digits m t after ≡ digits k t after) → (q : ℕ) → n / 10 ≡ q
        → ◌≡◌ {A = List ℕ}
        (elim q [ zero ↦ (48 + n % 10) ∷ after | suc t ↦ digits m (suc t) ((48 + n % 10) ∷ after) ])
        (elim q [ zero ↦ (48 + n % 10) ∷ after | suc t ↦ digits k (suc t) ((48 + n % 10) ∷ after) ])
    on h zero e = refl
    on h (suc t) e = h (suc t) _ (omega arith) (omega arith)

pub decimal_one : (d : ℕ) → d < 10 → decimal d ≡ (48 + d) ∷ []
decimal_one d h = on (d / 10) (omega arith) (d % 10) (omega arith)
  where
    on : (q : ℕ) → q ≡ 0 → (r : ℕ) → r ≡ d
        → elim q [ zero ↦ (48 + r) ∷ [] | suc t ↦ digits d (suc t) ((48 + r) ∷ []) ] ≡ (48 + d) ∷ []
    on zero e r f = ap (λ (x : ℕ). (48 + x) ∷ []) f
    on (suc t) e r f = absurd (omega arith)

pub decimal_more : (n d : ℕ) → 0 < n → d < 10 → decimal (10 * n + d) ≡ decimal n ++ ((48 + d) ∷ [])
decimal_more n d p h =
    on ((10 * n + d) / 10) (omega arith) ((10 * n + d) % 10) (omega arith)
    ∙ digits_bound (10 * n + d) (suc n) n ((48 + d) ∷ []) (omega arith) (omega arith)
    ∙ digits_append (suc n) n [] ((48 + d) ∷ [])
  where
    on : (q : ℕ) → q ≡ n → (r : ℕ) → r ≡ d
        → elim q [ zero ↦ (48 + r) ∷ [] | suc t ↦ digits (10 * n + d) (suc t) ((48 + r) ∷ []) ] ≡ digits (10 * n + d) n ((48 + d) ∷ [])
    on zero e r f = absurd (omega arith)
    on (suc t) e r f = ap (λ (x : ℕ). digits (10 * n + d) (suc t) ((48 + x) ∷ [])) f
        ∙ ap (λ (x : ℕ). digits (10 * n + d) x ((48 + d) ∷ [])) e

-- A number has at most one digit more than its tenth.

decimal_tenth : (n m : ℕ) → length (decimal (n / 10)) ≤ m → 0 < m → length (decimal n) ≤ suc m
decimal_tenth n m h p = on (dec_lt n 10)
  where
    on : Dec (n < 10) → length (decimal n) ≤ suc m
    on (yes k) = omega (arith, ap length (decimal_one n k))
    on (no k) =
        let whole : n ≡ 10 * (n / 10) + n % 10 = omega arith in
        omega (
          arith,
          ap length (ap decimal whole ∙ decimal_more (n / 10) (n % 10) (omega arith) (omega arith)),
          length-append (decimal (n / 10)) ((48 + n % 10) ∷ []),
        )

abbrev pub tens : ℕ → ℕ
tens zero = 1
tens (suc k) = 10 * tens k

pub decimal_short : (k n : ℕ) → n < tens (suc k) → length (decimal n) ≤ suc k
decimal_short zero n h = omega (arith, ap length (decimal_one n (omega arith)))
decimal_short (suc k) n h =
    decimal_tenth n (suc k) (decimal_short k (n / 10) (omega arith)) (omega arith)

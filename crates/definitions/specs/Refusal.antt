-- Refusals by number (document 01, "Refused by the input"): a call that is refused returns its number and changes nothing.
use Rattle.std.specs.Prelude.{ℕ, Bool, true, false, List, [], ◌∷◌}

-- what a call gives: the number of a refusal, or a value
pub data Refusable (A : Type 0) : Type 0 where
  refused : ℕ → Refusable A
  accepted : A → Refusable A

-- a fault, if the test is true, with its number
pub record Test : Type 0 where
  pub fails : Bool
  pub number : ℕ

infix 70 ◌refuses◌
abbrev pub ◌refuses◌ : Bool → ℕ → Test
◌refuses◌ b n = record { fails = b; number = n }

module _ {A : Type 0} where
  -- the first test that fails counts
  abbrev pub unless : List Test → A → Refusable A
  unless [] a = accepted a
  unless (t ∷ ts) a = elim t.fails [ true ↦ refused t.number | false ↦ unless ts a ]

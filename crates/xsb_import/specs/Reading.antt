-- What a spot in a text is by the state of the definitions, and what a byte does to both.
use Rattle.std.specs.Prelude.{ℕ, suc, ◌≤◌, ◌<◌, ◌≡◌, Bool, true, false, not, List, eqb, Some, None}
use Rattle.std.specs.declared.option.Option as found
use Rattle.std.proofs.Math.Option.{Option, none, some}
use Rattle.definitions.specs.Lists.{push, is_empty}
use Rattle.papers.specs.Xsb as said
use Rattle.papers.specs.Xsb.{Rule, table, head, positive, negative, line, fixed, number, literal, behind, State, is_digit, step}
use Rattle.xsb_import.specs.declared.Place.{Place}
use Rattle.xsb_import.specs.declared.Place.TheVariants.{Fixed}
use Rattle.xsb_import.specs.declared.Ended.{Ended}
use Rattle.xsb_import.specs.declared.Ended.TheVariants.{Head}
use Rattle.xsb_import.specs.declared.Spot.{Spot}
use Rattle.xsb_import.specs.Places.{place_seen, Known}
use Rattle.xsb_import.specs.Keeping.{goals_after, Happens}

-- Rules that were begun: behind its head a rule is being read, until a byte ends it.

abbrev pub number_in_rule : said.What → Bool
number_in_rule table = false
number_in_rule head = false
number_in_rule positive = true
number_in_rule negative = true

abbrev pub in_rule : said.Place → Bool
in_rule line = false
in_rule (fixed b more next) = in_rule next
in_rule (number w value) = number_in_rule w
in_rule literal = true
in_rule behind = true

abbrev pub begun_by : Bool → List Rule → Rule → List Rule
begun_by true rs r = push rs r
begun_by false rs r = rs

abbrev pub begun_rules : State → List Rule
begun_rules s = begun_by (in_rule s.place) s.rules s.rule

-- the spot is that of the state
pub record Follows (s : State) (r : Spot) : Type 0 where
  pub place_is : place_seen r.place ≡ s.place
  pub known : Known r.place
  pub tables_are : r.tables ≡ s.tables
  pub head_is : r.head ≡ s.rule.head
  pub none_begun : not r.begun ≡ is_empty (begun_rules s)
  pub in_order : goals_after 0 (begun_rules s) ≤ suc s.rule.head

pub record Goes (s t : State) (r : Spot) : Type 0 where
  pub follows : Follows t r
  pub more_tables : 64 < s.tables → 64 < t.tables
  pub happens : Happens r.ended t.tables (begun_rules s) (begun_rules t)

-- a byte that can't come leaves no spot
abbrev pub After : State → Option State → found.Option Spot → Type 0
After s none None = Unit {0}
After s none (Some r) = ⊥
After s (some t) None = ⊥
After s (some t) (Some r) = Goes s t r

-- THE STEP of a spot: that of the state
abbrev pub Steps : Spot → (byte : ℕ) → found.Option Spot → Type 0
Steps s b r = (st : State) → Follows st s → After st (step st b) r

abbrev pub StepsFrom : found.Option Spot → (byte : ℕ) → found.Option Spot → Type 0
StepsFrom None b r = r ≡ None
StepsFrom (Some s) b r = Steps s b r

-- What the spots become.

abbrev pub moved : Spot → Place → (ended : found.Option Ended) → Spot
moved s p ended = record { place = p; tables = s.tables; head = s.head; begun = s.begun; ended = ended }

abbrev pub headed : Spot → (goal : ℕ) → Place → Spot
headed s v p = record { place = p; tables = s.tables; head = v; begun = true; ended = Some (Head v) }

-- behind a literal: 2E ends the rule, behind 2C another one comes
abbrev pub behind_spot : Spot → (byte : ℕ) → (ended : found.Option Ended) → found.Option Spot
behind_spot s b ended = elim (eqb b 0x2E) [
  | true ↦ Some (moved s (Fixed 11) ended)
  | false ↦ elim (eqb b 0x2C) [ true ↦ Some (moved s (Fixed 14) ended) | false ↦ None ]
]

abbrev pub NoDigit : ℕ → Type 0
NoDigit b = is_digit b ≡ false

-- What a text of the form is (change request 13), said without reading it: the text written for so many goals and these rules, where
-- each head has a table line and none comes behind a larger one. A literal may have any number, and has no flag and no want.
use Rattle.std.specs.Prelude.{ℕ, ◌<◌, ◌≤◌, min, ◌≡◌, ◌⊎◌, Bool, true, false, List, [], ◌∷◌, map, length}
use Rattle.std.proofs.Math.Option.{Option, none, some}
use Rattle.std.proofs.Math.ListN.{get_elem?}
use Rattle.sizes.specs.Limits.{most_goals, most_clauses, most_literals}
use Rattle.definitions.specs.Book.{Literal, Positive, Negative, goal_of}
use Rattle.definitions.specs.Lists.{Each}
use Rattle.papers.specs.Model.{PlainLiteral}
use Rattle.papers.specs.Xsb.{Rule, text_of, State, start, run}

-- heads are below n, and none comes behind a larger one or is below `least`
pub data Ordered (n : ℕ) : (least : ℕ) → List Rule → Type 0 where
  no_rule : {least : ℕ} → Ordered n least []
  and_rule : {least : ℕ} {r : Rule} {rs : List Rule} → least ≤ r.head → r.head < n → Ordered n r.head rs → Ordered n least (r ∷ rs)

-- its literals have no flag and no want
abbrev pub BareRule : Rule → Type 0
BareRule r = Each PlainLiteral r.body

-- A TEXT OF THE FORM. What is promised of it is in proofs/XsbRefusals.
pub record Form (text : List ℕ) : Type 0 where
  pub goals : ℕ
  pub rules : List Rule
  pub written : text_of goals rules ≡ text
  pub in_order : Ordered goals 0 rules
  pub bare : Each BareRule rules

-- The refusals are of texts of at most so many bytes, 2 ^ 64 - 1.
abbrev pub most_bytes : ℕ
most_bytes = 18446744073709551615

-- goals and rules that break no limit of the desk
pub record WithinLimits (goals : ℕ) (rules : List Rule) : Type 0 where
  pub some_goal : 0 < goals
  pub few_goals : goals ≤ most_goals
  pub few_rules : length rules ≤ most_clauses
  pub few_literals : Each (λ (r : Rule). length r.body ≤ most_literals) rules

-- a literal of a rule names no goal, by its place in the text
pub record Unknown (goals : ℕ) (rules : List Rule) : Type 0 where
  pub rule : Rule
  pub literal : Literal
  pub rule_at : ℕ
  pub literal_at : ℕ
  pub of_text : get_elem? rules rule_at ≡ some rule
  pub of_rule : get_elem? rule.body literal_at ≡ some literal
  pub no_goal : goals ≤ goal_of literal

-- the numbers by which a text of the form is refused: the desk's
abbrev pub FormNumber : ℕ → Type 0
FormNumber n = (n ≡ 5) ⊎ (n ≡ 8) ⊎ (n ≡ 6) ⊎ (n ≡ 36)

-- No state is left of these bytes: whatever follows them, it is not of the form (proofs/XsbRefusals: `broken_39`).

abbrev pub no_state : Option State → Bool
no_state none = true
no_state (some s) = false

abbrev pub broken : List ℕ → Bool
broken text = no_state (run text start)

-- Rules with their literals' numbers counted up to a largest one, which stands for all above it.

abbrev pub capped_literal : (most : ℕ) → Literal → Literal
capped_literal m (Positive g want outsized) = Positive (min g m) want outsized
capped_literal m (Negative g outsized) = Negative (min g m) outsized

abbrev pub capped_rule : (most : ℕ) → Rule → Rule
capped_rule m r = record { head = r.head; body = map (capped_literal m) r.body }

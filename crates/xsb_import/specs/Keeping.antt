-- The bytes of the book of the rules that were begun, which are written while a text is read.
use Rattle.std.specs.Prelude.{ℕ, zero, suc, ◌+◌, ◌-◌, ◌*◌, ◌≤◌, ◌<◌, min, ◌≡◌, true, false, Some, None}
use Rattle.std.specs.Prelude.{List, [], ◌∷◌, ◌++◌, map, length, take}
use Rattle.std.specs.declared.option.Option as found
use Rattle.definitions.specs.Lists.{push, any_passes}
use Rattle.definitions.specs.Book.{any, Literal, Positive, Negative, write_literal, write_literals}
use Rattle.papers.specs.Xsb.{Rule, is_long}
use Rattle.papers.specs.XsbForm as form
use Rattle.xsb_import.specs.declared.Ended.{Ended}
use Rattle.xsb_import.specs.declared.Ended.TheVariants as ended
use Rattle.xsb_import.specs.declared.Kept.{Kept}

-- a number above the largest that a literal can name stands for all above it: no book has so many goals
abbrev pub capped_to : ℕ → ℕ
capped_to g = min g 65535

abbrev pub capped_literal : Literal → Literal
capped_literal = form.capped_literal 65535

abbrev pub capped_rule : Rule → Rule
capped_rule = form.capped_rule 65535

-- commands for so many goals
abbrev pub goal_bytes : ℕ → List ℕ
goal_bytes zero = []
goal_bytes (suc n) = 0x47 ∷ 0 ∷ goal_bytes n

abbrev pub rule_bytes : List Literal → List ℕ
rule_bytes ls = 0x43 ∷ 0 ∷ 0 ∷ 0 ∷ write_literals ls

-- of the rules, where g goals are written before: each rule stands behind the command for its goal
abbrev pub flat : (g : ℕ) → List Rule → List ℕ
flat g [] = []
flat g (r ∷ rs) = goal_bytes (suc r.head - g) ++ (rule_bytes r.body ++ flat (suc r.head) rs)

-- so many goals are written then
abbrev pub goals_after : (g : ℕ) → List Rule → ℕ
goals_after g [] = g
goals_after g (r ∷ rs) = goals_after (suc r.head) rs

-- how many literals the last rule has; 8 where there is none
abbrev pub last_length : List Rule → ℕ
last_length [] = 8
last_length (r ∷ []) = length r.body
last_length (r ∷ q ∷ rs) = last_length (q ∷ rs)

-- a limit that tables and rules are over
pub data TooMuch (tables : ℕ) (rules : List Rule) : Type 0 where
  goals : 64 < tables → TooMuch tables rules
  clauses : 256 < length rules → TooMuch tables rules
  literals : any_passes is_long rules ≡ true → TooMuch tables rules

-- these bytes hold the rules
pub record Whole (rules : List Rule) (k : Kept) (bytes : List ℕ) : Type 0 where
  pub held : take k.used bytes ≡ flat 0 (map capped_rule rules)
  pub goals_are : k.goals ≡ goals_after 0 rules
  pub clauses_are : k.clauses ≡ length rules
  pub literals_are : k.literals ≡ last_length rules
  pub few_goals : k.goals ≤ 64
  pub few_clauses : k.clauses ≤ 256
  pub few_literals : k.literals ≤ 8
  pub inside : k.used + 48 ≤ 2 * k.goals + 52 * k.clauses + 6 * k.literals
  pub short : any_passes is_long rules ≡ false

-- or nothing is kept, since a limit is passed
abbrev pub Within : (tables : ℕ) (rules : List Rule) → found.Option Kept → (bytes : List ℕ) → Type 0
Within tables rules None bytes = TooMuch tables rules
Within tables rules (Some k) bytes = Whole rules k bytes

pub record Keeps (tables : ℕ) (rules : List Rule) (kept : found.Option Kept) (bytes : List ℕ) : Type 0 where
  pub room : length bytes ≡ 13441
  pub within : Within tables rules kept bytes

-- What a byte of the text does to the rules that were begun.

-- it ends the head of a rule
pub record Begins (goal tables : ℕ) (rules after : List Rule) : Type 0 where
  pub has_table : goal < tables
  pub in_order : goals_after 0 rules ≤ suc goal
  pub begun : after ≡ push rules (record { head = goal; body = [] })

-- it ends a literal of the last one
pub record Adds (l : Literal) (rules after : List Rule) : Type 0 where
  pub before : List Rule
  pub rule : Rule
  pub was : rules ≡ push before rule
  pub grown : after ≡ push before (record { head = rule.head; body = push rule.body l })

-- by what it ended
abbrev pub Happens : found.Option Ended → (tables : ℕ) → (rules after : List Rule) → Type 0
Happens None n rs after = after ≡ rs
Happens (Some (ended.Head v)) n rs after = Begins v n rs after
Happens (Some (ended.Positive v)) n rs after = Adds (Positive v any false) rs after
Happens (Some (ended.Negative v)) n rs after = Adds (Negative v false) rs after

-- bytes are written behind those in use, where there is room
pub record Writes (bytes : List ℕ) (used : ℕ) (more after : List ℕ) (r : ℕ) : Type 0 where
  pub same : length after ≡ length bytes
  pub ends : used + length more ≤ length bytes → r ≡ used + length more
  pub written : used + length more ≤ length bytes → take r after ≡ take used bytes ++ more

-- THE KEEPING of what a byte ended
abbrev pub KeepsOn : found.Option Ended → (kept : found.Option Kept) (bytes : List ℕ) (r : found.Option Kept) (out : List ℕ) → Type 0
KeepsOn ended kept bytes r out =
    (n m : ℕ) (rs after : List Rule) → (64 < n → 64 < m) → Happens ended m rs after → Keeps n rs kept bytes → Keeps m after r out

-- of a head
abbrev pub Begun : (goal : ℕ) (k : Kept) (bytes : List ℕ) (r : found.Option Kept) (out : List ℕ) → Type 0
Begun goal k bytes r out = KeepsOn (Some (ended.Head goal)) (Some k) bytes r out

-- of the literal that these bytes are
abbrev pub Added : (literal : List ℕ) (k : Kept) (bytes : List ℕ) (r : found.Option Kept) (out : List ℕ) → Type 0
Added literal k bytes r out =
    (l : Literal) (n m : ℕ) (rs after : List Rule) → literal ≡ write_literal (capped_literal l) → (64 < n → 64 < m)
    → Adds l rs after → Keeps n rs (Some k) bytes → Keeps m after r out

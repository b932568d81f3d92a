-- The refusals of one command as numbers, by what the reader has in hand.
use Rattle.std.specs.Prelude.{ℕ, Bool, true, false, List, [], ◌∷◌, length, ltb, leb, eqb}
use Rattle.sizes.specs.Limits.{most_goals, most_clauses, most_literals}
use Rattle.definitions.specs.Refusal.{Test, ◌refuses◌}
use Rattle.definitions.specs.Book.{
  Command,
  goal,
  clause,
  positive,
  ranged,
  negative,
  end,
  unknown,
  command,
  width,
  byte,
  u16,
}

-- the table's entry for a command: its width, and 255 for none
abbrev pub marked : Command → ℕ
marked goal = width goal
marked clause = width clause
marked positive = width positive
marked ranged = width ranged
marked negative = width negative
marked end = width end
marked unknown = 255

-- the number of the first test that fails, and 0 where none does
abbrev pub fault : List Test → ℕ
fault [] = 0
fault (t ∷ ts) = elim t.fails [ true ↦ t.number | false ↦ fault ts ]

abbrev pub goal_tests : (flags goals : ℕ) → List Test
goal_tests flags goals = ltb 3 flags refuses 4 ∷ leb most_goals goals refuses 5 ∷ []

abbrev pub clause_tests : (flags goals clauses : ℕ) → List Test
clause_tests flags goals clauses = eqb goals 0 refuses 3 ∷ ltb 3 flags refuses 4 ∷ leb most_clauses clauses refuses 5 ∷ []

abbrev pub literal_tests : (flags : ℕ) → (crossed : Bool) → (clauses literals : ℕ) → List Test
literal_tests flags crossed clauses literals =
    eqb clauses 0 refuses 3 ∷ ltb 1 flags refuses 4 ∷ crossed refuses 32 ∷ leb most_literals literals refuses 5 ∷ []

abbrev pub end_tests : (left goals : ℕ) → List Test
end_tests left goals = ltb 0 left refuses 7 ∷ eqb goals 0 refuses 8 ∷ []

-- what the reader has in hand: how many goals and clauses there are, and how many literals the last clause has
pub record Counts : Type 0 where
  pub goals : ℕ
  pub clauses : ℕ
  pub literals : ℕ

abbrev pub counts : ℕ → ℕ → ℕ → Counts
counts goals clauses literals = record { goals = goals; clauses = clauses; literals = literals }

-- the tests of a command, by the bytes behind it
abbrev pub command_tests : Command → List ℕ → Counts → List Test
command_tests goal after n = goal_tests (byte after 0) n.goals
command_tests clause after n = clause_tests (byte after 2) n.goals n.clauses
command_tests positive after n = literal_tests (byte after 4) false n.clauses n.literals
command_tests ranged after n = literal_tests (byte after 6) (ltb (u16 after 4) (u16 after 2)) n.clauses n.literals
command_tests negative after n = literal_tests (byte after 2) false n.clauses n.literals
command_tests end after n = end_tests (length after) n.goals
command_tests unknown after n = true refuses 2 ∷ []

-- its operands have to be there first
abbrev pub whole_tests : Command → List ℕ → Counts → List Test
whole_tests c after n = ltb (length after) (width c) refuses 1 ∷ command_tests c after n

-- of the bytes from a command on
abbrev pub next_fault : List ℕ → Counts → ℕ
next_fault [] n = 1
next_fault (b ∷ bs) n = fault (whole_tests (command b) bs n)

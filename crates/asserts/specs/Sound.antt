-- The invariant of the definitions' state that keeps every assert from being met. `SoundForest` holds between calls and in turns,
-- `Searching` in the turns of a search.
use Rattle.std.specs.Prelude.{ℕ, suc, ◌+◌, ◌≤◌, ◌<◌, ◌≡◌, true, false, ◌⊎◌, List, [], ◌∷◌, length}
use Rattle.std.proofs.Math.Option.{Option, none, some}
use Rattle.std.proofs.Math.ListN.{get_elem?}
use Rattle.definitions.specs.{MAX, ExClause, Answer, Minimums}
use Rattle.definitions.specs.Book.{Book, Literal, goal_of, Goal}
use Rattle.definitions.specs.Strand.{SelectedSubgoal, Strand}
use Rattle.definitions.specs.Table.{Table}
use Rattle.definitions.specs.Tables.{Tables, Forest, queued, held}
use Rattle.definitions.specs.Stack.{Stack, active}
use Rattle.definitions.specs.Logic.{SolveState}
use Rattle.laws.specs.All.{All}

-- A literal, a list of delayed goals: each names a goal of the book, which has n.

abbrev pub Named : (n : ℕ) → Literal → Type 0
Named n l = goal_of l < n

abbrev pub Goals : (n : ℕ) → List ℕ → Type 0
Goals n ds = All (λ d. d < n) ds

-- Strands.

-- the literals of a clause in work, those that floundered, and those that answers took the place of
abbrev pub size : ExClause → ℕ
size x = length x.subgoals + length x.floundered_subgoals + x.answer_time

pub record SoundClause (n : ℕ) (x : ExClause) : Type 0 where
  pub subgoals_named : All (Named n) x.subgoals
  pub floundered_named : All (λ l. Named n l.floundered_literal) x.floundered_subgoals
  pub delayed_named : Goals n x.delayed_subgoals
  pub few_literals : size x ≤ 8
  pub few_delayed : length x.delayed_subgoals ≤ 8

-- the table is floundered, or has as many answers
abbrev pub Reached : Table → ℕ → Type 0
Reached t k = (t.floundered ≡ true) ⊎ (k ≤ length t.answers)

-- the subgoal that a strand of so many literals waits on: one of the literals, a table that is made, and an answer that it has or that
-- comes next
pub record Awaits (ts : Tables) (literals : ℕ) (selected : SelectedSubgoal) : Type 0 where
  pub at_literal : selected.subgoal_index < literals
  pub is_last : suc selected.subgoal_index ≡ literals
  pub table : Table
  pub is_made : get_elem? ts selected.subgoal_table ≡ some table
  pub reached : Reached table selected.answer_index

abbrev pub Selects : (ts : Tables) → (literals : ℕ) → Option SelectedSubgoal → Type 0
Selects ts k none = Unit {0}
Selects ts k (some selected) = Awaits ts k selected

abbrev pub SoundStrand : (n : ℕ) → Tables → Strand → Type 0
SoundStrand n ts s = SoundClause n s.ex_clause × Selects ts (length s.ex_clause.subgoals) s.selected_subgoal

-- Tables and the forest.

abbrev pub SoundAnswer : (n : ℕ) → Answer → Type 0
SoundAnswer n a = Goals n a.delayed_subgoals × (length a.delayed_subgoals ≤ 8)

pub record SoundTable (n : ℕ) (ts : Tables) (t : Table) : Type 0 where
  pub goal_named : t.table_goal < n
  pub sound_strands : All (SoundStrand n ts) t.strands
  pub sound_answers : All (SoundAnswer n) t.answers
  pub floundered_empty : t.floundered ≡ true → (t.strands ≡ []) × (t.answers ≡ [])

-- the literals of the book's clauses name goals of it, and are at most eight
abbrev pub SoundBook : (n : ℕ) → Book → Type 0
SoundBook n book = All (λ g. All (λ c. All (Named n) c.literals × (length c.literals ≤ 8)) g.clauses) book

-- a table has its goal's flag
abbrev pub AsGoal : Book → Table → Type 0
AsGoal book t = (g : Goal) → get_elem? book t.table_goal ≡ some g → t.coinductive_goal ≡ g.coinductive

-- no two tables are for one goal
abbrev pub TablesApart : Tables → Type 0
TablesApart ts = (i j : ℕ) (t u : Table) → get_elem? ts i ≡ some t → get_elem? ts j ≡ some u → t.table_goal ≡ u.table_goal → i ≡ j

pub record SoundForest (n : ℕ) (f : Forest) : Type 0 where
  pub goals : length f.book ≡ n
  pub few_goals : n ≤ 64
  pub sound_book : SoundBook n f.book
  pub sound_tables : All (SoundTable n f.tables) f.tables
  pub tables_apart : TablesApart f.tables
  pub as_goals : All (AsGoal f.book) f.tables
  pub few_answers : held f ≤ 256
  pub few_strands : queued f ≤ 256
  pub clock_within : f.clock ≤ f.clock_limit
  pub limit_within : f.clock_limit < MAX

-- The stack. `first` is the clock of the root's entry.

-- an entry: its table is made and not floundered, and neither its clock nor its minimums are before the root's clock
pub record Standing (ts : Tables) (first table clock : ℕ) (m : Minimums) : Type 0 where
  pub own : Table
  pub is_made : get_elem? ts table ≡ some own
  pub unfloundered : own.floundered ≡ false
  pub clock_late : first ≤ clock
  pub positive_late : first ≤ m.positive
  pub negative_late : first ≤ m.negative

-- an entry that is not the top has an active strand, whose selected subgoal's table is that of the entry above
pub record Calls (n : ℕ) (ts : Tables) (awaited : ℕ) (active : Option Strand) : Type 0 where
  pub strand : Strand
  pub is_active : active ≡ some strand
  pub sound : SoundStrand n ts strand
  pub selected : SelectedSubgoal
  pub is_selected : strand.selected_subgoal ≡ some selected
  pub waits_for : selected.subgoal_table ≡ awaited

-- a table that none of the entries has
abbrev pub Off : (table : ℕ) → Stack → Type 0
Off table es = All (λ e. e.table ≡ table → ⊥) es

-- what stands below an entry with this table and clock: callers, down to the root
abbrev pub Below : (n : ℕ) → Tables → (root first : ℕ) → (table clock : ℕ) → Stack → Type 0
Below n ts root first table clock [] = (table ≡ root) × (clock ≡ first)
Below n ts root first table clock (e ∷ es) = Standing ts first e.table e.clock e.cyclic_minimums × Calls n ts table
    e.active_strand × Below n ts root first e.table e.clock es × Off e.table es

-- the root's table has the answers below the index that is searched for
pub record Rooted (ts : Tables) (root index : ℕ) : Type 0 where
  pub own : Table
  pub is_made : get_elem? ts root ≡ some own
  pub enough : index ≤ length own.answers

-- a search for that answer of the root; on top an entry with this table, clock and minimums, over es
pub record Searching (n root index first : ℕ) (f : Forest) (table clock : ℕ) (m : Minimums) (es : Stack) : Type 0 where
  pub forest : SoundForest n f
  pub begun : first ≤ f.clock
  pub rooted : Rooted f.tables root index
  pub standing : Standing f.tables first table clock m
  pub below : Below n f.tables root first table clock es
  pub off : Off table es

-- the top's active strand, if there is one
abbrev pub Active : (n : ℕ) → Tables → Option Strand → Type 0
Active n ts none = Unit {0}
Active n ts (some s) = SoundStrand n ts s

-- a state between two turns; all its strands, queued and active, have a place
abbrev pub SoundStack : (n root index first : ℕ) → Forest → Stack → Type 0
SoundStack n root index first f [] = ⊥
SoundStack n root index first f (e ∷ es) = Searching n root index first f e.table e.clock e.cyclic_minimums es × Active n
    f.tables e.active_strand × (queued f + active (e ∷ es) ≤ 256)

abbrev pub SoundState : (n root index first : ℕ) → SolveState → Type 0
SoundState n root index first s = SoundStack n root index first s.forest s.stack

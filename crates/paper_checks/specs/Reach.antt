-- Which goals of a book lead to which, in a matrix of 64 by 64 numbers, row by row. At (i, j) stands 0 where goal i is not known to lead
-- to goal j, 1 where it does, and 2 where a "not" of one of its clauses names j. An entry only gets larger.
use Rattle.std.specs.Prelude.{ℕ, suc, ◌+◌, ◌*◌, ◌≤◌, ◌<◌, ◌≡◌, ◌⊎◌, Bool, true, false, length, get_or}
use mathlib.Core.List.{List, Memᴰ}
use Rattle.definitions.specs.Book.{Literal, Clause, Book, goal_of}
use Rattle.papers.specs.Model.{clauses_of}
use Rattle.papers.specs.Levels.{Walk, is_not}
use Rattle.book.specs.declared.Book as kept
use Rattle.book.specs.Access.{entry, literal_read}
use Rattle.book.specs.View.{meant}

abbrev pub cell : List ℕ → (i j : ℕ) → ℕ
cell m i j = get_or m (64 * i + j) 0

-- a matrix in which (i, j) came up to v wherever that was asked for, and nothing else changed
pub record Raised (Asked : (v i j : ℕ) → Type 0) (old new : List ℕ) : Type 0 where
  pub whole : length new ≡ length old
  pub keeps : (i j : ℕ) → cell old i j ≤ cell new i j
  pub met : (v i j : ℕ) → Asked v i j → v ≤ cell new i j
  pub only : (v i j : ℕ) → 0 < v → j < 64 → v ≤ cell new i j → (v ≤ cell old i j) ⊎ Asked v i j

-- asked for at one place
abbrev pub Here : (i j most : ℕ) → (v x y : ℕ) → Type 0
Here i j most v x y = (x ≡ i) × (y ≡ j) × (v ≤ most)

-- Edges: each literal of a goal's clauses leads to the goal that it names.

-- a literal asks for 1 at the goal that it names, a "not" for 2
abbrev pub Names : Literal → (v j : ℕ) → Type 0
Names l v j = (goal_of l ≡ j) × (v ≤ suc (is_not l))

-- literal k of clause c, by the arrays of a book
abbrev pub said_literal : kept.Book → (c k : ℕ) → Literal
said_literal b c k = meant (literal_read b.literal_kind b.literal_goal b.literal_want c k)

module _ (b : kept.Book) where
  -- its literals name goals that the matrix has a row for
  abbrev pub NamesFew : (c : ℕ) → Type 0
  NamesFew c = (k : ℕ) → k < entry 256 b.clause_len c → (literal_read b.literal_kind b.literal_goal b.literal_want c k).goal < 64

  abbrev pub ClauseLeads : (c v j : ℕ) → Type 0
  ClauseLeads c v j = (k : ℕ) × (k < entry 256 b.clause_len c) × Names (said_literal b c k) v j

  -- by so many clauses from `first` on
  abbrev pub GoalLeads : (first count v j : ℕ) → Type 0
  GoalLeads first count v j = (d : ℕ) × (d < count) × ClauseLeads (first + d) v j

abbrev pub Leads : Book → (from to : ℕ) → Type 0
Leads book from to = (n : ℕ) × Walk book from to n

abbrev pub NotStep : Book → (from to : ℕ) → Type 0
NotStep book from to =
    (c : Clause) × (l : Literal) × Memᴰ c (clauses_of book from) × Memᴰ l c.literals × (is_not l ≡ 1) × (goal_of l ≡ to)

-- the edges of a book
pub record Edges (book : Book) (m : List ℕ) : Type 0 where
  pub whole : length m ≡ 4096
  pub stays : (g : ℕ) → g < length book → 0 < cell m g g
  pub steps : (g : ℕ) (c : Clause) (l : Literal) → Memᴰ c (clauses_of book g) → Memᴰ l c.literals
      → suc (is_not l) ≤ cell m g (goal_of l)
  pub walks : (i j : ℕ) → j < 64 → 0 < cell m i j → Leads book i j
  pub nots : (i j : ℕ) → j < 64 → 2 ≤ cell m i j → NotStep book i j

-- The closure (Warshall's).

-- what i leads to by entries of a matrix, one after the other
pub data Way (m : List ℕ) : (i j : ℕ) → Type 0 where
  straight : {i j : ℕ} → j < 64 → 0 < cell m i j → Way m i j
  over : {i k j : ℕ} → Way m i k → Way m k j → Way m i j

-- row i with what row k has, where i leads to k
abbrev pub Row : List ℕ → (k i : ℕ) → (v x y : ℕ) → Type 0
Row m k i v x y = (x ≡ i) × (v ≤ 1) × (0 < cell m i k) × (0 < cell m k y) × (y < 64)

-- each row with what row k has
abbrev pub Rows : List ℕ → (k n : ℕ) → (v x y : ℕ) → Type 0
Rows m k n v x y = (i : ℕ) × (i < n) × Row m k i v x y

-- what leads on over a goal below n is in
pub record Closed (old new : List ℕ) (n : ℕ) : Type 0 where
  pub whole : length new ≡ length old
  pub keeps : (i j : ℕ) → cell old i j ≤ cell new i j
  pub nots : (i j : ℕ) → j < 64 → 2 ≤ cell new i j → 2 ≤ cell old i j
  pub ways : (i j : ℕ) → j < 64 → 0 < cell new i j → Way old i j
  pub leads_on : (k i j : ℕ) → k < n → i < 64 → j < 64 → 0 < cell new i k → 0 < cell new k j → 0 < cell new i j

-- Cycles through "not": t leads to a, a "not" of a names c, and c leads to t.

abbrev pub Round : List ℕ → (t a c : ℕ) → Type 0
Round m t a c = (2 ≤ cell m a c) × (0 < cell m t a) × (0 < cell m c t)

-- by one of the first n places of the matrix
abbrev pub SomeRound : List ℕ → (n t : ℕ) → Type 0
SomeRound m n t = (a : ℕ) × (c : ℕ) × (64 * a + c < n) × (c < 64) × Round m t a c

-- whether it is so
pub record Tells (P : Type 0) (r : Bool) : Type 0 where
  pub yes : r ≡ true → P
  pub no : r ≡ false → P → ⊥

-- What the arrays of a book mean: the book of the definitions that they hold, and the soundness that reading gives and every use keeps.
use Rattle.std.specs.Prelude.{ℕ, zero, suc, ◌+◌, ◌*◌, ◌/◌, ◌%◌, ◌≤◌, ◌<◌, ◌≡◌, Bool, true, false, List, length, get_or, replicate, eqb, Result, Ok, Err, IfOk}
use Rattle.laws.specs.Spans.{span}
use Rattle.definitions.specs.Refusal.{Refusable, refused, accepted}
use Rattle.definitions.specs.Book as said
use Rattle.definitions.specs.Desk.{desk}
use Rattle.definitions.specs.Mend.{read_loosely}
use Rattle.book.specs.declared.Book.{Book}
use Rattle.book.specs.declared.Literal.{Literal}
use Rattle.book.specs.declared.refusal.Refusal.{Refusal}
use Rattle.book.specs.Refusals.{number}

-- what a literal wants, by the numbers that are kept of it: a range, or one variant, with 0 for any
abbrev pub wanted : (ranged : Bool) → (want high : ℕ) → said.Want
wanted true want high = said.between want high
wanted false want high = said.want_of want

-- a literal by its sign
abbrev pub signed : (negative : Bool) → (goal : ℕ) → (want : said.Want) → (outsized : Bool) → said.Literal
signed true goal want outsized = said.Negative goal outsized
signed false goal want outsized = said.Positive goal want outsized

-- of a literal's kind: it wants a range
abbrev pub bit2 : ℕ → Bool
bit2 kind = eqb (kind / 4 % 2) 1

-- a literal by its numbers
abbrev pub numbered : (kind goal want high : ℕ) → said.Literal
numbered kind goal want high = signed (said.bit1 kind) goal (wanted (bit2 kind) want high) (said.bit0 kind)

abbrev pub meant : Literal → said.Literal
meant l = numbered l.kind l.goal l.want l.high

-- a literal by the numbers that a book keeps of it
abbrev pub kept : (kind goal want : ℕ) → said.Literal
kept kind goal want = numbered kind goal (want % 65536) (want / 65536)

-- the literal at a place of the arrays
abbrev pub literal_viewed : Book → ℕ → said.Literal
literal_viewed b i = kept (get_or b.literal_kind i 0) (get_or b.literal_goal i 0) (get_or b.literal_want i 0)

abbrev pub clause_made : (ℕ → said.Literal) → (c variant flags len : ℕ) → said.Clause
clause_made literal c variant flags len = record {
  variant = variant;
  cannot_prove = said.bit0 flags;
  outsized = said.bit1 flags;
  literals = span literal (8 * c) len;
}

abbrev pub clause_viewed : Book → ℕ → said.Clause
clause_viewed b c =
    clause_made (literal_viewed b) c (get_or b.clause_variant c 0) (get_or b.clause_flags c 0) (get_or b.clause_len c 0)

abbrev pub goal_made : (ℕ → said.Clause) → (flags first len : ℕ) → said.Goal
goal_made clause flags first len = record {
  coinductive = said.bit0 flags;
  floundered = said.bit1 flags;
  clauses = span clause first len;
}

abbrev pub goal_in : (ℕ → said.Clause) → (flags first len : List ℕ) → ℕ → said.Goal
goal_in clause flags first len g = goal_made clause (get_or flags g 0) (get_or first g 0) (get_or len g 0)

abbrev pub goal_viewed : Book → ℕ → said.Goal
goal_viewed b g = goal_in (clause_viewed b) b.goal_flags b.goal_first b.goal_len g

-- THE VIEW
abbrev pub view : Book → said.Book
view b = span (goal_viewed b) 0 b.goals

-- n goals from g on, with so many clauses each, lie side by side in the clauses from `at` to `end`
abbrev pub Tiles : (first len : List ℕ) → (g n at end : ℕ) → Type 0
Tiles first len g zero at end = at ≡ end
Tiles first len g (suc n) at end = (get_or first g 0 ≡ at) × Tiles first len (suc g) n (at + get_or len g 0) end

-- the arrays have their sizes
pub record Full (b : Book) : Type 0 where
  pub goal_flags : length b.goal_flags ≡ 64
  pub goal_first : length b.goal_first ≡ 64
  pub goal_len : length b.goal_len ≡ 64
  pub clause_variant : length b.clause_variant ≡ 256
  pub clause_flags : length b.clause_flags ≡ 256
  pub clause_len : length b.clause_len ≡ 256
  pub literal_kind : length b.literal_kind ≡ 2048
  pub literal_goal : length b.literal_goal ≡ 2048
  pub literal_want : length b.literal_want ≡ 2048

-- its numbers are those that the bytes can say
pub record Ranged (b : Book) : Type 0 where
  pub goal_flags : (g : ℕ) → get_or b.goal_flags g 0 ≤ 3
  pub clause_flags : (c : ℕ) → get_or b.clause_flags c 0 ≤ 3
  pub variants : (c : ℕ) → get_or b.clause_variant c 0 < 65536
  pub kinds : (i : ℕ) → get_or b.literal_kind i 0 ≤ 5
  pub wants : (i : ℕ) → get_or b.literal_want i 0 < 4294967296
  pub straight : (i : ℕ) → said.crossed (literal_viewed b i) ≡ false

-- WHAT EVERY BOOK IS that a forest or a reading holds; the blank one of a refusal too, which has no goal
pub record Sound (b : Book) : Type 0 where
  pub full : Full b
  pub ranged : Ranged b
  pub few_goals : b.goals ≤ 64
  pub few_clauses : b.clauses ≤ 256
  pub few_literals : (c : ℕ) → get_or b.clause_len c 0 ≤ 8
  pub tiles : Tiles b.goal_first b.goal_len 0 b.goals 0 b.clauses
  pub named : said.goals_name b.goals (view b) ≡ true

-- sound, but that its literals may name goals that it has not
pub record Formed (b : Book) : Type 0 where
  pub full : Full b
  pub ranged : Ranged b
  pub few_goals : b.goals ≤ 64
  pub few_clauses : b.clauses ≤ 256
  pub few_literals : (c : ℕ) → get_or b.clause_len c 0 ≤ 8
  pub tiles : Tiles b.goal_first b.goal_len 0 b.goals 0 b.clauses

abbrev pub blank : Book
blank = record {
  goals = 0;
  clauses = 0;
  goal_flags = replicate 64 0;
  goal_first = replicate 64 0;
  goal_len = replicate 64 0;
  clause_variant = replicate 256 0;
  clause_flags = replicate 256 0;
  clause_len = replicate 256 0;
  literal_kind = replicate 2048 0;
  literal_goal = replicate 2048 0;
  literal_want = replicate 2048 0;
}

-- a reading as the definitions have it
abbrev pub seen : Result Book Refusal → Refusable said.Book
seen (Ok b) = accepted (view b)
seen (Err e) = refused (number e)

-- what a reading is to give, by the definitions
pub record Gives (what : Refusable said.Book) (r : Result Book Refusal) : Type 0 where
  pub means : seen r ≡ what
  pub sound : IfOk r Sound

-- by the old entry
abbrev pub Read : (bytes : List ℕ) → Result Book Refusal → Type 0
Read bytes r = Gives (said.read bytes) r

-- at the desk
abbrev pub Taken : (bytes : List ℕ) → Result Book Refusal → Type 0
Taken bytes r = Gives (desk bytes) r

-- without the test for 6
pub record ReadLoosely (bytes : List ℕ) (r : Result Book Refusal) : Type 0 where
  pub means : seen r ≡ read_loosely bytes
  pub formed : IfOk r Formed

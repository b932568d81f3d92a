-- The rule book (document 01, "A book"): what a byte string says, or the number by which it is refused, and how a book is
-- written. It stands in place of Chalk's terms: a goal is its number, and the clauses that match it are its own, in order.
use Rattle.std.specs.Prelude.{ℕ, zero, suc, ◌+◌, ◌*◌, ◌/◌, ◌%◌, ◌<◌, ◌≤◌, Bool, true, false, not, List, [], ◌∷◌, ◌++◌, length, get_or, ltb, leb, eqb}
use Rattle.sizes.specs.Limits.{most_goals, most_clauses, most_literals}
use Rattle.definitions.specs.Refusal.{Refusable, refused, accepted, ◌refuses◌, unless}

-- which variants of a goal a positive literal takes
pub data Want : Type 0 where
  any : Want
  exactly : (variant : ℕ) → Want
  between : (least most : ℕ) → Want

-- a want as a range: from `low` to `high`, with both
abbrev pub low : Want → ℕ
low any = 0
low (exactly variant) = variant
low (between least most) = least

abbrev pub high : Want → ℕ
high any = 65535
high (exactly variant) = variant
high (between least most) = most

-- lib.rs `Literal`: a positive literal names a goal and what it wants of it, a "not" a goal alone
pub data Literal : Type 0 where
  Positive : (goal : ℕ) (want : Want) (outsized : Bool) → Literal
  Negative : (goal : ℕ) (outsized : Bool) → Literal

-- variant 0: the goal as a whole; `outsized`: the answer that it gives is
pub record Clause : Type 0 where
  pub variant : ℕ
  pub cannot_prove : Bool
  pub outsized : Bool
  pub literals : List Literal

pub record Goal : Type 0 where
  pub coinductive : Bool
  pub floundered : Bool
  pub clauses : List Clause

abbrev pub Book : Type 0
Book = List Goal

abbrev pub clause_count : Book → ℕ
clause_count [] = 0
clause_count (g ∷ gs) = length g.clauses + clause_count gs

-- Reading.

pub data Command : Type 0 where
  goal : Command
  clause : Command
  positive : Command
  ranged : Command
  negative : Command
  end : Command
  unknown : Command

-- the bytes of the commands
abbrev pub commands : List (ℕ × Command)
commands = (0x47, goal) ∷ (0x43, clause) ∷ (0x50, positive) ∷ (0x52, ranged) ∷ (0x4E, negative) ∷ (0x45, end) ∷ []

abbrev pub command_in : List (ℕ × Command) → ℕ → Command
command_in [] b = unknown
command_in (c ∷ cs) b = elim (eqb b c.0) [ true ↦ c.1 | false ↦ command_in cs b ]

abbrev pub command : ℕ → Command
command b = command_in commands b

-- how many bytes of operands a command has
abbrev pub width : Command → ℕ
width goal = 1
width clause = 3
width positive = 5
width ranged = 7
width negative = 3
width end = 0
width unknown = 0

-- the bytes of a command and its operands
abbrev pub command_bytes : Command → ℕ
command_bytes c = suc (width c)

-- the bytes of the largest book: all its goals and clauses, each clause with all its literals, each of them a range, and the end
abbrev pub largest_book : ℕ
largest_book =
    most_goals * command_bytes goal
    + most_clauses * (command_bytes clause + most_literals * command_bytes ranged)
    + command_bytes end

abbrev pub byte : List ℕ → ℕ → ℕ
byte bs i = get_or bs i 0

-- little-endian
abbrev pub u16 : List ℕ → ℕ → ℕ
u16 bs i = byte bs i + 256 * byte bs (suc i)

abbrev pub bit0 : ℕ → Bool
bit0 flags = eqb (flags % 2) 1

abbrev pub bit1 : ℕ → Bool
bit1 flags = eqb (flags / 2 % 2) 1

abbrev pub with_clauses : Goal → List Clause → Goal
with_clauses g cs = record {
  coinductive = g.coinductive;
  floundered = g.floundered;
  clauses = cs;
}

abbrev pub with_literals : Clause → List Literal → Clause
with_literals c ls = record {
  variant = c.variant;
  cannot_prove = c.cannot_prove;
  outsized = c.outsized;
  literals = ls;
}

-- a clause belongs to the last goal
abbrev pub add_clause : Clause → Book → Book
add_clause c [] = []
add_clause c (g ∷ []) = with_clauses g (g.clauses ++ (c ∷ [])) ∷ []
add_clause c (g ∷ h ∷ gs) = g ∷ add_clause c (h ∷ gs)

abbrev pub add_to_last : Literal → List Clause → List Clause
add_to_last l [] = []
add_to_last l (c ∷ []) = with_literals c (c.literals ++ (l ∷ [])) ∷ []
add_to_last l (c ∷ d ∷ cs) = c ∷ add_to_last l (d ∷ cs)

-- a literal belongs to the last clause of the book so far, also where a goal without a clause came after that
abbrev pub add_literal : Literal → Book → Book
add_literal l [] = []
add_literal l (g ∷ gs) = elim (eqb (clause_count gs) 0) [
  | true ↦ with_clauses g (add_to_last l g.clauses) ∷ gs
  | false ↦ g ∷ add_literal l gs
]

-- how many literals the last clause of a list has
abbrev pub last_literals : List Clause → ℕ
last_literals [] = 0
last_literals (c ∷ []) = length c.literals
last_literals (c ∷ d ∷ cs) = last_literals (d ∷ cs)

-- how many literals the last clause of the book so far has
abbrev pub literals_so_far : Book → ℕ
literals_so_far [] = 0
literals_so_far (g ∷ gs) = elim (eqb (clause_count gs) 0) [
  | true ↦ last_literals g.clauses
  | false ↦ literals_so_far gs
]

-- 47: flags
abbrev pub goal_command : List ℕ → Book → Refusable Book
goal_command operands book =
    let flags = byte operands 0 in
    unless
    (ltb 3 flags refuses 4
    ∷ leb most_goals (length book) refuses 5
    ∷ [])
    (book ++ (record { coinductive = bit0 flags; floundered = bit1 flags; clauses = [] } ∷ []))

-- 43: variant, flags
abbrev pub clause_command : List ℕ → Book → Refusable Book
clause_command operands book =
    let flags = byte operands 2 in
    unless
    (eqb (length book) 0 refuses 3
    ∷ ltb 3 flags refuses 4
    ∷ leb most_clauses (clause_count book) refuses 5
    ∷ [])
    (add_clause (record { variant = u16 operands 0; cannot_prove = bit0 flags; outsized = bit1 flags; literals = [] }) book)

-- 50: 0 stands for any variant
abbrev pub want_of : ℕ → Want
want_of zero = any
want_of (suc v) = exactly (suc v)

-- a range whose low end is above its high one
abbrev pub crossed : Literal → Bool
crossed (Positive g want outsized) = ltb (high want) (low want)
crossed (Negative g outsized) = false

-- 50, 52 and 4E, by the literal and its flags
abbrev pub literal_command : Literal → (flags : ℕ) → Book → Refusable Book
literal_command l flags book =
    unless
    (eqb (clause_count book) 0 refuses 3
    ∷ ltb 1 flags refuses 4
    ∷ crossed l refuses 32
    ∷ leb most_literals (literals_so_far book) refuses 5
    ∷ [])
    (add_literal l book)

abbrev pub goal_of : Literal → ℕ
goal_of (Positive g want outsized) = g
goal_of (Negative g outsized) = g

-- every literal names a goal of a book with n goals
abbrev pub literals_name : ℕ → List Literal → Bool
literals_name n [] = true
literals_name n (l ∷ ls) = elim (ltb (goal_of l) n) [ true ↦ literals_name n ls | false ↦ false ]

abbrev pub clauses_name : ℕ → List Clause → Bool
clauses_name n [] = true
clauses_name n (c ∷ cs) = elim (literals_name n c.literals) [ true ↦ clauses_name n cs | false ↦ false ]

abbrev pub goals_name : ℕ → List Goal → Bool
goals_name n [] = true
goals_name n (g ∷ gs) = elim (clauses_name n g.clauses) [ true ↦ goals_name n gs | false ↦ false ]

-- 45: what stands after it, and the book so far
abbrev pub end_command : List ℕ → Book → Refusable Book
end_command after book =
    unless
    (ltb 0 (length after) refuses 7
    ∷ eqb (length book) 0 refuses 8
    ∷ not (goals_name (length book) book) refuses 6
    ∷ [])
    book

-- a command's work once its operands are there
abbrev pub apply_command : Command → List ℕ → Book → Refusable Book
apply_command goal operands book = goal_command operands book
apply_command clause operands book = clause_command operands book
apply_command positive operands book =
    let flags = byte operands 4 in
    literal_command (Positive (u16 operands 0) (want_of (u16 operands 2)) (bit0 flags)) flags book
apply_command ranged operands book =
    let flags = byte operands 6 in
    literal_command (Positive (u16 operands 0) (between (u16 operands 2) (u16 operands 4)) (bit0 flags)) flags book
apply_command negative operands book =
    let flags = byte operands 2 in
    literal_command (Negative (u16 operands 0) (bit0 flags)) flags book
apply_command end after book = end_command after book
apply_command unknown after book = refused 2

-- a command that the bytes behind it are too short for is refused before its own tests
abbrev pub whole_command : Command → List ℕ → Book → Refusable Book
whole_command c after book = elim (ltb (length after) (width c)) [
  | true ↦ refused 1
  | false ↦ apply_command c after book
]

abbrev pub is_end : Command → Bool
is_end goal = false
is_end clause = false
is_end positive = false
is_end ranged = false
is_end negative = false
is_end end = true
is_end unknown = false

-- the bytes from some place on, of which the first `skip` are operands of the command before
abbrev pub read_from : List ℕ → (skip : ℕ) → Book → Refusable Book
read_from [] skip book = refused 1
read_from (b ∷ bs) (suc skip) book = read_from bs skip book
read_from (b ∷ bs) zero book = elim (whole_command (command b) bs book) [
  | refused n ↦ refused n
  | accepted next ↦ elim (is_end (command b)) [ true ↦ accepted next | false ↦ read_from bs (width (command b)) next ]
]

abbrev pub read : List ℕ → Refusable Book
read bytes = read_from bytes 0 []

-- Writing.

abbrev pub flag : Bool → ℕ
flag true = 1
flag false = 0

abbrev pub write_literal : Literal → List ℕ
write_literal (Positive g any outsized) =
    0x50 ∷ g % 256 ∷ g / 256 ∷ 0 ∷ 0 ∷ flag outsized ∷ []
write_literal (Positive g (exactly v) outsized) =
    0x50 ∷ g % 256 ∷ g / 256 ∷ v % 256 ∷ v / 256 ∷ flag outsized ∷ []
write_literal (Positive g (between least most) outsized) =
    0x52 ∷ g % 256 ∷ g / 256 ∷ least % 256 ∷ least / 256 ∷ most % 256 ∷ most / 256 ∷ flag outsized ∷ []
write_literal (Negative g outsized) =
    0x4E ∷ g % 256 ∷ g / 256 ∷ flag outsized ∷ []

abbrev pub write_literals : List Literal → List ℕ
write_literals [] = []
write_literals (l ∷ ls) = write_literal l ++ write_literals ls

abbrev pub write_clauses : List Clause → List ℕ
write_clauses [] = []
write_clauses (c ∷ cs) =
    (0x43 ∷ c.variant % 256 ∷ c.variant / 256 ∷ (flag c.cannot_prove + 2 * flag c.outsized) ∷ write_literals c.literals)
    ++ write_clauses cs

abbrev pub write_goals : List Goal → List ℕ
write_goals [] = []
write_goals (g ∷ gs) =
    (0x47 ∷ (flag g.coinductive + 2 * flag g.floundered) ∷ write_clauses g.clauses)
    ++ write_goals gs

abbrev pub write : Book → List ℕ
write book = write_goals book ++ (0x45 ∷ [])

-- A book within the limits: the books that can be written.

abbrev pub WantWithin : Want → Type 0
WantWithin any = Unit {0}
WantWithin (exactly v) = (0 < v) × (v < 65536)
WantWithin (between least most) = (least ≤ most) × (most < 65536)

abbrev pub LiteralWithin : (goals : ℕ) → Literal → Type 0
LiteralWithin goals (Positive g want outsized) = (g < goals) × WantWithin want
LiteralWithin goals (Negative g outsized) = g < goals

abbrev pub LiteralsWithin : (goals : ℕ) → List Literal → Type 0
LiteralsWithin goals [] = Unit {0}
LiteralsWithin goals (l ∷ ls) = LiteralWithin goals l × LiteralsWithin goals ls

pub record ClauseWithin (goals : ℕ) (c : Clause) : Type 0 where
  pub variant_fits : c.variant < 65536
  pub few_literals : length c.literals ≤ most_literals
  pub literals_fit : LiteralsWithin goals c.literals

abbrev pub ClausesWithin : (goals : ℕ) → List Clause → Type 0
ClausesWithin goals [] = Unit {0}
ClausesWithin goals (c ∷ cs) = ClauseWithin goals c × ClausesWithin goals cs

abbrev pub GoalsWithin : (goals : ℕ) → List Goal → Type 0
GoalsWithin goals [] = Unit {0}
GoalsWithin goals (g ∷ gs) = ClausesWithin goals g.clauses × GoalsWithin goals gs

pub record Within (book : Book) : Type 0 where
  pub some_goal : 0 < length book
  pub few_goals : length book ≤ most_goals
  pub few_clauses : clause_count book ≤ most_clauses
  pub clauses_fit : GoalsWithin (length book) book

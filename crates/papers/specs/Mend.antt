-- Mending a paper (change request 11): each clause with a literal of an undefined goal goes (reason 6), and each clause that is the same as
-- an earlier one of its goal (reason 36). The others stay as they are, command by command: a literal's command may stand behind a later
-- goal's, and it goes or stays with its clause.
use Rattle.std.specs.Prelude.{ℕ, zero, suc, ◌<◌, Bool, true, false, ◌≡◌, List, [], ◌∷◌, ◌++◌, length}
use Rattle.std.proofs.Math.Option.{Option, none, some}
use Rattle.std.proofs.Math.ListN.{get_elem?}
use Rattle.definitions.specs.Refusal.{Refusable, refused, accepted}
use Rattle.definitions.specs.Lists.{push, position}
use Rattle.definitions.specs.Book.{Clause, Goal, Book, Command, goal, clause, positive, ranged, negative, end, unknown, command}
use Rattle.definitions.specs.Book.{width, with_clauses, literals_name}
use Rattle.definitions.specs.Mend.{read_loosely}
use Rattle.definitions.specs.Desk.{same_clause}
use Rattle.definitions.specs.Text.{ascii, decimal}

-- Why a clause goes.

abbrev pub repeated : Option ℕ → Option ℕ
repeated none = none
repeated (some earlier) = some 36

-- 6, or else 36, in a book of so many goals, behind those clauses of its goal
abbrev pub reason : (goals : ℕ) → (before : List Clause) → Clause → Option ℕ
reason n before c = elim (literals_name n c.literals) [ false ↦ some 6 | true ↦ repeated (position (same_clause c) before) ]

abbrev pub reasons_behind : (goals : ℕ) → (before after : List Clause) → List (Option ℕ)
reasons_behind n before [] = []
reasons_behind n before (c ∷ after) = reason n before c ∷ reasons_behind n (push before c) after

-- of every clause, in book order
abbrev pub reasons_of : (goals : ℕ) → List Goal → List (Option ℕ)
reasons_of n [] = []
reasons_of n (h ∷ hs) = reasons_behind n [] h.clauses ++ reasons_of n hs

abbrev pub reasons : Book → List (Option ℕ)
reasons book = reasons_of (length book) book

-- What is left.

abbrev pub kept_by : Option ℕ → Clause → List Clause → List Clause
kept_by none c cs = c ∷ cs
kept_by (some r) c cs = cs

abbrev pub kept_behind : (goals : ℕ) → (before after : List Clause) → List Clause
kept_behind n before [] = []
kept_behind n before (c ∷ after) = kept_by (reason n before c) c (kept_behind n (push before c) after)

abbrev pub kept_goals : (goals : ℕ) → List Goal → List Goal
kept_goals n [] = []
kept_goals n (h ∷ hs) = with_clauses h (kept_behind n [] h.clauses) ∷ kept_goals n hs

-- the book without the clauses that have a reason
abbrev pub mended_book : Book → Book
mended_book book = kept_goals (length book) book

-- The bytes: each command is copied, or goes.

-- whether the bytes at hand stay; whether the last clause does; the reasons of the clauses to come
pub record Copying : Type 0 where
  pub stays : Bool
  pub last_stays : Bool
  pub to_come : List (Option ℕ)

abbrev pub has_none : Option ℕ → Bool
has_none none = true
has_none (some r) = false

abbrev pub at_clause : List (Option ℕ) → Copying
at_clause [] = record { stays = true; last_stays = true; to_come = [] }
at_clause (r ∷ rs) = record { stays = has_none r; last_stays = has_none r; to_come = rs }

-- a command that belongs to no clause stays
abbrev pub at_other : Copying → Copying
at_other c = record { stays = true; last_stays = c.last_stays; to_come = c.to_come }

-- a literal goes with its clause
abbrev pub at_literal : Copying → Copying
at_literal c = record { stays = c.last_stays; last_stays = c.last_stays; to_come = c.to_come }

abbrev pub at_command : Command → Copying → Copying
at_command goal c = at_other c
at_command clause c = at_clause c.to_come
at_command positive c = at_literal c
at_command ranged c = at_literal c
at_command negative c = at_literal c
at_command end c = at_other c
at_command unknown c = at_other c

abbrev pub if_stays : Bool → ℕ → List ℕ → List ℕ
if_stays true b bs = b ∷ bs
if_stays false b bs = bs

-- of which the first `skip` bytes are operands of the command before
abbrev pub copy : List ℕ → (skip : ℕ) → Copying → List ℕ
copy [] skip c = []
copy (b ∷ bs) (suc skip) c = if_stays c.stays b (copy bs skip c)
copy (b ∷ bs) zero c =
    let d = at_command (command b) c in
    if_stays d.stays b (copy bs (width (command b)) d)

abbrev pub copied : List ℕ → List (Option ℕ) → List ℕ
copied bytes rs = copy bytes 0 (record { stays = true; last_stays = true; to_come = rs })

-- The lines: goal, clause within it, reason.

abbrev pub reason_line : (goal clause : ℕ) → Option ℕ → List ℕ
reason_line g i none = []
reason_line g i (some r) = decimal g ++ (ascii " " ++ (decimal i ++ (ascii " " ++ (decimal r ++ ascii "\n"))))

-- of the clauses from i on
abbrev pub clause_lines : (goal i : ℕ) → List (Option ℕ) → List ℕ
clause_lines g i [] = []
clause_lines g i (r ∷ rs) = reason_line g i r ++ clause_lines g (suc i) rs

-- of the goals from g on
abbrev pub goal_lines : (goals g : ℕ) → List Goal → List ℕ
goal_lines n g [] = []
goal_lines n g (h ∷ hs) = clause_lines g 0 (reasons_behind n [] h.clauses) ++ goal_lines n (suc g) hs

pub record Mended : Type 0 where
  pub bytes : List ℕ
  pub lines : List ℕ

abbrev pub mended_from : (bytes : List ℕ) → Refusable Book → Refusable Mended
mended_from bytes (refused n) = refused n
mended_from bytes (accepted book) = accepted (record { bytes = copied bytes (reasons book); lines = goal_lines (length book) 0 book })

-- THE MENDING of a paper, or the number by which it is refused, which is neither 6 nor 36
abbrev pub mend : (bytes : List ℕ) → Refusable Mended
mend bytes = mended_from bytes (read_loosely bytes)

-- WHY A CLAUSE GOES OR STAYS, said without computing it: what the reason of a goal's clause i says, in a book of n goals
pub data Why (n : ℕ) (cs : List Clause) (i : ℕ) (c : Clause) : Option ℕ → Type 0 where
  undefined : literals_name n c.literals ≡ false → Why n cs i c (some 6)
  again : literals_name n c.literals ≡ true → (j : ℕ) → j < i → get_elem? cs j ≡ some c → Why n cs i c (some 36)
  stays : literals_name n c.literals ≡ true → ((j : ℕ) → j < i → get_elem? cs j ≡ some c → ⊥) → Why n cs i c none

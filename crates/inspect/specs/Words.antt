-- What `inspect` prints: a book in words, in the notation of document 01, and what the desk says to it; or a refusal with its sentence.
use Rattle.std.specs.Prelude.{ℕ, zero, suc, Bool, true, false, List, [], ◌∷◌, ◌++◌, eqb}
use Rattle.std.proofs.Math.Option.{Option, none, some}
use Rattle.definitions.specs.Text.{ascii, decimal}
use Rattle.definitions.specs.Refusal.{Refusable, refused, accepted}
use Rattle.definitions.specs.Book.{Want, any, exactly, between, Literal, Positive, Negative, Clause, Goal, Book}
use Rattle.definitions.specs.Desk.{Repeat, repeat_of}
use Rattle.pen.specs.Refusals.{refusal_lines}

-- words that stand there only where a flag is set
abbrev pub mark : Bool → List ℕ → List ℕ
mark true words = words
mark false words = []

-- a number, and another one behind a slash if it is not 0
abbrev pub behind_slash : Bool → ℕ → List ℕ
behind_slash true v = []
behind_slash false v = ascii "/" ++ decimal v

unfoldable pub slashed : (n v : ℕ) → List ℕ
slashed n v = decimal n ++ behind_slash (eqb v 0) v

-- a number, and the ends of a range behind a slash
unfoldable pub ranged : (n least most : ℕ) → List ℕ
ranged n least most = decimal n ++ (ascii "/" ++ (decimal least ++ (ascii "-" ++ decimal most)))

-- a goal, and what a literal wants of it behind a slash
abbrev pub want_words : (goal : ℕ) → Want → List ℕ
want_words goal any = slashed goal 0
want_words goal (exactly variant) = slashed goal variant
want_words goal (between least most) = ranged goal least most

-- a literal: its goal with what it wants; its mark
abbrev pub name_words : (negative : Bool) → (goal : ℕ) → Want → List ℕ
name_words true goal want = ascii "not " ++ decimal goal
name_words false goal want = want_words goal want

unfoldable pub literal_words : Literal → List ℕ
literal_words (Positive goal want outsized) = name_words false goal want ++ mark outsized (ascii " [outsized]")
literal_words (Negative goal outsized) = name_words true goal any ++ mark outsized (ascii " [outsized]")

-- what stands before the literal j of a clause
unfoldable pub before : ℕ → List ℕ
before zero = ascii " :- "
before (suc j) = ascii ", "

-- literals from the literal j of a clause on
unfoldable pub body_words : ℕ → List Literal → List ℕ
body_words j [] = []
body_words j (l ∷ ls) = before j ++ (literal_words l ++ body_words (suc j) ls)

unfoldable pub head_words : (goal variant : ℕ) → (cannot_prove outsized : Bool) → List ℕ
head_words goal variant cannot_prove outsized =
    slashed goal variant ++ (mark cannot_prove (ascii " [cannot prove]") ++ mark outsized (ascii " [outsized]"))

-- a clause of a goal
unfoldable pub clause_words : ℕ → Clause → List ℕ
clause_words goal c = head_words goal c.variant c.cannot_prove c.outsized ++ (body_words 0 c.literals ++ ascii "\n")

unfoldable pub clauses_words : ℕ → List Clause → List ℕ
clauses_words goal [] = []
clauses_words goal (c ∷ cs) = clause_words goal c ++ clauses_words goal cs

unfoldable pub goal_line : ℕ → (coinductive floundered : Bool) → List ℕ
goal_line g coinductive floundered =
    ascii "goal " ++ (decimal g ++ (mark coinductive (ascii " [coinductive]") ++ (mark floundered (ascii " [floundered]") ++ ascii "\n")))

unfoldable pub goal_words : ℕ → Goal → List ℕ
goal_words g h = goal_line g h.coinductive h.floundered ++ clauses_words g h.clauses

-- goals from the goal g on
unfoldable pub goals_words : ℕ → List Goal → List ℕ
goals_words g [] = []
goals_words g (h ∷ hs) = goal_words g h ++ goals_words (suc g) hs

-- what the old entry turns down the desk does too
unfoldable pub refusal_words : ℕ → List ℕ
refusal_words n = refusal_lines n ++ ascii "neither entry takes it\n"

-- what reading gave
abbrev pub book_words : Refusable Book → List ℕ
book_words (refused n) = refusal_words n
book_words (accepted book) = goals_words 0 book

-- behind a book that the desk turns down: its number, and the clause that stands there for the second time
unfoldable pub desk_words : Option Repeat → List ℕ
desk_words none = []
desk_words (some r) =
    (ascii "desk refused 36\ngoal " ++ decimal r.goal)
    ++ ((ascii ", clause " ++ decimal r.clause)
    ++ ((ascii ": the same as clause " ++ decimal r.earlier)
    ++ ascii "\n"))

-- THE WORDS of a paper: what the old entry reads, and whether the desk turns that down
abbrev pub reading_words : Refusable Book → List ℕ
reading_words r = book_words r ++ desk_words (repeat_of r)

-- Out to a Prolog with tabling (change request 13): a plain book as XSB text, and the book of such a text, or the number by which the
-- text is refused. A text has a line `:- table g0/0.` for each goal and then a line for each clause, in book order, as
-- `g0 :- g1, tnot(g2).`, or `g1.` if it has no literal. 0A ends each line.
use Rattle.std.specs.Prelude.{ℕ, zero, suc, ◌+◌, ◌*◌, ◌-◌, min, Bool, true, false, not, ◌&&◌, List, [], ◌∷◌, ◌++◌, length, eqb, ltb, leb}
use Rattle.std.proofs.Math.Option.{Option, none, some}
use Rattle.definitions.specs.Refusal.{Refusable, refused, accepted, ◌refuses◌, unless}
use Rattle.definitions.specs.Lists.{push, is_empty, any_passes}
use Rattle.sizes.specs.Limits.{most_goals, most_clauses, most_literals}
use Rattle.definitions.specs.Book.{any, Literal, Positive, Negative, Clause, Goal, Book}
use Rattle.definitions.specs.Book.{goals_name, write}
use Rattle.definitions.specs.Desk.{at_desk, desk}
use Rattle.definitions.specs.Text.{ascii, decimal}
use Rattle.papers.specs.Levels.{is_plain}

-- a clause of a plain book, with the goal that it is for
pub record Rule : Type 0 where
  pub head : ℕ
  pub body : List Literal

-- Writing.

abbrev pub rules_of_goal : (goal : ℕ) → List Clause → List Rule
rules_of_goal g [] = []
rules_of_goal g (c ∷ cs) = record { head = g; body = c.literals } ∷ rules_of_goal g cs

-- of the goals from g on
abbrev pub rules_from : (g : ℕ) → List Goal → List Rule
rules_from g [] = []
rules_from g (h ∷ hs) = rules_of_goal g h.clauses ++ rules_from (suc g) hs

abbrev pub name : (goal : ℕ) → List ℕ
name g = ascii "g" ++ decimal g

abbrev pub literal_text : Literal → List ℕ
literal_text (Positive g want outsized) = name g
literal_text (Negative g outsized) = ascii "tnot(" ++ (name g ++ ascii ")")

-- literals behind another one
abbrev pub more_text : List Literal → List ℕ
more_text [] = []
more_text (l ∷ ls) = ascii ", " ++ (literal_text l ++ more_text ls)

abbrev pub body_text : List Literal → List ℕ
body_text [] = []
body_text (l ∷ ls) = ascii " :- " ++ (literal_text l ++ more_text ls)

abbrev pub rule_line : Rule → List ℕ
rule_line r = name r.head ++ (body_text r.body ++ ascii ".\n")

abbrev pub rule_lines : List Rule → List ℕ
rule_lines [] = []
rule_lines (r ∷ rs) = rule_line r ++ rule_lines rs

abbrev pub table_line : (goal : ℕ) → List ℕ
table_line g = ascii ":- table " ++ (name g ++ ascii "/0.\n")

-- of the goals below n
abbrev pub table_lines : (n : ℕ) → List ℕ
table_lines zero = []
table_lines (suc n) = table_lines n ++ table_line n

abbrev pub text_of : (goals : ℕ) → List Rule → List ℕ
text_of n rs = table_lines n ++ rule_lines rs

abbrev pub export : Book → List ℕ
export book = text_of (length book) (rules_from 0 book)

-- a book that the desk takes, if it is plain
abbrev pub plain_export : Book → Refusable (List ℕ)
plain_export book = elim (is_plain book) [ false ↦ refused 37 | true ↦ accepted (export book) ]

abbrev pub export_at_desk : Refusable Book → Refusable (List ℕ)
export_at_desk (refused n) = refused n
export_at_desk (accepted book) = plain_export book

abbrev pub check_export : (bytes : List ℕ) → Refusable (List ℕ)
check_export bytes = export_at_desk (desk bytes)

-- Reading, byte by byte.

-- Numbers are counted up to here, 2 ^ 64 - 1, and this one stands for all that are larger. No text has so many lines.
abbrev pub most_number : ℕ
most_number = 18446744073709551615

abbrev pub counted : ℕ → ℕ
counted n = min n most_number

-- what a number in the text is of
pub data What : Type 0 where
  table : What
  head : What
  positive : What
  negative : What

-- what may come next: a line; this byte and, behind it, these; a digit, or what ends the number so far; a literal; what stands behind one
pub data Place : Type 0 where
  line : Place
  fixed : (byte : ℕ) (more : List ℕ) (next : Place) → Place
  number : What → (value : Option ℕ) → Place
  literal : Place
  behind : Place

-- what was read: how many table lines, the rules, and the rule that is being read, or was the last
pub record State : Type 0 where
  pub tables : ℕ
  pub rules : List Rule
  pub rule : Rule
  pub place : Place

abbrev pub start : State
start = record { tables = 0; rules = []; rule = record { head = 0; body = [] }; place = line }

-- these bytes must come, and then `next`
abbrev pub comes : List ℕ → (next : Place) → Place
comes [] next = next
comes (b ∷ bs) next = fixed b bs next

abbrev pub at : State → Place → State
at s p = record { tables = s.tables; rules = s.rules; rule = s.rule; place = p }

abbrev pub table_read : State → State
table_read s = record {
  tables = counted (suc s.tables);
  rules = s.rules;
  rule = s.rule;
  place = comes (ascii "0.\n") line;
}

abbrev pub with_head : State → (goal : ℕ) → State
with_head s g = record { tables = s.tables; rules = s.rules; rule = record { head = g; body = [] }; place = s.place }

abbrev pub with_literal : State → Literal → State
with_literal s l = record {
  tables = s.tables;
  rules = s.rules;
  rule = record { head = s.rule.head; body = push s.rule.body l };
  place = s.place;
}

abbrev pub rule_read : State → State
rule_read s = record { tables = s.tables; rules = push s.rules s.rule; rule = s.rule; place = comes (ascii "\n") line }

abbrev pub if_so : Bool → State → Option State
if_so true s = some s
if_so false s = none

-- a head has a table line, and none below it comes later
abbrev pub head_fits : State → (goal : ℕ) → Bool
head_fits s g = ltb g s.tables && leb s.rule.head g

abbrev pub is_digit : ℕ → Bool
is_digit b = leb 48 b && leb b 57

-- a number with one more digit; there is none behind a 0 that it begins with
abbrev pub more_digits : Option ℕ → (digit : ℕ) → Option ℕ
more_digits none d = some d
more_digits (some zero) d = none
more_digits (some (suc v)) d = some (counted (10 * suc v + d))

-- 2E and 2C: behind a literal the rule ends, or another literal comes
abbrev pub behind_literal : State → ℕ → Option State
behind_literal s b = elim (eqb b 0x2E) [
  | true ↦ some (rule_read s)
  | false ↦ if_so (eqb b 0x2C) (at s (comes (ascii " ") literal))
]

-- 2E and 20: behind its head the rule ends, or literals come
abbrev pub behind_head : State → ℕ → Option State
behind_head s b = elim (eqb b 0x2E) [
  | true ↦ some (rule_read s)
  | false ↦ if_so (eqb b 0x20) (at s (comes (ascii ":- ") literal))
]

-- the byte that ends a number: 2F behind a table's, 29 behind a "not"
abbrev pub ends : State → What → (value : ℕ) → ℕ → Option State
ends s table v b = if_so (eqb b 0x2F && eqb v s.tables) (table_read s)
ends s head v b = elim (head_fits s v) [ true ↦ behind_head (with_head s v) b | false ↦ none ]
ends s positive v b = behind_literal (with_literal s (Positive v any false)) b
ends s negative v b = if_so (eqb b 0x29) (at (with_literal s (Negative v false)) behind)

abbrev pub with_digit : State → What → Option ℕ → Option State
with_digit s w none = none
with_digit s w (some v) = some (at s (number w (some v)))

abbrev pub ends_if : State → What → Option ℕ → ℕ → Option State
ends_if s w none b = none
ends_if s w (some v) b = ends s w v b

-- 3A and 67: a table line, if no rule came before, or a rule
abbrev pub begins_line : State → ℕ → Option State
begins_line s b = elim (eqb b 0x67) [
  | true ↦ some (at s (number head none))
  | false ↦ if_so (eqb b 0x3A && is_empty s.rules) (at s (comes (ascii "- table g") (number table none)))
]

-- 67 and 74
abbrev pub begins_literal : State → ℕ → Option State
begins_literal s b = elim (eqb b 0x67) [
  | true ↦ some (at s (number positive none))
  | false ↦ if_so (eqb b 0x74) (at s (comes (ascii "not(g") (number negative none)))
]

abbrev pub step_at : State → Place → ℕ → Option State
step_at s line b = begins_line s b
step_at s (fixed c more next) b = if_so (eqb b c) (at s (comes more next))
step_at s (number w value) b = elim (is_digit b) [
  | true ↦ with_digit s w (more_digits value (b - 48))
  | false ↦ ends_if s w value b
]
step_at s literal b = begins_literal s b
step_at s behind b = behind_literal s b

abbrev pub step : State → ℕ → Option State
step s b = step_at s s.place b

abbrev pub run : List ℕ → State → Option State
run [] s = some s
run (b ∷ bs) s = elim (step s b) [ none ↦ none | some t ↦ run bs t ]

-- a text ends where a line may begin
abbrev pub at_line : Place → Bool
at_line line = true
at_line (fixed b more next) = false
at_line (number w value) = false
at_line literal = false
at_line behind = false

abbrev pub ended : Option State → Option State
ended none = none
ended (some s) = if_so (at_line s.place) s

-- what a text of the form has; none of another
abbrev pub parse : List ℕ → Option State
parse text = ended (run text start)

-- The book of a text.

abbrev pub clause_of : Rule → Clause
clause_of r = record { variant = 0; cannot_prove = false; outsized = false; literals = r.body }

abbrev pub clauses_for : (goal : ℕ) → List Rule → List Clause
clauses_for g [] = []
clauses_for g (r ∷ rs) = elim (eqb r.head g) [ true ↦ clause_of r ∷ clauses_for g rs | false ↦ clauses_for g rs ]

-- so many goals from g on
abbrev pub goals_for : (g n : ℕ) → List Rule → Book
goals_for g zero rs = []
goals_for g (suc n) rs = record { coinductive = false; floundered = false; clauses = clauses_for g rs } ∷ goals_for (suc g) n rs

abbrev pub is_long : Rule → Bool
is_long r = ltb most_literals (length r.body)

-- the desk's rules, by its numbers
abbrev pub book_of : (goals : ℕ) → List Rule → Refusable Book
book_of n rs =
    let book = goals_for 0 n rs in
    unless
    (ltb most_goals n refuses 5
    ∷ ltb most_clauses (length rs) refuses 5
    ∷ any_passes is_long rs refuses 5
    ∷ eqb n 0 refuses 8
    ∷ not (goals_name n book) refuses 6
    ∷ [])
    book

-- 39 for a text of another form, and else what the desk says
abbrev pub parsed_book : Option State → Refusable Book
parsed_book none = refused 39
parsed_book (some s) = at_desk (book_of s.tables s.rules)

abbrev pub import : List ℕ → Refusable Book
import text = parsed_book (parse text)

-- the bytes of the book
abbrev pub bytes_of : Refusable Book → Refusable (List ℕ)
bytes_of (refused n) = refused n
bytes_of (accepted book) = accepted (write book)

abbrev pub check_import : (text : List ℕ) → Refusable (List ℕ)
check_import text = bytes_of (import text)

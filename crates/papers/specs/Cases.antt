-- Cases p1 to p9 of document 01 as a table: a book, what is run on it, and what that must give; and the theorem that the
-- definitions give it, by computation. (The sizes of document 01 run in a program.)
use Rattle.std.specs.Prelude.{ℕ, ◌≡◌, refl, true, false, List, [], ◌∷◌, map}
use Rattle.definitions.specs.{CompleteAnswer}
use Rattle.definitions.specs.Text.{ascii}
use Rattle.definitions.specs.Refusal.{refused, accepted}
use Rattle.definitions.specs.Stop.{go}
use Rattle.definitions.specs.Book.{any, Literal, Positive, Negative, Clause, Goal, write}
use Rattle.definitions.specs.Logic.{NoMoreSolutions}
use Rattle.definitions.specs.Turn.{found, fail, cut, stopped}
use Rattle.definitions.specs.Forest.{make}
use Rattle.definitions.specs.Calls.{Call, opens, searches, peeks, Reply, refusal, table, searched, peeked, sitting, calls}
use Rattle.papers.specs.Listing.{fields}

-- What is run: the listing program, of which the fields are told, or calls on a forest made with that clock limit.
pub data Run : Type 0 where
  lists : Run
  runs : (clock_limit : ℕ) → List Call → Run

pub data Gives : Type 0 where
  prints : List ℕ → Gives
  refuses : ℕ → Gives
  replies : List Reply → Gives

pub record Case : Type 0 where
  pub book : List ℕ
  pub run : Run
  pub gives : Gives

abbrev pub run_on : List ℕ → Run → Gives
run_on book lists = prints (fields book)
run_on book (runs limit cs) = elim (make book limit) [
  | refused n ↦ refuses n
  | accepted f ↦ replies (map (λ c. c.reply) (calls (sitting f) cs))
]

-- Notation: `0 :- 1` is a goal with the clause `rule 0 (pos 1 ∷ [])`; `/v` is the variant, `rule`'s first argument.

abbrev pub pos : ℕ → Literal
pos g = Positive g any false

abbrev pub neg : ℕ → Literal
neg g = Negative g false

abbrev pub rule : (variant : ℕ) → List Literal → Clause
rule v ls = record { variant = v; cannot_prove = false; outsized = false; literals = ls }

abbrev pub fact : (variant : ℕ) → Clause
fact v = rule v []

abbrev pub unproved : (variant : ℕ) → Clause
unproved v = record { variant = v; cannot_prove = true; outsized = false; literals = [] }

abbrev pub inductive : List Clause → Goal
inductive cs = record { coinductive = false; floundered = false; clauses = cs }

abbrev pub coinductive : List Clause → Goal
coinductive cs = record { coinductive = true; floundered = false; clauses = cs }

abbrev pub floundered : Goal
floundered = record { coinductive = false; floundered = true; clauses = [] }

abbrev pub yes_answer : ℕ → CompleteAnswer
yes_answer v = record { variant = v; ambiguous = false }

abbrev pub one_rule : Literal → Clause
one_rule l = rule 0 (l ∷ [])

-- The books.

abbrev pub p1 : List ℕ
p1 =
    0x47 ∷ 0x00 ∷ 0x43 ∷ 0x00 ∷ 0x00 ∷ 0x00 ∷ 0x50 ∷ 0x01 ∷ 0x00 ∷ 0x00 ∷ 0x00 ∷ 0x00 ∷ 0x4E ∷ 0x02 ∷ 0x00 ∷ 0x00
    ∷ 0x47 ∷ 0x00 ∷ 0x43 ∷ 0x01 ∷ 0x00 ∷ 0x00 ∷ 0x43 ∷ 0x02 ∷ 0x00 ∷ 0x00 ∷ 0x47 ∷ 0x00 ∷ 0x43 ∷ 0x00 ∷ 0x00 ∷ 0x00
    ∷ 0x50 ∷ 0x02 ∷ 0x00 ∷ 0x00 ∷ 0x00 ∷ 0x00 ∷ 0x45 ∷ []

abbrev pub p3 : List ℕ
p3 = write (coinductive (one_rule (pos 1) ∷ []) ∷ coinductive (one_rule (pos 0) ∷ []) ∷ [])

abbrev pub p8 : List ℕ
p8 = write (inductive (one_rule (pos 1) ∷ []) ∷ inductive (fact 0 ∷ []) ∷ [])

-- p6 with these facts for goal 1
abbrev pub p6 : List Clause → List ℕ
p6 facts = write (inductive (rule 0 (pos 0 ∷ pos 1 ∷ []) ∷ []) ∷ inductive facts ∷ [])

abbrev pub listed : List ℕ → List ℕ → Case
listed book text = record { book = book; run = lists; gives = prints text }

abbrev pub replied : List ℕ → (clock_limit : ℕ) → List Call → List Reply → Case
replied book limit cs rs = record { book = book; run = runs limit cs; gives = replies rs }

abbrev pub cases : List Case
cases =
    listed p1 (ascii "0 0 yes 0\n0 1 none\n1 0 yes 1\n1 1 yes 2\n1 2 none\n2 0 none\n")
    -- p2
    ∷ listed (write (inductive (one_rule (neg 0) ∷ []) ∷ [])) (ascii "0 0 negcycle\n")
    ∷ listed (write (coinductive (one_rule (neg 0) ∷ []) ∷ [])) (ascii "0 0 stop 28\n")
    -- p3, and with goal 1 searched first
    ∷ listed p3 (ascii "0 0 yes 0\n0 1 none\n1 1 unsettled\n")
    ∷ replied p3 1000000
    (opens 1 ∷ peeks 0 0 1000 10000 ∷ peeks 0 1 1000 10000 ∷ opens 0 ∷ peeks 1 0 1000 10000 ∷ [])
    (table (go 0) ∷ peeked (found (yes_answer 0)) 0 5 0 ∷ peeked (fail NoMoreSolutions) 1 1 0
    ∷ table (go 1) ∷ peeked (fail NoMoreSolutions) 1 1 0 ∷ [])
    -- p4
    ∷ listed (write (coinductive (one_rule (pos 1) ∷ []) ∷ coinductive (one_rule (pos 0) ∷ []) ∷ inductive (one_rule (neg 1) ∷ []) ∷ []))
    (ascii "0 0 yes 0\n0 1 none\n1 1 unsettled\n2 0 stop 27\n")
    -- p5
    ∷ listed (write (inductive (one_rule (pos 1) ∷ []) ∷ floundered ∷ [])) (ascii "0 0 maybe 0\n0 1 none\n1 0 floundered\n")
    ∷ listed (write (inductive (one_rule (neg 1) ∷ []) ∷ floundered ∷ [])) (ascii "0 0 stop 25\n")
    -- p6
    ∷ listed (p6 (fact 1 ∷ fact 2 ∷ fact 3 ∷ [])) (ascii "0 0 stop 29\n")
    ∷ listed (p6 (fact 1 ∷ [])) (ascii "0 0 none\n1 0 yes 1\n1 1 none\n")
    -- p7
    ∷ listed (write (inductive (one_rule (pos 1) ∷ fact 2 ∷ []) ∷ inductive (unproved 1 ∷ rule 1 (pos 0 ∷ []) ∷ []) ∷ []))
    (ascii "0 0 yes 2\n0 1 maybe 0\n0 2 none\n1 0 maybe 1\n1 1 stop 26\n")
    -- p8: four turns; cut at three, the second search takes one; clock limit 1
    ∷ replied p8 1000000 (opens 0 ∷ searches 0 0 100 ∷ []) (table (go 0) ∷ searched (found (yes_answer 0)) 4 ∷ [])
    ∷ replied p8 1000000 (opens 0 ∷ searches 0 0 3 ∷ searches 0 0 100 ∷ [])
    (table (go 0) ∷ searched cut 3 ∷ searched (found (yes_answer 0)) 1 ∷ [])
    ∷ replied p8 1 (opens 0 ∷ searches 0 0 100 ∷ searches 0 0 100 ∷ []) (table (go 0) ∷ searched (stopped 21) 0 ∷ refusal 20 ∷ [])
    -- p9
    ∷ listed [] (ascii "refused 1\n")
    ∷ listed (0x45 ∷ []) (ascii "refused 8\n")
    ∷ listed (0x47 ∷ 0x00 ∷ 0x45 ∷ []) (ascii "0 0 none\n")
    ∷ []

pub cases_agree : map (λ (c : Case). run_on c.book c.run) cases ≡ map (λ (c : Case). c.gives) cases
cases_agree = refl

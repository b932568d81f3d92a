-- A table of cases for change request 2: a book, what is run on it and what that gives (as in `Cases` of definitions), and the pairs that
-- can be derived from it. All of it agrees by computation (proofs/Cases); the listings and replies are those of the Rust.
use Rattle.std.specs.Prelude.{ℕ, ◌≡◌, refl, Bool, true, false, ◌&&◌, List, [], ◌∷◌, ◌++◌, map, eqb}
use Rattle.std.proofs.Math.Option.{Option, none, some}
use Rattle.definitions.specs.{Answer}
use Rattle.definitions.specs.Text.{ascii}
use Rattle.definitions.specs.Refusal.{Refusable, refused, accepted}
use Rattle.definitions.specs.Stop.{go}
use Rattle.definitions.specs.Book.{Clause, Book, clause_count, read, write}
use Rattle.definitions.specs.Lists.{any_passes}
use Rattle.papers.specs.Levels.{each_passes}
use Rattle.papers.specs.Spoilt.{check_spoilers}
use Rattle.definitions.specs.Tables.{Tables}
use Rattle.definitions.specs.Forest.{make}
use Rattle.definitions.specs.Turn.{Ending, found, fail, cut, stopped}
use Rattle.definitions.specs.Calls.{opens, searches, peeks, table, searched, peeked, sitting, Called, calls}
use Rattle.papers.specs.Listing.{Line, lines}
use Rattle.papers.specs.Cases.{Run, lists, runs, Gives, Case, run_on, listed, pos, neg, rule, fact, unproved, one_rule}
use Rattle.papers.specs.Cases.{inductive, coinductive, floundered, p6}
use Rattle.papers.specs.MoreCases.{want, outsized, outsized_rule, wants, one_may_be_taken, yes, no_more, ◌gets◌, said}
use Rattle.papers.specs.RangeCases.{three_to_seven, ends}
use Rattle.derivable.specs.Rounds.{Pairs, round, after, JustDerivable}

pub record DerivableCase : Type 0 where
  pub case : Case
  pub derivable : Pairs

infix 70 ◌derives◌
abbrev pub ◌derives◌ : Case → Pairs → DerivableCase
◌derives◌ case derivable = record { case = case; derivable = derivable }

-- The books that have no name yet: `?` marks a clause that cannot prove, `!` what is outsized.

-- p5.  0 :- 1.  1 floundered.
abbrev pub p5 : List ℕ
p5 = write (inductive (one_rule (pos 1) ∷ []) ∷ floundered ∷ [])

-- p7.  0 :- 1.  0/2.  1/1?.  1/1 :- 0.
abbrev pub p7 : List ℕ
p7 = write (inductive (one_rule (pos 1) ∷ fact 2 ∷ []) ∷ inductive (unproved 1 ∷ rule 1 (pos 0 ∷ []) ∷ []) ∷ [])

-- a clause of goal 0, and these of goal 1
abbrev pub over : Clause → List Clause → List ℕ
over c facts = write (inductive (c ∷ []) ∷ inductive facts ∷ [])

-- one goal
abbrev pub alone : List Clause → List ℕ
alone cs = write (inductive cs ∷ [])

-- 0 :- 0, 1.  1/3 :- 2.  1/1.  1/2.  2.  3 :- 1/3.
abbrev pub answer_lost : List ℕ
answer_lost = write (
    inductive (rule 0 (pos 0 ∷ pos 1 ∷ []) ∷ [])
    ∷ inductive (rule 3 (pos 2 ∷ []) ∷ fact 1 ∷ fact 2 ∷ [])
    ∷ inductive (fact 0 ∷ [])
    ∷ inductive (one_rule (want 1 3) ∷ [])
    ∷ [])

abbrev pub derivable_cases : List DerivableCase
derivable_cases =
    -- p5: what is found is ambiguous; p6: all three facts, and a stop; p7: 0 as a whole is found as a maybe, and can be derived
    listed p5 (ascii "0 0 maybe 0\n0 1 none\n1 0 floundered\n") derives []
    ∷ listed (p6 (fact 1 ∷ fact 2 ∷ fact 3 ∷ [])) (ascii "0 0 stop 29\n") derives ((1, 1) ∷ (1, 2) ∷ (1, 3) ∷ [])
    ∷ listed p7 (ascii "0 0 yes 2\n0 1 maybe 0\n0 2 none\n1 0 maybe 1\n1 1 stop 26\n") derives ((0, 0) ∷ (0, 2) ∷ (1, 1) ∷ [])
    -- wants: one that a fact meets, one that none meets, and one met by a fact for the goal as a whole; the head keeps its variant
    ∷ listed (over (one_rule (want 1 2)) (fact 1 ∷ fact 2 ∷ [])) (ascii "0 0 yes 0\n0 1 none\n1 0 yes 1\n1 1 yes 2\n1 2 none\n")
    derives ((0, 0) ∷ (1, 1) ∷ (1, 2) ∷ [])
    ∷ listed (over (one_rule (want 1 3)) (fact 1 ∷ [])) (ascii "0 0 none\n1 0 yes 1\n1 1 none\n") derives ((1, 1) ∷ [])
    ∷ listed (over (rule 5 (want 1 3 ∷ [])) (fact 0 ∷ [])) (ascii "0 0 yes 5\n0 1 none\n1 0 yes 0\n1 1 none\n")
    derives ((0, 5) ∷ (1, 0) ∷ [])
    ∷ listed wants
    (ascii "0 0 yes 4\n0 1 none\n1 0 yes 1\n1 1 yes 2\n1 2 none\n2 0 yes 5\n2 1 none\n3 0 yes 0\n3 1 none\n4 0 none\n5 0 yes 1\n5 1 none\n")
    derives ((0, 4) ∷ (1, 1) ∷ (1, 2) ∷ (2, 5) ∷ (3, 0) ∷ (5, 1) ∷ [])
    -- ranges: 2 and 8 lie outside of 3 to 7, 3 and 7 within; 0 to 0, 65535 to 65535, and all of them
    ∷ listed three_to_seven
    (ascii "0 0 none\n1 0 yes 2\n1 1 none\n"
    ++ ascii "2 0 yes 0\n2 1 none\n3 0 yes 3\n3 1 none\n"
    ++ ascii "4 0 yes 0\n4 1 none\n5 0 yes 7\n5 1 none\n"
    ++ ascii "6 0 none\n7 0 yes 8\n7 1 none\n"
    ++ ascii "8 0 yes 0\n8 1 none\n9 0 yes 0\n9 1 none\n")
    derives ((1, 2) ∷ (2, 0) ∷ (3, 3) ∷ (4, 0) ∷ (5, 7) ∷ (7, 8) ∷ (8, 0) ∷ (9, 0) ∷ [])
    ∷ listed ends
    (ascii "0 0 none\n1 0 yes 2\n1 1 none\n"
    ++ ascii "2 0 yes 0\n2 1 none\n3 0 yes 0\n3 1 none\n"
    ++ ascii "4 0 yes 0\n4 1 none\n5 0 yes 65534\n5 1 yes 65535\n5 2 none\n"
    ++ ascii "6 0 yes 0\n6 1 none\n7 0 yes 9\n7 1 none\n")
    derives ((1, 2) ∷ (2, 0) ∷ (3, 0) ∷ (4, 0) ∷ (5, 65534) ∷ (5, 65535) ∷ (6, 0) ∷ (7, 9) ∷ [])
    -- what is outsized: a literal, and an answer behind a fact and before it
    ∷ listed (over (one_rule (outsized 1 0)) (fact 0 ∷ [])) (ascii "0 0 maybe 0\n0 1 none\n1 0 yes 0\n1 1 none\n") derives ((1, 0) ∷ [])
    ∷ listed (alone (fact 0 ∷ outsized_rule 0 [] ∷ [])) (ascii "0 0 yes 0\n0 1 none\n") derives ((0, 0) ∷ [])
    ∷ listed (alone (outsized_rule 0 [] ∷ fact 0 ∷ [])) (ascii "0 0 floundered\n") derives ((0, 0) ∷ [])
    ∷ listed (alone (outsized_rule 0 [] ∷ [])) (ascii "0 0 floundered\n") derives []
    -- a clause that cannot prove: alone, beside a fact, and under another clause; a floundered goal that has a fact; a positive cycle
    ∷ listed (alone (unproved 0 ∷ [])) (ascii "0 0 maybe 0\n0 1 none\n") derives []
    ∷ listed one_may_be_taken (ascii "0 0 yes 2\n0 1 maybe 3\n0 2 maybe 1\n0 3 none\n") derives ((0, 2) ∷ [])
    ∷ listed (alone (unproved 1 ∷ rule 2 (want 0 1 ∷ []) ∷ [])) (ascii "0 0 maybe 1\n0 1 maybe 2\n0 2 none\n") derives []
    ∷ listed (write (record { coinductive = false; floundered = true; clauses = fact 0 ∷ [] } ∷ [])) (ascii "0 0 floundered\n") derives []
    ∷ listed (alone (one_rule (pos 0) ∷ [])) (ascii "0 0 none\n") derives []
    -- an answer lost after a cut (docs/DIFFERENCES.md): goals 3 and 1/3 can be derived and are not found
    ∷ said answer_lost 1000
    (opens 0 gets table (go 0)
    ∷ searches 0 0 3 gets searched cut 3
    ∷ peeks 0 0 1000 10000 gets peeked no_more 0 1 2
    ∷ opens 3 gets table (go 3)
    ∷ peeks 3 0 1000 10000 gets peeked no_more 0 1 3
    ∷ opens 1 gets table (go 1)
    ∷ peeks 1 0 9 99 gets peeked (yes 1) 0 0 0
    ∷ peeks 1 1 9 99 gets peeked (yes 2) 1 0 0
    ∷ peeks 1 2 9 99 gets peeked no_more 2 1 0
    ∷ [])
    derives ((1, 3) ∷ (1, 1) ∷ (1, 2) ∷ (2, 0) ∷ (3, 0) ∷ [])
    ∷ []

-- what the run gives
abbrev pub runs_to : DerivableCase → Gives
runs_to c = run_on c.case.book c.case.run

abbrev pub expected : DerivableCase → Gives
expected c = c.case.gives

-- as many rounds as the book has clauses, and one more: the same pairs
abbrev pub rounds_of : Book → Pairs × Pairs
rounds_of book = let d = after (clause_count book) book in (d, round book d)

abbrev pub computed : (bytes : List ℕ) → Refusable (Pairs × Pairs)
computed bytes = elim (read bytes) [ refused n ↦ refused n | accepted book ↦ accepted (rounds_of book) ]

pub derivable_cases_agree :
    map (λ (c : DerivableCase). computed c.case.book) derivable_cases
    ≡ map (λ (c : DerivableCase). accepted (c.derivable, c.derivable)) derivable_cases
derivable_cases_agree = refl

-- of each case's book the pairs are those that can be derived, and no other (proofs/Cases)
abbrev pub CaseDerivable : DerivableCase → Type 0
CaseDerivable c = (book : Book) → read c.case.book ≡ accepted book → JustDerivable book c.derivable

-- The promise on the table: where nothing spoils a goal of the book, whatever a listing says yes to can be derived, and whatever calls have
-- stored as an unambiguous answer.

abbrev pub none_spoilt : List (Option ℕ) → Bool
none_spoilt [] = true
none_spoilt (none ∷ ss) = none_spoilt ss
none_spoilt (some by ∷ ss) = false

abbrev pub is_promised : DerivableCase → Bool
is_promised c = elim (check_spoilers c.case.book) [ refused n ↦ false | accepted ss ↦ none_spoilt ss ]

abbrev pub yes_of : (goal : ℕ) → Ending → Pairs
yes_of goal (found a) = elim a.ambiguous [ true ↦ [] | false ↦ (goal, a.variant) ∷ [] ]
yes_of goal (fail e) = []
yes_of goal cut = []
yes_of goal (stopped n) = []

abbrev pub yes_lines : List Line → Pairs
yes_lines [] = []
yes_lines (l ∷ ls) = yes_of l.goal l.ending ++ yes_lines ls

abbrev pub yes_listed : (bytes : List ℕ) → Pairs
yes_listed bytes = elim (lines bytes) [ refused n ↦ [] | accepted ls ↦ yes_lines ls ]

abbrev pub yes_answers : (goal : ℕ) → List Answer → Pairs
yes_answers goal [] = []
yes_answers goal (a ∷ rest) = elim a.ambiguous [ true ↦ [] | false ↦ (goal, a.variant) ∷ [] ] ++ yes_answers goal rest

abbrev pub yes_stored : Tables → Pairs
yes_stored [] = []
yes_stored (t ∷ ts) = yes_answers t.table_goal t.answers ++ yes_stored ts

abbrev pub yes_called : List Called → Pairs
yes_called [] = []
yes_called (c ∷ cs) = yes_stored c.after.forest.tables ++ yes_called cs

abbrev pub yes_said : (bytes : List ℕ) → Run → Pairs
yes_said bytes lists = yes_listed bytes
yes_said bytes (runs limit cs) = elim (make bytes limit) [ refused n ↦ [] | accepted f ↦ yes_called (calls (sitting f) cs) ]

abbrev pub is_among : Pairs → ℕ × ℕ → Bool
is_among d p = any_passes (λ q. eqb q.0 p.0 && eqb q.1 p.1) d

abbrev pub yes_derivable : DerivableCase → Bool
yes_derivable c = each_passes (is_among c.derivable) (yes_said c.case.book c.case.run)

-- Outside the promise there is a yes that can't be derived: over a "not", and round a coinductive cycle.
abbrev pub outside_cases : List DerivableCase
outside_cases =
    listed (over (one_rule (neg 1)) []) (ascii "0 0 yes 0\n0 1 none\n1 0 none\n") derives []
    ∷ listed (write (coinductive (one_rule (pos 0) ∷ []) ∷ [])) (ascii "0 0 yes 0\n0 1 none\n") derives []
    ∷ []

pub outside_cases_agree :
    map (λ (c : DerivableCase). computed c.case.book) outside_cases
    ≡ map (λ (c : DerivableCase). accepted (c.derivable, c.derivable)) outside_cases
outside_cases_agree = refl

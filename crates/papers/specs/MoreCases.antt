-- A second table of cases, in the form of the first (`Cases`): what a port is likely to get wrong. Calls with their replies, so that the
-- turns count too. Each was run on the Rust, which gave these replies; the last number of `peeked`, which it does not print, is how many
-- searches ended in QuantumExceeded when the peek was made of searches.
use Rattle.std.specs.Prelude.{ℕ, ◌≡◌, refl, true, false, List, [], ◌∷◌, map}
use Rattle.definitions.specs.Text.{ascii}
use Rattle.definitions.specs.Stop.{go}
use Rattle.definitions.specs.Book.{Literal, Positive, Clause, want_of, write}
use Rattle.definitions.specs.Logic.{NoMoreSolutions, QuantumExceeded, NegativeCycle}
use Rattle.definitions.specs.Turn.{Ending, found, fail, stopped}
use Rattle.definitions.specs.Calls.{Call, opens, searches, peeks, asks_future, Reply, refusal, table, searched, peeked, future}
use Rattle.papers.specs.Cases.{Case, run_on, listed, replied, pos, neg, rule, fact, unproved, one_rule}
use Rattle.papers.specs.Cases.{inductive, coinductive, floundered, yes_answer}

-- Notation, beside that of the first table.

-- a literal that wants a variant, and one that is outsized
abbrev pub want : (goal variant : ℕ) → Literal
want g v = Positive g (want_of v) false

abbrev pub outsized : (goal variant : ℕ) → Literal
outsized g v = Positive g (want_of v) true

-- a clause that cannot prove, and one with an outsized answer
abbrev pub doubtful : (variant : ℕ) → List Literal → Clause
doubtful v ls = record { variant = v; cannot_prove = true; outsized = false; literals = ls }

abbrev pub outsized_rule : (variant : ℕ) → List Literal → Clause
outsized_rule v ls = record { variant = v; cannot_prove = false; outsized = true; literals = ls }

abbrev pub yes : ℕ → Ending
yes v = found (yes_answer v)

abbrev pub maybe : ℕ → Ending
maybe v = found (record { variant = v; ambiguous = true })

abbrev pub again : Ending
again = fail QuantumExceeded

abbrev pub no_more : Ending
no_more = fail NoMoreSolutions

-- a call and what it says
pub record Said : Type 0 where
  pub asked : Call
  pub reply : Reply

infix 70 ◌gets◌
abbrev pub ◌gets◌ : Call → Reply → Said
◌gets◌ c r = record { asked = c; reply = r }

abbrev pub said : List ℕ → (clock_limit : ℕ) → List Said → Case
said book limit ss = replied book limit (map (λ (s : Said). s.asked) ss) (map (λ (s : Said). s.reply) ss)

-- The books, each with what it says: `?` marks a clause that cannot prove, `!` what is outsized.

-- 0/4 :- 1/2.  1/1.  1/2.  2/5 :- 3/2.  3.  4 :- 5/2.  5/1.
abbrev pub wants : List ℕ
wants = write (
    inductive (rule 4 (want 1 2 ∷ []) ∷ [])
    ∷ inductive (fact 1 ∷ fact 2 ∷ [])
    ∷ inductive (rule 5 (want 3 2 ∷ []) ∷ [])
    ∷ inductive (fact 0 ∷ [])
    ∷ inductive (one_rule (want 5 2) ∷ [])
    ∷ inductive (fact 1 ∷ [])
    ∷ [])

-- 0/4 :- 1/2.  1/1.  1/2.
abbrev pub misfit : List ℕ
misfit = write (inductive (rule 4 (want 1 2 ∷ []) ∷ []) ∷ inductive (fact 1 ∷ fact 2 ∷ []) ∷ [])

-- 0/1 :- 1.  0/2 :- 1.  1/3.  1/4.
abbrev pub two_variants : List ℕ
two_variants = write (inductive (rule 1 (pos 1 ∷ []) ∷ rule 2 (pos 1 ∷ []) ∷ []) ∷ inductive (fact 3 ∷ fact 4 ∷ []) ∷ [])

-- 0/1.  0/2.  0/3.
abbrev pub three_facts : List ℕ
three_facts = write (inductive (fact 1 ∷ fact 2 ∷ fact 3 ∷ []) ∷ [])

-- 0/1?.  0/2.  0/3?.
abbrev pub one_may_be_taken : List ℕ
one_may_be_taken = write (inductive (unproved 1 ∷ fact 2 ∷ unproved 3 ∷ []) ∷ [])

-- 0 :- not 1, 2.  2?.
abbrev pub unproved_not : List ℕ
unproved_not = write (inductive (rule 0 (neg 1 ∷ pos 2 ∷ []) ∷ []) ∷ inductive [] ∷ inductive (unproved 0 ∷ []) ∷ [])

-- 0/1 :- not 1, 2.  0?.  1 :- 0.  2?.
abbrev pub ambiguous_not : List ℕ
ambiguous_not = write (
    inductive (rule 1 (neg 1 ∷ pos 2 ∷ []) ∷ unproved 0 ∷ [])
    ∷ inductive (one_rule (pos 0) ∷ [])
    ∷ inductive (unproved 0 ∷ [])
    ∷ [])

-- 0 :- 3, 2, 1.  1?.  2.  3?.
abbrev pub reconsidered : List ℕ
reconsidered = write (
    inductive (rule 0 (pos 3 ∷ pos 2 ∷ pos 1 ∷ []) ∷ [])
    ∷ inductive (unproved 0 ∷ [])
    ∷ inductive (fact 0 ∷ [])
    ∷ inductive (unproved 0 ∷ [])
    ∷ [])

-- 0 :- 1.  1? :- 0.  2? :- not 1.  (0 and 1 coinductive)
abbrev pub delayed_and_ambiguous : List ℕ
delayed_and_ambiguous = write (
    coinductive (one_rule (pos 1) ∷ [])
    ∷ coinductive (doubtful 0 (pos 0 ∷ []) ∷ [])
    ∷ inductive (doubtful 0 (neg 1 ∷ []) ∷ [])
    ∷ [])

-- 0 :- 1/2, 0, 0, 0, 0.  1/1 :- 0, 0, 0, 0, 0.  (0 and 1 coinductive)
abbrev pub nine_delayed : List ℕ
nine_delayed = write (
    coinductive (rule 0 (want 1 2 ∷ pos 0 ∷ pos 0 ∷ pos 0 ∷ pos 0 ∷ []) ∷ [])
    ∷ coinductive (rule 1 (pos 0 ∷ pos 0 ∷ pos 0 ∷ pos 0 ∷ pos 0 ∷ []) ∷ [])
    ∷ [])

-- 0! :- not 1.  1 floundered.
abbrev pub outsized_over_floundered : List ℕ
outsized_over_floundered = write (inductive (outsized_rule 0 (neg 1 ∷ []) ∷ []) ∷ floundered ∷ [])

-- 0 :- 1/2!, 1/3!, 1, 1!.  1.
abbrev pub three_floundered : List ℕ
three_floundered = write (
    inductive (rule 0 (outsized 1 2 ∷ outsized 1 3 ∷ pos 1 ∷ outsized 1 0 ∷ []) ∷ [])
    ∷ inductive (fact 0 ∷ [])
    ∷ [])

-- 0/1 :- not 1, 5/7, 6, 4, 3.  0?.  1 :- 2, 0.  3?.  4.  5/5?.  6?.
abbrev pub order_after_return : List ℕ
order_after_return = write (
    inductive (rule 1 (neg 1 ∷ want 5 7 ∷ pos 6 ∷ pos 4 ∷ pos 3 ∷ []) ∷ unproved 0 ∷ [])
    ∷ inductive (rule 0 (pos 2 ∷ pos 0 ∷ []) ∷ [])
    ∷ inductive []
    ∷ inductive (unproved 0 ∷ [])
    ∷ inductive (fact 0 ∷ [])
    ∷ inductive (unproved 5 ∷ [])
    ∷ inductive (unproved 0 ∷ [])
    ∷ [])

-- 0 :- not 1.  1 :- not 2.  2? :- not 0.
abbrev pub cycle_of_nots : List ℕ
cycle_of_nots = write (
    inductive (one_rule (neg 1) ∷ [])
    ∷ inductive (one_rule (neg 2) ∷ [])
    ∷ inductive (doubtful 0 (neg 0 ∷ []) ∷ [])
    ∷ [])

-- The table.

abbrev pub more_cases : List Case
more_cases =
    -- Wants: 1/2 fits and 1/1 doesn't; an answer as a whole, of 3, fits any want; goal 4 wants what 5 hasn't
    listed wants
    (ascii "0 0 yes 4\n0 1 none\n1 0 yes 1\n1 1 yes 2\n1 2 none\n2 0 yes 5\n2 1 none\n3 0 yes 0\n3 1 none\n4 0 none\n5 0 yes 1\n5 1 none\n")
    -- a misfit ends the search, and its strand; the copy for the next answer goes on
    ∷ said misfit 1000
    (opens 0 gets table (go 0)
    ∷ searches 0 0 50 gets searched again 3
    ∷ searches 0 0 50 gets searched (yes 4) 4
    ∷ searches 0 1 50 gets searched again 2
    ∷ searches 0 1 50 gets searched no_more 1
    ∷ [])
    -- Two variants over two: each answer of 0 comes twice, and is stored once
    ∷ said two_variants 1000
    (opens 0 gets table (go 0)
    ∷ searches 0 0 50 gets searched (yes 1) 4
    ∷ searches 0 1 50 gets searched (yes 2) 2
    ∷ searches 0 2 50 gets searched again 4
    ∷ searches 0 2 50 gets searched again 2
    ∷ searches 0 2 50 gets searched again 2
    ∷ searches 0 2 50 gets searched again 2
    ∷ searches 0 2 50 gets searched no_more 1
    ∷ [])
    -- `any_future_answer`: of the answers those from the index on, of the queue all; one not made, and on a marked forest
    ∷ said three_facts 2
    (asks_future 0 0 1 gets refusal 10
    ∷ opens 0 gets table (go 0)
    ∷ asks_future 0 0 1 gets future true
    ∷ asks_future 0 5 1 gets future true
    ∷ searches 0 0 50 gets searched (yes 1) 1
    ∷ asks_future 0 0 1 gets future true
    ∷ asks_future 0 1 1 gets future false
    ∷ asks_future 0 1 2 gets future true
    ∷ searches 0 1 50 gets searched (yes 2) 1
    ∷ asks_future 0 0 2 gets future true
    ∷ asks_future 0 1 2 gets future true
    ∷ asks_future 0 2 2 gets future false
    ∷ asks_future 0 2 3 gets future true
    ∷ asks_future 0 0 0 gets future false
    ∷ searches 0 2 50 gets searched (stopped 21) 0
    ∷ asks_future 0 2 3 gets future true
    ∷ asks_future 1 0 1 gets refusal 10
    ∷ [])
    -- Taking b from a, b, c leaves c, a: in Complete mode only 2 may be taken; then comes 3, then 1
    ∷ listed one_may_be_taken
    (ascii "0 0 yes 2\n0 1 maybe 3\n0 2 maybe 1\n0 3 none\n")
    -- Answer time does not rise on a "not" that fails to be proved: 2, which floundered at time 0, does not return
    ∷ said unproved_not 1000
    (opens 0 gets table (go 0)
    ∷ searches 0 0 50 gets searched again 2
    ∷ searches 0 0 50 gets searched again 6
    ∷ searches 0 0 50 gets searched again 1
    ∷ searches 0 0 50 gets searched (maybe 0) 1
    ∷ [])
    -- nor on one whose goal is ambiguous, met in Ambiguous mode; 2 floundered in Complete mode, the cycle over 1 changed it
    ∷ said ambiguous_not 1000
    (opens 0 gets table (go 0)
    ∷ searches 0 0 50 gets searched again 2
    ∷ searches 0 0 50 gets searched again 6
    ∷ searches 0 0 50 gets searched again 4
    ∷ searches 0 0 50 gets searched (maybe 0) 1
    ∷ searches 0 1 50 gets searched (maybe 1) 5
    ∷ [])
    -- Reconsidered: 1 floundered before 2 was answered and returns, 3 floundered after it and doesn't
    ∷ said reconsidered 1000
    (opens 0 gets table (go 0)
    ∷ searches 0 0 50 gets searched again 2
    ∷ searches 0 0 50 gets searched again 8
    ∷ searches 0 0 50 gets searched again 5
    ∷ searches 0 0 50 gets searched again 1
    ∷ searches 0 0 50 gets searched (maybe 0) 1
    ∷ [])
    -- 27 also where the answer with delayed goals is ambiguous: a "not" meets it in Ambiguous mode
    ∷ said delayed_and_ambiguous 1000
    (opens 0 gets table (go 0)
    ∷ searches 0 0 50 gets searched again 2
    ∷ searches 0 0 50 gets searched again 5
    ∷ searches 0 0 50 gets searched again 1
    ∷ searches 0 0 50 gets searched (maybe 0) 1
    ∷ opens 2 gets table (go 2)
    ∷ searches 2 0 50 gets searched again 1
    ∷ searches 2 0 50 gets searched (stopped 27) 0
    ∷ searches 2 0 50 gets refusal 20
    ∷ [])
    -- 24 in a merge comes after the fit: a misfit whose delayed goals would be nine
    ∷ said nine_delayed 1000
    (opens 0 gets table (go 0)
    ∷ searches 0 0 50 gets searched again 12
    ∷ searches 0 0 50 gets searched again 2
    ∷ peeks 0 0 5 50 gets peeked no_more 0 1 0
    ∷ peeks 1 0 5 50 gets peeked no_more 1 1 0
    ∷ [])
    -- 25 comes before the test for outsized
    ∷ said outsized_over_floundered 1000
    (opens 0 gets table (go 0)
    ∷ peeks 0 0 9 50 gets peeked (stopped 25) 0 0 0
    ∷ [])
    -- Of three floundered literals, outsized here, the first returns, and the last takes its place
    ∷ said three_floundered 1000
    (opens 0 gets table (go 0)
    ∷ searches 0 0 50 gets searched again 4
    ∷ peeks 0 0 9 50 gets peeked (maybe 0) 0 1 1
    ∷ [])
    -- seen in the turns: 3 returns when "not 1" holds, then 5 before 6, and 5 doesn't fit (the search of 4 turns at index 1)
    ∷ said order_after_return 1000
    (opens 0 gets table (go 0)
    ∷ peeks 0 0 9 50 gets peeked (maybe 0) 0 1 5
    ∷ searches 0 1 50 gets searched again 4
    ∷ searches 0 1 50 gets searched again 4
    ∷ searches 0 1 50 gets searched again 2
    ∷ searches 0 1 50 gets searched no_more 1
    ∷ [])
    -- A part of a cycle through "not" takes the lesser of both minimums
    ∷ said cycle_of_nots 1000
    (opens 0 gets table (go 0)
    ∷ peeks 0 0 50 50 gets peeked (fail NegativeCycle) 0 6 3
    ∷ opens 1 gets table (go 1)
    ∷ peeks 1 0 1 50 gets peeked (fail NegativeCycle) 0 6 0
    ∷ [])
    -- the last round of a peek is counted too
    ∷ said cycle_of_nots 1000
    (opens 0 gets table (go 0)
    ∷ peeks 0 0 1 50 gets peeked again 0 3 1
    ∷ peeks 0 0 2 50 gets peeked again 0 6 2
    ∷ peeks 0 0 50 50 gets peeked (fail NegativeCycle) 0 6 0
    ∷ [])
    ∷ []

pub more_cases_agree : map (λ (c : Case). run_on c.book c.run) more_cases ≡ map (λ (c : Case). c.gives) more_cases
more_cases_agree = refl

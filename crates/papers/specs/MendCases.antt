-- A seventh table of cases: papers as bytes, and what mending gives for each, its new bytes and the lines about the clauses that went, or
-- the number that it is refused by (change request 11).
use Rattle.std.specs.Prelude.{ℕ, zero, suc, ◌≡◌, refl, true, false, List, [], ◌∷◌, ◌++◌, map}
use Rattle.definitions.specs.Text.{ascii, decimal}
use Rattle.definitions.specs.Refusal.{Refusable, refused, accepted}
use Rattle.definitions.specs.Book.{any, exactly, Positive, Negative, Clause, Goal, write}
use Rattle.papers.specs.Mend.{Mended, mend}
use Rattle.papers.specs.Cases.{pos, neg, rule, fact, unproved, one_rule, inductive, coinductive, floundered}
use Rattle.papers.specs.RangeCases.{range}
use Rattle.papers.specs.LevelCases.{none_of, by}
use Rattle.papers.specs.XsbCases.{times}

pub record MendCase : Type 0 where
  pub bytes : List ℕ
  pub gives : Refusable Mended

abbrev pub mends : (bytes new lines : List ℕ) → MendCase
mends bytes new ls = record { bytes = bytes; gives = accepted (record { bytes = new; lines = ls }) }

-- a paper that is left as it is, with no line
abbrev pub stays_as : (bytes : List ℕ) → MendCase
stays_as bytes = mends bytes bytes []

-- by what its books say
abbrev pub mends_to : (old new : List Goal) → (lines : List ℕ) → MendCase
mends_to old new ls = mends (write old) (write new) ls

abbrev pub not_mended : (number : ℕ) → (bytes : List ℕ) → MendCase
not_mended n bytes = record { bytes = bytes; gives = refused n }

-- Papers by their bytes.

-- bytes behind a fact that stands twice and `0 :- 5`
abbrev pub behind_both : List ℕ → List ℕ
behind_both bytes =
    0x47 ∷ 0x00 ∷ 0x43 ∷ 0x00 ∷ 0x00 ∷ 0x00 ∷ 0x43 ∷ 0x00 ∷ 0x00 ∷ 0x00
    ∷ 0x43 ∷ 0x00 ∷ 0x00 ∷ 0x00 ∷ 0x50 ∷ 0x05 ∷ 0x00 ∷ 0x00 ∷ 0x00 ∷ 0x00 ∷ bytes

abbrev pub by_bytes : List MendCase
by_bytes =
    -- a fact twice
    mends
    (0x47 ∷ 0x00 ∷ 0x43 ∷ 0x00 ∷ 0x00 ∷ 0x00 ∷ 0x43 ∷ 0x00 ∷ 0x00 ∷ 0x00 ∷ 0x45 ∷ [])
    (0x47 ∷ 0x00 ∷ 0x43 ∷ 0x00 ∷ 0x00 ∷ 0x00 ∷ 0x45 ∷ [])
    (ascii "0 1 36\n")
    -- 0.  0/1.  0.  0.
    ∷ mends
    (0x47 ∷ 0x00 ∷ 0x43 ∷ 0x00 ∷ 0x00 ∷ 0x00 ∷ 0x43 ∷ 0x01 ∷ 0x00 ∷ 0x00
    ∷ 0x43 ∷ 0x00 ∷ 0x00 ∷ 0x00 ∷ 0x43 ∷ 0x00 ∷ 0x00 ∷ 0x00 ∷ 0x45 ∷ [])
    (0x47 ∷ 0x00 ∷ 0x43 ∷ 0x00 ∷ 0x00 ∷ 0x00 ∷ 0x43 ∷ 0x01 ∷ 0x00 ∷ 0x00 ∷ 0x45 ∷ [])
    (ascii "0 2 36\n0 3 36\n")
    -- 0 :- 5.  0.
    ∷ mends
    (0x47 ∷ 0x00 ∷ 0x43 ∷ 0x00 ∷ 0x00 ∷ 0x00 ∷ 0x50 ∷ 0x05 ∷ 0x00 ∷ 0x00 ∷ 0x00 ∷ 0x00 ∷ 0x43 ∷ 0x00 ∷ 0x00 ∷ 0x00 ∷ 0x45 ∷ [])
    (0x47 ∷ 0x00 ∷ 0x43 ∷ 0x00 ∷ 0x00 ∷ 0x00 ∷ 0x45 ∷ [])
    (ascii "0 0 6\n")
    -- 0 :- 5.  0 :- 5.  The second has both reasons, and 6 is told.
    ∷ mends
    (0x47 ∷ 0x00 ∷ 0x43 ∷ 0x00 ∷ 0x00 ∷ 0x00 ∷ 0x50 ∷ 0x05 ∷ 0x00 ∷ 0x00 ∷ 0x00 ∷ 0x00
    ∷ 0x43 ∷ 0x00 ∷ 0x00 ∷ 0x00 ∷ 0x50 ∷ 0x05 ∷ 0x00 ∷ 0x00 ∷ 0x00 ∷ 0x00 ∷ 0x45 ∷ [])
    (0x47 ∷ 0x00 ∷ 0x45 ∷ [])
    (ascii "0 0 6\n0 1 6\n")
    -- a literal behind a later goal: it stays there, or goes with its clause
    ∷ stays_as
    (0x47 ∷ 0x00 ∷ 0x43 ∷ 0x00 ∷ 0x00 ∷ 0x00 ∷ 0x47 ∷ 0x00 ∷ 0x50 ∷ 0x00 ∷ 0x00 ∷ 0x00 ∷ 0x00 ∷ 0x00 ∷ 0x45 ∷ [])
    ∷ mends
    (0x47 ∷ 0x00 ∷ 0x43 ∷ 0x00 ∷ 0x00 ∷ 0x00 ∷ 0x47 ∷ 0x00 ∷ 0x50 ∷ 0x09 ∷ 0x00 ∷ 0x00 ∷ 0x00 ∷ 0x00 ∷ 0x45 ∷ [])
    (0x47 ∷ 0x00 ∷ 0x47 ∷ 0x00 ∷ 0x45 ∷ [])
    (ascii "0 0 6\n")
    -- 0 :- 0.  0 :- 0, of which the second's literal stands behind two later goals
    ∷ mends
    (0x47 ∷ 0x00 ∷ 0x43 ∷ 0x00 ∷ 0x00 ∷ 0x00 ∷ 0x50 ∷ 0x00 ∷ 0x00 ∷ 0x00 ∷ 0x00 ∷ 0x00 ∷ 0x43 ∷ 0x00 ∷ 0x00 ∷ 0x00
    ∷ 0x47 ∷ 0x01 ∷ 0x47 ∷ 0x02 ∷ 0x50 ∷ 0x00 ∷ 0x00 ∷ 0x00 ∷ 0x00 ∷ 0x00 ∷ 0x45 ∷ [])
    (0x47 ∷ 0x00 ∷ 0x43 ∷ 0x00 ∷ 0x00 ∷ 0x00 ∷ 0x50 ∷ 0x00 ∷ 0x00 ∷ 0x00 ∷ 0x00 ∷ 0x00 ∷ 0x47 ∷ 0x01 ∷ 0x47 ∷ 0x02 ∷ 0x45 ∷ [])
    (ascii "0 1 36\n")
    -- the literals of one clause before and behind a goal, two of the three defined; then a clause that stays, with its own behind a goal
    ∷ mends
    (0x47 ∷ 0x00 ∷ 0x43 ∷ 0x00 ∷ 0x00 ∷ 0x00 ∷ 0x50 ∷ 0x00 ∷ 0x00 ∷ 0x00 ∷ 0x00 ∷ 0x00 ∷ 0x47 ∷ 0x00
    ∷ 0x52 ∷ 0x03 ∷ 0x00 ∷ 0x01 ∷ 0x00 ∷ 0x02 ∷ 0x00 ∷ 0x00 ∷ 0x4E ∷ 0x01 ∷ 0x00 ∷ 0x00
    ∷ 0x43 ∷ 0x00 ∷ 0x00 ∷ 0x00 ∷ 0x47 ∷ 0x00 ∷ 0x4E ∷ 0x02 ∷ 0x00 ∷ 0x01 ∷ 0x45 ∷ [])
    (0x47 ∷ 0x00 ∷ 0x47 ∷ 0x00 ∷ 0x43 ∷ 0x00 ∷ 0x00 ∷ 0x00 ∷ 0x47 ∷ 0x00 ∷ 0x4E ∷ 0x02 ∷ 0x00 ∷ 0x01 ∷ 0x45 ∷ [])
    (ascii "0 0 6\n")
    -- operands that are the bytes of commands
    ∷ mends
    (0x47 ∷ 0x00 ∷ 0x43 ∷ 0x43 ∷ 0x45 ∷ 0x00 ∷ 0x43 ∷ 0x47 ∷ 0x50 ∷ 0x00 ∷ 0x52 ∷ 0x45 ∷ 0x45 ∷ 0x43 ∷ 0x00 ∷ 0x45 ∷ 0x47 ∷ 0x00
    ∷ 0x43 ∷ 0x43 ∷ 0x45 ∷ 0x00 ∷ 0x45 ∷ [])
    (0x47 ∷ 0x00 ∷ 0x43 ∷ 0x43 ∷ 0x45 ∷ 0x00 ∷ 0x45 ∷ [])
    (ascii "0 1 6\n0 2 36\n")
    -- 0 :- 0/3.  0 :- 0/3-3.
    ∷ stays_as
    (0x47 ∷ 0x00 ∷ 0x43 ∷ 0x00 ∷ 0x00 ∷ 0x00 ∷ 0x50 ∷ 0x00 ∷ 0x00 ∷ 0x03 ∷ 0x00 ∷ 0x00
    ∷ 0x43 ∷ 0x00 ∷ 0x00 ∷ 0x00 ∷ 0x52 ∷ 0x00 ∷ 0x00 ∷ 0x03 ∷ 0x00 ∷ 0x03 ∷ 0x00 ∷ 0x00 ∷ 0x45 ∷ [])
    -- 9 literals, the first of an undefined goal
    ∷ not_mended 5
    (0x47 ∷ 0x00 ∷ 0x43 ∷ 0x00 ∷ 0x00 ∷ 0x00 ∷ 0x50 ∷ 0x09 ∷ 0x00 ∷ 0x00 ∷ 0x00 ∷ 0x00
    ∷ (times 8 (0x50 ∷ 0x00 ∷ 0x00 ∷ 0x00 ∷ 0x00 ∷ 0x00 ∷ []) ++ (0x45 ∷ [])))
    -- no end, no bytes
    ∷ not_mended 1 (0x47 ∷ 0x00 ∷ [])
    ∷ not_mended 1 []
    -- a command that isn't one, a clause without a goal, a literal without a clause, flags, and no goal
    ∷ not_mended 2 (0x47 ∷ 0x00 ∷ 0x46 ∷ 0x45 ∷ [])
    ∷ not_mended 3 (0x43 ∷ 0x00 ∷ 0x00 ∷ 0x00 ∷ 0x45 ∷ [])
    ∷ not_mended 3 (0x47 ∷ 0x00 ∷ 0x50 ∷ 0x05 ∷ 0x00 ∷ 0x00 ∷ 0x00 ∷ 0x00 ∷ 0x45 ∷ [])
    ∷ not_mended 4 (0x47 ∷ 0x04 ∷ 0x45 ∷ [])
    ∷ not_mended 8 (0x45 ∷ [])
    -- every other number comes before 6 and 36
    ∷ mends (behind_both (0x45 ∷ [])) (0x47 ∷ 0x00 ∷ 0x43 ∷ 0x00 ∷ 0x00 ∷ 0x00 ∷ 0x45 ∷ []) (ascii "0 1 36\n0 2 6\n")
    ∷ not_mended 1 (behind_both [])
    ∷ not_mended 1 (behind_both (0x43 ∷ 0x00 ∷ []))
    ∷ not_mended 2 (behind_both (0x00 ∷ []))
    ∷ not_mended 4 (behind_both (0x43 ∷ 0x00 ∷ 0x00 ∷ 0x04 ∷ 0x45 ∷ []))
    ∷ not_mended 4 (behind_both (0x4E ∷ 0x05 ∷ 0x00 ∷ 0x02 ∷ 0x45 ∷ []))
    ∷ not_mended 32 (behind_both (0x52 ∷ 0x05 ∷ 0x00 ∷ 0x03 ∷ 0x00 ∷ 0x02 ∷ 0x00 ∷ 0x00 ∷ 0x45 ∷ []))
    ∷ not_mended 7 (behind_both (0x45 ∷ 0x00 ∷ []))
    ∷ []

-- Papers by what they say.

-- 8 literals, the last of which is of that goal
abbrev pub eight : ℕ → Clause
eight g = rule 0 (pos 0 ∷ neg 0 ∷ pos 0 ∷ range 0 1 2 ∷ pos 0 ∷ pos 0 ∷ pos 0 ∷ pos g ∷ [])

-- clauses that differ in one thing alone: variant, a flag, the literals, their order, a want, a literal's flag
abbrev pub unlike : List Clause
unlike =
    fact 0 ∷ fact 256 ∷ unproved 0 ∷ record { variant = 0; cannot_prove = false; outsized = true; literals = [] }
    ∷ rule 0 (pos 0 ∷ []) ∷ rule 0 (pos 0 ∷ pos 0 ∷ []) ∷ rule 0 (pos 0 ∷ neg 0 ∷ []) ∷ rule 0 (neg 0 ∷ pos 0 ∷ [])
    ∷ one_rule (range 0 0 65535) ∷ one_rule (range 0 3 3) ∷ one_rule (Positive 0 (exactly 3) false)
    ∷ one_rule (Positive 0 any true) ∷ one_rule (neg 0) ∷ one_rule (Negative 0 true) ∷ []

-- facts of as many variants
abbrev pub facts : ℕ → List Clause
facts zero = []
facts (suc n) = fact n ∷ facts n

-- goals without a clause, before others
abbrev pub nones : ℕ → List Goal → List Goal
nones zero gs = gs
nones (suc n) gs = none_of ∷ nones n gs

-- clauses i and the n - 1 behind it, which are all the same as one before
abbrev pub again_from : (i n : ℕ) → List ℕ
again_from i zero = []
again_from i (suc n) = ascii "0 " ++ (decimal i ++ (ascii " 36\n" ++ again_from (suc i) n))

abbrev pub by_books : List MendCase
by_books =
    -- nothing to mend: a goal alone; clauses that are all unlike; the same one in two goals; a literal of the last goal, before it
    stays_as (write (none_of ∷ []))
    ∷ stays_as (write (inductive unlike ∷ []))
    ∷ stays_as (write (by (fact 0) ∷ by (fact 0) ∷ []))
    ∷ stays_as (write (inductive (one_rule (pos 1) ∷ one_rule (neg 1) ∷ one_rule (pos 0) ∷ []) ∷ by (one_rule (pos 1)) ∷ []))
    -- a literal of the goal behind the last is undefined: "not", a range and a want too
    ∷ mends_to
    (inductive (one_rule (pos 2) ∷ one_rule (pos 1) ∷ one_rule (neg 2) ∷ one_rule (range 2 0 1) ∷ one_rule (Positive 2 (exactly 1) true)
    ∷ fact 3 ∷ []) ∷ none_of ∷ [])
    (inductive (one_rule (pos 1) ∷ fact 3 ∷ []) ∷ none_of ∷ [])
    (ascii "0 0 6\n0 2 6\n0 3 6\n0 4 6\n")
    -- 261 is not 5, though their low bytes are the same
    ∷ mends_to (nones 5 (inductive (one_rule (pos 261) ∷ one_rule (pos 5) ∷ []) ∷ [])) (nones 5 (by (one_rule (pos 5)) ∷ []))
    (ascii "5 0 6\n")
    ∷ mends_to (inductive (one_rule (pos 261) ∷ one_rule (pos 5) ∷ []) ∷ nones 5 []) (by (one_rule (pos 5)) ∷ nones 5 []) (ascii "0 0 6\n")
    ∷ mends_to (by (one_rule (neg 65535)) ∷ nones 63 []) (nones 64 []) (ascii "0 0 6\n")
    -- 8 literals, of which the last is undefined, or none is
    ∷ mends_to (inductive (eight 0 ∷ eight 2 ∷ fact 0 ∷ eight 0 ∷ eight 1 ∷ []) ∷ none_of ∷ [])
    (inductive (eight 0 ∷ fact 0 ∷ eight 1 ∷ []) ∷ none_of ∷ [])
    (ascii "0 1 6\n0 3 36\n")
    -- a goal that loses all clauses stays, with its flags
    ∷ mends_to (coinductive (one_rule (pos 9) ∷ []) ∷ floundered ∷ by (one_rule (neg 3)) ∷ []) (coinductive [] ∷ floundered ∷ none_of ∷ [])
    (ascii "0 0 6\n2 0 6\n")
    -- the numbers are those of the old paper: behind clauses that went, and anew in each goal
    ∷ mends_to
    (inductive (one_rule (pos 7) ∷ fact 0 ∷ fact 0 ∷ fact 1 ∷ one_rule (pos 7) ∷ fact 0 ∷ fact 1 ∷ []) ∷ none_of
    ∷ inductive (fact 1 ∷ fact 0 ∷ fact 1 ∷ []) ∷ [])
    (inductive (fact 0 ∷ fact 1 ∷ []) ∷ none_of ∷ inductive (fact 1 ∷ fact 0 ∷ []) ∷ [])
    (ascii "0 0 6\n0 2 36\n0 4 6\n0 5 36\n0 6 36\n2 2 36\n")
    -- numbers of two digits: 12 goals, the clauses 10 to 13 of goal 10, and one of goal 11
    ∷ mends_to
    (by (one_rule (pos 12)) ∷ nones 9 (inductive (facts 10 ++ (fact 0 ∷ fact 10 ∷ one_rule (neg 12) ∷ fact 9 ∷ []))
    ∷ inductive (fact 0 ∷ one_rule (pos 11) ∷ one_rule (pos 10) ∷ one_rule (pos 11) ∷ []) ∷ []))
    (nones 10 (inductive (facts 10 ++ (fact 10 ∷ [])) ∷ inductive (fact 0 ∷ one_rule (pos 11) ∷ one_rule (pos 10) ∷ []) ∷ []))
    (ascii "0 0 6\n10 10 36\n10 12 6\n10 13 36\n11 3 36\n")
    -- as many clauses as there may be, all the same; and one more
    ∷ mends (0x47 ∷ 0x00 ∷ (times 256 (0x43 ∷ 0x00 ∷ 0x00 ∷ 0x00 ∷ []) ++ (0x45 ∷ []))) (write (by (fact 0) ∷ [])) (again_from 1 255)
    ∷ not_mended 5 (0x47 ∷ 0x00 ∷ (times 257 (0x43 ∷ 0x00 ∷ 0x00 ∷ 0x00 ∷ []) ++ (0x45 ∷ [])))
    -- 65 goals
    ∷ not_mended 5 (write (inductive (fact 0 ∷ fact 0 ∷ []) ∷ nones 64 []))
    ∷ []

abbrev pub mend_cases : List MendCase
mend_cases = by_bytes ++ by_books

pub mend_cases_agree : map (λ (c : MendCase). mend c.bytes) mend_cases ≡ map (λ (c : MendCase). c.gives) mend_cases
mend_cases_agree = refl

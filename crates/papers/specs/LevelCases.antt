-- A fifth table of cases: books, and what the check of a paper gives for each, its least levels or the number that it is refused by
-- (change request 12).
use Rattle.std.specs.Prelude.{ℕ, zero, suc, ◌≡◌, refl, true, false, List, [], ◌∷◌, map}
use Rattle.definitions.specs.Refusal.{Refusable, refused, accepted}
use Rattle.definitions.specs.Book.{any, exactly, Positive, Negative, Clause, Goal, write}
use Rattle.papers.specs.Levels.{check_levels}
use Rattle.papers.specs.Cases.{pos, neg, rule, fact, unproved, one_rule, inductive, coinductive, floundered, p1}
use Rattle.papers.specs.RangeCases.{range}

pub record LevelCase : Type 0 where
  pub bytes : List ℕ
  pub gives : Refusable (List ℕ)

abbrev pub levelled : List Goal → (levels : List ℕ) → LevelCase
levelled book ls = record { bytes = write book; gives = accepted ls }

abbrev pub refused_with : (number : ℕ) → List Goal → LevelCase
refused_with n book = record { bytes = write book; gives = refused n }

-- a goal without a clause
abbrev pub none_of : Goal
none_of = inductive []

-- a goal with one clause
abbrev pub by : Clause → Goal
by c = inductive (c ∷ [])

-- goals g to 63 of a chain: each is the "not" of the next, and the last is a fact
abbrev pub chain : (g left : ℕ) → List Goal
chain g zero = by (fact 0) ∷ []
chain g (suc left) = by (one_rule (neg (suc g))) ∷ chain (suc g) left

abbrev pub down_from : ℕ → List ℕ
down_from zero = 0 ∷ []
down_from (suc n) = suc n ∷ down_from n

-- a clause of goal 0 that stands in a book of two goals, the other of which is a fact
abbrev pub with_fact : Clause → List Goal
with_fact c = by c ∷ by (fact 0) ∷ []

abbrev pub level_cases : List LevelCase
level_cases =
    -- levels: "not" raises, a positive cycle doesn't; a goal without a clause has 0
    levelled (by (rule 0 (pos 1 ∷ neg 2 ∷ [])) ∷ by (fact 0) ∷ by (one_rule (pos 2)) ∷ []) (1 ∷ 0 ∷ 0 ∷ [])
    ∷ levelled (by (one_rule (pos 1)) ∷ by (one_rule (pos 0)) ∷ []) (0 ∷ 0 ∷ [])
    ∷ levelled (by (rule 0 (neg 2 ∷ neg 1 ∷ [])) ∷ by (one_rule (neg 2)) ∷ none_of ∷ []) (2 ∷ 1 ∷ 0 ∷ [])
    -- a cycle that is raised from outside, by the second clause of one of its goals
    ∷ levelled (by (one_rule (pos 1)) ∷ inductive (one_rule (pos 0) ∷ one_rule (neg 2) ∷ []) ∷ by (one_rule (neg 3)) ∷ none_of ∷ [])
    (2 ∷ 2 ∷ 1 ∷ 0 ∷ [])
    ∷ levelled (chain 0 63) (down_from 63)
    ∷ levelled (none_of ∷ []) (0 ∷ [])
    -- a cycle through "not": of one goal, of two, and one that comes to a goal twice
    ∷ refused_with 38 (by (one_rule (neg 0)) ∷ [])
    ∷ refused_with 38 (by (one_rule (pos 1)) ∷ by (one_rule (neg 0)) ∷ [])
    ∷ refused_with 38 (by (one_rule (pos 1)) ∷ by (rule 0 (pos 2 ∷ pos 0 ∷ [])) ∷ by (one_rule (neg 1)) ∷ [])
    -- what is not plain: variants, wants, ranges, and each flag
    ∷ record { bytes = p1; gives = refused 37 }
    ∷ refused_with 37 (by (fact 1) ∷ [])
    ∷ refused_with 37 (with_fact (one_rule (Positive 1 (exactly 3) false)))
    ∷ refused_with 37 (with_fact (one_rule (range 1 0 65535)))
    ∷ refused_with 37 (with_fact (one_rule (Positive 1 any true)))
    ∷ refused_with 37 (with_fact (one_rule (Negative 1 true)))
    ∷ refused_with 37 (by (unproved 0) ∷ [])
    ∷ refused_with 37 (by (record { variant = 0; cannot_prove = false; outsized = true; literals = [] }) ∷ [])
    ∷ refused_with 37 (coinductive [] ∷ [])
    ∷ refused_with 37 (floundered ∷ [])
    -- the desk's numbers come before 37, and 37 before 38
    ∷ refused_with 36 (inductive (fact 0 ∷ fact 0 ∷ []) ∷ [])
    ∷ refused_with 36 (inductive (fact 1 ∷ fact 1 ∷ []) ∷ [])
    ∷ refused_with 6 (by (rule 1 (pos 7 ∷ [])) ∷ [])
    ∷ refused_with 37 (by (rule 1 (neg 0 ∷ [])) ∷ [])
    ∷ record { bytes = []; gives = refused 1 }
    ∷ []

pub level_cases_agree : map (λ (c : LevelCase). check_levels c.bytes) level_cases ≡ map (λ (c : LevelCase). c.gives) level_cases
level_cases_agree = refl

-- A third table of cases, in the form of the first two (`Cases`, `MoreCases`): wants that are ranges, at their edges. Each was run on the
-- Rust, which gave these lines and replies.
use Rattle.std.specs.Prelude.{ℕ, ◌/◌, ◌%◌, ◌≡◌, refl, false, List, [], ◌∷◌, ◌++◌, map}
use Rattle.definitions.specs.Text.{ascii}
use Rattle.definitions.specs.Refusal.{Refusable, refused, accepted}
use Rattle.definitions.specs.Stop.{go}
use Rattle.definitions.specs.Book.{between, Literal, Positive, read, write}
use Rattle.definitions.specs.Calls.{opens, searches, table, searched}
use Rattle.papers.specs.Cases.{Case, run_on, listed, rule, fact, one_rule, inductive}
use Rattle.papers.specs.MoreCases.{yes, again, no_more, ◌gets◌, said}

-- a literal that wants a variant of a range
abbrev pub range : (goal least most : ℕ) → Literal
range g least most = Positive g (between least most) false

-- The books, each with what it says.

-- 0 :- 1/3-7.  1/2.  2 :- 3/3-7.  3/3.  4 :- 5/3-7.  5/7.  6 :- 7/3-7.  7/8.  8 :- 9/3-7.  9.
abbrev pub three_to_seven : List ℕ
three_to_seven = write (
    inductive (one_rule (range 1 3 7) ∷ [])
    ∷ inductive (fact 2 ∷ [])
    ∷ inductive (one_rule (range 3 3 7) ∷ [])
    ∷ inductive (fact 3 ∷ [])
    ∷ inductive (one_rule (range 5 3 7) ∷ [])
    ∷ inductive (fact 7 ∷ [])
    ∷ inductive (one_rule (range 7 3 7) ∷ [])
    ∷ inductive (fact 8 ∷ [])
    ∷ inductive (one_rule (range 9 3 7) ∷ [])
    ∷ inductive (fact 0 ∷ [])
    ∷ [])

-- 0 :- 1/0-0.  1/2.  2 :- 3/0-0.  3.  4 :- 5/65535-65535.  5/65534.  5/65535.  6 :- 7/0-65535.  7/9.
abbrev pub ends : List ℕ
ends = write (
    inductive (one_rule (range 1 0 0) ∷ [])
    ∷ inductive (fact 2 ∷ [])
    ∷ inductive (one_rule (range 3 0 0) ∷ [])
    ∷ inductive (fact 0 ∷ [])
    ∷ inductive (one_rule (range 5 65535 65535) ∷ [])
    ∷ inductive (fact 65534 ∷ fact 65535 ∷ [])
    ∷ inductive (one_rule (range 7 0 65535) ∷ [])
    ∷ inductive (fact 9 ∷ [])
    ∷ [])

-- 0/4 :- 1/3-7.  1/2.  1/3.
abbrev pub misfit_of_range : List ℕ
misfit_of_range = write (inductive (rule 4 (range 1 3 7 ∷ []) ∷ []) ∷ inductive (fact 2 ∷ fact 3 ∷ []) ∷ [])

-- The bytes of commands.

-- a goal, and a clause of it
abbrev pub begun : List ℕ
begun = 0x47 ∷ 0x00 ∷ 0x43 ∷ 0x00 ∷ 0x00 ∷ 0x00 ∷ []

-- 52
abbrev pub ranged : (goal least most flags : ℕ) → List ℕ
ranged goal least most flags = 0x52 ∷ goal % 256 ∷ goal / 256 ∷ least % 256 ∷ least / 256 ∷ most % 256 ∷ most / 256 ∷ flags ∷ []

-- eight literals
abbrev pub eight : List ℕ
eight =
    ranged 0 3 7 0 ++ ranged 0 3 7 0 ++ ranged 0 3 7 0 ++ ranged 0 3 7 0
    ++ ranged 0 3 7 0 ++ ranged 0 3 7 0 ++ ranged 0 3 7 0 ++ ranged 0 3 7 0

abbrev pub end : List ℕ
end = 0x45 ∷ []

-- The table.

abbrev pub range_cases : List Case
range_cases =
    -- 2 and 8 lie outside of 3 to 7, 3 and 7 within, and an answer as a whole fits
    listed three_to_seven
    (ascii "0 0 none\n1 0 yes 2\n1 1 none\n"
    ++ ascii "2 0 yes 0\n2 1 none\n3 0 yes 3\n3 1 none\n"
    ++ ascii "4 0 yes 0\n4 1 none\n5 0 yes 7\n5 1 none\n"
    ++ ascii "6 0 none\n7 0 yes 8\n7 1 none\n"
    ++ ascii "8 0 yes 0\n8 1 none\n9 0 yes 0\n9 1 none\n")
    -- 0 to 0 takes an answer as a whole alone; the largest variant; all of them
    ∷ listed ends
    (ascii "0 0 none\n1 0 yes 2\n1 1 none\n"
    ++ ascii "2 0 yes 0\n2 1 none\n3 0 yes 0\n3 1 none\n"
    ++ ascii "4 0 yes 0\n4 1 none\n5 0 yes 65534\n5 1 yes 65535\n5 2 none\n"
    ++ ascii "6 0 yes 0\n6 1 none\n7 0 yes 9\n7 1 none\n")
    -- a misfit ends the search, and its strand; the copy for the next answer goes on
    ∷ said misfit_of_range 1000
    (opens 0 gets table (go 0)
    ∷ searches 0 0 50 gets searched again 3
    ∷ searches 0 0 50 gets searched (yes 4) 4
    ∷ searches 0 1 50 gets searched again 2
    ∷ searches 0 1 50 gets searched no_more 1
    ∷ [])
    -- 4 to 3 is refused with 32: after 4 and 3, and before 5 and 6
    ∷ listed (begun ++ ranged 0 4 3 0 ++ end) (ascii "refused 32\n")
    ∷ listed (begun ++ ranged 0 65535 0 1 ++ end) (ascii "refused 32\n")
    ∷ listed (begun ++ ranged 0 4 3 2 ++ end) (ascii "refused 4\n")
    ∷ listed (begun ++ eight ++ ranged 0 4 3 0 ++ end) (ascii "refused 32\n")
    ∷ listed (begun ++ ranged 5 4 3 0 ++ end) (ascii "refused 32\n")
    ∷ listed (0x47 ∷ 0x00 ∷ ranged 0 4 3 0 ++ end) (ascii "refused 3\n")
    -- a range with nothing wrong in itself, where it can't stand
    ∷ listed (begun ++ eight ++ ranged 0 3 7 0 ++ end) (ascii "refused 5\n")
    ∷ listed (begun ++ ranged 5 3 7 0 ++ end) (ascii "refused 6\n")
    ∷ listed (0x47 ∷ 0x00 ∷ ranged 0 3 7 0 ++ end) (ascii "refused 3\n")
    ∷ listed (begun ++ (0x52 ∷ 0x00 ∷ 0x00 ∷ 0x04 ∷ 0x00 ∷ 0x03 ∷ 0x00 ∷ [])) (ascii "refused 1\n")
    ∷ listed (begun ++ (0x52 ∷ 0x00 ∷ 0x00 ∷ 0x03 ∷ 0x00 ∷ 0x03 ∷ [])) (ascii "refused 1\n")
    ∷ listed (begun ++ ranged 0 3 7 0 ++ end ++ (0x00 ∷ [])) (ascii "refused 7\n")
    ∷ []

pub range_cases_agree : map (λ (c : Case). run_on c.book c.run) range_cases ≡ map (λ (c : Case). c.gives) range_cases
range_cases_agree = refl

-- 50 with 3 and 52 with 3 to 3 fit the same answers, and are two literals: each is written as it was read
abbrev pub written_again : List ℕ → Refusable (List ℕ)
written_again bytes = elim (read bytes) [ refused n ↦ refused n | accepted book ↦ accepted (write book) ]

abbrev pub one_and_range : List ℕ
one_and_range = begun ++ (0x50 ∷ 0x00 ∷ 0x00 ∷ 0x03 ∷ 0x00 ∷ 0x00 ∷ []) ++ ranged 0 3 3 0 ++ end

pub as_they_were : written_again one_and_range ≡ accepted one_and_range
as_they_were = refl

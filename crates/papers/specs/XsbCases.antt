-- A sixth table of cases, in two parts: books as bytes, and the text that `check_export` gives for each; and texts, and the bytes that
-- `check_import` gives for each; or the number that a book or a text is refused by (change request 13).
use Rattle.std.specs.Prelude.{ℕ, zero, suc, ◌≡◌, refl, true, false, List, [], ◌∷◌, ◌++◌, map}
use Rattle.definitions.specs.Text.{ascii, decimal}
use Rattle.definitions.specs.Refusal.{Refusable, refused, accepted}
use Rattle.definitions.specs.Book.{any, exactly, Positive, Negative, Goal, write}
use Rattle.papers.specs.Xsb.{check_export, check_import}
use Rattle.papers.specs.Cases.{pos, neg, rule, fact, unproved, one_rule, inductive, coinductive, floundered, p1}
use Rattle.papers.specs.RangeCases.{range}
use Rattle.papers.specs.LevelCases.{none_of, by, with_fact}

-- what is given for these bytes, of a book or of a text
pub record XsbCase : Type 0 where
  pub bytes : List ℕ
  pub gives : Refusable (List ℕ)

abbrev pub not_taken : List ℕ → (number : ℕ) → XsbCase
not_taken bytes n = record { bytes = bytes; gives = refused n }

-- a book that isn't exported
abbrev pub kept_with : (number : ℕ) → List Goal → XsbCase
kept_with n book = not_taken (write book) n

-- Books and their texts: each is the other's.

pub record Pair : Type 0 where
  pub book : List Goal
  pub text : List ℕ

abbrev pub out : Pair → XsbCase
out p = record { bytes = write p.book; gives = accepted p.text }

abbrev pub back : Pair → XsbCase
back p = record { bytes = p.text; gives = accepted (write p.book) }

-- n table lines, written here by hand but for the numbers
abbrev pub tabled : (n : ℕ) → List ℕ → List ℕ
tabled zero rules = rules
tabled (suc n) rules = tabled n (ascii ":- table g" ++ (decimal n ++ (ascii "/0.\n" ++ rules)))

abbrev pub times : ℕ → List ℕ → List ℕ
times zero text = []
times (suc n) text = text ++ times n text

abbrev pub pair : List Goal → List ℕ → Pair
pair book text = record { book = book; text = text }

abbrev pub pairs : List Pair
pairs =
    -- p1 of document 01 without its variants
    pair (by (rule 0 (pos 1 ∷ neg 2 ∷ [])) ∷ by (fact 0) ∷ by (one_rule (pos 2)) ∷ [])
    (ascii ":- table g0/0.\n:- table g1/0.\n:- table g2/0.\ng0 :- g1, tnot(g2).\ng1.\ng2 :- g2.\n")
    ∷ pair (none_of ∷ []) (ascii ":- table g0/0.\n")
    ∷ pair (by (fact 0) ∷ []) (ascii ":- table g0/0.\ng0.\n")
    -- a cycle through "not" has no levels, and a text all the same
    ∷ pair (by (one_rule (neg 0)) ∷ []) (ascii ":- table g0/0.\ng0 :- tnot(g0).\n")
    -- goals with more clauses, and with none
    ∷ pair (none_of ∷ inductive (one_rule (pos 0) ∷ rule 0 (neg 0 ∷ neg 2 ∷ pos 1 ∷ []) ∷ fact 0 ∷ []) ∷ none_of ∷ by (fact 0) ∷ [])
    (tabled 4 (ascii "g1 :- g0.\ng1 :- tnot(g0), tnot(g2), g1.\ng1.\ng3.\n"))
    -- numbers of two digits
    ∷ pair (none_of ∷ by (rule 0 (pos 10 ∷ neg 1 ∷ neg 11 ∷ pos 0 ∷ [])) ∷ none_of ∷ none_of ∷ none_of ∷ none_of ∷ none_of ∷ none_of
    ∷ none_of ∷ by (fact 0) ∷ by (one_rule (pos 9)) ∷ none_of ∷ [])
    (tabled 12 (ascii "g1 :- g10, tnot(g1), tnot(g11), g0.\ng9.\ng10 :- g9.\n"))
    -- 8 literals
    ∷ pair (by (rule 0 (pos 0 ∷ pos 0 ∷ pos 0 ∷ pos 0 ∷ pos 0 ∷ pos 0 ∷ pos 0 ∷ pos 0 ∷ [])) ∷ [])
    (tabled 1 (ascii "g0 :- g0, g0, g0, g0, g0, g0, g0, g0.\n"))
    ∷ []

-- Export.

abbrev pub export_cases : List XsbCase
export_cases =
    record { bytes = 0x47 ∷ 0x00 ∷ 0x45 ∷ []; gives = accepted (ascii ":- table g0/0.\n") }
    -- a literal that stands behind a later goal
    ∷ record {
      bytes = 0x47 ∷ 0 ∷ 0x43 ∷ 0 ∷ 0 ∷ 0 ∷ 0x47 ∷ 0 ∷ 0x50 ∷ 0 ∷ 0 ∷ 0 ∷ 0 ∷ 0 ∷ 0x45 ∷ [];
      gives = accepted (ascii ":- table g0/0.\n:- table g1/0.\ng0 :- g0.\n");
    }
    -- what is not plain: variants, wants, ranges, and each flag
    ∷ not_taken p1 37
    ∷ kept_with 37 (by (fact 1) ∷ [])
    ∷ kept_with 37 (with_fact (one_rule (Positive 1 (exactly 3) false)))
    ∷ kept_with 37 (with_fact (one_rule (range 1 0 65535)))
    ∷ kept_with 37 (with_fact (one_rule (Positive 1 any true)))
    ∷ kept_with 37 (with_fact (one_rule (Negative 1 true)))
    ∷ kept_with 37 (by (unproved 0) ∷ [])
    ∷ kept_with 37 (by (record { variant = 0; cannot_prove = false; outsized = true; literals = [] }) ∷ [])
    ∷ kept_with 37 (coinductive [] ∷ [])
    ∷ kept_with 37 (floundered ∷ [])
    -- the desk's numbers come before 37
    ∷ kept_with 36 (inductive (fact 0 ∷ fact 0 ∷ []) ∷ [])
    ∷ kept_with 36 (inductive (fact 1 ∷ fact 1 ∷ []) ∷ [])
    ∷ kept_with 6 (by (rule 1 (pos 7 ∷ [])) ∷ [])
    ∷ kept_with 8 []
    ∷ not_taken [] 1
    ∷ map out pairs

pub export_cases_agree : map (λ (c : XsbCase). check_export c.bytes) export_cases ≡ map (λ (c : XsbCase). c.gives) export_cases
export_cases_agree = refl

-- Import.

abbrev pub import_cases : List XsbCase
import_cases =
    -- another layout
    not_taken (tabled 3 (ascii "g0 :- g1 , g2.\n")) 39
    ∷ not_taken (tabled 3 (ascii "g0 :- g1,  g2.\n")) 39
    ∷ not_taken (tabled 3 (ascii "g0 :-  g1, g2.\n")) 39
    ∷ not_taken (tabled 3 (ascii "g0  :- g1, g2.\n")) 39
    ∷ not_taken (tabled 3 (ascii "g0 :- g1,g2.\n")) 39
    ∷ not_taken (tabled 2 (ascii "g0:-g1.\n")) 39
    ∷ not_taken (tabled 2 (ascii "g0 :- tnot g1.\n")) 39
    ∷ not_taken (tabled 2 (ascii "g0 :- tnot( g1).\n")) 39
    ∷ not_taken (tabled 2 (ascii "g0 :- not(g1).\n")) 39
    ∷ not_taken (tabled 2 (ascii "g0 :- .\n")) 39
    ∷ not_taken (tabled 2 (ascii "g0 :- g.\n")) 39
    ∷ not_taken (ascii ":-  table g0/0.\n") 39
    ∷ not_taken (ascii ":- table g0/1.\n") 39
    ∷ not_taken (ascii "\n") 39
    ∷ not_taken (tabled 1 (ascii "g0.\n\n")) 39
    -- the last line without 0A, and 0D 0A
    ∷ not_taken (ascii ":- table g0/0.") 39
    ∷ not_taken (tabled 1 (ascii "g0.")) 39
    ∷ not_taken (tabled 1 (ascii "g0 :- g0.")) 39
    ∷ not_taken (tabled 1 (ascii "g0 :- tnot(g0)")) 39
    ∷ not_taken (tabled 1 (ascii "g0")) 39
    ∷ not_taken (ascii ":- table g0/0." ++ (0x0D ∷ ascii "\n")) 39
    ∷ not_taken (tabled 1 (ascii "g0." ++ (0x0D ∷ ascii "\n"))) 39
    -- a 0 in front: of a head, of a literal, of a table line
    ∷ not_taken (tabled 1 (ascii "g00.\n")) 39
    ∷ not_taken (tabled 2 (ascii "g01.\n")) 39
    ∷ not_taken (tabled 1 (ascii "g0 :- g00.\n")) 39
    ∷ not_taken (tabled 2 (ascii "g0 :- tnot(g01).\n")) 39
    ∷ not_taken (ascii ":- table g00/0.\n") 39
    -- heads out of order, or without a table line
    ∷ not_taken (tabled 2 (ascii "g1.\ng0.\n")) 39
    ∷ not_taken (tabled 2 (ascii "g0.\ng1.\ng0 :- g0.\n")) 39
    ∷ not_taken (ascii "g0.\n") 39
    ∷ not_taken (tabled 1 (ascii "g1.\n")) 39
    ∷ not_taken (tabled 1 (ascii "g65536.\n")) 39
    ∷ not_taken (tabled 1 (ascii "g340282366920938463463374607431768211456.\n")) 39
    -- table lines out of order, twice, or behind a rule
    ∷ not_taken (ascii ":- table g1/0.\n:- table g0/0.\n") 39
    ∷ not_taken (ascii ":- table g1/0.\n") 39
    ∷ not_taken (ascii ":- table g18446744073709551616/0.\n") 39
    ∷ not_taken (ascii ":- table g0/0.\n:- table g0/0.\n") 39
    ∷ not_taken (tabled 1 (ascii "g0.\n:- table g1/0.\n")) 39
    -- no goal
    ∷ not_taken [] 8
    -- a literal without a table line, however large its number: 2 ^ 16, 2 ^ 64 - 1, which stands for all above it, 2 ^ 64 and a longer one
    ∷ not_taken (tabled 1 (ascii "g0 :- g1.\n")) 6
    ∷ not_taken (tabled 1 (ascii "g0 :- g7.\n")) 6
    ∷ not_taken (tabled 1 (ascii "g0 :- tnot(g7).\n")) 6
    ∷ not_taken (tabled 1 (ascii "g0 :- g65536.\n")) 6
    ∷ not_taken (tabled 1 (ascii "g0 :- tnot(g18446744073709551615).\n")) 6
    ∷ not_taken (tabled 1 (ascii "g0 :- g18446744073709551616.\n")) 6
    ∷ not_taken (tabled 1 (ascii "g0 :- g99999999999999999999.\n")) 6
    ∷ not_taken (tabled 1 (ascii "g0 :- g0, tnot(g340282366920938463463374607431768211456).\n")) 6
    -- equal lines
    ∷ not_taken (tabled 1 (ascii "g0.\ng0.\n")) 36
    ∷ not_taken (tabled 2 (ascii "g0 :- g1, tnot(g0).\ng0.\ng0 :- g1, tnot(g0).\n")) 36
    -- 9 literals, 65 table lines, 257 rules
    ∷ not_taken (tabled 1 (ascii "g0 :- g0, g0, g0, g0, g0, g0, g0, g0, g0.\n")) 5
    ∷ not_taken (tabled 65 []) 5
    ∷ not_taken (tabled 1 (times 257 (ascii "g0.\n"))) 5
    -- 39 comes first, wherever it shows; then 5, 6 and 36
    ∷ not_taken (tabled 65 (ascii "x")) 39
    ∷ not_taken (tabled 65 (ascii "g65.\n")) 39
    ∷ not_taken (tabled 1 (ascii "g0 :- g7.\ng0.")) 39
    ∷ not_taken (tabled 1 (ascii "g0.\ng0.\ng00.\n")) 39
    ∷ not_taken (tabled 1 (ascii "g0 :- g7, g7, g7, g7, g7, g7, g7, g7, g7.\n")) 5
    ∷ not_taken (tabled 65 (ascii "g0 :- g65.\n")) 5
    ∷ not_taken (tabled 1 (ascii "g0 :- g7.\ng0 :- g7.\n")) 6
    ∷ map back pairs

pub import_cases_agree : map (λ (c : XsbCase). check_import c.bytes) import_cases ≡ map (λ (c : XsbCase). c.gives) import_cases
import_cases_agree = refl

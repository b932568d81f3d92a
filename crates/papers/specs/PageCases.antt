-- Cases of change requests 3 and 5, by computation: pages byte by byte, and the word behind an answer that was skipped.
use Rattle.std.specs.Prelude.{ℕ, zero, suc, ◌*◌, ◌≡◌, refl, List, [], ◌∷◌, ◌++◌, length, replicate, drop}
use Rattle.definitions.specs.Text.{ascii}
use Rattle.definitions.specs.Book.{Clause, write}
use Rattle.papers.specs.Cases.{p1, p3, p6, pos, neg, fact, one_rule, inductive, coinductive, floundered}
use Rattle.papers.specs.Listing.{columns, width_of, blank_lines, fields, listing}

-- a line has 26 bytes, and a newline
pub columns_wide : width_of columns ≡ 26
columns_wide = refl

-- p1: six lines, and 54 blank ones
pub page_of_p1 :
    listing p1
    ≡ ascii "  0     0 yes            0\n"
    ++ ascii "  0     1 none            \n"
    ++ ascii "  1     0 yes            1\n"
    ++ ascii "  1     1 yes            2\n"
    ++ ascii "  1     2 none            \n"
    ++ ascii "  2     0 none            \n"
    ++ blank_lines 54
page_of_p1 = refl

-- a book that is refused is not paged
pub no_page : listing [] ≡ ascii "refused 1\n"
no_page = refl

-- maybe, floundered, stops
pub page_of_p5 :
    listing (write (inductive (one_rule (pos 1) ∷ []) ∷ floundered ∷ []))
    ≡ ascii "  0     0 maybe          0\n"
    ++ ascii "  0     1 none            \n"
    ++ ascii "  1     0 floundered      \n"
    ++ blank_lines 57
page_of_p5 = refl

pub page_of_p6 : listing (p6 (fact 1 ∷ fact 2 ∷ fact 3 ∷ [])) ≡ ascii "  0     0 stop          29\n" ++ blank_lines 59
page_of_p6 = refl

pub page_of_a_stop :
    listing (write (inductive (one_rule (neg 1) ∷ []) ∷ floundered ∷ [])) ≡ ascii "  0     0 stop          25\n" ++ blank_lines 59
page_of_a_stop = refl

-- Change request 5. p3 on its page; with `2 :- 1` the answer that was skipped comes back refined, and the end is unsettled still.
pub page_of_p3 :
    listing p3
    ≡ ascii "  0     0 yes            0\n"
    ++ ascii "  0     1 none            \n"
    ++ ascii "  1     1 unsettled       \n"
    ++ blank_lines 57
page_of_p3 = refl

pub refined :
    fields (write (coinductive (one_rule (pos 1) ∷ []) ∷ coinductive (one_rule (pos 0) ∷ []) ∷ coinductive (one_rule (pos 1) ∷ []) ∷ []))
    ≡ ascii "0 0 yes 0\n0 1 none\n1 1 unsettled\n2 1 yes 0\n2 2 unsettled\n"
refined = refl

-- a goal that rests on itself alone: its own delayed goal is dropped, and nothing is skipped
pub own : fields (write (coinductive (one_rule (pos 0) ∷ []) ∷ [])) ≡ ascii "0 0 yes 0\n0 1 none\n"
own = refl

-- the widest number
pub page_of_the_widest :
    listing (write (inductive (fact 65535 ∷ []) ∷ []))
    ≡ ascii "  0     0 yes        65535\n" ++ ascii "  0     1 none            \n" ++ blank_lines 58
page_of_the_widest = refl

-- one page for 60 lines, two for 61: 30 facts, and an empty goal more; 60 goals without a clause, and 61
pub thirty_facts : length (listing (write (replicate 30 (inductive (fact 0 ∷ []))))) ≡ 1620
thirty_facts = refl

pub one_more_goal : length (listing (write (replicate 30 (inductive (fact 0 ∷ [])) ++ (inductive [] ∷ [])))) ≡ 3240
one_more_goal = refl

pub pages_filled : length (listing (write (replicate 60 (inductive [])))) ≡ 1620
pages_filled = refl

pub pages_begun : length (listing (write (replicate 61 (inductive [])))) ≡ 3240
pages_begun = refl

-- the largest index: 256 facts, of variants 1 to 256, have 257 lines, on five pages
abbrev facts_from : (left variant : ℕ) → List Clause
facts_from zero v = []
facts_from (suc left) v = fact v ∷ facts_from left (suc v)

pub last_page :
    drop (255 * 27) (listing (write (inductive (facts_from 256 1) ∷ [])))
    ≡ ascii "  0   255 yes          256\n" ++ ascii "  0   256 none            \n" ++ blank_lines 43
last_page = refl

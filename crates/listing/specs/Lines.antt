-- A line in the words of the code: what the definitions' line says, for the numbers of a reply.
use Rattle.std.specs.Prelude.{ℕ, ◌+◌, Bool, true, false, ◌&&◌, List, [], ◌∷◌, ◌++◌, eqb, ltb, get_or, length}
use Rattle.definitions.specs.Text.{ascii, decimal, in_column, at_left, at_right}
use Rattle.papers.specs.Listing.{Line, page_lines, blank_lines, lines_left}

-- the word of a reply, by its number; 0 and 1 are no words of a peek, and 11 is the listing's own
unfoldable pub word_of : (word : ℕ) → List ℕ
word_of word = get_or (
    []
    ∷ []
    ∷ ascii "stop"
    ∷ ascii "yes"
    ∷ ascii "maybe"
    ∷ ascii "none"
    ∷ ascii "floundered"
    ∷ ascii "again"
    ∷ ascii "negcycle"
    ∷ ascii "invalid"
    ∷ ascii "cut"
    ∷ ascii "unsettled"
    ∷ []) word []

-- the number of the word that is written: 11 for a none behind an answer that was skipped
unfoldable pub settled_word : (word : ℕ) → (skipped : Bool) → ℕ
settled_word word skipped = elim (eqb word 5 && skipped) [ true ↦ 11 | false ↦ word ]

-- the number behind it
unfoldable pub number_of : (word value : ℕ) → List ℕ
number_of word value = get_or ([] ∷ [] ∷ decimal value ∷ decimal value ∷ decimal value ∷ []) word []

unfoldable pub word_column : (word : ℕ) → List ℕ
word_column word = in_column at_left 10 (word_of word)

unfoldable pub number_column : (word value : ℕ) → List ℕ
number_column word value = in_column at_right 5 (number_of word value)

-- a number in its column, and the space behind it
unfoldable pub number_spaced : (width n : ℕ) → List ℕ
number_spaced width n = in_column at_right width (decimal n) ++ ascii " "

-- a line of a page, for the numbers of a reply that stand for an ending (`page_line`)
unfoldable pub reply_line : (goal index word value : ℕ) → List ℕ
reply_line goal index word value =
    number_spaced 3 goal
    ++ (number_spaced 5 index ++ (word_column word ++ (ascii " " ++ (number_column word value ++ ascii "\n"))))

-- how many lines are on the page behind one more: none where it is full
unfoldable pub next_line : (lines : ℕ) → ℕ
next_line lines = elim (ltb lines 59) [ true ↦ lines + 1 | false ↦ 0 ]

-- these lines behind so many on their page, which is filled up (`pages`)
unfoldable pub pages_behind : (lines : ℕ) → List Line → List ℕ
pages_behind lines ls = page_lines ls ++ blank_lines (lines_left (lines + length ls))

-- The definitions' pages, line by line: a line of the code is theirs, and behind so many lines on a page one more line is on the next place
-- of the page.
use Prim.Native.Nat.{ℕ, suc, ◌+◌, ◌<◌}
use native.Mathlib.Omega.{arith}
use native.Mathlib.Decide.{dec_lt}
use mathlib.Core.Bool.{Bool}
use mathlib.Core.List.{List, [], ◌∷◌, ◌++◌, append_assoc}
use mathlib.Core.Path.{◌≡◌, ap, ◌∙◌}
use lib.ListN.{length}
use Rattle.definitions.specs.Text.{ascii, decimal, in_column, at_left, at_right}
use Rattle.papers.specs.Listing.{Line, line, word, number, page_line, page_lines, blank_lines, lines_left, pages}
use Rattle.definitions.specs.Turn.{Ending}
use Rattle.listing.specs.Lines.{word_of, number_of, word_column, number_column, number_spaced, reply_line, next_line, pages_behind}
use Rattle.listing.proofs.Words.{one_more_line, page_full}

-- A LINE

joined : (a b c d : List ℕ)
    → (a ++ ascii " ") ++ ((b ++ ascii " ") ++ (c ++ (ascii " " ++ (d ++ ascii "\n"))))
    ≡ (a ++ ascii " " ++ (b ++ ascii " " ++ (c ++ ascii " " ++ d))) ++ ascii "\n"
joined a b c d = simp append_assoc

-- for an ending that has the word and the number
pub line_is : (goal index said value : ℕ) (e : Ending) (skipped : Bool) → word_of said ≡ word e skipped → number_of said value ≡ number e
    → reply_line goal index said value ≡ page_line (line goal index e skipped)
unfolding reply_line number_spaced word_column number_column
line_is goal index said value e skipped x y =
    let a = in_column at_right 3 (decimal goal) in
    let b = in_column at_right 5 (decimal index) in
    ap (λ (w : List ℕ). (a ++ ascii " ") ++ ((b ++ ascii " ")
    ++ (in_column at_left 10 w ++ (ascii " " ++ (in_column at_right 5 (number_of said value) ++ ascii "\n"))))) x
    ∙ ap (λ (w : List ℕ). (a ++ ascii " ") ++ ((b ++ ascii " ")
    ++ (in_column at_left 10 (word e skipped) ++ (ascii " " ++ (in_column at_right 5 w ++ ascii "\n"))))) y
    ∙ joined a b (in_column at_left 10 (word e skipped)) (in_column at_right 5 (number e))

-- LINES BEHIND OTHERS ON THEIR PAGE

pub few_lines : (n : ℕ) → next_line n < 60
few_lines n = on (dec_lt n 59)
  where
    on : Dec (n < 59) → next_line n < 60
    on (yes h) = let e = one_more_line n h in omega arith
    on (no h) = let e = page_full n (omega arith) in omega arith

-- a page's lines count as none
left_next : (n more : ℕ) → n < 60 → lines_left (n + suc more) ≡ lines_left (next_line n + more)
left_next n more h = on (dec_lt n 59)
  where
    on : Dec (n < 59) → lines_left (n + suc more) ≡ lines_left (next_line n + more)
    on (yes k) = let e = one_more_line n k in let z : n + suc more ≡ next_line n + more = omega arith in ap lines_left z
    on (no k) =
        let e = page_full n (omega arith) in
        let z : n + suc more ≡ 60 + (next_line n + more) = omega arith in
        ap lines_left z ∙ whole_page (next_line n + more)
      where
        whole_page : (m : ℕ) → lines_left (60 + m) ≡ lines_left m
        whole_page m = omega arith

pub behind_next : (n : ℕ) (l : Line) (ls : List Line) → n < 60 → pages_behind n (l ∷ ls) ≡ page_line l ++ pages_behind (next_line n) ls
unfolding pages_behind
behind_next n l ls h =
    append_assoc (page_line l) (page_lines ls) (blank_lines (lines_left (n + suc (length ls))))
    ∙ ap (λ (k : ℕ). page_line l ++ (page_lines ls ++ blank_lines k)) (left_next n (length ls) h)

pub behind_last : (n : ℕ) → pages_behind n [] ≡ blank_lines (lines_left n)
unfolding pages_behind
behind_last n = let z : n + 0 ≡ n = omega arith in ap (λ (k : ℕ). blank_lines (lines_left k)) z

pub behind_none : (ls : List Line) → pages_behind 0 ls ≡ pages ls
unfolding pages_behind
behind_none ls = let z : 0 + length ls ≡ length ls = omega arith in ap (λ (k : ℕ). page_lines ls ++ blank_lines (lines_left k)) z

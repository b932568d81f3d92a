-- What the proofs of a line's words cite: texts put down one after the other with a pen are put down as one, a lemma for each way out.
use Prim.Native.Nat.{ℕ, zero, suc, ◌+◌, ◌-◌, ◌<◌, ◌≤◌}
use native.Mathlib.Omega.{arith}
use mathlib.Core.Bool.{Bool, true, false, and-false}
use mathlib.Core.List.{List, []}
use mathlib.Core.Path.{◌≡◌, refl, sym, ap, ◌∙◌}
use lib.Dec.{eqb}
use borrow.Author.Tests.{lt-ltb, le-ltb, ne_eqb}
use Rattle.definitions.specs.Text.{ascii, decimal, blanks, in_column, at_left, at_right}
use Rattle.papers.specs.Listing.{blank_line, blank_lines, lines_left}
use Rattle.pen.specs.Pen.{Pen, put_all}
use Rattle.pen.proofs.Putting.{put_two, put_left, put_nothing}
use Rattle.listing.specs.Lines.{word_of, settled_word, number_of, word_column, number_column, number_spaced, reply_line, next_line}

-- THE WORD

pub word_is : (word k : ℕ) (p q : Pen) → word ≡ k → q ≡ put_all (word_column k) p → q ≡ put_all (word_column word) p
word_is word k p q e f = rw e f

-- no other number has one
wordless : (word : ℕ) → (word ≡ 2 → ⊥) → (word ≡ 3 → ⊥) → (word ≡ 4 → ⊥) → (word ≡ 5 → ⊥) → (word ≡ 6 → ⊥) → (word ≡ 7 → ⊥)
    → (word ≡ 8 → ⊥) → (word ≡ 9 → ⊥) → (word ≡ 10 → ⊥) → (word ≡ 11 → ⊥) → word_of word ≡ []
unfolding word_of
wordless zero a b c d e f g h i j = refl
wordless (suc zero) a b c d e f g h i j = refl
wordless (suc (suc zero)) a b c d e f g h i j = absurd (a refl)
wordless (suc (suc (suc zero))) a b c d e f g h i j = absurd (b refl)
wordless (suc (suc (suc (suc zero)))) a b c d e f g h i j = absurd (c refl)
wordless (suc (suc (suc (suc (suc zero))))) a b c d e f g h i j = absurd (d refl)
wordless (suc (suc (suc (suc (suc (suc zero)))))) a b c d e f g h i j = absurd (e refl)
wordless (suc (suc (suc (suc (suc (suc (suc zero))))))) a b c d e f g h i j = absurd (f refl)
wordless (suc (suc (suc (suc (suc (suc (suc (suc zero)))))))) a b c d e f g h i j = absurd (g refl)
wordless (suc (suc (suc (suc (suc (suc (suc (suc (suc zero))))))))) a b c d e f g h i j = absurd (h refl)
wordless (suc (suc (suc (suc (suc (suc (suc (suc (suc (suc zero)))))))))) a b c d e f g h i j = absurd (i refl)
wordless (suc (suc (suc (suc (suc (suc (suc (suc (suc (suc (suc zero))))))))))) a b c d e f g h i j = absurd (j refl)
wordless (suc (suc (suc (suc (suc (suc (suc (suc (suc (suc (suc (suc word)))))))))))) a b c d e f g h i j = refl

pub no_word : (word : ℕ) (p q : Pen) → (word ≡ 2 → ⊥) → (word ≡ 3 → ⊥) → (word ≡ 4 → ⊥) → (word ≡ 5 → ⊥) → (word ≡ 6 → ⊥) → (word ≡ 7 → ⊥)
    → (word ≡ 8 → ⊥) → (word ≡ 9 → ⊥) → (word ≡ 10 → ⊥) → (word ≡ 11 → ⊥) → q ≡ put_all (blanks 10) p → q ≡ put_all (word_column word) p
unfolding word_column
no_word word p q a b c d e f g h i j put =
    put ∙ ap (λ (w : List ℕ). put_all (in_column at_left 10 w) p) (sym (wordless word a b c d e f g h i j))

-- the one that is written: 11 for a none behind an answer that was skipped, else the one that was said

pub unsettled_is : (said : ℕ) (skipped : Bool) → said ≡ 5 → skipped ≡ true → 11 ≡ settled_word said skipped
unfolding settled_word
unsettled_is said skipped a b = rw (a, b)

pub settled_other : (said : ℕ) (skipped : Bool) → (said ≡ 5 → ⊥) → said ≡ settled_word said skipped
unfolding settled_word
settled_other said skipped a = rw (ne_eqb said 5 a, settled_word)

pub settled_whole : (said : ℕ) (skipped : Bool) → skipped ≡ false → said ≡ settled_word said skipped
unfolding settled_word
settled_whole said skipped b = rw b (rw (and-false (eqb said 5), settled_word))

-- THE NUMBER

pub number_is : (word k value : ℕ) (p q : Pen) → word ≡ k → q ≡ put_all (number_column k value) p → q ≡ put_all (number_column word value) p
number_is word k value p q e f = rw e f

numberless : (word value : ℕ) → (word ≡ 2 → ⊥) → (word ≡ 3 → ⊥) → (word ≡ 4 → ⊥) → number_of word value ≡ []
unfolding number_of
numberless zero value a b c = refl
numberless (suc zero) value a b c = refl
numberless (suc (suc zero)) value a b c = absurd (a refl)
numberless (suc (suc (suc zero))) value a b c = absurd (b refl)
numberless (suc (suc (suc (suc zero)))) value a b c = absurd (c refl)
numberless (suc (suc (suc (suc (suc word))))) value a b c = refl

pub no_number : (word value : ℕ) (p q : Pen) → (word ≡ 2 → ⊥) → (word ≡ 3 → ⊥) → (word ≡ 4 → ⊥) → q ≡ put_all (blanks 5) p
    → q ≡ put_all (number_column word value) p
unfolding number_column
no_number word value p q a b c put =
    put ∙ ap (λ (w : List ℕ). put_all (in_column at_right 5 w) p) (sym (numberless word value a b c))

-- THE LINE

pub field_said : (width n : ℕ) (p q r : Pen) → q ≡ put_all (in_column at_right width (decimal n)) p → r ≡ put_all (ascii " ") q
    → r ≡ put_all (number_spaced width n) p
unfolding number_spaced
field_said width n p q r e f = put_two (in_column at_right width (decimal n)) (ascii " ") p q r e f

pub line_said : (goal index word value : ℕ) (p q r s t u v : Pen) → q ≡ put_all (number_spaced 3 goal) p
    → r ≡ put_all (number_spaced 5 index) q → s ≡ put_all (word_column word) r → t ≡ put_all (ascii " ") s
    → u ≡ put_all (number_column word value) t → v ≡ put_all (ascii "\n") u → v ≡ put_all (reply_line goal index word value) p
unfolding reply_line
line_said goal index word value p q r s t u v a b c d e f =
    put_two (number_spaced 3 goal) _ p q v a
    (put_two (number_spaced 5 index) _ q r v b
    (put_two (word_column word) _ r s v c (put_two (ascii " ") _ s t v d (put_two (number_column word value) (ascii "\n") t u v e f))))

-- THE PAGE

pub one_more_line : (lines : ℕ) → lines < 59 → lines + 1 ≡ next_line lines
unfolding next_line
one_more_line lines h = rw (lt-ltb lines 59 h, next_line)

pub page_full : (lines : ℕ) → 59 ≤ lines → 0 ≡ next_line lines
unfolding next_line
page_full lines h = rw (le-ltb lines 59 h, next_line)

pub blank_said : (p q r : Pen) → q ≡ put_all (blanks 26) p → r ≡ put_all (ascii "\n") q → r ≡ put_all blank_line p
blank_said p q r e f = put_two (blanks 26) (ascii "\n") p q r e f

-- those that are left put down from where the pen is come to the same at each turn
pub fill_start : (missing : ℕ) (p : Pen) → put_all (blank_lines (missing - 0)) p ≡ put_all (blank_lines missing) p
fill_start missing p = let z : missing - 0 ≡ missing = omega arith in ap (λ (n : ℕ). put_all (blank_lines n) p) z

pub fill_step : (missing line : ℕ) (p q whole : Pen) → line < missing → put_all (blank_lines (missing - line)) p ≡ whole
    → q ≡ put_all blank_line p → put_all (blank_lines (missing - (line + 1))) q ≡ whole
fill_step missing line p q whole h e f =
    let z : missing - line ≡ suc (missing - (line + 1)) = omega arith in
    put_left blank_line (blank_lines (missing - (line + 1))) p q f ∙ sym (ap (λ (n : ℕ). put_all (blank_lines n) p) z) ∙ e

pub fill_done : (missing line : ℕ) (q whole : Pen) → missing ≤ line → put_all (blank_lines (missing - line)) q ≡ whole → q ≡ whole
fill_done missing line q whole h e =
    let z : missing - line ≡ 0 = omega arith in
    sym (ap (λ (n : ℕ). put_all (blank_lines n) q) z ∙ put_nothing q) ∙ e

-- What the proofs of the words cite: texts put down one after the other with a pen are put down as one, a lemma for each way out of
-- each function. Assumes nothing.
use Prim.Native.Nat.{ℕ, zero, suc, ◌/◌, ◌%◌}
use mathlib.Core.Bool.{Bool, true, false}
use mathlib.Core.Path.{◌≡◌, refl, sym, ap, ◌∙◌}
use mathlib.Core.List.{List, ◌++◌, append-nil}
use borrow.Author.Tests.{eq-eqb, ne_eqb}
use Rattle.definitions.specs.Text.{ascii, decimal}
use Rattle.definitions.specs.Book.{Want, want_of, bit0, bit1}
use Rattle.book.specs.View.{wanted, bit2, signed, kept}
use Rattle.pen.specs.Pen.{Pen, put_all}
use Rattle.pen.specs.Refusals.{refusal_lines}
use Rattle.pen.proofs.Putting.{put_two, put_nothing}
use Rattle.inspect.specs.Words.{mark, slashed, ranged, want_words, name_words, literal_words, before, head_words, goal_line}
use Rattle.inspect.specs.Words.{refusal_words}

pub mark_on : (on : Bool) (w : List ℕ) (p q : Pen) → on ≡ true → q ≡ put_all w p → q ≡ put_all (mark on w) p
mark_on on w p q e f = rw e f

pub mark_off : (on : Bool) (w : List ℕ) (p : Pen) → on ≡ false → p ≡ put_all (mark on w) p
mark_off on w p e = rw e (sym (put_nothing p))

pub slashed_whole : (n v : ℕ) (p q : Pen) → v ≡ 0 → q ≡ put_all (decimal n) p → q ≡ put_all (slashed n v) p
unfolding slashed
slashed_whole n v p q e f = rw (eq-eqb v 0 e, append-nil (decimal n)) f

pub slashed_part : (n v : ℕ) (p q r s : Pen) → (v ≡ 0 → ⊥) → q ≡ put_all (decimal n) p → r ≡ put_all (ascii "/") q
    → s ≡ put_all (decimal v) r → s ≡ put_all (slashed n v) p
unfolding slashed
slashed_part n v p q r s e f g h =
    rw (ne_eqb v 0 e) (put_two (decimal n) (ascii "/" ++ decimal v) p q s f (put_two (ascii "/") (decimal v) q r s g h))

pub range_said : (n least most : ℕ) (p q r s t u : Pen) → q ≡ put_all (decimal n) p → r ≡ put_all (ascii "/") q
    → s ≡ put_all (decimal least) r → t ≡ put_all (ascii "-") s → u ≡ put_all (decimal most) t → u ≡ put_all (ranged n least most) p
unfolding ranged
range_said n least most p q r s t u e f g h i =
    put_two (decimal n) _ p q u e
    (put_two (ascii "/") _ q r u f (put_two (decimal least) _ r s u g (put_two (ascii "-") (decimal most) s t u h i)))

pub want_range : (range : Bool) (goal low high : ℕ) (p q : Pen) → range ≡ true → q ≡ put_all (ranged goal low high) p
    → q ≡ put_all (want_words goal (wanted range low high)) p
want_range range goal low high p q e f = rw e f

one_words : (goal low : ℕ) → slashed goal low ≡ want_words goal (want_of low)
one_words goal zero = refl
one_words goal (suc v) = refl

pub want_one : (range : Bool) (goal low high : ℕ) (p q : Pen) → range ≡ false → q ≡ put_all (slashed goal low) p
    → q ≡ put_all (want_words goal (wanted range low high)) p
want_one range goal low high p q e f = rw e (f ∙ ap (λ (w : List ℕ). put_all w p) (one_words goal low))

pub name_not : (kind goal : ℕ) (want : Want) (n : Bool) (p q r : Pen) → n ≡ bit1 kind → n ≡ true → q ≡ put_all (ascii "not ") p
    → r ≡ put_all (decimal goal) q
    → r ≡ put_all (name_words (bit1 kind) goal want) p
name_not kind goal want n p q r i e f g = rw (sym i ∙ e) (put_two (ascii "not ") (decimal goal) p q r f g)

pub name_plain : (kind goal ends : ℕ) (n range : Bool) (m low high : ℕ) (p q : Pen) → n ≡ bit1 kind → n ≡ false → range ≡ bit2 kind
    → m ≡ goal → low ≡ ends % 65536 → high ≡ ends / 65536 → q ≡ put_all (want_words m (wanted range low high)) p
    → q ≡ put_all (name_words (bit1 kind) goal (wanted (bit2 kind) (ends % 65536) (ends / 65536))) p
name_plain kind goal ends n range m low high p q i e r g l h f =
    rw (sym i ∙ e, ← r, ← g, ← l, ← h) f

signed_words : (negative outsized : Bool) (goal : ℕ) (want : Want)
    → name_words negative goal want ++ mark outsized (ascii " [outsized]") ≡ literal_words (signed negative goal want outsized)
unfolding literal_words
signed_words true outsized goal want = refl
signed_words false outsized goal want = refl

pub literal_said : (kind goal ends : ℕ) (o : Bool) (p q r : Pen) → o ≡ bit0 kind
    → q ≡ put_all (name_words (bit1 kind) goal (wanted (bit2 kind) (ends % 65536) (ends / 65536))) p
    → r ≡ put_all (mark o (ascii " [outsized]")) q → r ≡ put_all (literal_words (kept kind goal ends)) p
literal_said kind goal ends o p q r f g h =
    let want = wanted (bit2 kind) (ends % 65536) (ends / 65536) in
    put_two (name_words (bit1 kind) goal want) (mark o (ascii " [outsized]")) p q r g h
    ∙ ap (λ (w : List ℕ). put_all w p) (signed_words (bit1 kind) o goal want)
    ∙ ap (λ (b : Bool). put_all (literal_words (signed (bit1 kind) goal want b)) p) f

pub before_first : (j : ℕ) (p q : Pen) → j ≡ 0 → q ≡ put_all (ascii " :- ") p → q ≡ put_all (before j) p
unfolding before
before_first j p q e f = rw e f

pub before_next : (j : ℕ) (p q : Pen) → (j ≡ 0 → ⊥) → q ≡ put_all (ascii ", ") p → q ≡ put_all (before j) p
unfolding before
before_next zero p q e f = absurd (e refl)
before_next (suc j) p q e f = f

pub head_said : (goal variant flags : ℕ) (a b : Bool) (p q r s : Pen) → a ≡ bit0 flags → b ≡ bit1 flags
    → q ≡ put_all (slashed goal variant) p
    → r ≡ put_all (mark a (ascii " [cannot prove]")) q → s ≡ put_all (mark b (ascii " [outsized]")) r
    → s ≡ put_all (head_words goal variant (bit0 flags) (bit1 flags)) p
unfolding head_words
head_said goal variant flags a b p q r s e f g h i =
    rw (← e, ← f) (put_two (slashed goal variant) _ p q s g
    (put_two (mark a (ascii " [cannot prove]")) (mark b (ascii " [outsized]")) q r s h i))

pub goal_said : (goal flags : ℕ) (a b : Bool) (p q r s t u : Pen) → a ≡ bit0 flags → b ≡ bit1 flags → q ≡ put_all (ascii "goal ") p
    → r ≡ put_all (decimal goal) q → s ≡ put_all (mark a (ascii " [coinductive]")) r → t ≡ put_all (mark b (ascii " [floundered]")) s
    → u ≡ put_all (ascii "\n") t → u ≡ put_all (goal_line goal (bit0 flags) (bit1 flags)) p
unfolding goal_line
goal_said goal flags a b p q r s t u e f g h i j k =
    rw (← e, ← f)
    (put_two (ascii "goal ") _ p q u g
    (put_two (decimal goal) _ q r u h
    (put_two (mark a (ascii " [coinductive]")) _ r s u i (put_two (mark b (ascii " [floundered]")) (ascii "\n") s t u j k))))

pub refusal_said : (n : ℕ) (p q r : Pen) → q ≡ put_all (refusal_lines n) p → r ≡ put_all (ascii "neither entry takes it\n") q
    → r ≡ put_all (refusal_words n) p
unfolding refusal_words
refusal_said n p q r e f = put_two (refusal_lines n) (ascii "neither entry takes it\n") p q r e f

-- The contract of `say` leaves nothing open: from a buffer and a byte string there is one outcome. For the marks are those of the goals on
-- a cycle wherever they are told, and a goal is on one or is not.
use Prim.Native.Nat.{ℕ}
use native.Mathlib.Omega.{arith}
use native.Mathlib.Decide.{ℕ_discrete}
use mathlib.Core.Path.{◌≡◌, refl, sym, ap, ◌∙◌}
use mathlib.Core.Bool.{Bool}
use mathlib.Core.Option.{Option}
use mathlib.Core.List.{List, [], ◌++◌}
use borrow.Author.Tests.{ne_eqb}
use Rattle.definitions.specs.Refusal.{Refusable, refused, accepted}
use Rattle.definitions.specs.Book.{Book}
use Rattle.definitions.specs.Desk.{desk}
use Rattle.papers.specs.Levels.{levels_at_desk, check_levels}
use Rattle.papers.specs.NotPlain.{Place, not_plain_place}
use Rattle.definitions.proofs.Refusal.{same_refused}
use Rattle.papers.proofs.DeskNumbers.{Below, by_number, taken, desk_below}
use Rattle.pen.specs.Pen.{Pen, put_all}
use Rattle.pen.specs.Refusals.{refusal_lines}
use Rattle.places.specs.Words.{place_line}
use Rattle.paper_checks.proofs.Once.{marks_once}
use Rattle.levels.specs.Words.{reason_words, refused_words, outside_words, level_words, Tells}

-- the marks are in the words of 38 alone
words_once : (c : Refusable (List ℕ)) (o : Option Place) (a b : List Bool) → (c ≡ refused 38 → a ≡ b)
    → level_words c o a ≡ level_words c o b
unfolding refused_words
words_once (accepted levels) o a b e = refl
words_once (refused n) o a b e = ap (λ (w : List ℕ). outside_words n ++ w) (on (ℕ_discrete n 38))
  where
    plain : (marks : List Bool) → (n ≡ 38 → ⊥) → refused_words n o marks ≡ refusal_lines n ++ (place_line o ++ [])
    plain marks k = ap (λ (t : Bool). refusal_lines n ++ (place_line o ++ reason_words t marks)) (ne_eqb n 38 k)

    on : Dec (n ≡ 38) → refused_words n o a ≡ refused_words n o b
    on (yes k) = ap (refused_words n o) (e (ap refused k))
    on (no k) = plain a k ∙ sym (plain b k)

told_marks_once : (bytes : List ℕ) (p q r : Pen) (x : Tells bytes p q) (y : Tells bytes p r) → check_levels bytes ≡ refused 38
    → x.marks ≡ y.marks
told_marks_once bytes p q r x y e = on (desk bytes) refl (desk_below bytes)
  where
    on : (d : Refusable Book) → desk bytes ≡ d → Below d → x.marks ≡ y.marks
    on (refused n) k (by_number p h) = absurd (omega (arith, same_refused (sym (ap levels_at_desk k) ∙ e)))
    on (accepted book) k taken = marks_once book x.marks y.marks (x.marked book k e) (y.marked book k e)

pub told_once : (bytes : List ℕ) (p q r : Pen) → Tells bytes p q → Tells bytes p r → q ≡ r
told_once bytes p q r x y =
    x.told ∙ ap (λ (w : List ℕ). put_all w p)
    (words_once (check_levels bytes) (not_plain_place bytes) x.marks y.marks (told_marks_once bytes p q r x y))
    ∙ sym y.told

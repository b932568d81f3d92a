-- What is said of the goals so far, put down one after the other. Assumes nothing.
use Prim.Native.Nat.{ℕ, suc, ◌+◌, ◌<◌}
use native.Mathlib.Omega.{arith}
use native.Mathlib.Numerals.{add-one}
use mathlib.Core.Path.{◌≡◌, sym, ap, ◌∙◌}
use mathlib.Core.List.{List, [], ◌∷◌, ◌++◌, append-nil, append_assoc}
use lib.ListN.{length, get_or, take}
use lib.Seq.{take-suc, length-take-le}
use Rattle.pen.specs.Pen.{Pen, put_all}
use Rattle.pen.specs.Goals.{words_from}
use Rattle.pen.proofs.Putting.{put_all_append, put_nothing}

module _ {A : Type 0} (words : (goal : ℕ) → A → List ℕ) where
  words_append : (g k : ℕ) (a : List A) (x : A) → g + length a ≡ k → words_from words g (a ++ (x ∷ [])) ≡ words_from words g a ++ words k x
  unfolding words_from
  words_append g k [] x e =
      let z : g ≡ k = omega (arith, e) in append-nil (words g x) ∙ ap (λ (n : ℕ). words n x) z
  words_append g k (y ∷ a) x e =
      ap (λ (w : List ℕ). words g y ++ w) (words_append (suc g) k a x (omega (arith, e)))
      ∙ sym (append_assoc (words g y) (words_from words (suc g) a) (words k x))

  -- nothing is said of no goals
  pub words_start : (p : Pen) → put_all (words_from words 0 []) p ≡ p
  unfolding words_from
  words_start p = put_nothing p

  -- and one more
  pub words_next : (l : List A) (g : ℕ) (none : A) (p : Pen) → g < length l
      → put_all (words_from words 0 (take (g + 1) l)) p ≡ put_all (words g (get_or l g none)) (put_all (words_from words 0 (take g l)) p)
  words_next l g none p h =
      ap (λ (a : List A). put_all (words_from words 0 a) p) (ap (λ (n : ℕ). take n l) (add-one g) ∙ take-suc l g none h)
      ∙ ap (λ (w : List ℕ). put_all w p)
      (words_append 0 g (take g l) (get_or l g none) (omega (arith, length-take-le g l (omega arith))))
      ∙ put_all_append (words_from words 0 (take g l)) (words g (get_or l g none)) p

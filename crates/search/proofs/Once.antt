-- Whatever it is begun with, sound or not: turns by numbers come to one walk, and so does the loop.
use mathlib.Core.Bool.{false≢true}
use mathlib.Core.Path.{◌≡◌, refl, sym, ◌∙◌}
use Rattle.book.specs.declared.Book.{Book}
use Rattle.search.specs.declared.course.Asked.{Asked}
use Rattle.search.specs.Walk.{Walk, Settles, none_settles, next_settles, Comes, is_over, goes_further, goes_by_numbers}

module _ {asked : Asked} where
  pub settles_once : {v u x : Walk} → Settles asked v u → Settles asked v x → u ≡ x
  settles_once (none_settles e) (none_settles f) = refl
  settles_once (none_settles e) (next_settles f h) = absurd (false≢true (sym e ∙ f))
  settles_once (next_settles e h) (none_settles f) = absurd (false≢true (sym f ∙ e))
  settles_once (next_settles e h) (next_settles f k) = settles_once h k

  module _ {b : Book} where
    pub comes_once : {v u x : Walk} → Comes b asked v u → Comes b asked v x → u ≡ x
    comes_once (is_over e) (is_over f) = refl
    comes_once (is_over e) (goes_further f n h) = absurd (false≢true (sym f ∙ e))
    comes_once (is_over e) (goes_by_numbers f n h) = absurd (false≢true (sym f ∙ e))
    comes_once (goes_further e m h) (is_over f) = absurd (false≢true (sym e ∙ f))
    comes_once (goes_further e m h) (goes_further f n k) = comes_once h k
    comes_once (goes_further e m h) (goes_by_numbers f n k) = absurd (false≢true (sym m ∙ n))
    comes_once (goes_by_numbers e m h) (is_over f) = absurd (false≢true (sym e ∙ f))
    comes_once (goes_by_numbers e m h) (goes_further f n k) = absurd (false≢true (sym n ∙ m))
    comes_once (goes_by_numbers e m h) (goes_by_numbers f n k) = comes_once h k

-- Whatever it is begun with, sound or not, and whether or not a call is at hand: the loop over the calls comes to one stage.
use Prim.Native.Nat.{ℕ}
use native.Mathlib.Omega.{arith}
use mathlib.Core.Bool.{true, false, false≢true}
use mathlib.Core.List.{List}
use mathlib.Core.Path.{◌≡◌, refl, sym, subst, ◌∙◌}
use lib.Dec.{leb, ltb}
use borrow.Author.Tests.{leb-true, ltb-true}
use Rattle.book.specs.declared.Book.{Book}
use Rattle.search.specs.Walk.{Walk}
use Rattle.search.proofs.Once.{comes_once}
use Rattle.batch.specs.Serve.{Stage, told}
use Rattle.batch.specs.ServeAll.{with_walk, next_begun, Serves, all_told, hand_told, call_served}

none_and_some : (count at : ℕ) → leb count at ≡ true → ltb at count ≡ true → ⊥
none_and_some count at e f = omega (arith, leb-true count at e, ltb-true at count f)

module _ {b : Book} {clock_limit : ℕ} {calls : List ℕ} {count : ℕ} where
  pub serves_once : {v u x : Stage} → Serves b clock_limit calls count v u → Serves b clock_limit calls count v x → u ≡ x
  serves_once (all_told e) (all_told f) = refl
  serves_once {v} (all_told e) (hand_told m f c k) = absurd (none_and_some count v.serving.at e m)
  serves_once {v} (all_told e) (call_served m f c k) = absurd (none_and_some count v.serving.at e m)
  serves_once {v} (hand_told m e c h) (all_told f) = absurd (none_and_some count v.serving.at f m)
  serves_once {v} {u} (hand_told m e c h) (hand_told n f d k) =
      serves_once (subst (λ (w : Walk). Serves b clock_limit calls count (told (with_walk v w)) u) (comes_once c d) h) k
  serves_once (hand_told m e c h) (call_served n f d k) = absurd (false≢true (sym f ∙ e))
  serves_once {v} (call_served m e c h) (all_told f) = absurd (none_and_some count v.serving.at f m)
  serves_once (call_served m e c h) (hand_told n f d k) = absurd (false≢true (sym e ∙ f))
  serves_once {v} {u} (call_served m e c h) (call_served n f d k) =
      let begun = next_begun b clock_limit calls count v in
      serves_once (subst (λ (w : Walk). Serves b clock_limit calls count (told (with_walk begun w)) u) (comes_once c d) h) k

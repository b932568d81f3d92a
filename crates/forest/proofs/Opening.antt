-- An open that is served among other calls, or by itself: what it comes to is what `open` may give.
use Prim.Native.Nat.{ℕ, ◌-◌, ◌%◌}
use mathlib.Core.Bool.{Bool, true, false}
use mathlib.Core.List.{List, []}
use mathlib.Core.Path.{◌≡◌, refl, sym, ap, subst, ◌∙◌}
use lib.Dec.{leb, ltb}
use lib.ListN.{get_or}
use borrow.Author.Tests.{ltb-true, ltb-false, leb-true, leb-false}
use Rattle.stores.specs.Numbers.{free}
use Rattle.stores.specs.Stack.{blank_stack}
use Rattle.control.specs.PerformStrand.{Lent}
use Rattle.control.proofs.ChooseRoom.{strands_for}
use Rattle.search.specs.declared.course.Course.{Course}
use Rattle.search.specs.Walk.{numbered}
use Rattle.batch.specs.declared.calls.Said.{Said}
use Rattle.batch.specs.declared.calls.Said.TheVariants as saying
use Rattle.batch.specs.declared.calls.Serving.{Serving}
use Rattle.batch.specs.Serve.{Stage, stage, open_by, table_of, live_with, opens}
use Rattle.forest.specs.declared.Forest.{Forest}
use Rattle.forest.specs.declared.open.Opened.{Opened}
use Rattle.forest.specs.declared.open.Opening.{Opening}
use Rattle.forest.specs.declared.open.Opening.TheVariants as openings
use Rattle.forest.specs.Open.{opening_of, OpenSays}
use Rattle.forest.specs.ServeCalls.{first_serving}
use Rattle.forest.specs.View.{book_in, lent_with, forest_by}
use Rattle.forest.proofs.OpenCases.{open_marked, open_missing, open_found, open_full, open_made}

-- a forest with this one's book and limit, these stores, and the numbers that a course carries
abbrev pub forest_of : Forest → Course → Lent → Forest
forest_of f c w = forest_by (book_in f) (numbered c w) f.clock_limit c.mark

abbrev pub forest_at : Forest → Stage → Forest
forest_at f v = forest_of f v.serving.course v.lent

module _ (f : Forest) where
  -- what an open that came to this stage gives
  abbrev pub told_of : Stage → Opened
  told_of v = record { opening = opening_of v.serving.said; forest = forest_at f v }

  module _ (s : Serving) (w : Lent) where
    -- the stores, with the numbers that the course carries, and the forest at hand
    abbrev v : Lent
    v = numbered s.course w

    abbrev g : Forest
    g = forest_of f s.course v

    -- the table that has this goal
    abbrev t : (goal : ℕ) → ℕ
    t goal = table_of (book_in f) (goal % 256) v

    -- how its tests come out
    abbrev pub OpensBy : (goal : ℕ) → (marked missing there full : Bool) → Type 0
    OpensBy goal marked missing there full =
        (ltb 0 s.course.mark ≡ marked) × (leb f.book.goals goal ≡ missing) × (ltb (t goal) s.course.count ≡ there)
        × (ltb 256 (live_with (book_in f) (goal % 256) v) ≡ full)

    module _ (l : List ℕ) (goal : ℕ) where
      abbrev pub opened_so : (marked missing there full : Bool) → Stage
      opened_so marked missing there full = open_by (book_in f) marked missing there full (t goal) (goal % 256) s v l

      pub open_told : (marked missing there full : Bool) → OpensBy goal marked missing there full
          → OpenSays g goal (told_of (opened_so marked missing there full))
      open_told true missing there full (e1, e2, e3, e4) = open_marked g goal (ltb-true 0 s.course.mark e1)
      open_told false true there full (e1, e2, e3, e4) =
          open_missing g goal (ltb-false 0 s.course.mark e1) (leb-true f.book.goals goal e2)
      open_told false false true full (e1, e2, e3, e4) =
          open_found g goal (ltb-false 0 s.course.mark e1) (leb-false f.book.goals goal e2) (t goal) refl
          (ltb-true (t goal) s.course.count e3)
      open_told false false false true (e1, e2, e3, e4) =
          open_full g goal (ltb-false 0 s.course.mark e1) (leb-false f.book.goals goal e2) (t goal) refl
          (ltb-false (t goal) s.course.count e3) (g.stores.strands.places.top - get_or g.stores.strands.places.len free 0)
          (strands_for f.book.goal_flags f.book.goal_len (goal % 256)) refl refl true (sym e4) refl
          (forest_at f (opened_so false false false true)) refl
      open_told false false false false (e1, e2, e3, e4) =
          open_made g goal (ltb-false 0 s.course.mark e1) (leb-false f.book.goals goal e2) (t goal) refl
          (ltb-false (t goal) s.course.count e3) (g.stores.strands.places.top - get_or g.stores.strands.places.len free 0)
          (strands_for f.book.goal_flags f.book.goal_len (goal % 256)) refl refl false (sym e4) refl
          (forest_at f (opened_so false false false false)) refl

  -- THE WAY OUT of `open`: the call served by itself, from the forest's own stage on
  module _ (goal : ℕ) (from : Serving) (first : from ≡ first_serving f) where
    abbrev begins : Serving → Stage
    begins z = stage z (lent_with f blank_stack) []

    pub open_served : (s : Serving) (r : Forest) (x : Opening) → x ≡ opening_of s.said
        → stage s (lent_with r blank_stack) [] ≡ opens (book_in f) goal (begins from)
        → r ≡ forest_of f s.course (lent_with r blank_stack) → OpenSays f goal (record { opening = x; forest = r })
    open_served s r x is served same =
        subst (OpenSays f goal) (λ i. record { opening = sym is i; forest = sym same i })
        (subst (λ (v : Stage). OpenSays f goal (told_of v)) (sym (served ∙ ap (λ (z : Serving). opens (book_in f) goal (begins z)) first))
        (open_told (first_serving f) (lent_with f blank_stack) [] goal _ _ _ _ (refl, refl, refl, refl)))

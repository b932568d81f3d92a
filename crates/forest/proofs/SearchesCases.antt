-- The ways out of the functions of searches.rt that run a course, over variables.
use Prim.Native.Nat.{ℕ}
use mathlib.Core.Bool.{true}
use mathlib.Core.List.{List}
use mathlib.Core.Path.{◌≡◌, refl, sym, ap, subst, ◌∙◌}
use lib.ListN.{replicate}
use Rattle.definitions.specs.{MAX}
use Rattle.stores.specs.declared.stack.Stack.{Stack}
use Rattle.stores.specs.Numbers.{written_at}
use Rattle.stores.specs.Places.{places}
use Rattle.stores.specs.Queue.{store}
use Rattle.stores.specs.Stack.{blank_stack, pushed}
use Rattle.control.specs.MakeTables.{tables_of}
use Rattle.control.specs.PerformDeed.{stack_of, answers_of, bare}
use Rattle.control.specs.PerformStrand.{Lent, lent_of}
use Rattle.search.specs.declared.course.Asked.{Asked}
use Rattle.search.specs.declared.course.Course.{Course}
use Rattle.search.specs.RootAnswer.{start}
use Rattle.search.specs.Walk.{Walk, walk, walking, Comes, is_over}
use Rattle.forest.specs.declared.Forest.{Forest}
use Rattle.forest.specs.declared.searches.Ran.{Ran}
use Rattle.forest.specs.Searches.{course_in, renumbered, rooted, Carries, Runs}
use Rattle.forest.specs.View.{book_in, lent_with}

module _ (f : Forest) (asked : Asked) where
  abbrev started : Course → Course
  started d = start asked f.stores.tables.floundered f.stores.answers.places.next f.stores.answers.places.tail f.stores.answers.places.len f.stores.answers.variant f.stores.answers.key
      f.stores.answers.ambiguous d

  -- the course is the one that starts the first search
  pub runs_started : (index more : ℕ) (d : Course) → d ≡ course_in f index more → (c : Course)
      → c ≡ start asked f.stores.tables.floundered f.stores.answers.places.next f.stores.answers.places.tail f.stores.answers.places.len f.stores.answers.variant f.stores.answers.key
      f.stores.answers.ambiguous d → (r : Ran) → Runs f asked c r
      → Runs f asked (start asked f.stores.tables.floundered f.stores.answers.places.next f.stores.answers.places.tail f.stores.answers.places.len f.stores.answers.variant
      f.stores.answers.key f.stores.answers.ambiguous (course_in f index more)) r
  runs_started index more d ed c ec r h = subst (λ (x : Course). Runs f asked x r) (ec ∙ ap started ed) h

  module _ (c : Course) where
    -- a course that is over is not run: its numbers are those of the forest
    pub runs_over : c.over ≡ true → (g : Forest) → g ≡ renumbered f c → Runs f asked c (record { course = c; forest = g })
    runs_over e g eg =
        subst (λ (h : Forest). Runs f asked c (record { course = c; forest = h })) (sym eg)
        (record {
          stack = pushed asked.table c.clock MAX (bare blank_stack);
          comes = is_over e;
          carries = record { book = refl; limit = refl; mark = refl; count = refl; clock = refl; used = refl; answer_used = refl };
        })

    -- the root's entry is written, so that the loop goes from the rooted stack; and what is left over is what is left of the stack
    module _ (b : Stack) (eb : b ≡ blank_stack) (k : Stack) (e1 : k.table ≡ written_at 0 asked.table b.table)
        (e2 : k.clock ≡ written_at 0 c.clock b.clock) (e3 : k.positive ≡ written_at 0 MAX b.positive)
        (e4 : k.negative ≡ written_at 0 MAX b.negative) (e5 : k.active ≡ written_at 0 256 b.active) where
      abbrev written : Stack → Stack
      written x = stack_of 1 (written_at 0 asked.table x.table) (written_at 0 c.clock x.clock) (written_at 0 MAX x.positive)
          (written_at 0 MAX x.negative) (written_at 0 256 x.active)

      from_root : walking c f.stores k ≡ rooted asked (lent_with f blank_stack) c
      from_root =
          (λ i. walking c f.stores (stack_of 1 (e1 i) (e2 i) (e3 i) (e4 i) (e5 i)))
          ∙ ap (λ (x : Stack). walking c f.stores (written x)) eb

      pub runs_loop : (d : Course) (g : Forest) (l : Stack) → Comes f.book asked (walking c f.stores k) (walk d (lent_with g l))
          → Carries f d g → Runs f asked c (record { course = d; forest = g })
      runs_loop d g l h carries = record {
        stack = l;
        comes = subst (λ (v : Walk). Comes f.book asked v (walk d (lent_with g l))) from_root h;
        carries = carries;
      }

-- What the theorems on strands say of the last literal, as deciding reads it.
use Prim.Native.Nat.{ℕ, suc, ◌<◌}
use native.Mathlib.Omega.{arith}
use mathlib.Core.Option.{Option, none, some}
use mathlib.Core.Path.{◌≡◌, refl, ap, ◌∙◌}
use lib.ListN.{length, get_elem?}
use Rattle.std.specs.Prelude as code
use Rattle.definitions.specs as said
use Rattle.definitions.specs.Book as books
use Rattle.definitions.specs.Slg.{next_subgoal_index}
use Rattle.definitions.specs.Stop.{go, ◌>>=◌, unwrap}
use Rattle.definitions.specs.Strand as held
use Rattle.small_steps.specs.Decide.{or, no_literal, with_literal_floundered}
use Rattle.book.specs.View.{meant}
use Rattle.book.specs.declared.Literal.{Literal}
use Rattle.strands.specs.declared.Strand.{Strand}
use Rattle.strands.specs.Floundering.{flounder}
use Rattle.strands.specs.Literals.{literal_of, subgoal_at, without_last, last_removed}
use Rattle.strands.specs.View.{Sound, clause}
use Rattle.strands.proofs.FlounderViews.{aside, flounder_view}
use Rattle.strands.proofs.LiteralCases.{count_is}
use Rattle.strands.proofs.LiteralViews.{subgoal_at_view, last_removed_view}
use Rattle.control.specs.Decision.{last_literal}
use Rattle.control.specs.SelectSubgoal.{chosen_by, chosen}

-- The last literal.

found_means : (f : code.Option Literal) → meant (chosen_by f) ≡ or no_literal (literal_of f)
found_means code.None = refl
found_means (code.Some l) = refl

module _ (s : Strand) (o : Sound s) where
  pub chosen_means : meant (chosen s) ≡ last_literal s
  chosen_means =
      let i : ℕ = next_subgoal_index (clause s) in
      found_means (subgoal_at s i) ∙ ap (or no_literal) (subgoal_at_view s o.literals_long i)

  pub last_removed_clause : clause (last_removed s) ≡ without_last (clause s)
  last_removed_clause = ap (λ (v : held.Strand). v.ex_clause) (last_removed_view s o.literals_long 0)

  pub some_left : (i : ℕ) → suc i ≡ length (clause s).subgoals → 0 < s.literal_count
  some_left i e =
      let count = count_is s o.literals_long in
      omega arith

-- The last literal set aside: the definitions unwrap it, and deciding reads it with a default.

aside_found : (x y : said.ExClause) (i : ℕ) (found : Option books.Literal) → (unwrap found >>= λ l. go (aside x i l)) ≡ go y
    → y ≡ aside x i (or no_literal found)
aside_found x y i none e = cc
aside_found x y i (some l) e = cc

pub flounder_clause : (s : Strand) → Sound s → 0 < s.literal_count
    → clause (flounder s) ≡ with_literal_floundered (clause s) (next_subgoal_index (clause s))
flounder_clause s o left =
    let i : ℕ = next_subgoal_index (clause s) in
    aside_found (clause s) (clause (flounder s)) i (get_elem? (clause s).subgoals i) (flounder_view s o left)

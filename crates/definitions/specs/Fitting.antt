-- The four questions that control asks about terms, each in one place: how a literal, a want and an answer fit together.
-- In the Rust they are calls into chalk-ir and chalk-solve.
use Rattle.std.specs.Prelude.{ℕ, Bool, true, not, ◌||◌, ◌&&◌, eqb, leb}
use Rattle.definitions.specs.Book.{low, high, Literal, Positive, Negative}

-- the Rust's `Substitution` of a strand: which variant it stands for, and whether that answer is too large to keep
pub record Subst : Type 0 where
  pub variant : ℕ
  pub outsized : Bool

-- Does this literal get a table? logic.rs `abstract_positive_literal` and `abstract_negative_literal`: an outsized one gets none.
abbrev pub gets_table : Literal → Bool
gets_table (Positive goal want outsized) = not outsized
gets_table (Negative goal outsized) = not outsized

-- Does an answer of this variant fit the literal? resolvent.rs `apply_answer_subst`: a misfit is its NoSolution. An answer for the goal
-- as a whole fits every want; a "not" takes no variant from an answer, so that any fits.
abbrev pub answer_fits : Literal → (variant : ℕ) → Bool
answer_fits (Positive goal want outsized) variant = eqb variant 0 || (leb (low want) variant && leb variant (high want))
answer_fits (Negative goal outsized) variant = true

-- Is an answer of this variant trivial, so that no other is worth having? `is_trivial_substitution`
abbrev pub is_trivial : (variant : ℕ) → Bool
is_trivial variant = eqb variant 0

-- Is the answer outsized? `needs_truncation` in logic.rs `pursue_answer`
abbrev pub is_outsized : Subst → Bool
is_outsized s = s.outsized

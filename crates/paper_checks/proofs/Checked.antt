-- The check of a byte string, by its parts: what is given of a plain paper, what the passes ended in, and the marks.
use Prim.Native.Nat.{ℕ}
use native.Mathlib.Omega.{arith}
use mathlib.Core.Path.{◌≡◌, sym, ap, subst, ◌∙◌}
use mathlib.Core.Bool.{Bool}
use mathlib.Core.List.{List}
use Rattle.std.specs.declared.option.Option as found
use Rattle.std.proofs.Common.{Some, None, Ok, Err}
use Rattle.definitions.specs.Refusal.{refused, accepted}
use Rattle.definitions.specs.Book as said
use Rattle.definitions.specs.Desk.{desk}
use Rattle.papers.specs.Levels.{levels, levels_or_38, check_levels}
use Rattle.definitions.proofs.Refusal.{same_accepted}
use Rattle.papers.proofs.Levels.{check_38}
use Rattle.book.specs.declared.Book.{Book}
use Rattle.book.specs.declared.refusal.Refusal.{Refusal}
use Rattle.book.specs.Refusals.{number}
use Rattle.book.specs.View.{view, Gives}
use Rattle.paper_checks.specs.declared.Unlevelled.TheVariants.{Refused, OnCycles}
use Rattle.paper_checks.specs.Asks.{settled_by, Settles}
use Rattle.paper_checks.specs.Paper.{plain_paper}
use Rattle.paper_checks.specs.Profile.{Marks, Profiles}
use Rattle.paper_checks.proofs.Papers.{of_paper, levels_in, levels_of_paper, paper_taken, refused_taken}

-- of what is given of a plain paper: one that is refused
pub unread_profiles : (bytes : List ℕ) (e : Refusal) → Gives (plain_paper bytes) (Err e) → Profiles bytes (Err (Refused e))
unread_profiles bytes e read = record {
  means = says;
  levels = tt;
  reason = λ k.
      let b = check_38 bytes (sym says ∙ ap refused k) in
      let other = refused_taken bytes _ b.0 (sym read.means) b.1 in
      omega arith;
}
  where
    says : refused (number e) ≡ check_levels bytes
    says = ap (of_paper levels_in) read.means ∙ sym (levels_of_paper bytes)

module _ (bytes : List ℕ) (b : Book) (read : Gives (plain_paper bytes) (Ok b)) where
  taken : desk bytes ≡ accepted (view b)
  taken = paper_taken bytes (view b) (sym read.means)

  by_levels : (r : found.Option (List ℕ)) → Settles (levels (view b)) b.goals r
      → levels_or_38 (settled_by b.goals r) ≡ check_levels bytes
  by_levels r s = ap levels_or_38 s.means ∙ ap (of_paper levels_in) read.means ∙ sym (levels_of_paper bytes)

  pub accepted_profiles : (ls : List ℕ) → Settles (levels (view b)) b.goals (Some ls)
      → Profiles bytes (Ok (record { goals = b.goals; levels = ls }))
  accepted_profiles ls s = record {
    means = by_levels (Some ls) s;
    levels = record { few = read.sound.few_goals; filled = s.filled };
    reason = tt;
  }

  -- a book that isn't levelled
  pub unlevelled_profiles : (marks : List Bool) → Settles (levels (view b)) b.goals None → Marks (view b) marks
      → Profiles bytes (Err (OnCycles marks))
  unlevelled_profiles marks s are = record {
    means = by_levels None s;
    levels = tt;
    reason = λ book took. subst (λ (x : said.Book). Marks x marks) (same_accepted (sym taken ∙ took)) are;
  }

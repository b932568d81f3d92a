-- The variant of every answer is that of a clause of its goal: a strand has the variant of the clause that it was made for, and nothing
-- that is done to a strand changes it.
use Prim.Native.Nat.{ℕ}
use mathlib.Core.Path.{◌≡◌, refl, sym, ap, subst}
use mathlib.Core.Option.{Option, some}
use mathlib.Core.List.{List}
use Rattle.definitions.specs.{Answer}
use Rattle.definitions.specs.Book.{Book}
use Rattle.definitions.specs.Lists.{is_empty}
use Rattle.definitions.specs.Strand.{Strand}
use Rattle.definitions.specs.Turn.{create_refinement_strand}
use Rattle.papers.specs.Pages.{OfClause, ListingVariants}
use Rattle.laws.proofs.Options.{same_some, no_such}
use Rattle.laws.proofs.Bools.{case_bool}
use Rattle.derivable.proofs.Kept.{Closed}
use Rattle.derivable.proofs.Listing.{listing_kept}

-- a refinement strand has the variant of its answer
refined_variant : (a : Answer) (s : Strand) → create_refinement_strand a ≡ some s → s.ex_clause.subst.variant ≡ a.variant
refined_variant a s e = case_bool (λ (o : Option Strand). o ≡ some s → s.ex_clause.subst.variant ≡ a.variant)
    (is_empty a.delayed_subgoals)
    (λ b q. absurd (no_such q))
    (λ b q. ap (λ (z : Strand). z.ex_clause.subst.variant) (sym (same_some q)))
    e

module _ (book : Book) where
  abbrev StrandOf : List ℕ → ℕ → Strand → Type 0
  StrandOf gs g s = OfClause book g s.ex_clause.subst.variant

  abbrev AnswerOf : ℕ → Answer → Type 0
  AnswerOf g a = OfClause book g a.variant

  variants_kept : Closed book StrandOf AnswerOf
  variants_kept = record {
    more_tables = λ s w p. p;
    fresh = λ own e u c m. record { own = own; clause = c; is_own = e; of_own = m; same_variant = refl };
    pursued = λ s time p. p;
    unselected = λ s p. p;
    flounders = λ s i l u e p. p;
    returns = λ s i l u e p. p;
    stuck = λ s u p. p;
    selects = λ s i t l u e b at p. p;
    next_answer = λ s selected is p. p;
    takes = λ s selected h goal want outsized a is here at y fits p. p;
    not_ambiguous = λ s selected goal outsized is here p. p;
    not_there = λ s selected goal outsized is here p. p;
    delays = λ own e co s selected goal want outsized is here p. p;
    answers = λ s sub fl out p. p;
    refines = λ {gs} {g} a s e y. subst (OfClause book g) (sym (refined_variant a s e)) y;
  }

pub listing_variants : ListingVariants
listing_variants bytes book took ls e = listing_kept (variants_kept book) bytes took ls e

-- What the strands made anew mean: a blank one, a clause's, and the refinement strand of an answer. All are sound.
use Prim.Native.Nat.{ℕ, ◌≤◌, min}
use native.Mathlib.Omega.{arith}
use mathlib.Core.Bool.{Bool, true, false}
use mathlib.Core.List.{List, [], ◌∷◌, map}
use mathlib.Core.Option.{Option, none, some}
use mathlib.Core.Path.{◌≡◌, refl, ap, ◌∙◌}
use lib.Dec.{eqb}
use lib.ListN.{length, replicate, length-map, length-replicate}
use lib.Seq.{length-sets}
use Rattle.definitions.specs.Book as books
use Rattle.definitions.specs.Logic.{initial_strand}
use Rattle.definitions.specs.Strand as held
use Rattle.definitions.specs.Turn.{create_refinement_strand}
use Rattle.definitions.specs as said
use Rattle.definitions.proofs.Lists.{take_empty}
use Rattle.laws.proofs.Takes.{take_min, length_take_min, take_sets}
use Rattle.book.specs.View.{meant}
use Rattle.book.specs.declared.Literal.{Literal}
use Rattle.strands.specs.declared.Answer.{Answer}
use Rattle.strands.specs.declared.Strand.{Strand}
use Rattle.strands.specs.Delaying.{strand_or}
use Rattle.strands.specs.Fields.{no_literal}
use Rattle.strands.specs.Making.{new_strand, blank_strand, nothing, clause_of, strand_of}
use Rattle.strands.specs.Making.{wants_any, positive, positives, refine_by, refine, refinement}
use Rattle.strands.specs.View.{Sound, seen, answer}

new_sound : (variant : ℕ) (outsized ambiguous : Bool) (literals : List Literal) (count : ℕ) → length literals ≡ 8 → count ≤ 8
    → Sound (new_strand variant outsized ambiguous literals count)
new_sound variant outsized ambiguous literals count long few = record {
  literals_long = long;
  floundered_long = length-replicate 8 no_literal;
  times_long = length-replicate {A = ℕ} 8 0;
  delayed_long = length-replicate {A = ℕ} 8 0;
  few_literals = omega arith;
  few_delayed = omega arith;
}

pub blank_view : seen 0 blank_strand ≡ initial_strand nothing
blank_view = refl

pub blank_sound : Sound blank_strand
blank_sound = new_sound 0 false false (replicate 8 no_literal) 0 (length-replicate 8 no_literal) (omega arith)

-- a strand with its variant, flags and literals written
abbrev meaning : (variant : ℕ) → (outsized ambiguous : Bool) → List books.Literal → held.Strand
meaning variant outsized ambiguous literals =
    initial_strand (record { variant = variant; cannot_prove = ambiguous; outsized = outsized; literals = literals })

module _ (variant flags : ℕ) (literals : List Literal) (count : ℕ) (long : length literals ≡ 8) where
  pub initial_view : seen 0 (strand_of variant flags literals count) ≡ initial_strand (clause_of variant flags literals count)
  initial_view =
      ap (λ (ls : List Literal). meaning variant (books.bit1 flags) (books.bit0 flags) (map meant ls))
      (take_min 8 count (min count 8) literals long refl)

  pub initial_sound : Sound (strand_of variant flags literals count)
  initial_sound = new_sound variant (books.bit1 flags) (books.bit0 flags) literals (min count 8) long (omega arith)

-- The refinement strand.

positives_mean : (goals : List ℕ) → map meant (map wants_any goals) ≡ map positive goals
positives_mean [] = refl
positives_mean (goal ∷ goals) = ap (λ (ls : List books.Literal). positive goal ∷ ls) (positives_mean goals)

abbrev created_by : said.Answer → Bool → Option held.Strand
created_by a b = elim b [ true ↦ none | false ↦ some (meaning a.variant false a.ambiguous (map positive a.delayed_subgoals)) ]

module _ (a : Answer) where
  abbrev goals : List ℕ
  goals = (answer a).delayed_subgoals

  positives_long : length (positives goals) ≡ 8
  positives_long = length-sets (replicate 8 no_literal) 0 (map wants_any goals) ∙ length-replicate 8 no_literal

  -- for whatever sound strand stands where there is none
  refine_by_sound : (b : Bool) (s : Strand) → Sound s → Sound (strand_or s (refine_by b a))
  refine_by_sound true s o = o
  refine_by_sound false s o =
      new_sound a.variant false a.ambiguous (positives goals) (min a.delayed_count 8) positives_long (omega arith)

  pub refine_sound : (s : Strand) → Sound s → Sound (strand_or s (refine a))
  refine_sound = refine_by_sound (eqb a.delayed_count 0)

  module _ (long : length a.delayed ≡ 8) where
    refine_by_view : (b : Bool) → refinement (refine_by b a) ≡ created_by (answer a) b
    refine_by_view true = refl
    refine_by_view false =
        let n : ℕ = min a.delayed_count 8 in
        let count = length_take_min 8 a.delayed_count n a.delayed long refl in
        let made = length-map goals wants_any in
        let whole = length-replicate 8 no_literal in
        ap (λ (ls : List books.Literal). some (meaning a.variant false a.ambiguous ls))
        (ap (map meant) (take_sets (map wants_any goals) (replicate 8 no_literal) 0 n (omega arith) (omega arith)) ∙ positives_mean goals)

    pub refine_view : refinement (refine a) ≡ create_refinement_strand (answer a)
    refine_view =
        refine_by_view (eqb a.delayed_count 0)
        ∙ ap (created_by (answer a)) (take_empty a.delayed_count a.delayed (omega arith))

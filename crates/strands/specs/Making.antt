-- Strands made anew: a blank one, a clause's, and the refinement strand of an answer.
use Rattle.std.specs.Prelude.{ℕ, min, Bool, true, false, List, [], map, eqb, take, replicate, Option, Some, None}
use Rattle.std.proofs.Math.Option as maybe
use Rattle.std.proofs.lemmas.List.Edits.{sets}
use Rattle.definitions.specs.Book as books
use Rattle.definitions.specs.Strand as held
use Rattle.book.specs.View.{meant}
use Rattle.book.specs.declared.Literal.{Literal}
use Rattle.strands.specs.declared.Answer.{Answer}
use Rattle.strands.specs.declared.Selected.TheVariants.{Nothing}
use Rattle.strands.specs.declared.Strand.{Strand}
use Rattle.strands.specs.Fields.{no_literal}
use Rattle.strands.specs.View.{seen}

-- a strand that nobody has pursued, with `count` of the literals still to be solved
abbrev pub new_strand : (variant : ℕ) → (outsized ambiguous : Bool) → (literals : List Literal) → (count : ℕ) → Strand
new_strand variant outsized ambiguous literals count = record {
  variant = variant;
  outsized = outsized;
  ambiguous = ambiguous;
  answer_time = 0;
  literal_count = count;
  floundered_count = 0;
  delayed_count = 0;
  literals = literals;
  floundered = replicate 8 no_literal;
  floundered_time = replicate 8 0;
  delayed = replicate 8 0;
  selected = Nothing;
}

abbrev pub blank_strand : Strand
blank_strand = new_strand 0 false false (replicate 8 no_literal) 0

-- the clause of a blank strand
abbrev pub nothing : books.Clause
nothing = record { variant = 0; cannot_prove = false; outsized = false; literals = [] }

-- a clause by its variant, its flags and the first `count` of the literals; and its strand
abbrev pub clause_of : (variant flags : ℕ) → List Literal → (count : ℕ) → books.Clause
clause_of variant flags literals count = record {
  variant = variant;
  cannot_prove = books.bit0 flags;
  outsized = books.bit1 flags;
  literals = map meant (take count literals);
}

abbrev pub strand_of : (variant flags : ℕ) → List Literal → (count : ℕ) → Strand
strand_of variant flags literals count = new_strand variant (books.bit1 flags) (books.bit0 flags) literals (min count 8)

-- A delayed goal as a literal that wants any variant, and what that means.

abbrev pub wants_any : ℕ → Literal
wants_any goal = record { goal = goal; kind = 0; want = 0; high = 0 }

abbrev pub positive : ℕ → books.Literal
positive goal = books.Positive goal books.any false

abbrev pub positives : List ℕ → List Literal
positives goals = sets (replicate 8 no_literal) 0 (map wants_any goals)

-- `create_refinement_strand`, by whether no goal is delayed
abbrev pub refine_by : (none_delayed : Bool) → Answer → Option Strand
refine_by true a = None
refine_by false a =
    Some (new_strand a.variant false a.ambiguous (positives (take a.delayed_count a.delayed)) (min a.delayed_count 8))

abbrev pub refine : Answer → Option Strand
refine a = refine_by (eqb a.delayed_count 0) a

-- what a refinement strand means: nobody has pursued it
abbrev pub refinement : Option Strand → maybe.Option held.Strand
refinement None = maybe.none
refinement (Some t) = maybe.some (seen 0 t)

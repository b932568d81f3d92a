-- What the operations on a strand's literals do.
use Rattle.std.specs.Prelude.{ℕ, ◌+◌, ◌-◌, min, Bool, true, false, eqb, ltb, get_or, Option, Some, None}
use Rattle.std.proofs.Math.Option as maybe
use Rattle.definitions.specs as said
use Rattle.definitions.specs.Book as books
use Rattle.definitions.specs.Lists.{remove}
use Rattle.definitions.specs.Slg.{next_subgoal_index}
use Rattle.definitions.specs.Strand.{with_subgoals}
use Rattle.book.specs.View.{meant}
use Rattle.book.specs.declared.Literal.{Literal}
use Rattle.strands.specs.declared.Strand.{Strand}
use Rattle.strands.specs.Fields.{no_literal, with_literals, with_answer_time}

abbrev pub literal_of : Option Literal → maybe.Option books.Literal
literal_of None = maybe.none
literal_of (Some l) = maybe.some (meant l)

abbrev pub found_by : (there : Bool) → Literal → Option Literal
found_by true l = Some l
found_by false l = None

abbrev pub subgoal_at : Strand → ℕ → Option Literal
subgoal_at s i = found_by (ltb i (min s.literal_count 8)) (get_or s.literals i no_literal)

-- a clause without its last literal, the one that is chosen
abbrev pub without_last : said.ExClause → said.ExClause
without_last x = with_subgoals x (remove x.subgoals (next_subgoal_index x))

-- one literal less counts, and the array is as it was
abbrev pub last_removed : Strand → Strand
last_removed s = with_literals s s.literals (min s.literal_count 8 - 1)

-- The last literal has an answer. A strand with no literal, with more than eight or at the last time is as it was.
abbrev pub answered_by : (none_left too_many at_end : Bool) → Strand → Strand
answered_by true too_many at_end s = s
answered_by false true at_end s = s
answered_by false false true s = s
answered_by false false false s = with_answer_time (with_literals s s.literals (s.literal_count - 1)) (s.answer_time + 1)

abbrev pub answered : Strand → Strand
answered s = answered_by (eqb s.literal_count 0) (ltb 8 s.literal_count) (eqb s.answer_time 255) s

-- What taking an answer does to a strand.
use Rattle.std.specs.Prelude.{suc, Bool, true, false, ◌||◌, eqb, Option, Some, None}
use Rattle.definitions.specs as said
use Rattle.definitions.specs.Strand as held
use Rattle.strands.specs.declared.Answer.{Answer}
use Rattle.strands.specs.declared.Strand.{Strand}
use Rattle.strands.specs.Delaying.{delay_goals}
use Rattle.strands.specs.Fields.{with_ambiguous}
use Rattle.strands.specs.Literals.{answered}
use Rattle.strands.specs.View.{answer}

-- the clause that an answer leaves, as `merge_into` of the definitions has it for a positive literal
abbrev pub taking : (ambiguous : Bool) → said.ExClause → said.ExClause
taking ambiguous x = held.with_answer_time (held.with_ambiguous x (x.ambiguous || ambiguous)) (suc x.answer_time)

-- an ambiguous answer makes the strand that takes it ambiguous
abbrev pub ambiguous_too : (ambiguous : Bool) → Strand → Strand
ambiguous_too true s = with_ambiguous s true
ambiguous_too false s = s

-- By whether no literal is left, and by what delaying its goals leaves: s is the strand as it was.
abbrev pub take_by : (none_left ambiguous : Bool) → (s : Strand) → (delayed : Option Strand) → Option Strand
take_by true ambiguous s d = Some s
take_by false ambiguous s None = None
take_by false ambiguous s (Some t) = Some (ambiguous_too ambiguous t)

-- the goals that the answer hands on are delayed once its literal is gone
abbrev pub goals_taken : Answer → Strand → Option Strand
goals_taken a s = delay_goals (answer a).delayed_subgoals (answered s)

-- the answer a is taken for the last literal of s
abbrev pub take_answer : Answer → Strand → Option Strand
take_answer a s = take_by (eqb s.literal_count 0) a.ambiguous s (goals_taken a s)

-- What delaying goals does to a strand.
use Rattle.std.specs.Prelude.{ℕ, ◌+◌, min, Bool, true, false, List, ltb, length, Option, Some, None}
use Rattle.std.proofs.lemmas.List.Edits.{sets}
use Rattle.definitions.specs as said
use Rattle.definitions.specs.Stop.{Stops, stop, go}
use Rattle.strands.specs.declared.Strand.{Strand}
use Rattle.strands.specs.Fields.{with_delayed}
use Rattle.strands.specs.View.{clause}

-- what the result of delaying means: the clause that it leaves, or 24 where there is none
abbrev pub delayed : Option Strand → Stops said.ExClause
delayed None = stop 24
delayed (Some t) = go (clause t)

-- the strand that is left, or s where there is none
abbrev pub strand_or : Strand → Option Strand → Strand
strand_or s None = s
strand_or s (Some t) = t

-- how many delayed goals a strand holds
abbrev pub held : Strand → ℕ
held s = min s.delayed_count 8

-- Goals follow those held; past eight there is no such strand.
abbrev pub delay_by : (over : Bool) → List ℕ → Strand → Option Strand
delay_by true goals s = None
delay_by false goals s = Some (with_delayed s (sets s.delayed (held s) goals) (held s + length goals))

abbrev pub delay_goals : List ℕ → Strand → Option Strand
delay_goals goals s = delay_by (ltb 8 (held s + length goals)) goals s

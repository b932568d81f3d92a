-- What a call of a sitting said, in the words of the definitions.
use Rattle.std.specs.Prelude.{List, [], ◌∷◌}
use Rattle.definitions.specs.Calls as said
use Rattle.definitions.specs.Logic as logic
use Rattle.definitions.specs.Stop.{stop, go}
use Rattle.definitions.specs.Turn as turns
use Rattle.forest.specs.declared.Forest.{Forest}
use Rattle.forest.specs.declared.any_future_answer.Future.{Future}
use Rattle.forest.specs.declared.any_future_answer.Future.TheVariants as futures
use Rattle.forest.specs.declared.open.Opening.{Opening}
use Rattle.forest.specs.declared.open.Opening.TheVariants as openings
use Rattle.forest.specs.declared.searches.Outcome.{Outcome}
use Rattle.forest.specs.declared.searches.Outcome.TheVariants as outcomes
use Rattle.forest.specs.Sittings.{Told, opens, searches, peeks, asks_future, left, asked}
use Rattle.forest.specs.View.{view}

-- THE REPLY, read off the code's own result
abbrev pub opening_reply : Opening → said.Reply
opening_reply (openings.Refused n) = said.refusal n
opening_reply (openings.Table t) = said.table (go t)
opening_reply (openings.Stopped n) = said.table (stop n)

abbrev pub outcome_reply : Outcome → (turns.Ending → said.Reply) → said.Reply
outcome_reply (outcomes.Refused n) with = said.refusal n
outcome_reply (outcomes.Found variant ambiguous) with = with (turns.found (record { variant = variant; ambiguous = ambiguous }))
outcome_reply outcomes.NoMoreSolutions with = with (turns.fail logic.NoMoreSolutions)
outcome_reply outcomes.Floundered with = with (turns.fail logic.Floundered)
outcome_reply outcomes.QuantumExceeded with = with (turns.fail logic.QuantumExceeded)
outcome_reply outcomes.NegativeCycle with = with (turns.fail logic.NegativeCycle)
outcome_reply outcomes.InvalidAnswer with = with (turns.fail logic.InvalidAnswer)
outcome_reply outcomes.Cut with = with turns.cut
outcome_reply (outcomes.Stopped n) with = with (turns.stopped n)

abbrev pub future_reply : Future → said.Reply
future_reply (futures.Refused n) = said.refusal n
future_reply (futures.Found any) = said.future any

abbrev pub reply : Told → said.Reply
reply (opens goal r) = opening_reply r.opening
reply (searches table index limit r) = outcome_reply r.outcome (λ e. said.searched e r.turns)
reply (peeks table index rounds limit r) = outcome_reply r.outcome (λ e. said.peeked e r.index r.turns r.exceeded)
reply (asks_future table index variant r) = future_reply r

-- the sitting of the definitions that has what a forest means
abbrev pub at : Forest → said.Sitting
at f = said.sitting (view f)

-- THE SITTING, in the words of the definitions
abbrev pub told_call : Forest → Told → said.Called
told_call f t = record { asked = asked t; before = at f; reply = reply t; after = at (left f t) }

abbrev pub told_calls : Forest → List Told → List said.Called
told_calls f [] = []
told_calls f (t ∷ ts) = told_call f t ∷ told_calls (left f t) ts

-- What the small types of lib.rs mean.
use Rattle.std.specs.Prelude.{suc, min}
use Rattle.definitions.specs as said
use Rattle.strands.specs.declared.times.AnswerMode.TheVariants.{Complete, Ambiguous}
use Rattle.strands.specs.declared.times.AnswerMode.{AnswerMode}
use Rattle.strands.specs.declared.times.Minimums.{Minimums}

-- the next time; the last one stays
abbrev pub incremented : said.TimeStamp → said.TimeStamp
incremented t = min (suc t) said.MAX

abbrev pub minimums : Minimums → said.Minimums
minimums m = record { positive = m.positive.clock; negative = m.negative.clock }

abbrev pub mode : AnswerMode → said.AnswerMode
mode Complete = said.Complete
mode Ambiguous = said.Ambiguous

-- `say`: by what the check gives.
use Rattle.levels.proofs.Telling.{tells_levels, tells_refusal, tells_cycles}
use Rattle.levels.proofs.lines.say.Goals as goal

pub returns-in-Ok : goal.returns-in-Ok
returns-in-Ok c = tells_levels _ _ c.in-Ok.l _ _ c.in-Ok.ensures c.text.ensures.puts c.level_lines.ensures

pub returns-in-Err-Refused : goal.returns-in-Err-Refused
returns-in-Err-Refused c = tells_refusal _ _ _ _ _ c.in-Err-Refused.ensures c.in-Err-Refused.field-0-is c.refused.ensures

pub returns-in-Err-OnCycles : goal.returns-in-Err-OnCycles
returns-in-Err-OnCycles c =
    tells_cycles _ _ _ _ _ _ c.in-Err-OnCycles.ensures c.in-Err-OnCycles.field-0-is c.refused-in-Err-OnCycles.ensures
    c.cycle_line.ensures

-- `say`: by whether the paper is refused.
use Rattle.certify.proofs.Telling.{refused_said, few_goals, lines_said}
use Rattle.certify.proofs.lines.say.Goals as goal

pub shared_ref_as_front-goal_lines : goal.shared_ref_as_front-goal_lines
shared_ref_as_front-goal_lines c = few_goals c.args.bytes.now c.in-Ok.s c.in-Ok.ensures

pub returns-in-Ok : goal.returns-in-Ok
returns-in-Ok c = lines_said c.args.bytes.now c.in-Ok.s c.in-Ok.ensures _ _ c.goal_lines.ensures

pub returns-in-Err : goal.returns-in-Err
returns-in-Err c = refused_said c.args.bytes.now c.in-Err.refusal _ _ _ c.in-Err.ensures c.from.ensures c.refusal.ensures.puts

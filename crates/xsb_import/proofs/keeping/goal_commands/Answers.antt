use Rattle.xsb_import.proofs.Filling.{goals_none, goals_next, goals_all}
use borrow.Author.Rules.{rules}
use Rattle.xsb_import.proofs.keeping.goal_commands.Goals as goal

pub loop-goal-preserved : goal.loop-goal-preserved
loop-goal-preserved c = search (rules, goals_none, goals_next, goals_all)

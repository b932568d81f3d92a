-- `cut` meets its contract: the rings are those that putting back leaves.
use Rattle.search.proofs.SolveStateCases.{cut_is}
use Rattle.search.proofs.solve_state.cut.Goals as goal

pub returns : goal.returns
returns c = cut_is c.args.s _ (c.put_back.ensures c.args.s.stores.strands.places.top)

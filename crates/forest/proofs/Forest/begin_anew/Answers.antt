-- `begin_anew` meets its contract as `make_of` does.
use Rattle.forest.proofs.MakeCases.{says_begun}
use Rattle.forest.proofs.Forest.begin_anew.Goals as goal

pub returns : goal.returns
returns c =
    says_begun c.args.clock_limit c.args.r c.requires c.begin-b.result c.begin-b.ensures c.book_kept.result c.book_kept.ensures
    c.bare_forest.result c.bare_forest.ensures

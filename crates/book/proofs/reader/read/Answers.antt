-- `read`: refused as it is read, refused with 6, or what was read.
use Rattle.std.proofs.lemmas.Result.{err_from_is_err_and}
use Rattle.book.proofs.Naming.{was_refused, names_no_goal, names_goals}
use Rattle.book.proofs.reader.read.Goals as goal

pub returns-in_err-all : goal.returns-in_err-all
returns-in_err-all c =
    let p = err_from_is_err_and c.from_residual.result c.from_residual.ensures.1 in
    rw (p.1, p.2) (was_refused c.args.bytes.now _ c.in_err-all.ensures)

pub returns-then-all : goal.returns-then-all
returns-then-all c = names_no_goal c.args.bytes.now _ c.in_ok-all.ensures c.if-all.true

pub returns : goal.returns
returns c = names_goals c.args.bytes.now _ c.in_ok-all.ensures c.if-all.false

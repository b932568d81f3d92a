-- `levels`: no plain paper.
use Rattle.std.proofs.lemmas.Result.{err_from_is_err_and}
use Rattle.paper_checks.proofs.Checked.{unread_profiles}
use Rattle.paper_checks.proofs.levels.levels.Goals as goal

pub returns-in_err-book : goal.returns-in_err-book
returns-in_err-book c =
    let p = err_from_is_err_and c.from_residual.result c.from_residual.ensures.1 in
    rw (p.1, p.2) (unread_profiles c.args.bytes.now _ c.in_err-book.ensures)

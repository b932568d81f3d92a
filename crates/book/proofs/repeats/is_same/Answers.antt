-- `is_same`: clauses whose keys differ are not the same.
use Rattle.book.proofs.ClauseKeys.{keys_tell}
use borrow.Author.Tests.{ne_eqb}
use Rattle.book.specs.Repeats.{lent_by}
use Rattle.book.proofs.repeats.is_same.Goals as goal

pub returns-else-keys-c : goal.returns-else-keys-c
returns-else-keys-c c =
    rw (ne_eqb _ _ c.if-keys-c.false)
    (keys_tell (lent_by c.args.b.now) c.args.keys.now c.args.c c.args.d c.requires.keys c.requires.d_le_c c.if-keys-c.false)

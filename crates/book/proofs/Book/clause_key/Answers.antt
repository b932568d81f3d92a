use Rattle.book.proofs.ClauseKeys.{key_more}
use Rattle.book.proofs.Book.clause_key.Goals as goal

pub loop-j-preserved : goal.loop-j-preserved
loop-j-preserved c = search key_more

-- `keep`: what the last byte ended.
use Rattle.xsb_import.proofs.Growing.{some_kept}
use Rattle.xsb_import.proofs.keeping.keep.Goals as goal

pub returns-in-Some : goal.returns-in-Some
returns-in-Some c = some_kept _ _ _ _ _ _ _ c.in-Some.is c.in_ok-k.was c.more.ensures

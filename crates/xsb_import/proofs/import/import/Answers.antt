-- `import`: a start, the text as one piece, and the end.
use Rattle.xsb_import.proofs.Taking.{imported}
use Rattle.xsb_import.proofs.import.import.Goals as goal

pub returns : goal.returns
returns c = imported _ _ _ _ c.start.ensures c.feed-reader.ensures c.finish.ensures

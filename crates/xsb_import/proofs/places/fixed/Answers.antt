-- `fixed`: the byte that must come.
use Rattle.xsb_import.proofs.Placing.{fixed_same}
use Rattle.xsb_import.proofs.places.fixed.Goals as goal

pub returns-then-b-fixed_byte : goal.returns-then-b-fixed_byte
returns-then-b-fixed_byte c =
    fixed_same _ _ _ _ _ _ c.requires c.fixed_byte.ensures c.if-b-fixed_byte.true c.after_fixed.ensures c.at.ensures

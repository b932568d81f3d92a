-- An option of the definitions, as the code has it.
use Rattle.std.specs.Prelude.{Some, None}
use Rattle.std.specs.declared.option.Option as found
use Rattle.std.proofs.Math.Option.{Option, none, some}

module _ {A B : Type 0} (tell : A → B) where
  abbrev pub option_of : Option A → found.Option B
  option_of none = None
  option_of (some a) = Some (tell a)

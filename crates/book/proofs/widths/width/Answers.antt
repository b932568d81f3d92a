-- `width`: the table is the rule at each of the 256 bytes, which antt computes and compares entry by entry; so what stands at a
-- byte is the rule there.
use Prim.Native.Nat.{ℕ, ◌+◌}
use native.Mathlib.Omega.{arith}
use mathlib.Core.Path.{◌≡◌, ap, ◌∙◌}
use borrow.Author.Rules.{rules}
use Rattle.definitions.specs.Book.{command}
use Rattle.laws.proofs.Spans.{get_or_span}
use Rattle.book.specs.Faults.{marked}
use Rattle.book.proofs.widths.width.Goals as goal

abbrev rule : ℕ → ℕ
rule b = marked (command b)

pub returns : goal.returns
returns c =
    let z : 0 + c.args.b ≡ c.args.b = omega arith in
    get_or_span rule 0 256 c.args.b 0 (search rules) ∙ ap rule z

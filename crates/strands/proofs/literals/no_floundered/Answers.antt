-- A count of 0 shows no floundered literal.
use native.Mathlib.Omega.{arith}
use mathlib.Core.Path.{◌≡◌}
use lib.ListN.{length}
use borrow.Author.Rules.{rules}
use Rattle.laws.specs.Pairs.{paired}
use Rattle.laws.proofs.Maps.{length_mapped}
use Rattle.laws.proofs.Pairs.{length_paired}
use Rattle.strands.specs.View.{floundered}
use Rattle.strands.proofs.Lists.{view_empty}
use Rattle.strands.proofs.literals.no_floundered.Goals as goal

pub returns : goal.returns
returns c =
    let s = c.args.s in
    let e : length s.floundered ≡ 8 = search (length_mapped, rules) in
    let f : length s.floundered_time ≡ 8 = search rules in
    let long = length_paired 8 s.floundered s.floundered_time e f in
    view_empty floundered s.floundered_count (paired s.floundered s.floundered_time) (omega arith)

use native.Mathlib.Omega.{arith}
use mathlib.Core.Path.{◌≡◌}
use lib.ListN.{length}
use borrow.Author.Rules.{rules}
use Rattle.stores.proofs.TableKeys.{key_fits}
use Rattle.stores.proofs.table.key_of.Goals as goal

pub overflow_mul-k : goal.overflow_mul-k
overflow_mul-k c =
    let l = c.loop-i in
    let long : length c.args.x.delayed ≡ 8 = search rules in
    let few = key_fits c.args.x.delayed _ (omega arith) l.i l.k (omega arith) (omega arith) l.invariant (omega arith) in
    omega arith

pub overflow_add-k : goal.overflow_add-k
overflow_add-k c =
    let l = c.loop-i in
    let long : length c.args.x.delayed ≡ 8 = search rules in
    let few = key_fits c.args.x.delayed _ (omega arith) l.i l.k (omega arith) (omega arith) l.invariant (omega arith) in
    omega arith

-- `at_clause`: by whether the book can have such a clause.
use Rattle.mending.proofs.Copies.{clause_goes}
use Prim.Native.Nat.{◌+◌}
use mathlib.Core.Path.{refl}
use Rattle.mending.specs.declared.copy.Copying.{Copying}
use Rattle.mending.proofs.copy.Copying.at_clause.Goals as goal

pub returns-then-clause-lt-MOST_CLAUSES : goal.returns-then-clause-lt-MOST_CLAUSES
returns-then-clause-lt-MOST_CLAUSES c =
    let from = c.args.self in
    let stays = c.is_none-stays.result in
    let to : Copying = record { skip = c.args.skip; stays = stays; last_stays = stays; clauses = from.clauses + 1 } in (
      refl,
      clause_goes c.args.reasons.now from to stays from.clauses refl c.if-clause-lt-MOST_CLAUSES.true c.is_none-stays.ensures
          refl refl refl,
    )

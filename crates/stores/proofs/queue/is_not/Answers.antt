-- `is_not` at its tests' answers.
use mathlib.Core.Path.{◌≡◌, ◌∙◌}
use lib.ListN.{length}
use Rattle.laws.proofs.Maps.{length_mapped}
use Rattle.stores.proofs.QueueCases.{not_past, not_far, not_there}
use borrow.Author.Rules.{rules}
use Rattle.stores.proofs.queue.is_not.Goals as goal

pub returns-then-index-count : goal.returns-then-index-count
returns-then-index-count c =
    let a = c.args in
    let long : length a.literals ≡ 8 = search (length_mapped, rules) in
    not_past a.literals a.count a.index long c.if-index-count.true

pub returns-then-i-ge-MOST_LITERALS : goal.returns-then-i-ge-MOST_LITERALS
returns-then-i-ge-MOST_LITERALS c =
    let a = c.args in
    let long : length a.literals ≡ 8 = search (length_mapped, rules) in
    not_far a.literals a.count a.index long c.if-i-ge-MOST_LITERALS.true

pub returns : goal.returns
returns c =
    let a = c.args in
    let long : length a.literals ≡ 8 = search (length_mapped, rules) in
    c.is_negative.ensures ∙ not_there a.literals a.count a.index long (search rules) (search rules) _

-- `take_place` meets its contract: each way out cites its case.
use Rattle.rings.specs.Rings.{place_number}
use Rattle.stores.proofs.PlacesCases.{took_free}
use borrow.Author.Rules.{rules}
use Rattle.stores.proofs.places.take_place.Goals as goal

pub returns-then-len-gt0 : goal.returns-then-len-gt0
returns-then-len-gt0 c =
    let p = c.ring_pop in
    let a = c.args in
    took_free a.next.now a.tail.now a.len.now a.top.now (search rules) p.new.next p.new.len (place_number p.result)
    p.ensures.0 p.ensures.1 p.ensures.2

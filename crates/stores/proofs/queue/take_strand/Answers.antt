-- `take_strand` is looking and then unlinking.
use Prim.Native.Nat.{ℕ}
use mathlib.Core.Bool.{Bool}
use Rattle.stores.specs.Queue.{eligible}
use Rattle.stores.proofs.QueueCases.{strand_taken, strand_none}
use Rattle.stores.proofs.queue.take_strand.Goals as goal

pub returns-in-Some : goal.returns-in-Some
returns-in-Some c =
    let a = c.args in
    let e : ℕ → Bool = eligible a.time.now a.ambiguous.now a.clock a.complete in
    let s = c.find_strand-s in
    let u = c.ring_unlink in
    strand_taken e a.t a.next.now a.tail.now a.len.now s.result s.ensures c.in-Some.place c.in-Some.is
    u.new.next u.new.tail u.new.len u.ensures.1 u.ensures.2 u.ensures.3

pub returns-in-None : goal.returns-in-None
returns-in-None c =
    let a = c.args in
    let e : ℕ → Bool = eligible a.time.now a.ambiguous.now a.clock a.complete in
    strand_none e a.t a.next.now a.tail.now a.len.now c.find_strand-s.result c.find_strand-s.ensures c.in-None.is

-- `make_move` meets its contract, move by move: each is handed to its function.
use Prim.Native.Nat.{ℕ}
use mathlib.Core.List.{List}
use mathlib.Core.Path.{◌≡◌, sym, ap, ◌∙◌}
use Rattle.strands.specs.declared.Strand.{Strand}
use Rattle.stores.specs.declared.table.Answers.{Answers}
use Rattle.stores.specs.declared.tables.Tables.{Tables}
use Rattle.stores.specs.Places.{places}
use Rattle.stores.specs.Queue.{store}
use Rattle.control.specs.PerformDeed.{stack_of}
use Rattle.control.specs.PerformStrand.{Lent, lent_of}
use Rattle.number_turns.specs.declared.number_turn.Move.{Move}
use Rattle.number_turns.specs.declared.number_turn.Move.TheVariants as move
use Rattle.number_turns.specs.NumberTurn.{NumberTurn, moved}
use Rattle.number_turns.proofs.NumberTurnCases.{pushes, cycles, rejoins}
use borrow.Author.Rules.{rules}
use Rattle.number_turns.proofs.number_turn.make_move.Goals as goal

pub returns-in-Cycles : goal.returns-in-Cycles
returns-in-Cycles c =
    let e = c.on_positive_cycle in
    let u = c.pursue-in-Cycles in
    let a = c.args in
    let height = c.in-Cycles.height in
    λ (tables : Tables) (strands : List Strand) (ambiguous variant wants : List ℕ) (used : ℕ) (answers : Answers).
    let lent : Lent = lent_of tables (store strands a.time.now ambiguous variant a.waits.now wants
    (places a.next.now a.tail.now a.len.now used)) answers
    (stack_of a.depth a.entry_table.now a.entry_clock.now a.positive.now a.negative.now a.active.now)
    a.clock in
    cycles a.p a.top tables strands ambiguous variant a.waits.now wants
    used answers a.time.now a.next.now a.tail.now a.len.now a.depth a.entry_table.now a.entry_clock.now
    a.positive.now a.negative.now a.active.now a.clock
    u.new.next u.new.tail u.new.len u.new.active u.new.time
    u.ensures.0 u.ensures.1 u.ensures.2 height c.waits_on_not-not.result c.waits_on_not-not.ensures
    e.new.next e.new.tail e.new.len e.new.positive e.new.negative e.ensures.0 e.ensures.1
    ∙ ap (λ (m : Move). moved a.p a.top m lent) (sym c.in-Cycles.is)

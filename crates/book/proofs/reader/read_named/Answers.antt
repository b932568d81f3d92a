use Prim.Native.Nat.{ℕ, ◌+◌, ◌-◌, ◌<◌}
use native.Mathlib.Omega.{arith}
use mathlib.Core.Path.{sym, subst, ◌∙◌}
use borrow.Author.Rules.{rules}
use Rattle.std.proofs.lemmas.Result.{err_from_is_err_and}
use Rattle.book.proofs.MoreLiterals.{with_literal}
use Rattle.book.proofs.Course.{SoFar, start, stops, ends, goal_again, clause_room, own_clauses, clause_again, literal_room, literal_again}
use Rattle.book.proofs.reader.read_named.Goals as goal

pub loop-o-init : goal.loop-o-init
loop-o-init c = start c.args.bytes.now c.blank-book.result c.blank-book.ensures

pub returns-in_err-next_fault : goal.returns-in_err-next_fault
returns-in_err-next_fault c =
    let p = err_from_is_err_and c.from_residual.result c.from_residual.ensures.1 in
    rw (p.1, p.2)
    (stops c.args.bytes.now c.loop-o.book c.loop-o.literals c.loop-o.named c.loop-o.at c.loop-o.invariant _ c.in_err-next_fault.ensures)

pub returns-then-o-eq-END : goal.returns-then-o-eq-END
returns-then-o-eq-END c =
    ends c.args.bytes.now c.loop-o.book c.loop-o.literals c.loop-o.named c.loop-o.at c.loop-o.invariant c.in_ok-next_fault.ensures
    (sym c.operands_at-o.ensures.command_is ∙ c.if-o-eq-END.true)

pub loop-o-preserved-then-o-eq-GOAL : goal.loop-o-preserved-then-o-eq-GOAL
loop-o-preserved-then-o-eq-GOAL c =
    goal_again c.args.bytes.now c.loop-o.book c.loop-o.literals c.loop-o.named c.loop-o.at c.loop-o.invariant c.in_ok-next_fault.ensures
    c.operands_at-o.result c.operands_at-o.ensures c.if-o-eq-GOAL.true

pub overflow_add-book-then-o-eq-CLAUSE : goal.overflow_add-book-then-o-eq-CLAUSE
overflow_add-book-then-o-eq-CLAUSE c =
    let r : (0 < c.loop-o.book.goals) × (c.loop-o.book.clauses < 256) =
    clause_room c.args.bytes.now c.loop-o.book c.loop-o.literals c.loop-o.named c.loop-o.at c.loop-o.invariant c.in_ok-next_fault.ensures c.operands_at-o.result c.operands_at-o.ensures c.if-o-eq-CLAUSE.true in
    omega (
      arith,
      own_clauses c.args.bytes.now c.loop-o.book c.loop-o.literals c.loop-o.named c.loop-o.at c.loop-o.invariant c.in_ok-next_fault.ensures
          c.operands_at-o.result c.operands_at-o.ensures c.if-o-eq-CLAUSE.true (c.loop-o.book.goals - 1) (omega arith),
    )

pub bounds-book-clauses : goal.bounds-book-clauses
bounds-book-clauses c =
    let r : (0 < c.loop-o.book.goals) × (c.loop-o.book.clauses < 256) =
    clause_room c.args.bytes.now c.loop-o.book c.loop-o.literals c.loop-o.named c.loop-o.at c.loop-o.invariant c.in_ok-next_fault.ensures c.operands_at-o.result c.operands_at-o.ensures c.if-o-eq-CLAUSE.true in
    search rules

pub bounds-book-clauses-then-o-eq-CLAUSE : goal.bounds-book-clauses-then-o-eq-CLAUSE
bounds-book-clauses-then-o-eq-CLAUSE c =
    let r : (0 < c.loop-o.book.goals) × (c.loop-o.book.clauses < 256) =
    clause_room c.args.bytes.now c.loop-o.book c.loop-o.literals c.loop-o.named c.loop-o.at c.loop-o.invariant c.in_ok-next_fault.ensures c.operands_at-o.result c.operands_at-o.ensures c.if-o-eq-CLAUSE.true in
    search rules

pub bounds-book-clauses-then-o-eq-CLAUSE-2 : goal.bounds-book-clauses-then-o-eq-CLAUSE-2
bounds-book-clauses-then-o-eq-CLAUSE-2 c =
    let r : (0 < c.loop-o.book.goals) × (c.loop-o.book.clauses < 256) =
    clause_room c.args.bytes.now c.loop-o.book c.loop-o.literals c.loop-o.named c.loop-o.at c.loop-o.invariant c.in_ok-next_fault.ensures c.operands_at-o.result c.operands_at-o.ensures c.if-o-eq-CLAUSE.true in
    search rules

pub loop-o-preserved-then-o-eq-CLAUSE : goal.loop-o-preserved-then-o-eq-CLAUSE
loop-o-preserved-then-o-eq-CLAUSE c =
    let r : (0 < c.loop-o.book.goals) × (c.loop-o.book.clauses < 256) =
    clause_room c.args.bytes.now c.loop-o.book c.loop-o.literals c.loop-o.named c.loop-o.at c.loop-o.invariant c.in_ok-next_fault.ensures c.operands_at-o.result c.operands_at-o.ensures c.if-o-eq-CLAUSE.true in
    clause_again c.args.bytes.now c.loop-o.book c.loop-o.literals c.loop-o.named c.loop-o.at c.loop-o.invariant c.in_ok-next_fault.ensures
    c.operands_at-o.result c.operands_at-o.ensures c.if-o-eq-CLAUSE.true
    (c.loop-o.book.goals - 1) (omega arith)

pub overflow_add-place : goal.overflow_add-place
overflow_add-place c =
    let r : (0 < c.loop-o.book.clauses) × (c.loop-o.literals < 8) =
    literal_room c.args.bytes.now c.loop-o.book c.loop-o.literals c.loop-o.named c.loop-o.at c.loop-o.invariant c.in_ok-next_fault.ensures c.operands_at-o.result c.operands_at-o.ensures c.if-o-eq-GOAL.false c.if-o-eq-CLAUSE.false c.if-o-eq-END.false in
    search rules

pub bounds-book-place : goal.bounds-book-place
bounds-book-place c =
    let r : (0 < c.loop-o.book.clauses) × (c.loop-o.literals < 8) =
    literal_room c.args.bytes.now c.loop-o.book c.loop-o.literals c.loop-o.named c.loop-o.at c.loop-o.invariant c.in_ok-next_fault.ensures c.operands_at-o.result c.operands_at-o.ensures c.if-o-eq-GOAL.false c.if-o-eq-CLAUSE.false c.if-o-eq-END.false in
    search rules

pub offset_bounds-book-place : goal.offset_bounds-book-place
offset_bounds-book-place c =
    let r : (0 < c.loop-o.book.clauses) × (c.loop-o.literals < 8) =
    literal_room c.args.bytes.now c.loop-o.book c.loop-o.literals c.loop-o.named c.loop-o.at c.loop-o.invariant c.in_ok-next_fault.ensures c.operands_at-o.result c.operands_at-o.ensures c.if-o-eq-GOAL.false c.if-o-eq-CLAUSE.false c.if-o-eq-END.false in
    search rules

pub bounds-book-place-else-o-eq-CLAUSE : goal.bounds-book-place-else-o-eq-CLAUSE
bounds-book-place-else-o-eq-CLAUSE c =
    let r : (0 < c.loop-o.book.clauses) × (c.loop-o.literals < 8) =
    literal_room c.args.bytes.now c.loop-o.book c.loop-o.literals c.loop-o.named c.loop-o.at c.loop-o.invariant c.in_ok-next_fault.ensures c.operands_at-o.result c.operands_at-o.ensures c.if-o-eq-GOAL.false c.if-o-eq-CLAUSE.false c.if-o-eq-END.false in
    search rules

pub offset_bounds-book-place-else-o-eq-CLAUSE : goal.offset_bounds-book-place-else-o-eq-CLAUSE
offset_bounds-book-place-else-o-eq-CLAUSE c =
    let r : (0 < c.loop-o.book.clauses) × (c.loop-o.literals < 8) =
    literal_room c.args.bytes.now c.loop-o.book c.loop-o.literals c.loop-o.named c.loop-o.at c.loop-o.invariant c.in_ok-next_fault.ensures c.operands_at-o.result c.operands_at-o.ensures c.if-o-eq-GOAL.false c.if-o-eq-CLAUSE.false c.if-o-eq-END.false in
    search rules

pub bounds-book-place-else-o-eq-CLAUSE-2 : goal.bounds-book-place-else-o-eq-CLAUSE-2
bounds-book-place-else-o-eq-CLAUSE-2 c =
    let r : (0 < c.loop-o.book.clauses) × (c.loop-o.literals < 8) =
    literal_room c.args.bytes.now c.loop-o.book c.loop-o.literals c.loop-o.named c.loop-o.at c.loop-o.invariant c.in_ok-next_fault.ensures c.operands_at-o.result c.operands_at-o.ensures c.if-o-eq-GOAL.false c.if-o-eq-CLAUSE.false c.if-o-eq-END.false in
    search rules

pub overflow_add-literals : goal.overflow_add-literals
overflow_add-literals c =
    let r : (0 < c.loop-o.book.clauses) × (c.loop-o.literals < 8) =
    literal_room c.args.bytes.now c.loop-o.book c.loop-o.literals c.loop-o.named c.loop-o.at c.loop-o.invariant c.in_ok-next_fault.ensures c.operands_at-o.result c.operands_at-o.ensures c.if-o-eq-GOAL.false c.if-o-eq-CLAUSE.false c.if-o-eq-END.false in
    search rules

pub overflow_cast-book-else-o-eq-CLAUSE : goal.overflow_cast-book-else-o-eq-CLAUSE
overflow_cast-book-else-o-eq-CLAUSE c =
    let r : (0 < c.loop-o.book.clauses) × (c.loop-o.literals < 8) =
    literal_room c.args.bytes.now c.loop-o.book c.loop-o.literals c.loop-o.named c.loop-o.at c.loop-o.invariant c.in_ok-next_fault.ensures c.operands_at-o.result c.operands_at-o.ensures c.if-o-eq-GOAL.false c.if-o-eq-CLAUSE.false c.if-o-eq-END.false in
    search rules

pub loop-o-preserved : goal.loop-o-preserved
loop-o-preserved c =
    let o = c.operands_at-o.result in
    let r : (0 < c.loop-o.book.clauses) × (c.loop-o.literals < 8) =
    literal_room c.args.bytes.now c.loop-o.book c.loop-o.literals c.loop-o.named c.loop-o.at c.loop-o.invariant c.in_ok-next_fault.ensures c.operands_at-o.result c.operands_at-o.ensures c.if-o-eq-GOAL.false c.if-o-eq-CLAUSE.false c.if-o-eq-END.false in
    subst
    (λ (n : ℕ). SoFar c.args.bytes.now (with_literal c.loop-o.book (c.loop-o.book.clauses - 1) c.loop-o.literals o.kind o.number
    o.want) (c.loop-o.literals + 1) n o.next)
    (sym c.max-named.ensures)
    (literal_again c.args.bytes.now c.loop-o.book c.loop-o.literals c.loop-o.named c.loop-o.at c.loop-o.invariant c.in_ok-next_fault.ensures
    c.operands_at-o.result c.operands_at-o.ensures
    c.if-o-eq-GOAL.false c.if-o-eq-CLAUSE.false c.if-o-eq-END.false (c.loop-o.book.clauses - 1) (omega arith))

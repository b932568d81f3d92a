-- table.rs. A table's answers stand in the order found; `answers_hash` is a search among them, by variant and delayed goals.
use Rattle.std.specs.Prelude.{ℕ, Bool, true, false, not, ◌&&◌, List, [], ◌∷◌, length, eqb, leb}
use Rattle.std.proofs.Math.Option.{Option, none, some}
use Rattle.std.proofs.Math.ListN.{get_elem?}
use Rattle.sizes.specs.Limits.{most_answers}
use Rattle.definitions.specs.{Answer, AnswerMode, Complete}
use Rattle.definitions.specs.Stop.{Stops, go, ◌>>◌, stop_if}
use Rattle.definitions.specs.Lists.{push, position, rotate_left, same}
use Rattle.definitions.specs.Strand.{Strand}

-- `Table`
pub record Table : Type 0 where
  pub table_goal : ℕ
  pub coinductive_goal : Bool
  pub floundered : Bool
  pub answers : List Answer
  pub strands : List Strand
  pub answer_mode : AnswerMode

-- `Table::new`
abbrev pub new : ℕ → Bool → Table
new goal coinductive = record {
  table_goal = goal;
  coinductive_goal = coinductive;
  floundered = false;
  answers = [];
  strands = [];
  answer_mode = Complete;
}

abbrev pub with_strands : Table → List Strand → Table
with_strands t ss = record {
  table_goal = t.table_goal;
  coinductive_goal = t.coinductive_goal;
  floundered = t.floundered;
  answers = t.answers;
  strands = ss;
  answer_mode = t.answer_mode;
}

abbrev pub with_answers : Table → List Answer → Table
with_answers t as' = record {
  table_goal = t.table_goal;
  coinductive_goal = t.coinductive_goal;
  floundered = t.floundered;
  answers = as';
  strands = t.strands;
  answer_mode = t.answer_mode;
}

abbrev pub with_mode : Table → AnswerMode → Table
with_mode t m = record {
  table_goal = t.table_goal;
  coinductive_goal = t.coinductive_goal;
  floundered = t.floundered;
  answers = t.answers;
  strands = t.strands;
  answer_mode = m;
}

-- `enqueue_strand`
abbrev pub enqueue_strand : Strand → Table → Table
enqueue_strand s t = with_strands t (push t.strands s)

-- `take_strands`: what is left of the table; the strands taken are `t.strands`
abbrev pub take_strands : Table → Table
take_strands t = with_strands t []

-- `pop_front`
abbrev pub pop_front : Table → Option (Strand × Table)
pop_front t = elim t.strands [ [] ↦ none | s ∷ ss ↦ some (s, with_strands t ss) ]

-- `dequeue_next_strand_that`: taking b from a, b, c leaves c, a
abbrev pub dequeue_next_strand_that : (Strand → Bool) → Table → Option (Strand × Table)
dequeue_next_strand_that test t = elim (position test t.strands) [
  | none ↦ none
  | some first ↦ pop_front (with_strands t (rotate_left t.strands first))
]

-- `mark_floundered`
abbrev pub mark_floundered : Table → Table
mark_floundered t = record {
  table_goal = t.table_goal;
  coinductive_goal = t.coinductive_goal;
  floundered = true;
  answers = [];
  strands = [];
  answer_mode = t.answer_mode;
}

-- the stored answer with the same variant and delayed goals; the ambiguous flag doesn't count
abbrev pub equal_answer : Answer → List Answer → Option Answer
equal_answer a [] = none
equal_answer a (b ∷ bs) = elim (eqb b.variant a.variant && same b.delayed_subgoals a.delayed_subgoals) [
  | true ↦ some b
  | false ↦ equal_answer a bs
]

-- `push_answer`: the index of the answer if it is new. `held` counts the answers of all tables: 23 is the 257th. 26 where the
-- stored one is ambiguous and the new one isn't.
abbrev pub push_answer : (held : ℕ) → Answer → Table → Stops (Option ℕ × Table)
push_answer held a t = do
  stop_if t.floundered 0
  elim (equal_answer a t.answers) [
    | some was ↦ stop_if (was.ambiguous && not a.ambiguous) 26 >> go (none, t)
    | none ↦ stop_if (leb most_answers held) 23 >> go (some (length t.answers), with_answers t (push t.answers a))
  ]

-- `answer`
abbrev pub answer : Table → ℕ → Option Answer
answer t i = get_elem? t.answers i

-- `next_answer_index`
abbrev pub next_answer_index : Table → ℕ
next_answer_index t = length t.answers

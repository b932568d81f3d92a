-- strand.rs
use Rattle.std.specs.Prelude.{ℕ, Bool, List}
use Rattle.std.proofs.Math.Option.{Option}
use Rattle.definitions.specs.{TableIndex, TimeStamp, FlounderedSubgoal, ExClause}
use Rattle.definitions.specs.Book.{Literal}

-- `SelectedSubgoal`
pub record SelectedSubgoal : Type 0 where
  pub subgoal_index : ℕ
  pub subgoal_table : TableIndex
  pub answer_index : ℕ

-- `Strand`
pub record Strand : Type 0 where
  pub ex_clause : ExClause
  pub selected_subgoal : Option SelectedSubgoal
  pub last_pursued_time : TimeStamp

-- A strand, or its clause, with a field written; `with_floundered` writes two, since a literal goes from one list to the other.

abbrev pub with_ex_clause : Strand → ExClause → Strand
with_ex_clause s x = record {
  ex_clause = x;
  selected_subgoal = s.selected_subgoal;
  last_pursued_time = s.last_pursued_time;
}

abbrev pub with_selected : Strand → Option SelectedSubgoal → Strand
with_selected s sel = record {
  ex_clause = s.ex_clause;
  selected_subgoal = sel;
  last_pursued_time = s.last_pursued_time;
}

abbrev pub with_pursued : Strand → TimeStamp → Strand
with_pursued s t = record {
  ex_clause = s.ex_clause;
  selected_subgoal = s.selected_subgoal;
  last_pursued_time = t;
}

abbrev pub with_subgoals : ExClause → List Literal → ExClause
with_subgoals x ls = record {
  subst = x.subst;
  ambiguous = x.ambiguous;
  subgoals = ls;
  delayed_subgoals = x.delayed_subgoals;
  answer_time = x.answer_time;
  floundered_subgoals = x.floundered_subgoals;
}

abbrev pub with_delayed : ExClause → List ℕ → ExClause
with_delayed x ds = record {
  subst = x.subst;
  ambiguous = x.ambiguous;
  subgoals = x.subgoals;
  delayed_subgoals = ds;
  answer_time = x.answer_time;
  floundered_subgoals = x.floundered_subgoals;
}

abbrev pub with_ambiguous : ExClause → Bool → ExClause
with_ambiguous x b = record {
  subst = x.subst;
  ambiguous = b;
  subgoals = x.subgoals;
  delayed_subgoals = x.delayed_subgoals;
  answer_time = x.answer_time;
  floundered_subgoals = x.floundered_subgoals;
}

abbrev pub with_answer_time : ExClause → TimeStamp → ExClause
with_answer_time x t = record {
  subst = x.subst;
  ambiguous = x.ambiguous;
  subgoals = x.subgoals;
  delayed_subgoals = x.delayed_subgoals;
  answer_time = t;
  floundered_subgoals = x.floundered_subgoals;
}

abbrev pub with_floundered : ExClause → List Literal → List FlounderedSubgoal → ExClause
with_floundered x ls fs = record {
  subst = x.subst;
  ambiguous = x.ambiguous;
  subgoals = ls;
  delayed_subgoals = x.delayed_subgoals;
  answer_time = x.answer_time;
  floundered_subgoals = fs;
}

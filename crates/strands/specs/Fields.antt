-- A strand with some of its fields written, and the copy of a strand for the next answer of the subgoal that it has selected. Every model
-- of this crate is made of these.
use Rattle.std.specs.Prelude.{ℕ, suc, min, Bool, List}
use Rattle.book.specs.declared.Literal.{Literal}
use Rattle.strands.specs.declared.Selected.TheVariants.{Nothing, Subgoal}
use Rattle.strands.specs.declared.Selected.{Selected}
use Rattle.strands.specs.declared.Strand.{Strand}

-- what an array gives past its end
abbrev pub no_literal : Literal
no_literal = record { goal = 0; kind = 0; want = 0; high = 0 }

-- Fields written. A list goes with how many of it count.

abbrev pub with_selected : Strand → Selected → Strand
with_selected s k = record {
  variant = s.variant;
  outsized = s.outsized;
  ambiguous = s.ambiguous;
  answer_time = s.answer_time;
  literal_count = s.literal_count;
  floundered_count = s.floundered_count;
  delayed_count = s.delayed_count;
  literals = s.literals;
  floundered = s.floundered;
  floundered_time = s.floundered_time;
  delayed = s.delayed;
  selected = k;
}

abbrev pub with_ambiguous : Strand → Bool → Strand
with_ambiguous s b = record {
  variant = s.variant;
  outsized = s.outsized;
  ambiguous = b;
  answer_time = s.answer_time;
  literal_count = s.literal_count;
  floundered_count = s.floundered_count;
  delayed_count = s.delayed_count;
  literals = s.literals;
  floundered = s.floundered;
  floundered_time = s.floundered_time;
  delayed = s.delayed;
  selected = s.selected;
}

abbrev pub with_answer_time : Strand → (time : ℕ) → Strand
with_answer_time s time = record {
  variant = s.variant;
  outsized = s.outsized;
  ambiguous = s.ambiguous;
  answer_time = time;
  literal_count = s.literal_count;
  floundered_count = s.floundered_count;
  delayed_count = s.delayed_count;
  literals = s.literals;
  floundered = s.floundered;
  floundered_time = s.floundered_time;
  delayed = s.delayed;
  selected = s.selected;
}

abbrev pub with_literals : Strand → List Literal → (count : ℕ) → Strand
with_literals s ls count = record {
  variant = s.variant;
  outsized = s.outsized;
  ambiguous = s.ambiguous;
  answer_time = s.answer_time;
  literal_count = count;
  floundered_count = s.floundered_count;
  delayed_count = s.delayed_count;
  literals = ls;
  floundered = s.floundered;
  floundered_time = s.floundered_time;
  delayed = s.delayed;
  selected = s.selected;
}

abbrev pub with_floundered : Strand → List Literal → (times : List ℕ) → (count : ℕ) → Strand
with_floundered s ls times count = record {
  variant = s.variant;
  outsized = s.outsized;
  ambiguous = s.ambiguous;
  answer_time = s.answer_time;
  literal_count = s.literal_count;
  floundered_count = count;
  delayed_count = s.delayed_count;
  literals = s.literals;
  floundered = ls;
  floundered_time = times;
  delayed = s.delayed;
  selected = s.selected;
}

abbrev pub with_delayed : Strand → List ℕ → (count : ℕ) → Strand
with_delayed s ds count = record {
  variant = s.variant;
  outsized = s.outsized;
  ambiguous = s.ambiguous;
  answer_time = s.answer_time;
  literal_count = s.literal_count;
  floundered_count = s.floundered_count;
  delayed_count = count;
  literals = s.literals;
  floundered = s.floundered;
  floundered_time = s.floundered_time;
  delayed = ds;
  selected = s.selected;
}

-- The copy for the next answer.

-- the next answer index; a u16 stays at its end
abbrev pub after : ℕ → ℕ
after answer = min (suc answer) 65535

abbrev pub next_of : Selected → Selected
next_of Nothing = Nothing
next_of (Subgoal index table answer) = Subgoal index table (after answer)

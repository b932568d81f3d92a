-- What the structs mean: the strand and the answer of the definitions that they hold, and when they are sound.
use Rattle.std.specs.Prelude.{ℕ, ◌+◌, ◌≤◌, Bool, true, false, map, ◌≡◌, length, take}
use Rattle.std.proofs.Math.Option.{Option, none, some}
use Rattle.laws.specs.Pairs.{paired}
use Rattle.definitions.specs as said
use Rattle.definitions.specs.Book as books
use Rattle.definitions.specs.Strand as held
use Rattle.book.specs.View.{meant}
use Rattle.book.specs.declared.Literal.{Literal}
use Rattle.strands.specs.declared.Answer.{Answer}
use Rattle.strands.specs.declared.Selected.TheVariants.{Nothing, Subgoal}
use Rattle.strands.specs.declared.Selected.{Selected}
use Rattle.strands.specs.declared.Strand.{Strand}

-- A strand.

abbrev pub selected : Selected → Option held.SelectedSubgoal
selected Nothing = none
selected (Subgoal index table answer) = some (record { subgoal_index = index; subgoal_table = table; answer_index = answer })

-- a floundered literal and its time
abbrev pub floundered : Literal × ℕ → said.FlounderedSubgoal
floundered f = record { floundered_literal = meant f.0; floundered_time = f.1 }

abbrev pub clause : Strand → said.ExClause
clause s = record {
  subst = record { variant = s.variant; outsized = s.outsized };
  ambiguous = s.ambiguous;
  subgoals = map meant (take s.literal_count s.literals);
  delayed_subgoals = take s.delayed_count s.delayed;
  answer_time = s.answer_time;
  floundered_subgoals = map floundered (take s.floundered_count (paired s.floundered s.floundered_time));
}

-- a strand that was pursued at this time: the time stands beside the strands, by place
abbrev pub seen : (time : said.TimeStamp) → Strand → held.Strand
seen time s = record { ex_clause = clause s; selected_subgoal = selected s.selected; last_pursued_time = time }

-- The lists are within their arrays. A clause has at most eight literals: each is still to be solved, is floundered, or was solved,
-- and only those that were raise answer time. So a literal that returns or is set aside finds room, and answer time fits a byte.
pub record Sound (s : Strand) : Type 0 where
  pub literals_long : length s.literals ≡ 8
  pub floundered_long : length s.floundered ≡ 8
  pub times_long : length s.floundered_time ≡ 8
  pub delayed_long : length s.delayed ≡ 8
  pub few_literals : s.literal_count + s.floundered_count + s.answer_time ≤ 8
  pub few_delayed : s.delayed_count ≤ 8

-- nothing but the clause has changed: what is selected is as it was
abbrev pub Kept : Strand → Strand → Type 0
Kept s r = r.selected ≡ s.selected

-- An answer.

abbrev pub answer : Answer → said.Answer
answer a = record { variant = a.variant; delayed_subgoals = take a.delayed_count a.delayed; ambiguous = a.ambiguous }

pub record SoundAnswer (a : Answer) : Type 0 where
  pub delayed_long : length a.delayed ≡ 8
  pub few_delayed : a.delayed_count ≤ 8

-- A literal's sign.

abbrev pub is_negative : books.Literal → Bool
is_negative (books.Positive goal want outsized) = false
is_negative (books.Negative goal outsized) = true

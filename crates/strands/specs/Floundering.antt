-- What floundering and reconsidering do to a strand.
use Rattle.std.specs.Prelude.{ℕ, zero, suc, ◌+◌, ◌-◌, min, Bool, true, false, eqb, leb, ltb, get_or, set}
use Rattle.book.specs.declared.Literal.{Literal}
use Rattle.strands.specs.declared.Strand.{Strand}
use Rattle.strands.specs.Fields.{no_literal, with_literals, with_floundered}

-- the last literal with the strand's answer time, put after those that are floundered
abbrev pub last_literal : Strand → Literal
last_literal s = get_or s.literals (s.literal_count - 1) no_literal

abbrev pub set_aside : Strand → Strand
set_aside s =
    with_floundered (with_literals s s.literals (s.literal_count - 1))
    (set s.floundered s.floundered_count (last_literal s))
    (set s.floundered_time s.floundered_count s.answer_time) (s.floundered_count + 1)

-- `flounder_subgoal`. A strand with no literal, with more than eight or with no room for a floundered one is as it was.
abbrev pub flounder_by : (none_left too_many full : Bool) → Strand → Strand
flounder_by true too_many full s = s
flounder_by false true full s = s
flounder_by false false true s = s
flounder_by false false false s = set_aside s

abbrev pub flounder : Strand → Strand
flounder s = flounder_by (eqb s.literal_count 0) (ltb 8 s.literal_count) (leb 8 s.floundered_count) s

-- what is set aside at an index, and its time
abbrev pub aside_at : ℕ → Strand → Literal
aside_at i s = get_or s.floundered i no_literal

abbrev pub time_at : ℕ → Strand → ℕ
time_at i s = get_or s.floundered_time i 0

-- the floundered literal at i returns, and the last floundered one takes its place
abbrev pub taken_back : ℕ → Strand → Strand
taken_back i s =
    with_floundered
    (with_literals s (set s.literals s.literal_count (aside_at i s)) (s.literal_count + 1))
    (set s.floundered i (aside_at (s.floundered_count - 1) s))
    (set s.floundered_time i (time_at (s.floundered_count - 1) s)) (s.floundered_count - 1)

-- One turn of the loop. The strand is as it was where more than eight are floundered, none stands at i, its time is not past, or eight
-- literals stand already.
abbrev pub reconsider_by : (too_many past late full : Bool) → ℕ → Strand → Strand
reconsider_by true past late full i s = s
reconsider_by false true late full i s = s
reconsider_by false false true full i s = s
reconsider_by false false false true i s = s
reconsider_by false false false false i s = taken_back i s

abbrev pub reconsider_at : ℕ → Strand → Strand
reconsider_at i s =
    reconsider_by (ltb 8 s.floundered_count) (leb s.floundered_count i)
    (leb s.answer_time (time_at i s)) (leb 8 s.literal_count) i s

-- the loop, at index i - 1 and down to 0
abbrev pub reconsider_down : ℕ → Strand → Strand
reconsider_down zero s = s
reconsider_down (suc i) s = reconsider_down i (reconsider_at i s)

-- `reconsider_floundered_subgoals`
abbrev pub reconsider : Strand → Strand
reconsider s = reconsider_down (min s.floundered_count 8) s

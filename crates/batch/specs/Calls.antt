-- Calls and replies as numbers: five of each for a call.
use Rattle.std.specs.Prelude.{ℕ, ◌+◌, ◌*◌, ◌%◌, Bool, true, false, List, get_or, set}
use Rattle.search.specs.declared.course.Course.{Course}
use Rattle.search.specs.declared.course.Ending.{Ending}
use Rattle.search.specs.declared.course.Ending.TheVariants as endings
use Rattle.batch.specs.declared.calls.Call.{Call}
use Rattle.batch.specs.declared.calls.Reply.{Reply}
use Rattle.batch.specs.declared.calls.Said.{Said}
use Rattle.batch.specs.declared.calls.Said.TheVariants as saying

-- where the numbers of a call stand
abbrev pub first_number : (at : ℕ) → ℕ
first_number at = (at % 256) * 5

abbrev pub call_from : List ℕ → (i : ℕ) → Call
call_from calls i = record {
  kind = get_or calls i 0;
  a = get_or calls (i + 1) 0;
  b = get_or calls (i + 2) 0;
  c = get_or calls (i + 3) 0;
  d = get_or calls (i + 4) 0;
}

abbrev pub call_at : List ℕ → (at : ℕ) → Call
call_at calls at = call_from calls (first_number at)

abbrev pub put_from : (i : ℕ) → Reply → List ℕ → List ℕ
put_from i r l = set (set (set (set (set l i r.word) (i + 1) r.value) (i + 2) r.index) (i + 3) r.turns) (i + 4) r.exceeded

abbrev pub reply_put : (at : ℕ) → Reply → List ℕ → List ℕ
reply_put at r l = put_from (first_number at) r l

-- THE WORDS: 0 refused by a number, 1 a table, 2 stopped by a number, 3 yes and 4 maybe with a variant, 5 none, 6 floundered, 7 again,
-- 8 negative cycle, 9 invalid, 10 cut, 11 false, 12 true
abbrev pub reply : (word value index turns exceeded : ℕ) → Reply
reply word value index turns exceeded =
    record { word = word; value = value; index = index; turns = turns; exceeded = exceeded }

abbrev pub found_word : (ambiguous : Bool) → ℕ
found_word true = 4
found_word false = 3

abbrev pub future_word : (any : Bool) → ℕ
future_word true = 12
future_word false = 11

abbrev pub word_of : Ending → ℕ
word_of (endings.Found variant ambiguous) = found_word ambiguous
word_of endings.NoMoreSolutions = 5
word_of endings.Floundered = 6
word_of endings.QuantumExceeded = 7
word_of endings.NegativeCycle = 8
word_of endings.InvalidAnswer = 9
word_of endings.Cut = 10
word_of (endings.Stopped n) = 2

abbrev pub value_of : Ending → ℕ
value_of (endings.Found variant ambiguous) = variant
value_of endings.NoMoreSolutions = 0
value_of endings.Floundered = 0
value_of endings.QuantumExceeded = 0
value_of endings.NegativeCycle = 0
value_of endings.InvalidAnswer = 0
value_of endings.Cut = 0
value_of (endings.Stopped n) = n

abbrev pub reply_of : Said → Course → Reply
reply_of (saying.Refused n) c = reply 0 n 0 0 0
reply_of (saying.Table t) c = reply 1 t 0 0 0
reply_of (saying.Stopped n) c = reply 2 n 0 0 0
reply_of (saying.Future any) c = reply (future_word any) 0 0 0 0
reply_of saying.Searched c = reply (word_of c.ending) (value_of c.ending) 0 c.done 0
reply_of saying.Peeked c = reply (word_of c.ending) (value_of c.ending) c.index c.done c.exceeded

-- How much a course has left at most: rounds, then indices, then turns. It falls with each turn and each search, so that the loop ends.
use Rattle.std.specs.Prelude.{ℕ, suc, ◌+◌, ◌*◌, ◌-◌, Bool, true, false}
use Rattle.search.specs.declared.course.Asked.{Asked}
use Rattle.search.specs.declared.course.Course.{Course}

abbrev pub left_by : (over : Bool) → (limit more index done : ℕ) → ℕ
left_by true limit more index done = 0
left_by false limit more index done = suc ((more * 258 + (257 - index)) * suc limit + (limit - done))

abbrev pub left_of : Asked → Course → ℕ
left_of asked c = left_by c.over asked.limit c.more c.index c.done

-- The loop over the calls: what it comes to, call after call.
use Rattle.std.specs.Prelude.{ℕ, ◌+◌, ◌*◌, ◌-◌, min, Bool, true, false, List, ◌≡◌, leb, ltb}
use Rattle.book.specs.declared.Book.{Book}
use Rattle.search.specs.declared.course.Course.{Course}
use Rattle.search.specs.Falls.{left_of}
use Rattle.search.specs.Walk.{Walk, Comes}
use Rattle.batch.specs.declared.calls.Serving.{Serving}
use Rattle.batch.specs.Serve.{Stage, told, begun}
use Rattle.batch.specs.Calls.{call_at}

-- a search of the call at hand runs
abbrev pub runs_by : (busy over : Bool) → Bool
runs_by true true = false
runs_by true false = true
runs_by false over = false

abbrev pub runs : Serving → Bool
runs s = runs_by s.busy s.course.over

-- the search at hand as a walk, and where it has come to another one
abbrev pub walk_of : Stage → Walk
walk_of v = record { course = v.serving.course; lent = v.lent }

abbrev pub with_course : Course → Serving → Serving
with_course c s = record { at = s.at; busy = s.busy; said = s.said; asked = s.asked; course = c }

abbrev pub with_walk : Stage → Walk → Stage
with_walk v w = record { serving = with_course w.course v.serving; lent = w.lent; replies = v.replies }

module _ (b : Book) (clock_limit : ℕ) (calls : List ℕ) (count : ℕ) where
  abbrev pub next_begun : Stage → Stage
  next_begun v = begun b clock_limit (call_at calls v.serving.at) v

  -- WHAT IT COMES TO: all calls are told; or the searches of the call at hand come to what they come to, and it is told; or where none is
  -- at hand, the next one is begun first
  pub data Serves : Stage → Stage → Type 0 where
    all_told : {v : Stage} → leb count v.serving.at ≡ true → Serves v v
    hand_told : {v u : Stage} {w : Walk} → ltb v.serving.at count ≡ true → v.serving.busy ≡ true
        → Comes b v.serving.asked (walk_of v) w → Serves (told (with_walk v w)) u → Serves v u
    call_served : {v u : Stage} {w : Walk} → ltb v.serving.at count ≡ true → v.serving.busy ≡ false
        → Comes b (next_begun v).serving.asked (walk_of (next_begun v)) w
        → Serves (told (with_walk (next_begun v) w)) u → Serves v u

-- HOW MUCH IS LEFT at most: calls, then the course of the one at hand, which has no more left than this
abbrev pub most_left : ℕ
most_left = (18446744073709551615 * 258 + 257) * 18446744073709551616 + 18446744073709551616

abbrev pub share_left : (busy : Bool) → (course_left : ℕ) → ℕ
share_left true n = min n most_left
share_left false n = most_left + 1

abbrev pub serving_left : (count : ℕ) → Serving → ℕ
serving_left count s = (count - s.at) * (most_left + 3) + share_left s.busy (left_of s.asked s.course)

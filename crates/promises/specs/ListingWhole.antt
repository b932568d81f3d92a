-- The listing is whole (document 01, "The listing program"): for every byte string it is refused as the desk refuses it, or its lines are
-- those of the book's goals, one after the other and each to its end. Every stop is one of the listed numbers, so that no bound ran out,
-- and no line says "invalid". `Listing` of proofs/ has the proof.
use Rattle.std.specs.Prelude.{ℕ, suc, ◌+◌, ◌*◌, ◌≤◌, ◌<◌, ◌≡◌, List, [], ◌∷◌, length}
use Rattle.definitions.specs.Refusal.{Refusable, refused, accepted}
use Rattle.definitions.specs.Book.{Book}
use Rattle.definitions.specs.Desk.{desk}
use Rattle.definitions.specs.Logic.{InvalidAnswer}
use Rattle.definitions.specs.Turn.{fail, stopped}
use Rattle.papers.specs.Listing.{Line, Next, next_index, next_goal, the_end, next, lines}
use Rattle.definitions.specs.Lists.{Each}
use Rattle.promises.specs.Total.{StopNumber}

-- a line that may stand in the listing of a book of so many goals
pub record MayStand (goals : ℕ) (l : Line) : Type 0 where
  pub of_the_book : l.goal < goals
  pub few_indices : l.index ≤ 256
  pub stop_listed : (n : ℕ) → l.ending ≡ stopped n → StopNumber n
  pub not_invalid : l.ending ≡ fail InvalidAnswer → ⊥

-- The lines of the goals from this one on begin with a line of it; there are none only behind the last goal.
abbrev pub StartsAt : (goals goal : ℕ) → List Line → Type 0
StartsAt goals goal [] = goal ≡ goals
StartsAt goals goal (l ∷ ls) = l.goal ≡ goal

-- What stands behind a line, in a book of so many goals: after a yes or maybe a line of the same goal at a later index, so that the last
-- line of a goal is neither; after a stop nothing; after any other line the next goal.
abbrev pub Behind : (goals : ℕ) → Line → Next → List Line → Type 0
Behind goals l next_index [] = ⊥
Behind goals l next_index (m ∷ ms) = (m.goal ≡ l.goal) × (l.index < m.index)
Behind goals l next_goal ls = StartsAt goals (suc l.goal) ls
Behind goals l the_end [] = Unit {0}
Behind goals l the_end (m ∷ ms) = ⊥

abbrev pub InOrder : (goals : ℕ) → List Line → Type 0
InOrder goals [] = Unit {0}
InOrder goals (l ∷ ls) = Behind goals l (next l.ending) ls × InOrder goals ls

-- the lines of the goals from this one on; a goal has at most 257
pub record Whole (goals goal : ℕ) (ls : List Line) : Type 0 where
  pub starts : StartsAt goals goal ls
  pub in_order : InOrder goals ls
  pub may_stand : Each (MayStand goals) ls
  pub few : length ls + 257 * goal ≤ 257 * goals

-- what the desk takes, and what is listed
abbrev pub ListedAs : Refusable Book → Refusable (List Line) → Type 0
ListedAs (refused n) r = r ≡ refused n
ListedAs (accepted book) (refused n) = ⊥
ListedAs (accepted book) (accepted ls) = Whole (length book) 0 ls

abbrev pub ListingWhole : Type 0
ListingWhole = (bytes : List ℕ) → ListedAs (desk bytes) (lines bytes)

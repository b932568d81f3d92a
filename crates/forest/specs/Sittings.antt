-- A sitting: calls of the public functions one after the other, each with what it gave. What is known of a call is its function's contract
-- and nothing else.
use Rattle.std.specs.Prelude.{ℕ, List, [], ◌∷◌}
use Rattle.definitions.specs.Calls as said
use Rattle.forest.specs.declared.Forest.{Forest}
use Rattle.forest.specs.declared.any_future_answer.Future.{Future}
use Rattle.forest.specs.declared.open.Opened.{Opened}
use Rattle.forest.specs.declared.searches.Peeked.{Peeked}
use Rattle.forest.specs.declared.searches.Searched.{Searched}
use Rattle.forest.specs.AnyFutureAnswer.{FutureSays}
use Rattle.forest.specs.Open.{OpenSays}
use Rattle.forest.specs.Searches.{SearchSays, PeekSays}

-- a call, and what it gave
pub data Told : Type 0 where
  opens : (goal : ℕ) → Opened → Told
  searches : (table index limit : ℕ) → Searched → Told
  peeks : (table index rounds limit : ℕ) → Peeked → Told
  asks_future : (table index variant : ℕ) → Future → Told

-- the forest that it left
abbrev pub left : Forest → Told → Forest
left f (opens goal r) = r.forest
left f (searches table index limit r) = r.forest
left f (peeks table index rounds limit r) = r.forest
left f (asks_future table index variant r) = f

-- what it gave is what the function's contract lets it give
abbrev pub Gives : Forest → Told → Type 0
Gives f (opens goal r) = OpenSays f goal r
Gives f (searches table index limit r) = SearchSays f table index limit r
Gives f (peeks table index rounds limit r) = PeekSays f table index rounds limit r
Gives f (asks_future table index variant r) = FutureSays f table index variant r

-- each call gets the forest as the call before it left it, and nobody else writes it in between
abbrev pub Sits : Forest → List Told → Type 0
Sits f [] = Unit {0}
Sits f (t ∷ ts) = Gives f t × Sits (left f t) ts

-- THE CALL in the words of the definitions
abbrev pub asked : Told → said.Call
asked (opens goal r) = said.opens goal
asked (searches table index limit r) = said.searches table index limit
asked (peeks table index rounds limit r) = said.peeks table index rounds limit
asked (asks_future table index variant r) = said.asks_future table index variant

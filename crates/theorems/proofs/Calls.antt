-- A sitting is a list of calls of the definitions: a call on a sound forest says what theirs says on its view, and leaves a sound one.
use Prim.Native.Nat.{ℕ}
use mathlib.Core.Bool.{Bool}
use mathlib.Core.List.{List, [], ◌∷◌, map}
use mathlib.Core.Path.{◌≡◌, refl, sym, ap, ◌∙◌}
use Rattle.definitions.specs.Calls as said
use Rattle.definitions.specs.Refusal.{Refusable, refused, accepted}
use Rattle.definitions.specs.Tables as tables
use Rattle.promises.proofs.Total.{of_open, of_search, of_peek}
use Rattle.forest.specs.declared.Forest.{Forest}
use Rattle.forest.specs.declared.any_future_answer.Future.{Future}
use Rattle.forest.specs.declared.any_future_answer.Future.TheVariants as futures
use Rattle.forest.specs.declared.open.Opened.{Opened}
use Rattle.forest.specs.declared.open.Opening.{Opening}
use Rattle.forest.specs.declared.open.Opening.TheVariants as openings
use Rattle.forest.specs.declared.searches.Outcome.{Outcome}
use Rattle.forest.specs.declared.searches.Outcome.TheVariants as outcomes
use Rattle.forest.specs.declared.searches.Peeked.{Peeked}
use Rattle.forest.specs.declared.searches.Searched.{Searched}
use Rattle.forest.specs.AnyFutureAnswer.{future_means}
use Rattle.forest.specs.Open.{opened_by}
use Rattle.forest.specs.Searches.{reply_by}
use Rattle.forest.specs.View.{view, Sound}
use Rattle.forest.specs.Sittings.{Told, opens, searches, peeks, asks_future, left, Gives, Sits, asked}
use Rattle.forest.proofs.Serving.{left_sound}
use Rattle.theorems.specs.Replies.{opening_reply, outcome_reply, future_reply, reply, at, told_calls}

-- ONE CALL. What the definitions' `call` makes of a result on a forest F, where the code's says the same and leaves G; a call that is
-- refused leaves F.

abbrev of_future : said.Sitting → Refusable Bool → said.Reply × said.Sitting
of_future S o = elim o [ refused n ↦ (said.refusal n, S) | accepted b ↦ (said.future b, S) ]

module _ (F G : tables.Forest) where
  open_case : (o : Opening) → ((n : ℕ) → o ≡ openings.Refused n → G ≡ F) → of_open (said.sitting F) (opened_by o G)
      ≡ (opening_reply o, said.sitting G)
  open_case (openings.Refused n) u = ap (λ (z : tables.Forest). (said.refusal n, said.sitting z)) (sym (u n refl))
  open_case (openings.Table t) u = refl
  open_case (openings.Stopped n) u = refl

  search_case : (turns : ℕ) (o : Outcome) → ((n : ℕ) → o ≡ outcomes.Refused n → G ≡ F)
      → of_search (said.sitting F) (reply_by o (λ e. record { ending = e; turns = turns; forest = G }))
      ≡ (outcome_reply o (λ e. said.searched e turns), said.sitting G)
  search_case turns (outcomes.Refused n) u = ap (λ (z : tables.Forest). (said.refusal n, said.sitting z)) (sym (u n refl))
  search_case turns (outcomes.Found variant ambiguous) u = refl
  search_case turns outcomes.NoMoreSolutions u = refl
  search_case turns outcomes.Floundered u = refl
  search_case turns outcomes.QuantumExceeded u = refl
  search_case turns outcomes.NegativeCycle u = refl
  search_case turns outcomes.InvalidAnswer u = refl
  search_case turns outcomes.Cut u = refl
  search_case turns (outcomes.Stopped n) u = refl

  peek_case : (index turns exceeded : ℕ) (o : Outcome) → ((n : ℕ) → o ≡ outcomes.Refused n → G ≡ F)
      → of_peek (said.sitting F) (reply_by o (λ e. record { ending = e; index = index; turns = turns; exceeded = exceeded; forest = G }))
      ≡ (outcome_reply o (λ e. said.peeked e index turns exceeded), said.sitting G)
  peek_case index turns exceeded (outcomes.Refused n) u = ap (λ (z : tables.Forest). (said.refusal n, said.sitting z)) (sym (u n refl))
  peek_case index turns exceeded (outcomes.Found variant ambiguous) u = refl
  peek_case index turns exceeded outcomes.NoMoreSolutions u = refl
  peek_case index turns exceeded outcomes.Floundered u = refl
  peek_case index turns exceeded outcomes.QuantumExceeded u = refl
  peek_case index turns exceeded outcomes.NegativeCycle u = refl
  peek_case index turns exceeded outcomes.InvalidAnswer u = refl
  peek_case index turns exceeded outcomes.Cut u = refl
  peek_case index turns exceeded (outcomes.Stopped n) u = refl

future_case : (F : tables.Forest) (r : Future) → of_future (said.sitting F) (future_means r) ≡ (future_reply r, said.sitting F)
future_case F (futures.Refused n) = refl
future_case F (futures.Found any) = refl

-- a call that is refused leaves the very same forest
pub open_unchanged : (f : Forest) (goal : ℕ) (r : Opened) → Gives f (opens goal r)
    → (n : ℕ) → r.opening ≡ openings.Refused n → r.forest ≡ f
open_unchanged f goal r g n e = g.unchanged n e

pub search_unchanged : (f : Forest) (table index limit : ℕ) (r : Searched) → Gives f (searches table index limit r)
    → (n : ℕ) → r.outcome ≡ outcomes.Refused n → r.forest ≡ f
search_unchanged f table index limit r g n e = ap (λ (z : Searched). z.forest) (g.unchanged n e)

pub peek_unchanged : (f : Forest) (table index rounds limit : ℕ) (r : Peeked) → Gives f (peeks table index rounds limit r)
    → (n : ℕ) → r.outcome ≡ outcomes.Refused n → r.forest ≡ f
peek_unchanged f table index rounds limit r g n e = ap (λ (z : Peeked). z.forest) (g.unchanged n e)

-- what the definitions' call says is what the code's does
pub call_told : (f : Forest) (t : Told) → Sound f → Gives f t → said.call (at f) (asked t) ≡ (reply t, at (left f t))
call_told f (opens goal r) s g =
    ap (of_open (at f)) (sym (g.says s))
    ∙ open_case (view f) (view r.forest) r.opening (λ n e. ap (λ (z : Forest). view z) (open_unchanged f goal r g n e))
call_told f (searches table index limit r) s g =
    ap (of_search (at f)) (sym (g.says s))
    ∙ search_case (view f) (view r.forest) r.turns r.outcome
    (λ n e. ap (λ (z : Forest). view z) (search_unchanged f table index limit r g n e))
call_told f (peeks table index rounds limit r) s g =
    ap (of_peek (at f)) (sym (g.says s))
    ∙ peek_case (view f) (view r.forest) r.index r.turns r.exceeded r.outcome
    (λ n e. ap (λ (z : Forest). view z) (peek_unchanged f table index rounds limit r g n e))
call_told f (asks_future table index variant r) s g =
    ap (of_future (at f)) (sym (g.says s))
    ∙ future_case (view f) r

calls_step : (F G : said.Sitting) (c : said.Call) (cs : List said.Call) (r : said.Reply) (rest : List said.Called)
    → said.call F c ≡ (r, G) → said.calls G cs ≡ rest
    → said.calls F (c ∷ cs) ≡ record { asked = c; before = F; reply = r; after = G } ∷ rest
calls_step F G c cs r rest e h =
    ap (λ (z : said.Reply × said.Sitting). record { asked = c; before = F; reply = z.0; after = z.1 } ∷ said.calls z.1 cs) e
    ∙ ap (λ (z : List said.Called). record { asked = c; before = F; reply = r; after = G } ∷ z) h

pub sits_calls : (ts : List Told) (f : Forest) → Sound f → Sits f ts → said.calls (at f) (map asked ts) ≡ told_calls f ts
sits_calls [] f s g = refl
sits_calls (t ∷ ts) f s g =
    calls_step (at f) (at (left f t)) (asked t) (map asked ts) (reply t) (told_calls (left f t) ts) (call_told f t s g.0)
    (sits_calls ts (left f t) (left_sound f t s g.0) g.1)

-- Demand 1 of the code, from that of the definitions: on a sound forest a call says what theirs says.
use Prim.Native.Nat.{ℕ, zero, suc, ◌≤◌}
use native.Mathlib.Omega.{arith}
use mathlib.Core.Bool.{true≢false}
use mathlib.Core.List.{List, [], ◌∷◌}
use mathlib.Core.Logic.{◌⊎◌, inl, inr}
use mathlib.Core.Path.{◌≡◌, refl, sym, ap, subst, ◌∙◌}
use Rattle.definitions.specs.Calls as said
use Rattle.definitions.specs.Desk.{make_at_desk}
use Rattle.definitions.specs.Forest as forests
use Rattle.definitions.specs.Forest.{open_goal, search, peek}
use Rattle.definitions.specs.Logic as logic
use Rattle.definitions.specs.Refusal.{Refusable, refused, accepted}
use Rattle.definitions.specs.Tables as tables
use Rattle.definitions.specs.Turn as turns
use Rattle.promises.specs.Total as claim
use Rattle.promises.proofs.Total as promised
use Rattle.forest.specs.declared.Forest.{Forest}
use Rattle.forest.specs.declared.any_future_answer.Future.{Future}
use Rattle.forest.specs.declared.any_future_answer.Future.TheVariants as futures
use Rattle.forest.specs.declared.make.Made.{Made}
use Rattle.forest.specs.declared.make.Making.{Making}
use Rattle.forest.specs.declared.make.Making.TheVariants as makings
use Rattle.forest.specs.declared.open.Opening.{Opening}
use Rattle.forest.specs.declared.open.Opening.TheVariants as openings
use Rattle.forest.specs.declared.searches.Outcome.{Outcome}
use Rattle.forest.specs.declared.searches.Outcome.TheVariants as outcomes
use Rattle.forest.specs.declared.searches.Peeked.{Peeked}
use Rattle.forest.specs.declared.searches.Searched.{Searched}
use Rattle.forest.specs.AnyFutureAnswer.{future_means}
use Rattle.forest.specs.Make.{MadeSays, made_by}
use Rattle.forest.specs.Open.{opened_by, opened_means}
use Rattle.forest.specs.Searches.{reply_by, searched_means, peeked_means}
use Rattle.forest.specs.Sittings.{Told, opens, searches, peeks, asks_future, left, Gives, Sits}
use Rattle.forest.specs.View.{view, Sound}
use Rattle.forest.proofs.Serving.{left_sound}
use Rattle.theorems.specs.Right.{MarkedTells}
use Rattle.theorems.specs.Steps.{Step, Runs, TellSo}
use Rattle.theorems.specs.Total.{MadeListed, making_mark, OpeningListed, OutcomeListed, FutureTells, UnmarkedListed, MarkedListed}
use Rattle.theorems.specs.Total.{ToldListed, opening_mark, outcome_mark, mark_after, AllListed}
use Rattle.theorems.specs.Promises.{StaysMarked, ResultsListed}
use Rattle.theorems.proofs.Calls.{open_unchanged, search_unchanged, peek_unchanged}
use Rattle.theorems.proofs.Steps.{tell_so}

-- ONE CALL ON A FOREST THAT IS NOT MARKED: what is listed of the definitions' result is listed of the code's, and the mark left is right
module _ (f g : Forest) (z : f.mark ≡ 0) where
  opening_listed : (o : Opening) → ((n : ℕ) → o ≡ openings.Refused n → g ≡ f) → claim.OpenListed 0 (opened_by o (view g))
      → OpeningListed f g o × (g.mark ≡ opening_mark 0 o)
  opening_listed (openings.Refused n) u x = let same = u n refl in ((x, same), ap (λ (h : Forest). h.mark) same ∙ z)
  opening_listed (openings.Table t) u x = (tt, x.1)
  opening_listed (openings.Stopped n) u x = (x.1.0, x.1.1)

-- how a search or a peek ended, where it was not refused
replied : {A : Type 0} (with : turns.Ending → A) (o : Outcome)
    → ((n : ℕ) × (o ≡ outcomes.Refused n)) ⊎ ((e : turns.Ending) × (reply_by o with ≡ accepted (with e)))
replied with (outcomes.Refused n) = inl (n, refl)
replied with (outcomes.Found variant ambiguous) = inr (turns.found (record { variant = variant; ambiguous = ambiguous }), refl)
replied with outcomes.NoMoreSolutions = inr (turns.fail logic.NoMoreSolutions, refl)
replied with outcomes.Floundered = inr (turns.fail logic.Floundered, refl)
replied with outcomes.QuantumExceeded = inr (turns.fail logic.QuantumExceeded, refl)
replied with outcomes.NegativeCycle = inr (turns.fail logic.NegativeCycle, refl)
replied with outcomes.InvalidAnswer = inr (turns.fail logic.InvalidAnswer, refl)
replied with outcomes.Cut = inr (turns.cut, refl)
replied with (outcomes.Stopped n) = inr (turns.stopped n, refl)

-- a call that is refused has done no turn, and any other at most so many
within_limit : {A : Type 0} (with : turns.Ending → A) (Listed : Refusable A → Type 0) (done limit : ℕ) (o : Outcome)
    → ((n : ℕ) → o ≡ outcomes.Refused n → done ≡ 0) → ((e : turns.Ending) → Listed (accepted (with e)) → done ≤ limit)
    → Listed (reply_by o with) → done ≤ limit
within_limit with Listed done limit o u bound x = on (replied with o)
  where
    on : ((n : ℕ) × (o ≡ outcomes.Refused n)) ⊎ ((e : turns.Ending) × (reply_by o with ≡ accepted (with e))) → done ≤ limit
    on (inl (n, e)) = let none = u n e in omega (arith, none)
    on (inr (e, k)) = bound e (subst Listed k x)

-- of a search and of a peek: `Listed` is what is listed of the definitions' result, and `with` that result by its ending
module _ (f g : Forest) (z : f.mark ≡ 0) {A : Type 0} (with : turns.Ending → A) (Listed : Refusable A → Type 0)
    (by_number : (n : ℕ) → Listed (refused n) → claim.OneOf claim.search_numbers n)
    (ends : (e : turns.Ending) → Listed (accepted (with e)) → claim.EndingListed e g.mark) where
  outcome_listed : (o : Outcome) → ((n : ℕ) → o ≡ outcomes.Refused n → g ≡ f) → Listed (reply_by o with)
      → OutcomeListed f g o × (g.mark ≡ outcome_mark 0 o)
  outcome_listed (outcomes.Refused n) u x = let same = u n refl in ((by_number n x, same), ap (λ (h : Forest). h.mark) same ∙ z)
  outcome_listed (outcomes.Found variant ambiguous) u x = (
    tt,
    ends (turns.found (record { variant = variant; ambiguous = ambiguous })) x,
  )
  outcome_listed outcomes.NoMoreSolutions u x = (tt, ends (turns.fail logic.NoMoreSolutions) x)
  outcome_listed outcomes.Floundered u x = (tt, ends (turns.fail logic.Floundered) x)
  outcome_listed outcomes.QuantumExceeded u x = (tt, ends (turns.fail logic.QuantumExceeded) x)
  outcome_listed outcomes.NegativeCycle u x = (tt, ends (turns.fail logic.NegativeCycle) x)
  outcome_listed outcomes.InvalidAnswer u x = (tt, ends (turns.fail logic.InvalidAnswer) x)
  outcome_listed outcomes.Cut u x = (tt, ends turns.cut x)
  outcome_listed (outcomes.Stopped n) u x = let y = ends (turns.stopped n) x in (y.0, y.1)

future_listed : (r : Future) → claim.FutureListed (future_means r) → FutureTells r
future_listed (futures.Refused n) x = x
future_listed (futures.Found any) x = tt

asked_listed : (f : Forest) (table index variant : ℕ) (r : Future) → Sound f → Gives f (asks_future table index variant r) → FutureTells r
asked_listed f table index variant r s g = future_listed r
    (subst claim.FutureListed (sym (g.says s)) (promised.call_listed (view f) s.forest (said.asks_future table index variant)))

-- a call on a forest that is not marked
unmarked : (f : Forest) (t : Told) → Sound f → Gives f t → f.mark ≡ 0 → UnmarkedListed f t × ((left f t).mark ≡ mark_after 0 t)
unmarked f (opens goal r) s g z =
    let x : claim.OpenListed f.mark (open_goal (view f) goal) = promised.call_listed (view f) s.forest (said.opens goal) in
    opening_listed f r.forest z r.opening (open_unchanged f goal r g)
    (subst (λ (m : ℕ). claim.OpenListed m (opened_means r)) z (subst (claim.OpenListed f.mark) (sym (g.says s)) x))
unmarked f (searches table index limit r) s g z =
    let with : turns.Ending → turns.Searched = λ e. record { ending = e; turns = r.turns; forest = view r.forest } in
    let x : claim.SearchListed f.mark limit (search (view f) table index limit) =
    promised.call_listed (view f) s.forest (said.searches table index limit) in
    let y : claim.SearchListed 0 limit (reply_by r.outcome with) =
    subst (λ (m : ℕ). claim.SearchListed m limit (searched_means r)) z (subst (claim.SearchListed f.mark limit) (sym (g.says s)) x) in
    let a = outcome_listed f r.forest z with (claim.SearchListed 0 limit) (λ n h. h) (λ e h. h.2) r.outcome
    (search_unchanged f table index limit r g) y in
    let b = within_limit with (claim.SearchListed 0 limit) r.turns limit r.outcome
    (λ n e. ap (λ (u : Searched). u.turns) (g.unchanged n e)) (λ e h. h.1) y in
    ((a.0, b), a.1)
unmarked f (peeks table index rounds limit r) s g z =
    let with : turns.Ending → forests.Peeked = λ e. record {
      ending = e;
      index = r.index;
      turns = r.turns;
      exceeded = r.exceeded;
      forest = view r.forest;
    } in
    let x : claim.PeekListed f.mark limit (peek (view f) table index rounds limit) =
    promised.call_listed (view f) s.forest (said.peeks table index rounds limit) in
    let y : claim.PeekListed 0 limit (reply_by r.outcome with) =
    subst (λ (m : ℕ). claim.PeekListed m limit (peeked_means r)) z (subst (claim.PeekListed f.mark limit) (sym (g.says s)) x) in
    let a = outcome_listed f r.forest z with (claim.PeekListed 0 limit) (λ n h. h) (λ e h. h.2) r.outcome
    (peek_unchanged f table index rounds limit r g) y in
    let b = within_limit with (claim.PeekListed 0 limit) r.turns limit r.outcome
    (λ n e. ap (λ (u : Peeked). u.turns) (g.unchanged n e)) (λ e h. h.1) y in
    let valid : r.outcome ≡ outcomes.InvalidAnswer → ⊥ =
    λ e. true≢false (subst (λ (o : Outcome). claim.PeekListed 0 limit (reply_by o with)) e y).3 in
    ((a.0, valid, b), a.1)
unmarked f (asks_future table index variant r) s g z =
    (asked_listed f table index variant r s g, z)

-- ON A MARKED ONE

not_none : (n : ℕ) {m : ℕ} → m ≡ suc n → m ≡ 0 → ⊥
not_none n e k = omega (arith, e, k)

marked : (n : ℕ) (f : Forest) (t : Told) → Sound f → Gives f t → f.mark ≡ suc n
    → MarkedListed f t × ((left f t).mark ≡ mark_after (suc n) t)
marked n f (opens goal r) s g z =
    let e = g.marked (not_none n z) in
    let same = g.unchanged 20 e in
    ((e, same), ap (λ (h : Forest). h.mark) same ∙ z ∙ ap (opening_mark (suc n)) (sym e))
marked n f (searches table index limit r) s g z =
    let e = g.marked (not_none n z) in
    let same = g.unchanged 20 e in
    let left_same = ap (λ (u : Searched). u.forest) same in
    ((e, ap (λ (u : Searched). u.turns) same, left_same), ap (λ (h : Forest). h.mark) left_same ∙ z ∙ ap (outcome_mark (suc n)) (sym e))
marked n f (peeks table index rounds limit r) s g z =
    let e = g.marked (not_none n z) in
    let same = g.unchanged 20 e in
    let left_same = ap (λ (u : Peeked). u.forest) same in
    ((e, ap (λ (u : Peeked). u.turns) same, left_same), ap (λ (h : Forest). h.mark) left_same ∙ z ∙ ap (outcome_mark (suc n)) (sym e))
marked n f (asks_future table index variant r) s g z =
    (asked_listed f table index variant r s g, z)

-- ALL CALLS

called : (mark : ℕ) (f : Forest) (t : Told) → Sound f → Gives f t → f.mark ≡ mark
    → ToldListed mark f t × ((left f t).mark ≡ mark_after mark t)
called zero f t s g z = unmarked f t s g z
called (suc n) f t s g z = marked n f t s g z

pub all_listed : (ts : List Told) (mark : ℕ) (f : Forest) → Sound f → f.mark ≡ mark → Sits f ts → AllListed mark f ts
all_listed [] mark f s z g = z
all_listed (t ∷ ts) mark f s z g =
    let x = called mark f t s g.0 z in
    (z, x.0, all_listed ts (mark_after mark t) (left f t) (left_sound f t s g.0) x.1 g.1)

-- A forest that is marked stays as it is.

pub marked_stays : StaysMarked
marked_stays n f [] x = (tt, refl)
marked_stays n f (t ∷ ts) x =
    let y = still t x.1 in
    let rest = marked_stays n (left f t) ts (subst (λ (m : ℕ). AllListed m (left f t) ts) y.1 x.2) in
    ((y.0, rest.0), rest.1 ∙ y.2)
  where
    still : (t : Told) → MarkedListed f t → MarkedTells t × (mark_after (suc n) t ≡ suc n) × (left f t ≡ f)
    still (opens goal r) y = (y.0, ap (opening_mark (suc n)) y.0, y.1)
    still (searches table index limit r) y = (y.0, ap (outcome_mark (suc n)) y.0, y.2)
    still (peeks table index rounds limit r) y = (y.0, ap (outcome_mark (suc n)) y.0, y.2)
    still (asks_future table index variant r) y = (tt, refl, refl)

-- MAKING: its number is one of the listed ones, and the forest has the mark

made_listed : (numbers : List ℕ) (what : Refusable tables.Forest) → claim.MakingListed numbers what → (m : Made) → MadeSays what m
    → MadeListed numbers m.making × (m.forest.mark ≡ making_mark m.making)
made_listed numbers what h m says = on m.making refl (subst (claim.MakingListed numbers) (sym says.says) h)
  where
    on : (k : Making) → m.making ≡ k → claim.MakingListed numbers (made_by k (view m.forest))
        → MadeListed numbers k × (m.forest.mark ≡ making_mark k)
    on (makings.Refused n) e x = (x, ap (λ (f : Forest). f.mark) (says.marked n e))
    on makings.Made e x = (tt, x)

entry_listed : (numbers : List ℕ) (what : Refusable tables.Forest) → claim.MakingListed numbers what → (m : Made) → MadeSays what m
    → MadeListed numbers m.making
    × ((ss : List Step) → Runs m.forest ss → TellSo m.forest ss (AllListed (making_mark m.making) m.forest))
entry_listed numbers what h m says =
    let x = made_listed numbers what h m says in
    let mark = making_mark m.making in
    let s = says.sound in
    (x.0, λ ss runs. tell_so (AllListed mark m.forest) ss m.forest s runs (λ ts g. all_listed ts mark m.forest s x.1 g))

pub steps_total : ResultsListed
steps_total = record {
  by_make = λ bytes limit m says.
      entry_listed claim.making_numbers (forests.make bytes limit) ((promised.listed).making bytes limit) m says;
  at_desk = λ bytes limit m says.
      entry_listed claim.desk_numbers (make_at_desk bytes limit) ((promised.listed).making_at_desk bytes limit) m says;
}

-- Demand 3 as it was first stated follows from how it is stated now: a call on a forest is the call on the sitting that has it, a call gets
-- replies of its own kind alone, and no reply grants anything.
use Prim.Native.Nat.{ℕ, ◌+◌, ◌≤◌}
use native.Mathlib.Omega.{arith}
use mathlib.Core.Path.{◌≡◌, refl, ap, subst}
use mathlib.Core.Bool.{Bool, true, false, ◌||◌}
use mathlib.Core.List.{List, [], ◌∷◌}
use Rattle.definitions.specs.Refusal.{Refusable, refused, accepted}
use Rattle.definitions.specs.Tables.{Forest}
use Rattle.definitions.specs.Turn.{Searched}
use Rattle.definitions.specs.Forest.{Opened, open_goal, search, SearchMade, Peeked, peek, any_future_answer}
use Rattle.definitions.specs.Calls.{Sitting, sitting, Call, opens, searches, peeks, asks_future, Reply, refusal, table, searched, peeked}
use Rattle.definitions.specs.Calls.{future, call, searches_made, Called, calls}
use Rattle.papers.specs.Claim as claim
use Rattle.papers.specs.Claim.{reply_stopped, granted, all_granted}
use Rattle.papers.specs.Model.{In}
use Rattle.promises.specs.Before as before
use Rattle.promises.proofs.Demand.{demand_3}

-- what a call makes of a result, with the sitting or the forest that a refusal leaves

abbrev of_open : {S : Type 0} → (Forest → S) → S → Refusable Opened → Reply × S
of_open to s o = elim o [ refused n ↦ (refusal n, s) | accepted r ↦ (table r.table, to r.forest) ]

abbrev of_search : {S : Type 0} → (Forest → S) → S → Refusable Searched → Reply × S
of_search to s o = elim o [ refused n ↦ (refusal n, s) | accepted r ↦ (searched r.ending r.turns, to r.forest) ]

abbrev of_peek : {S : Type 0} → (Forest → S) → S → Refusable Peeked → Reply × S
of_peek to s o = elim o [
  | refused n ↦ (refusal n, s)
  | accepted r ↦ (peeked r.ending r.index r.turns r.exceeded, to r.forest)
]

abbrev of_future : {S : Type 0} → S → Refusable Bool → Reply × S
of_future s o = elim o [ refused n ↦ (refusal n, s) | accepted b ↦ (future b, s) ]

abbrev itself : Forest → Forest
itself f = f

module _ (I : ℕ → Type 0) (limit : ℕ) (f : Forest) where
  -- a call as it is made now and as it was: the same reply and forest, and what is said of the reply says what was
  record Same (c : Call) (now : Reply × Sitting) (was : Reply × Forest) : Type 0 where
    is : now ≡ (was.0, sitting was.1)
    says : (made : List SearchMade)
        → claim.ReplySays I limit (claim.RefusedBy c) made (claim.about (sitting f) c) now.1.forest now.0
        → before.ReplySays I limit made was.1 c was.0

  open_same : (g : ℕ) (o : Refusable Opened) → Same (opens g) (of_open sitting (sitting f) o) (of_open itself f o)
  open_same g (refused n) = record { is = refl; says = λ made x. x }
  open_same g (accepted r) = record { is = refl; says = λ made x. x }

  search_same : (t i n : ℕ) (o : Refusable Searched)
      → Same (searches t i n) (of_search sitting (sitting f) o) (of_search itself f o)
  search_same t i n (refused k) = record { is = refl; says = λ made x. x }
  search_same t i n (accepted r) = record { is = refl; says = λ made x. x }

  peek_same : (t i r n : ℕ) (o : Refusable Peeked) → Same (peeks t i r n) (of_peek sitting (sitting f) o) (of_peek itself f o)
  peek_same t i r n (refused k) = record { is = refl; says = λ made x. x }
  peek_same t i r n (accepted q) = record { is = refl; says = λ made x. x }

  future_same : (t i v : ℕ) (o : Refusable Bool) → Same (asks_future t i v) (of_future (sitting f) o) (of_future f o)
  future_same t i v (refused n) = record { is = refl; says = λ made x. tt }
  future_same t i v (accepted b) = record { is = refl; says = λ made x. tt }

  call_same : (c : Call) → Same c (call (sitting f) c) (before.call f c)
  call_same (opens g) = open_same g (open_goal f g)
  call_same (searches t i n) = search_same t i n (search f t i n)
  call_same (peeks t i r n) = peek_same t i r n (peek f t i r n)
  call_same (asks_future t i v) = future_same t i v (any_future_answer f t i v)

  made_same : (c : Call) → searches_made (sitting f) c ≡ before.searches_made f c
  made_same (opens g) = refl
  made_same (searches t i n) = refl
  made_same (peeks t i r n) = refl
  made_same (asks_future t i v) = refl

  -- what is said of a call
  abbrev now_called : Call → Called
  now_called c = record { asked = c; before = sitting f; reply = (call (sitting f) c).0; after = (call (sitting f) c).1 }

  abbrev was_called : Call → before.Called
  was_called c = record { asked = c; before = f; reply = (before.call f c).0; forest = (before.call f c).1 }

  said_before : (marked : Bool) (c : Call) → claim.CallSays I limit marked (now_called c) → before.CallSays I limit marked (was_called c)
  said_before true c x = subst (λ (z : Reply × Sitting). claim.MarkedSays c z.0) (call_same c).is x
  said_before false c x =
      subst (λ ss. before.ReplySays I limit ss (before.call f c).1 c (before.call f c).0) (made_same c)
      ((call_same c).says (searches_made (sitting f) c) x)

-- the whole list
all_before : (I : ℕ → Type 0) (limit : ℕ) (cs : List Call) (marked : Bool) (f : Forest)
    → claim.AllSay I limit marked (calls (sitting f) cs)
    → before.AllSay I limit marked (before.calls f cs) × (before.exceeded (before.calls f cs) ≡ claim.exceeded (calls (sitting f) cs))
all_before I limit [] marked f x = (tt, refl)
all_before I limit (c ∷ cs) marked f x =
    let k = call_same I limit f c in
    let r = all_before I limit cs (marked || reply_stopped (before.call f c).0) (before.call f c).1
    (subst (λ (z : Reply × Sitting). claim.AllSay I limit (marked || reply_stopped z.0) (calls z.1 cs)) k.is x.1) in
    let rest = ap (λ (z : Reply × Sitting). claim.exceeded (calls z.1 cs)) k.is in
    let first = ap claim.exceeded_among (made_same I limit f c) in
    ((said_before I limit f marked c x.0, r.0), (let y = r.1 in omega (arith, y, rest, first)))

-- no reply grants anything
pub none_granted : (r : Reply) → granted r ≡ 0
none_granted (refusal n) = refl
none_granted (table t) = refl
none_granted (searched e turns) = refl
none_granted (peeked e i turns k) = refl
none_granted (future b) = refl

pub nothing_granted : (cs : List Called) → all_granted cs ≡ 0
nothing_granted [] = refl
nothing_granted (c ∷ cs) = let x = none_granted c.reply in let y = nothing_granted cs in omega arith

pub demand_3_before : before.Demand3
demand_3_before bytes limit f e level plain levelled cs =
    let d = demand_3 bytes limit f e level plain levelled cs in
    let b = all_before (In f.book level) limit cs false f d.0 in
    let none = nothing_granted (calls (sitting f) cs) in
    (b.0, (let x = d.1 in let y = b.1 in omega arith))

-- Demand 3, proved of the definitions: what `Claim` says of the whole list of calls holds for every byte string that makes a forest
-- from a plain levelled book, every clock limit that 13 lets through, and every list of calls.
use Prim.Native.Nat.{ℕ, ◌+◌, ◌-◌, ◌≤◌}
use native.Mathlib.Omega.{arith}
use borrow.Author.Tests.{leb-false}
use mathlib.Core.Path.{◌≡◌, refl, sym, ap, subst, ◌∙◌}
use mathlib.Core.Bool.{Bool, true, false, ◌||◌}
use mathlib.Core.List.{List, [], ◌∷◌}
use lib.ListN.{length}
use lib.Dec.{leb, eqb}
use Rattle.definitions.specs.{MAX}
use Rattle.definitions.specs.Book.{Book, read}
use Rattle.definitions.specs.Refusal.{Refusable, refused, accepted, ◌refuses◌, unless}
use Rattle.definitions.specs.Tables.{Forest}
use Rattle.definitions.specs.Turn.{root_answer}
use Rattle.definitions.specs.Forest.{make, is_marked, opened, open_goal, not_made, index_above, search, peek, peek_rounds, SearchMade}
use Rattle.definitions.specs.Forest.{any_future_answer}
use Rattle.definitions.specs.Calls.{Sitting, sitting, Call, opens, searches, peeks, asks_future, Reply, refusal, future, call}
use Rattle.definitions.specs.Calls.{table, searched, peeked, searches_made, calls}
use Rattle.papers.specs.Model.{Plain, Levelled, In}
use Rattle.papers.specs.Claim.{MarkedSays, reply_stopped, AllSay, exceeded_among, exceeded, granted, all_granted, Demand3}
use Rattle.papers.specs.Claim.{AsPromised, Demand3AtDesk}
use Rattle.definitions.proofs.Desk.{made_as_read}
use Rattle.definitions.proofs.Refusal.{not_accepted, all_pass}
use Rattle.laws.proofs.Options.{no_such}
use Rattle.laws.proofs.Bools.{both_false}
use Rattle.definitions.proofs.ReadLimits.{Good, book_good}
use Rattle.promises.proofs.Plain.Machine as M
use Rattle.promises.proofs.Plain.Whole.{potential, initial_ok, initial_total}
use Rattle.promises.proofs.Link.View.{t_end}
use Rattle.promises.proofs.Link.Tables.{book_of, forest_of, Agree}
use Rattle.promises.proofs.Link.Premises.{Premises, setting_of}
use Rattle.promises.proofs.Link.Models.{levelled_is, inside_is, clauses_total}
use Rattle.promises.proofs.Link.Reading.{good_sound}
use Rattle.promises.proofs.Link.Naming.{unless_stop, Between}
use Rattle.promises.proofs.Link.Calls.{Left, goes_on, is_over, CallOK, call_ok}

-- On a marked forest.

module _ (f : Forest) (marked : is_marked f ≡ true) where
  open_turned : (g : ℕ) → open_goal f g ≡ refused 20
  open_turned g = unless_stop (is_marked f refuses 20) (leb (length f.book) g refuses 9 ∷ []) (opened 0 f g) marked

  search_turned : (t i n : ℕ) → search f t i n ≡ refused 20
  search_turned t i n =
      unless_stop (is_marked f refuses 20) (not_made f t refuses 10 ∷ index_above f t i refuses 11 ∷ eqb n 0 refuses 12 ∷ [])
      (root_answer n t i f) marked

  peek_turned : (t i r n : ℕ) → peek f t i r n ≡ refused 20
  peek_turned t i r n =
      unless_stop (is_marked f refuses 20) (not_made f t refuses 10 ∷ index_above f t i refuses 11 ∷ (eqb r 0 || eqb n 0) refuses 12 ∷ [])
      (peek_rounds (r - 1) n 0 t i f) marked

module _ (s : Sitting) (marked : is_marked s.forest ≡ true) where
  marked_ask : (o : Refusable Bool) (r : Reply × Sitting) → r ≡ elim o [ refused n ↦ (refusal n, s) | accepted b ↦ (future b, s) ]
      → is_marked r.1.forest ≡ true
  marked_ask (refused n) r e = subst (λ (z : Reply × Sitting). is_marked z.1.forest ≡ true) (sym e) marked
  marked_ask (accepted b) r e = subst (λ (z : Reply × Sitting). is_marked z.1.forest ≡ true) (sym e) marked

  -- a call that is refused, and makes no search
  refused_with : (r : Reply × Sitting) (made : List SearchMade) → r ≡ (refusal 20, s) → made ≡ []
      → (r.0 ≡ refusal 20) × (is_marked r.1.forest ≡ true) × (exceeded_among made ≡ 0)
  refused_with r made e m = (
    ap (λ (z : Reply × Sitting). z.0) e,
    ap (λ (z : Reply × Sitting). is_marked z.1.forest) e
        ∙ marked,
    ap exceeded_among m,
  )

  marked_call : (c : Call)
      → MarkedSays c (call s c).0 × (is_marked (call s c).1.forest ≡ true) × (exceeded_among (searches_made s c) ≡ 0)
  marked_call (opens g) = refused_with (call s (opens g)) (searches_made s (opens g)) (rw (open_turned s.forest marked g, call)) refl
  marked_call (searches t i n) =
      refused_with (call s (searches t i n)) (searches_made s (searches t i n)) (rw (search_turned s.forest marked t i n, call))
      (rw (search_turned s.forest marked t i n, searches_made))
  marked_call (peeks t i r n) =
      refused_with (call s (peeks t i r n)) (searches_made s (peeks t i r n)) (rw (peek_turned s.forest marked t i r n, call))
      (rw (peek_turned s.forest marked t i r n, searches_made))
  marked_call (asks_future t i v) = (tt, marked_ask (any_future_answer s.forest t i v) (call s (asks_future t i v)) refl, refl)

marked_calls : (I : ℕ → Type 0) (limit : ℕ) (cs : List Call) (s : Sitting) → is_marked s.forest ≡ true
    → AllSay I limit true (calls s cs) × (exceeded (calls s cs) ≡ 0)
marked_calls I limit [] s m = (tt, refl)
marked_calls I limit (c ∷ cs) s m =
    let x = marked_call s m c in
    let r = marked_calls I limit cs (call s c).1 x.1 in
    ((x.0, r.0), (let y = x.2 in let z = r.1 in omega arith))

-- The whole list.

module _ (G : Premises) where
  abbrev measure : M.Forest → ℕ
  measure p = potential (setting_of G) p

  abbrev AllOK : Sitting → M.Forest → List Call → Type 0
  AllOK s p cs = AllSay (In G.book G.level) G.limit false (calls s cs)
      × (exceeded (calls s cs) ≤ measure p + all_granted (calls s cs))

  call_at : (s : Sitting) (p : M.Forest) → Between G s.forest p → (c : Call)
      → CallOK G p s (searches_made s c) c (call s c).0 (call s c).1
  call_at s p b c =
      subst (λ (z : Forest). CallOK G p (sitting z) (searches_made (sitting z) c) c (call (sitting z) c).0 (call (sitting z) c).1)
      (sym b.is) (call_ok G b.agree b.ready c)

  -- the calls after one
  rest_ok : (cs : List Call) → ((s : Sitting) (p : M.Forest) → Between G s.forest p → AllOK s p cs)
      → (p : M.Forest) (k : ℕ) (r : Reply) (s : Sitting) → Left G p k r s
      → AllSay (In G.book G.level) G.limit (false || reply_stopped r) (calls s cs)
      × (k + exceeded (calls s cs) ≤ measure p + (granted r + all_granted (calls s cs)))
  rest_ok cs ih p k r s (goes_on p' e b fall) =
      let x = ih s p' b in
      (subst (λ (z : Bool). AllSay (In G.book G.level) G.limit z (calls s cs)) (sym e) x.0, (let y = x.1 in omega arith))
  rest_ok cs ih p k r s (is_over e m fall) =
      let x = marked_calls (In G.book G.level) G.limit cs s m in
      (subst (λ (z : Bool). AllSay (In G.book G.level) G.limit z (calls s cs)) (sym e) x.0, (let y = x.1 in omega arith))

  pub all_calls : (cs : List Call) (s : Sitting) (p : M.Forest) → Between G s.forest p → AllOK s p cs
  all_calls [] s p b = (tt, omega arith)
  all_calls (c ∷ cs) s p b =
      let k = call_at s p b c in
      let r = rest_ok cs (all_calls cs) p (exceeded_among (searches_made s c)) (call s c).0 (call s c).1 k.left in
      ((k.says, r.0), r.1)

-- a forest just made
start : (book : Book) → Agree book [] [] (M.initial (book_of book))
start book = record {
  tables = t_end;
  distinct = λ i j g e o. absurd (no_such e);
  within = λ i g e. absurd (no_such e);
  made = λ i g e. absurd (no_such e);
  unmade = λ g n. (refl, refl, refl);
}

abbrev pub premises : (book : Book) (limit : ℕ) (level : ℕ → ℕ) → limit ≤ MAX → Good book → Plain book → Levelled book level → Premises
premises book limit level room good plain levelled = record {
  book = book;
  sound = good_sound book good plain;
  limit = limit;
  level = level;
  levelled = levelled_is book level levelled;
  inside = inside_is book;
  room = room;
  few = let sums = clauses_total book in let x = good.small.few_clauses in omega arith;
}

pub starts : (G : Premises) → Between G (forest_of G.book G.limit 0 [] 0) (M.initial (book_of G.book))
starts G = record { goals = []; tables = []; is = refl; agree = start G.book; ready = initial_ok (setting_of G) }

from_start : (book : Book) (limit : ℕ) (level : ℕ → ℕ) → limit ≤ MAX → Good book → Plain book → Levelled book level
    → AsPromised (forest_of book limit 0 [] 0) limit level
from_start book limit level room good plain levelled cs =
    let sums = clauses_total book in
    let G = premises book limit level room good plain levelled in
    let r = all_calls G cs (sitting (forest_of book limit 0 [] 0)) (M.initial (book_of book)) (starts G) in
    let most = initial_total (length book) (book_of book) in
    (r.0, (let x = r.1 in omega arith))

-- what making gives
pub record MadeFrom (bytes : List ℕ) (limit : ℕ) (f : Forest) : Type 0 where
  pub book : Book
  pub good : Good book
  pub is : forest_of book limit 0 [] 0 ≡ f
  pub room : limit ≤ MAX

made_from : (bytes : List ℕ) (limit : ℕ) (f : Forest) → make bytes limit ≡ accepted f → MadeFrom bytes limit f
made_from bytes limit f e = go (read bytes) refl e
  where
    go : (o : Refusable Book) → read bytes ≡ o → elim o
        [ refused n ↦ refused n | accepted book ↦ unless ((eqb limit 0 || leb MAX limit) refuses 13 ∷ []) (forest_of book limit 0 [] 0) ]
        ≡ accepted f → MadeFrom bytes limit f
    go (refused n) k x = absurd (not_accepted x)
    go (accepted book) k x = record {
      book = book;
      good = book_good bytes book k;
      is = (all_pass ((eqb limit 0 || leb MAX limit) refuses 13 ∷ []) (forest_of book limit 0 [] 0) f x).1;
      room = let y = leb-false MAX limit (both_false (eqb limit 0) (leb MAX limit)
          (all_pass ((eqb limit 0 || leb MAX limit) refuses 13 ∷ []) (forest_of book limit 0 [] 0) f x).0.0).1 in omega arith;
    }

pub demand_3 : Demand3
demand_3 bytes limit f e level = let m = made_from bytes limit f e in
    subst (λ (z : Forest). Plain z.book → Levelled z.book level → AsPromised z limit level)
    m.is (from_start m.book limit level m.room m.good)

-- through the desk: a forest that is made there is one that `make` gives
pub demand_3_at_desk : Demand3AtDesk
demand_3_at_desk bytes limit f e = demand_3 bytes limit f (made_as_read bytes limit f e)

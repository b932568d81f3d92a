-- Searches, and the whole list of calls.
use Prim.Native.Nat.{ℕ, zero, suc, ◌+◌, ◌≤◌, ◌<◌}
use native.Mathlib.Omega.{arith}
use native.Mathlib.Decide.{dec_lt}
use mathlib.Core.Path.{◌≡◌, refl, sym, ap, subst, ◌∙◌}
use mathlib.Core.Bool.{Bool, true, false, false≢true}
use mathlib.Core.Logic.{◌⊎◌, inl, inr}
use mathlib.Core.List.Memᴰ
use mathlib.Core.List.{List, [], ◌∷◌, Memᴰ, map}
use Rattle.promises.proofs.Plain.Model.{Body, Book, either, In, Levelled, closed, unfounded}
use Rattle.promises.proofs.Plain.Steps.{Setting, Good, Fine, fine_step, step_trans, Holds, moved, step_on, step_tick}
use Rattle.promises.proofs.Plain.Cases.{Inv}
use lib.ListN.{length, length-map}
use Rattle.laws.proofs.Sums.{sum, sum_mono, sum_drop}
use Rattle.promises.proofs.Plain.Claim.{Reply, Plainly, Says, AllSay, agains, Inside, Demand}
use Rattle.promises.proofs.Plain.Machine.{Limits, Strand, Entry, Forest, take_from, Outcome, found, no_more_left, again, cut}
use Rattle.promises.proofs.Plain.Machine.{clock_ended, noted, refused, negative_cycled, unselected, repeated, broken, Turn}
use Rattle.promises.proofs.Plain.Machine.{turn_goes_on, stop, entry_pushed, tick, idle, taking, turn, follow, run, begin, search_at}
use Rattle.promises.proofs.Plain.Machine.{search, peek_next, rounds, peek, Call, opens_goal, searches_goal, peeks_goal}
use Rattle.promises.proofs.Plain.Machine.{asks_any_future, fresh, initial, marked, counts, opening, call_on, calls}
use Rattle.promises.proofs.Plain.Turns.{count, size, back_length, Ends, Going, Ended, TurnOK, rest_after, turn_ok}

module _ (S : Setting) (r : ℕ) (B L : ℕ → ℕ) where
  follow_ok : (k : Forest → Entry → List Entry → Outcome × Forest)
      → ((f : Forest) (e : Entry) (es : List Entry) → Going S r B L f e es → Ended S r B L (k f e es).0 (k f e es).1)
      → (t : Turn) → TurnOK S r B L t → Ended S r B L (follow S.limits t k).0 (follow S.limits t k).1
  follow_ok k h (turn_goes_on f e es) g = h f e es g
  follow_ok k h (stop o f) g = g

  pub run_ok : (n : ℕ) (f : Forest) (e : Entry) (es : List Entry) → Going S r B L f e es
      → Ended S r B L (run S.limits n f e es).0 (run S.limits n f e es).1
  run_ok zero f e es g = record {
    rest = rest_after S f e es f.made f.first f.queue (e ∷ es) g.inv (moved S (λ g s h. h) (λ g s h. h));
    ends = tt;
    fewer = λ u. let x = g.fewer u in let y = back_length f.queue (e ∷ es) u in omega arith;
  }
  run_ok (suc n) f e es g =
      follow_ok (run S.limits n) (run_ok n) (turn S.limits f e es)
      (subst (λ z. TurnOK S z B L (turn S.limits f e es)) g.root (turn_ok S B L f e es g.inv g.fewer))

abbrev pub potential : Setting → Forest → ℕ
potential S f = sum S.limits.goals (size f [])

-- a forest between two calls
pub record Ready (S : Setting) (f : Forest) : Type 0 where
  pub fine : Fine S f.answered (Holds f.queue []) f.clock
  pub bound : f.clock ≤ S.limits.limit
  pub live : (u : ℕ) → length (f.queue u) ≤ length (S.book u)

abbrev pub clauses : Setting → ℕ → ℕ
clauses S u = length (S.book u)

-- what is told of a call: the outcome, and the number of searches that ended in QuantumExceeded
pub record Told (S : Setting) (f : Forest) (Says : Outcome → Type 0) (o : Outcome) (j : ℕ) (f' : Forest) : Type 0 where
  pub rest : Ready S f'
  pub says : Says o
  pub falls : potential S f' + j ≤ potential S f

ended_reply : (S : Setting) (g i : ℕ) (before after : ℕ → ℕ) (o : Outcome) → Ends S g before after o → Reply S.I g i o
ended_reply S g i before after found x = x
ended_reply S g i before after no_more_left x = λ e. x
ended_reply S g i before after again x = tt
ended_reply S g i before after cut x = tt
ended_reply S g i before after clock_ended x = tt
ended_reply S g i before after noted x = x
ended_reply S g i before after (refused n) x = tt
ended_reply S g i before after negative_cycled x = x
ended_reply S g i before after unselected x = x
ended_reply S g i before after repeated x = x
ended_reply S g i before after broken x = x

ended_falls : (S : Setting) (g : ℕ) (before after : ℕ → ℕ) (o : Outcome) → ((u : ℕ) → after u ≤ before u) → Ends S g before after o
    → sum S.limits.goals after + counts o ≤ sum S.limits.goals before
ended_falls S g before after found h x = let y = sum_mono S.limits.goals before after h in omega arith
ended_falls S g before after no_more_left h x = let y = sum_mono S.limits.goals before after h in omega arith
ended_falls S g before after again h (u, l, x) = sum_drop S.limits.goals before after u 1 h l (omega arith)
ended_falls S g before after cut h x = let y = sum_mono S.limits.goals before after h in omega arith
ended_falls S g before after clock_ended h x = let y = sum_mono S.limits.goals before after h in omega arith
ended_falls S g before after noted h x = absurd x
ended_falls S g before after (refused n) h x = absurd x
ended_falls S g before after negative_cycled h x = absurd x
ended_falls S g before after unselected h x = absurd x
ended_falls S g before after repeated h x = absurd x
ended_falls S g before after broken h x = absurd x

ended_told : (S : Setting) (f : Forest) (g i : ℕ) (o : Outcome) (f' : Forest) → Ended S g (size f []) (clauses S) o f'
    → Told S f (Reply S.I g i) o (counts o) f'
ended_told S f g i o f' x = record {
  rest = record { fine = x.rest.fine; bound = x.rest.bound; live = λ u. let y = x.fewer u in omega arith };
  says = ended_reply S g i (size f []) (size f' []) o x.ends;
  falls = ended_falls S g (size f []) (size f' []) o (λ u. (x.fewer u).0) x.ends;
}

abbrev pub SearchTold : (S : Setting) → Forest → (g i : ℕ) → Outcome × Forest → Type 0
SearchTold S f g i p = Told S f (Reply S.I g i) p.0 (counts p.0) p.1

-- a search for an unanswered goal begins
pub begin_inv : (S : Setting) (f : Forest) (g : ℕ) → Ready S f → f.answered g ≡ false → f.clock < S.limits.limit
    → Inv S f.answered f.queue (suc f.clock) (entry_pushed S.limits g (suc f.clock)) []
begin_inv S f g rest n lt =
    let top = entry_pushed S.limits g (suc f.clock) in
    let step = step_trans S (step_on S {ans = f.answered} {k = f.clock} f.queue top [] refl)
    (step_tick S {k' = suc f.clock} (omega arith)) in
    let r = S.room in
    record {
      fine = fine_step S rest.fine step;
      piled = (
        [],
        record {
          pending = n;
          timed = λ x y. let z = rest.fine.timely g x (inl y) in omega arith;
          parked = λ x y z. absurd (let o = rest.fine.timely g x (inl y) in omega arith);
          open_others = λ u m. absurd (Memᴰ.not-nil m);
          others = λ u m. absurd (Memᴰ.not-nil m);
          low = λ o. absurd (omega arith);
          plain = refl;
          new = λ o. o;
        },
      );
      now = omega arith;
      bound = lt;
    }

begin_ok : (S : Setting) (f : Forest) (g i n : ℕ) (d : Dec (f.clock < S.limits.limit)) → Ready S f → f.answered g ≡ false
    → SearchTold S f g i (begin S.limits d f g n)
begin_ok S f g i n (yes o) rest a =
    let top = entry_pushed S.limits g (suc f.clock) in
    let f' = tick S.limits f in
    ended_told S f g i (run S.limits n f' top []).0 (run S.limits n f' top []).1
    (run_ok S g (size f []) (clauses S) n f' top [] (record {
      inv = begin_inv S f g rest a o;
      root = refl;
      fewer = λ u. let x = rest.live u in omega arith;
    }))
begin_ok S f g i n (no o) rest a = record { rest = rest; says = tt; falls = omega arith }

-- a search at index 1, where the answer is stored: nothing is left to do
pub no_member : (q : List Strand) → ((s : Strand) → Memᴰ s q → ⊥) → q ≡ []
no_member [] h = refl
no_member (x ∷ xs) h = absurd (h x (Memᴰ.head refl))

pub turn_stored : (S : Setting) (f : Forest) (g c : ℕ) → f.queue g ≡ []
    → turn S.limits f (entry_pushed S.limits g c) [] ≡ stop no_more_left f
turn_stored S f g c p =
    let e = entry_pushed S.limits g c in
    ap (λ z. taking S.limits (take_from c [] z) f e []) p ∙ ap (λ z. idle S.limits z f e []) p

pub run_stored : (S : Setting) (f : Forest) (g c n : ℕ) → f.queue g ≡ []
    → (run S.limits n f (entry_pushed S.limits g c) [] ≡ (cut, f))
    ⊎ (run S.limits n f (entry_pushed S.limits g c) [] ≡ (no_more_left, f))
run_stored S f g c zero p = inl refl
run_stored S f g c (suc n) p = inr (ap (λ z. follow S.limits z (run S.limits n)) (turn_stored S f g c p))

ticked : (S : Setting) (f : Forest) → Ready S f → f.clock < S.limits.limit → Ready S (tick S.limits f)
ticked S f rest lt = record { fine = fine_step S rest.fine (step_tick S (omega arith)); bound = lt; live = rest.live }

stored_ok : (S : Setting) (f : Forest) (g n : ℕ) (d : Dec (f.clock < S.limits.limit)) → Ready S f → f.answered g ≡ true
    → SearchTold S f g 1 (begin S.limits d f g n)
stored_ok S f g n (yes o) rest a =
    let f' = tick S.limits f in
    let q : f.queue g ≡ [] = no_member (f.queue g) (λ s m. rest.fine.quiet g a s (inl m)) in
    either (λ p. subst (SearchTold S f g 1) (sym p) (record { rest = ticked S f rest o; says = tt; falls = omega arith }))
    (λ p. subst (SearchTold S f g 1) (sym p) (record { rest = ticked S f rest o; says = λ e. absurd (omega arith); falls = omega arith }))
    (run_stored S f' g (suc f.clock) n q)
stored_ok S f g n (no o) rest a = record { rest = rest; says = tt; falls = omega arith }

refused_ok : (S : Setting) (f : Forest) (g i n : ℕ) → Ready S f → SearchTold S f g i (refused n, f)
refused_ok S f g i n rest = record { rest = rest; says = tt; falls = omega arith }

search_at_ok : (S : Setting) (f : Forest) (m a : Bool) (g i n : ℕ) → Ready S f → f.answered g ≡ a
    → SearchTold S f g i (search_at S.limits m a i n f g)
search_at_ok S f false a g i n rest e = refused_ok S f g i 10 rest
search_at_ok S f true false g zero zero rest e = refused_ok S f g 0 12 rest
search_at_ok S f true false g zero (suc n) rest e = begin_ok S f g 0 (suc n) (dec_lt f.clock S.limits.limit) rest e
search_at_ok S f true false g (suc i) n rest e = refused_ok S f g (suc i) 11 rest
search_at_ok S f true true g zero zero rest e = refused_ok S f g 0 12 rest
search_at_ok S f true true g zero (suc n) rest e = record { rest = rest; says = rest.fine.proved g e; falls = omega arith }
search_at_ok S f true true g (suc zero) zero rest e = refused_ok S f g 1 12 rest
search_at_ok S f true true g (suc zero) (suc n) rest e = stored_ok S f g (suc n) (dec_lt f.clock S.limits.limit) rest e
search_at_ok S f true true g (suc (suc i)) n rest e = refused_ok S f g (suc (suc i)) 11 rest

pub search_ok : (S : Setting) (f : Forest) (g i n : ℕ) → Ready S f → SearchTold S f g i (search S.limits f g i n)
search_ok S f g i n rest = search_at_ok S f (f.made g) (f.answered g) g i n rest refl

abbrev pub PeekTold : (S : Setting) → Forest → (g i : ℕ) → Outcome × ℕ × Forest → Type 0
PeekTold S f g i p = Told S f (Reply S.I g i) p.0 p.1 p.2

peek_next_ok : (S : Setting) (f : Forest) (g i : ℕ) (k : Forest → Outcome × ℕ × Forest)
    → ((f' : Forest) → Ready S f' → PeekTold S f' g i (k f')) → (p : Outcome × Forest) → SearchTold S f g i p
    → PeekTold S f g i (peek_next S.limits p k)
peek_next_ok S f g i k h (found, f') t = t
peek_next_ok S f g i k h (no_more_left, f') t = t
peek_next_ok S f g i k h (again, f') t =
    let r = h f' t.rest in
    record { rest = r.rest; says = r.says; falls = let x = t.falls in let y = r.falls in omega arith }
peek_next_ok S f g i k h (cut, f') t = t
peek_next_ok S f g i k h (clock_ended, f') t = t
peek_next_ok S f g i k h (noted, f') t = t
peek_next_ok S f g i k h (refused n, f') t = t
peek_next_ok S f g i k h (negative_cycled, f') t = t
peek_next_ok S f g i k h (unselected, f') t = t
peek_next_ok S f g i k h (repeated, f') t = t
peek_next_ok S f g i k h (broken, f') t = t

rounds_ok : (S : Setting) (r g i n : ℕ) (f : Forest) → Ready S f → PeekTold S f g i (rounds S.limits r g i n f)
rounds_ok S zero g i n f rest = record { rest = rest; says = tt; falls = omega arith }
rounds_ok S (suc r) g i n f rest = peek_next_ok S f g i (rounds S.limits r g i n) (rounds_ok S r g i n) (search S.limits f g i n)
    (search_ok S f g i n rest)

pub peek_ok : (S : Setting) (r g i n : ℕ) (f : Forest) → Ready S f → PeekTold S f g i (peek S.limits r g i n f)
peek_ok S zero g i n f rest =
    let t = search_ok S f g i 0 rest in
    record { rest = t.rest; says = t.says; falls = let x = t.falls in omega arith }
peek_ok S (suc r) g i n f rest = rounds_ok S (suc r) g i n f rest

pub call_ok : (S : Setting) (m : Bool) (c : Call) (f : Forest) → Ready S f
    → Told S f (Says S.I c) (call_on S.limits m c f).0 (call_on S.limits m c f).1 (call_on S.limits m c f).2
call_ok S true (opens_goal g) f rest = record { rest = rest; says = tt; falls = omega arith }
call_ok S true (searches_goal g i n) f rest = record { rest = rest; says = tt; falls = omega arith }
call_ok S true (peeks_goal g i r n) f rest = record { rest = rest; says = tt; falls = omega arith }
call_ok S true (asks_any_future g i) f rest = record { rest = rest; says = tt; falls = omega arith }
call_ok S false (opens_goal g) f rest = go (dec_lt g S.limits.goals)
  where
    go : (d : Dec (g < S.limits.goals)) → Told S f Plainly (opening S.limits d g f).0 (opening S.limits d g f).1
        (opening S.limits d g f).2
    go (yes o) = record { rest = record { fine = rest.fine; bound = rest.bound; live = rest.live }; says = tt; falls = omega arith }
    go (no o) = record { rest = rest; says = tt; falls = omega arith }
call_ok S false (searches_goal g i n) f rest = search_ok S f g i n rest
call_ok S false (peeks_goal g i r n) f rest = peek_ok S r g i n f rest
call_ok S false (asks_any_future g i) f rest = record { rest = rest; says = tt; falls = omega arith }

pub calls_ok : (S : Setting) (cs : List Call) (m : Bool) (f : Forest) → Ready S f
    → AllSay S.I (calls S.limits cs m f) × (agains (calls S.limits cs m f) ≤ potential S f)
calls_ok S [] m f rest = (tt, omega arith)
calls_ok S (c ∷ cs) m f rest =
    let k = call_ok S m c f rest in
    let r = calls_ok S cs (marked m (call_on S.limits m c f).0) (call_on S.limits m c f).2 k.rest in
    ((k.says, r.0), (let x = k.falls in let y = r.1 in omega arith))

-- a forest just made
pub initial_ok : (S : Setting) → Ready S (initial S.book)
initial_ok S = record {
  fine = record {
    good = λ g s h. from g s h (λ c m. record { inside = S.inside g c m; sound = S.closed g c m; levels = S.levelled g c m });
    timely = λ g s h. subst (λ z. z.time ≤ 0) (Memᴰ.of_map fresh (S.book g) (queued g s h)).2 (omega arith);
    proved = λ g a. absurd (false≢true a);
    quiet = λ g a. absurd (false≢true a);
    kept = λ g a c m. inr (fresh c, inl (Memᴰ.map fresh m), λ l x. x);
  };
  bound = omega arith;
  live = λ u. let x = length-map (S.book u) fresh in omega arith;
}
  where
    queued : (g : ℕ) (s : Strand) → Holds (initial S.book).queue [] g s → Memᴰ s (map fresh (S.book g))
    queued g s (inl m) = m
    queued g s (inr x) = absurd x

    from : (g : ℕ) (s : Strand) → Holds (initial S.book).queue [] g s → ((c : Body) → Memᴰ c (S.book g) → Good S g (fresh c))
        → Good S g s
    from g s h k = let r = Memᴰ.of_map fresh (S.book g) (queued g s h) in subst (Good S g) r.2 (k r.0 r.1)

pub initial_total : (n : ℕ) (book : Book) → sum n (size (initial book) []) ≤ n + sum n (λ g. length (book g))
initial_total zero book = omega arith
initial_total (suc n) book = let x = initial_total n book in let y = length-map (book n) fresh in omega arith

-- the strands of all tables are never more than the clauses
pub ready_strands : (S : Setting) (f : Forest) → Ready S f
    → sum S.limits.goals (λ u. length (f.queue u)) ≤ sum S.limits.goals (clauses S)
ready_strands S f r = sum_mono S.limits.goals (clauses S) (λ u. length (f.queue u)) r.live

pub going_strands : (S : Setting) (r : ℕ) (B : ℕ → ℕ) (f : Forest) (e : Entry) (es : List Entry) → Going S r B (clauses S) f e es
    → sum S.limits.goals (λ u. length (f.queue u) + count (e ∷ es) u) ≤ sum S.limits.goals (clauses S)
going_strands S r B f e es g = sum_mono S.limits.goals (clauses S) (λ u. length (f.queue u) + count (e ∷ es) u) (λ u. (g.fewer u).1)

abbrev pub setting : (book : Book) (level : ℕ → ℕ) (N : Limits) → Levelled book level → Inside book N.goals → N.limit ≤ N.max → Setting
setting book level N levelled inside room = record {
  book = book;
  level = level;
  limits = N;
  I = In book level;
  inside = inside;
  levelled = levelled;
  closed = closed book level levelled;
  unfounded = unfounded book level levelled;
  room = room;
}

pub demand : (book : Book) (level : ℕ → ℕ) (N : Limits) → Levelled book level → Inside book N.goals → N.limit ≤ N.max
    → Demand book level N
demand book level N levelled inside room cs =
    let S = setting book level N levelled inside room in
    let r = calls_ok S cs false (initial book) (initial_ok S) in
    (r.0, (let x = r.1 in let y = initial_total N.goals book in omega arith))

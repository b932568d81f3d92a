-- The calls that are handed over, one after the other, are a sitting; and the way out of `serve_calls` over variables.
use Prim.Native.Nat.{ℕ, suc, ◌-◌, ◌≤◌, ◌<◌, min}
use native.Mathlib.Omega.{arith}
use mathlib.Core.Bool.{Bool, false, false≢true}
use mathlib.Core.List.{List, [], ◌∷◌, map}
use mathlib.Core.Path.{◌≡◌, refl, sym, ap, ap₂, subst, ◌∙◌}
use lib.Dec.{eqb}
use lib.ListN.{get_or, replicate, length-replicate}
use borrow.Author.Tests.{lt-ltb, ltb-true, leb-true}
use Rattle.definitions.specs.{MAX}
use Rattle.definitions.specs.Calls as said
use Rattle.stores.specs.declared.stack.Stack.{Stack}
use Rattle.stores.specs.Stack.{blank_stack}
use Rattle.stores.proofs.StackViews.{blank_stack_sound}
use Rattle.control.specs.PerformDeed.{stack_of}
use Rattle.search.specs.RootAnswer.{one_more_by, one_more}
use Rattle.search.specs.Walk.{Walk, numbered, Comes}
use Rattle.batch.specs.declared.calls.Serving.{Serving}
use Rattle.batch.specs.Calls.{call_at, reply_put}
use Rattle.batch.specs.Serve.{Stage, stage, told}
use Rattle.batch.specs.ServeAll.{walk_of, with_walk, next_begun, Serves, all_told, hand_told, call_served}
use Rattle.forest.specs.declared.Forest.{Forest}
use Rattle.forest.specs.ServeCalls.{call_means, all_asked, all_put, all_left, first_serving, ServeCallsSays}
use Rattle.forest.specs.Sittings.{Told, left, Sits, asked}
use Rattle.forest.specs.View.{book_in, lent_with, Sound}
use Rattle.forest.proofs.Opening.{forest_of, forest_at}
use Rattle.forest.proofs.Serving.{Idle, left_sound, Came, call_came}

next_is : (i : ℕ) → i < 256 → one_more i ≡ suc i
next_is i h = ap (λ (b : Bool). one_more_by b i) (lt-ltb i MAX (omega arith))

none_left : (n i : ℕ) → n ≤ i → 0 ≡ n - i
none_left n i h = omega arith

one_less : (n i : ℕ) → i < n → suc (n - suc i) ≡ n - i
one_less n i h = omega arith

module _ (f : Forest) (calls : List ℕ) (fit : (i : ℕ) → get_or calls i 0 ≤ MAX) (n : ℕ) (most : n ≤ 256) where
  -- the next call, begun
  abbrev began : Stage → Stage
  began v = next_begun (book_in f) f.clock_limit calls n v

  -- from one stage to another: the contract, with the calls that are left
  record Sitting (v u : Stage) : Type 0 where
    tells : List Told
    sits : Sits (forest_at f v) tells
    asks : map asked tells ≡ all_asked calls v.serving.at (n - v.serving.at)
    replies : u.replies ≡ all_put v.serving.at tells v.replies
    leaves : forest_at f u ≡ all_left (forest_at f v) tells
    sound : Sound (forest_at f u)

  -- the next call, and then the others
  module _ (v u : Stage) (begun : Stage) (x : Walk) (h : v.serving.at < n)
      (c : Came f v (call_means (call_at calls v.serving.at)) begun x) (rest : Sitting (told (with_walk begun x)) u) where
    next_at : one_more begun.serving.at ≡ suc v.serving.at
    next_at = ap one_more c.same_at ∙ next_is v.serving.at (omega arith)

    and_then : Sitting v u
    and_then = record {
      tells = c.tells ∷ rest.tells;
      sits = (c.gives, subst (λ (g : Forest). Sits g rest.tells) c.leaves rest.sits);
      asks =
          ap₂ (λ (a : said.Call) (l : List said.Call). a ∷ l) c.asks
          (rest.asks ∙ ap (λ (i : ℕ). all_asked calls i (n - i)) next_at)
          ∙ ap (all_asked calls v.serving.at) (one_less n v.serving.at h);
      replies =
          rest.replies
          ∙ (λ i. all_put (next_at i) rest.tells (reply_put (c.same_at i) (c.replies i) (c.same_replies i)));
      leaves = rest.leaves ∙ ap (λ (g : Forest). all_left g rest.tells) c.leaves;
      sound = rest.sound;
    }

  -- what is lent has the numbers of the course at hand
  abbrev NextCame : Stage → Type 0
  NextCame v = Sound (forest_at f v) → Idle v.lent.stack → (x : Walk)
      → Comes (book_in f) (began v).serving.asked (walk_of (began v)) x
      → Came f v (call_means (call_at calls v.serving.at)) (began v) x

  next_came : (v : Stage) → v.lent ≡ numbered v.serving.course v.lent → NextCame v
  next_came v e =
      let k = call_at calls v.serving.at in
      subst NextCame (λ i. record { serving = v.serving; lent = sym e i; replies = v.replies })
      (λ o idle x h. call_came f v.serving v.lent v.replies o idle (eqb k.kind 0) (eqb k.kind 1) (eqb k.kind 2) k
      (fit _) (fit _) h)

  sitting : {v u : Stage} → Serves (book_in f) f.clock_limit calls n v u → v.serving.busy ≡ false
      → v.lent ≡ numbered v.serving.course v.lent → Sound (forest_at f v) → Idle v.lent.stack → Sitting v u
  sitting {v} (all_told e) none same o idle =
      record {
        tells = [];
        sits = tt;
        asks = ap (all_asked calls v.serving.at) (none_left n v.serving.at (leb-true n v.serving.at e));
        replies = refl;
        leaves = refl;
        sound = o;
      }
  sitting (hand_told e busy h rest) none same o idle = absurd (false≢true (sym none ∙ busy))
  sitting {v} {u} (call_served {w = x} e _ h rest) none same o idle =
      let c = next_came v same o idle x h in
      and_then v u (began v) x (ltb-true v.serving.at n e) c
      (sitting rest refl refl (subst Sound (sym c.leaves) (left_sound (forest_at f v) c.tells o c.gives)) c.idle)

-- THE WAY OUT of `serve_calls`: from the forest's own stage on, with nothing on the stack, to the forest that carries the last course
module _ (f : Forest) (count n : ℕ) (clamped : n ≡ min count 256) (calls before : List ℕ) (fit : (i : ℕ) → get_or calls i 0 ≤ MAX)
    (from : Serving) (is : from ≡ first_serving f) (b : Stack) (blank : b ≡ blank_stack) (s : Serving) (r : Forest)
    (after : List ℕ) (k : Stack) where
  abbrev serves : Serving → Stack → Type 0
  serves z x = Serves f.book f.clock_limit calls n (stage z (lent_with f x) before) (stage s (lent_with r k) after)

  pub calls_served : serves from b → r ≡ forest_of f s.course (lent_with r k) → Sound f → ServeCallsSays f count calls before r after
  calls_served h e o =
      let most : n ≤ 256 = omega arith in
      let all : n - 0 ≡ min count 256 = omega arith in
      let x = sitting f calls fit n most
      (subst (λ (z : Serving). serves z blank_stack) is (subst (serves from) blank h)) refl refl o
      (record { sound = blank_stack_sound; empty = refl }) in
      record {
        told = x.tells;
        sits = x.sits;
        asks = x.asks ∙ ap (all_asked calls 0) all;
        replies = x.replies;
        left = e ∙ x.leaves;
        sound = subst Sound (sym e) x.sound;
      }

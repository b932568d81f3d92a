-- Each case of a turn that goes on keeps the invariant.
use Prim.Native.Nat.{ℕ, suc, ◌≤◌, ◌<◌, min}
use native.Mathlib.Omega.{arith}
use native.Mathlib.Decide.{dec_le, ℕ_discrete}
use mathlib.Core.Path.{◌≡◌, refl, sym, ap, subst, ◌∙◌}
use mathlib.Core.Bool.{Bool, true, false, true≢false}
use mathlib.Core.Logic.{◌⊎◌, inl, inr}
use mathlib.Core.Option.{Option, none, some}
use mathlib.Core.List.Memᴰ
use mathlib.Core.List.{List, [], ◌∷◌, Memᴰ}
use Rattle.promises.proofs.Plain.Model.{Lit, pos, neg, Body, literal_goal, LevelBody, level_head, level_tail, TrueLit, TrueBody, all}
use Rattle.promises.proofs.Plain.Model.{either}
use Rattle.promises.proofs.Plain.Machine.{Strand, Entry, Queues, put, entry_with, with_mins, append, popped, pursued, find_clock}
use Rattle.promises.proofs.Plain.Machine.{entry_pushed}
use Rattle.promises.proofs.Plain.Steps.{Setting, Within, Good, Fine, Child, Step, fine_step, step_trans, Holds, put_here, put_there}
use Rattle.promises.proofs.Plain.Steps.{append_back, step_on, step_restore, step_active, step_take, step_tick}
use Rattle.promises.proofs.Plain.Stack.{On, Reach, Waits, Place, Settled, SettledAt, Piled, waits_kept, settled_kept, piled_kept}
use Rattle.promises.proofs.Plain.Stack.{levels_fall, found_on, found_below, not_on, on_of, on_weaken, waits_map}

pub record Inv (S : Setting) (ans : ℕ → Bool) (q : Queues) (k : ℕ) (e : Entry) (es : List Entry) : Type 0 where
  pub fine : Fine S ans (Holds q (e ∷ es)) k
  pub piled : Piled S ans (Holds q (e ∷ es)) q e es
  pub now : e.clock ≤ k
  pub bound : k ≤ S.limits.limit

abbrev pub remade : Entry → ℕ → ℕ → Option Strand → Entry
remade e m n a = record { goal = e.goal; clock = e.clock; positive_min = m; negative_min = n; active = a }

pub put_off : (q : Queues) (g u : ℕ) (r : List Strand) (s : Strand) → (g ≡ u → ⊥) → Memᴰ s (put q g r u) → Memᴰ s (q u)
put_off q g u r s n m = subst (λ x. Memᴰ s x) (put_there q g u r n) m

pub top_new : (S : Setting) (ans : ℕ → Bool) (H : ℕ → Strand → Type 0) (q : Queues) (e : Entry) (es : List Entry) → Piled S ans H q e es
    → (P : List ℕ) × SettledAt S ans H q e es P
top_new S ans H q e [] (P, i) = (P, i)
top_new S ans H q e (c ∷ es) (P, i, a, r) = (P, i)

-- the top changes, and its queue
pub retop : (S : Setting) (ans : ℕ → Bool) (H H' : ℕ → Strand → Type 0) (q q' : Queues) (k k' : ℕ) (e : Entry) (m n : ℕ) (a : Option Strand)
    (es : List Entry)
    → Piled S ans H q e es → Step S ans H k H' k' → ((u : ℕ) → (e.goal ≡ u → ⊥) → (s : Strand) → Memᴰ s (q' u) → Memᴰ s (q u))
    → ((P : List ℕ) → SettledAt S ans H q e es P → (P' : List ℕ) × Settled S ans H' q' e.goal e.clock m n es P')
    → Piled S ans H' q' (remade e m n a) es
retop S ans H H' q q' k k' e m n a [] (P, i) step less new = new P i
retop S ans H H' q q' k k' e m n a (c ∷ es) (P, i, b, r) step less new =
    let x = new P i in
    (x.0, x.1, b, piled_kept S c es r step (λ u o s h. less u (λ p. i.new (subst (λ v. On v (c ∷ es)) (sym p) o)) s h))

pub same_lits : (S : Setting) {ans : ℕ → Bool} (g k c : ℕ) (s : Strand) (b : Body) → s.lits ≡ b → c ≤ k → Child S ans g k k s (pursued c b)
same_lits S g k c s b p o = record {
  good = λ x. record {
    inside = x.inside;
    sound = λ t. x.sound (subst (TrueBody S.I) (sym p) t);
    levels = subst (LevelBody S.level (S.level g)) p x.levels;
  };
  time = λ x. o;
  keeps = λ v d l y n. (sym p ∙ l, refl);
}

pub pop_within : (l : Lit) (b : Body) (s : Strand) → s.lits ≡ l ∷ b → Within b s.lits
pop_within l b s p x m = subst (Memᴰ x) (sym p) (Memᴰ.tail m)

pub good_pop : (S : Setting) (g c : ℕ) (s : Strand) (l : Lit) (b : Body) → s.lits ≡ l ∷ b → TrueLit S.I l → Good S g s
    → Good S g (popped c b)
good_pop S g c s l b p t x = record {
  inside = x.inside;
  sound = λ ts. x.sound (subst (TrueBody S.I) (sym p) (all t ts));
  levels = level_tail (subst (LevelBody S.level (S.level g)) p x.levels);
}

pub pos_inj : {h v : ℕ} {b d : Body} → pos h ∷ b ≡ pos v ∷ d → h ≡ v
pos_inj {h} {v} {b} {d} e = cc

pub neg_pos : {h v : ℕ} {b d : Body} → neg h ∷ b ≡ pos v ∷ d → ⊥
neg_pos {h} {v} {b} {d} e = let z : ◌≡◌ {A = ℕ} 0 1 = cc in omega arith

module _ (S : Setting) (ans : ℕ → Bool) (q : Queues) (k : ℕ) (e : Entry) (es : List Entry) (inv : Inv S ans q k e es) where
  -- a strand is taken from the queue
  pub case_take : (s : Strand) (r : List Strand) → e.active ≡ none → ((t : Strand) → Memᴰ t r → Memᴰ t (q e.goal))
      → Memᴰ s (q e.goal) → ((t : Strand) → Memᴰ t (q e.goal) → (s ≡ t) ⊎ Memᴰ t r)
      → Inv S ans (put q e.goal r) k (entry_with e (some s)) es
  case_take s r a less mem most =
      let step = step_take S {ans = ans} {k = k} q e (entry_with e (some s)) es s r a refl refl less mem most in
      record {
        fine = fine_step S inv.fine step;
        piled = retop S ans _ _ q (put q e.goal r) k k e e.positive_min e.negative_min (some s) es inv.piled step
            (λ u n t m. put_off q e.goal u r t n m)
            (λ P i. (P, settled_kept S i step (λ t m. less t (subst (Memᴰ t) (put_here q e.goal e.goal r refl) m))));
        now = inv.now;
        bound = inv.bound;
      }

  -- a positive literal has its answer
  pub case_popped : (s : Strand) (h : ℕ) (b : Body) → e.active ≡ some s → s.lits ≡ pos h ∷ b → ans h ≡ true
      → Inv S ans q k (entry_with e (some (popped e.clock b))) es
  case_popped s h b a p t =
      let child : Child S ans e.goal k k s (popped e.clock b) = record {
        good = good_pop S e.goal e.clock s (pos h) b p (inv.fine.proved h t);
        time = λ x. inv.now;
        keeps = λ v d l y n. absurd (true≢false (sym t ∙ subst (λ w. ans w ≡ false) (sym (pos_inj (sym p ∙ l))) n));
      } in
      let step = step_active S {ans = ans} {k = k} q e (entry_with e (some (popped e.clock b))) es s (popped e.clock b) a refl refl
      child (pop_within (pos h) b s p) in
      record {
        fine = fine_step S inv.fine step;
        piled = retop S ans _ _ q q k k e e.positive_min e.negative_min (some (popped e.clock b)) es inv.piled step
            (λ u n t m. m) (λ P i. (P, settled_kept S i step (λ t m. m)));
        now = inv.now;
        bound = inv.bound;
      }

  -- the selected literal's table is on the stack: the strand is parked
  pub case_park : (s : Strand) (h : ℕ) (b : Body) (c : ℕ) → e.active ≡ some s → s.lits ≡ pos h ∷ b → ans h ≡ false
      → find_clock h (e ∷ es) ≡ some c
      → Inv S ans (append q e.goal (pursued e.clock (pos h ∷ b))) k (with_mins e (min e.positive_min c) e.negative_min) es
  case_park s h b c a p n at =
      let t = pursued e.clock (pos h ∷ b) in
      let m = min e.positive_min c in
      let q' = append q e.goal t in
      let e' = entry_with e (some t) in
      let step₁ = step_active S {ans = ans} {k = k} q e e' es s t a refl refl
      (same_lits S e.goal k e.clock s (pos h ∷ b) p inv.now) (λ l x. subst (Memᴰ l) (sym p) x) in
      let step₂ = step_restore S {ans = ans} {k = k} q e' es (some t) refl in
      let step₃ = step_on S {ans = ans} {k = k} q' (with_mins e m e.negative_min) es refl in
      let step = step_trans S step₁ (step_trans S step₂ step₃) in
      let level : S.level h ≤ S.level e.goal = level_head
      (subst (LevelBody S.level (S.level e.goal)) p (inv.fine.good e.goal s (inr (inl (refl, a)))).levels) in
      record {
        fine = fine_step S inv.fine step;
        piled = retop S ans _ _ q q' k k e m e.negative_min none es inv.piled step (λ u o x y. put_off q e.goal u _ x o y)
            (λ P i. (
              P,
              record {
                pending = i.pending;
                timed = λ x y. either (i.timed x) (λ o. timed_new x o.1)
                    (append_back q e.goal t e.goal x (ℕ_discrete e.goal e.goal) y);
                parked = λ x y z. either (λ o. waits_map (weaken P) (i.parked x o z))
                    (λ o. subst (λ w. Waits ans (Place P m e.goal e.clock es) w) o.1 (parked_new P))
                    (append_back q e.goal t e.goal x (ℕ_discrete e.goal e.goal) y);
                open_others = i.open_others;
                others = λ u o x y. let z = step.from u x y in
                    waits_map (weaken P) (waits_kept (i.others u o z.0 z.1) z.2.keeps);
                low = λ o. low_new (dec_le e.positive_min c) P i level o;
                plain = i.plain;
                new = i.new;
              },
            ));
        now = inv.now;
        bound = inv.bound;
      }
    where
      timed_new : (x : Strand) → pursued e.clock (pos h ∷ b) ≡ x → x.time ≤ e.clock
      timed_new x o = let y : e.clock ≡ x.time = ap (λ z. z.time) o in omega arith

      weaken : (P : List ℕ) (u : ℕ) → Place P e.positive_min e.goal e.clock es u
          → Place P (min e.positive_min c) e.goal e.clock es u
      weaken P u (inl o) = inl o
      weaken P u (inr (inl (x, y))) = inr (inl (x, omega arith))
      weaken P u (inr (inr o)) = inr (inr (on_weaken e.positive_min (min e.positive_min c) u es (omega arith) o))

      parked_new : (P : List ℕ) → Waits ans (Place P (min e.positive_min c) e.goal e.clock es) (pursued e.clock (pos h ∷ b))
      parked_new P = record {
        table = h;
        rest = b;
        lits = refl;
        chosen = refl;
        pending = n;
        place = inr (on_weaken c (min e.positive_min c) h (e ∷ es) (omega arith) (found_on h (e ∷ es) c at));
      }

      low_new : Dec (e.positive_min ≤ c) → (P : List ℕ) → SettledAt S ans (Holds q (e ∷ es)) q e es P → S.level h ≤ S.level e.goal
          → min e.positive_min c < e.clock → Reach S.level (min e.positive_min c) (S.level e.goal) es
      low_new (yes o) P i v lt = let y : e.positive_min ≡ min e.positive_min c = omega arith in
          subst (λ z. Reach S.level z (S.level e.goal) es) y (i.low (omega arith))
      low_new (no o) P i v lt = let y : c ≡ min e.positive_min c = omega arith in
          subst (λ z. Reach S.level z (S.level e.goal) es) y
          (found_below S.level (S.level e.goal) h e es c v (omega arith) at)

  -- a "not" is never parked
  pub case_no_cycle : (s : Strand) (h : ℕ) (b : Body) (c : ℕ) → e.active ≡ some s → s.lits ≡ neg h ∷ b → find_clock h (e ∷ es) ≡ some c
      → ⊥
  case_no_cycle s h b c a p at =
      let lower : S.level h < S.level e.goal = level_head
      (subst (LevelBody S.level (S.level e.goal)) p (inv.fine.good e.goal s (inr (inl (refl, a)))).levels) in
      let higher = levels_fall S ans q e es inv.fine.good (λ g t x. inr (inr x)) inv.piled h
      (on_of c h (e ∷ es) (found_on h (e ∷ es) c at)) in
      omega arith

  -- the selected literal's table is pushed
  pub case_push : (s : Strand) (l : Lit) (b : Body) → e.active ≡ some s → s.lits ≡ l ∷ b → ans (literal_goal l) ≡ false
      → find_clock (literal_goal l) (e ∷ es) ≡ none → k < S.limits.limit
      → Inv S ans q (suc k) (entry_pushed S.limits (literal_goal l) (suc k)) (entry_with e (some (pursued e.clock (l ∷ b))) ∷ es)
  case_push s l b a p n at room =
      let t = pursued e.clock (l ∷ b) in
      let e' = entry_with e (some t) in
      let top = entry_pushed S.limits (literal_goal l) (suc k) in
      let step₁ = step_active S {ans = ans} {k = k} q e e' es s t a refl refl (same_lits S e.goal k e.clock s (l ∷ b) p inv.now)
      (λ l x. subst (Memᴰ l) (sym p) x) in
      let step₂ = step_on S {ans = ans} {k = k} q top (e' ∷ es) refl in
      let step₃ = step_tick S {ans = ans} {H = Holds q (top ∷ e' ∷ es)} {k = k} {k' = suc k} (omega arith) in
      let step = step_trans S step₁ (step_trans S step₂ step₃) in
      let r = S.room in
      let w = inv.now in
      record {
        fine = fine_step S inv.fine step;
        piled = (
          [],
          record {
            pending = n;
            timed = λ x y. let z = inv.fine.timely (literal_goal l) x (inl y) in omega arith;
            parked = λ x y z. absurd (let o = inv.fine.timely (literal_goal l) x (inl y) in omega arith);
            open_others = λ u m. absurd (Memᴰ.not-nil m);
            others = λ u m. absurd (Memᴰ.not-nil m);
            low = λ o. absurd (omega arith);
            plain = refl;
            new = λ o. not_on (literal_goal l) (e ∷ es) at o;
          },
          record {
            strand = t;
            active = refl;
            lit = l;
            rest = b;
            lits = refl;
            names = refl;
            chosen = refl;
            time = omega arith;
            earlier = omega arith;
          },
          retop S ans _ _ q q k (suc k) e e.positive_min e.negative_min (some t) es inv.piled step (λ u n t m. m)
              (λ P i. (P, settled_kept S i step (λ t m. m))),
        );
        now = omega arith;
        bound = room;
      }

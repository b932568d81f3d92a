-- Clearing: it takes only strands that are false, meets none with nothing selected, and never runs out of its bound.
use Prim.Native.Nat.{ℕ, zero, suc, ◌+◌, ◌≤◌, ◌<◌}
use native.Mathlib.Omega.{arith}
use native.Mathlib.Decide.{ℕ_discrete}
use mathlib.Core.Path.{◌≡◌, refl, sym, ap, subst, ◌∙◌}
use mathlib.Core.Bool.{Bool, true, false}
use mathlib.Core.Logic.{◌⊎◌, inl, inr}
use mathlib.Core.Option.{none, some}
use mathlib.Core.List.Memᴰ
use mathlib.Core.List.{List, [], ◌∷◌, ◌++◌, Memᴰ}
use Rattle.promises.proofs.Plain.Model.{pos, Body, FalseBody, either}
use Rattle.promises.proofs.Plain.Machine.{Strand, Entry, Queues, pick, put, awaited_goal, clear_next, clear}
use Rattle.promises.proofs.Plain.Steps.{Setting, Holds, at_put, put_here}
use Rattle.promises.proofs.Plain.Stack.{On, OnFrom, Waits, Place, SettledAt, Piled, settled_waits}
use Rattle.promises.proofs.Plain.Cases.{Inv, top_new}
use Rattle.promises.proofs.Plain.Pops.{act_on}
use lib.ListN.{length, length-append}
use Rattle.laws.proofs.Options.{no_such}
use Rattle.laws.proofs.Sums.{sum, sum_mono, sum_drop}

pub record Stuck (U : ℕ → Type 0) (s : Strand) : Type 0 where
  pub table : ℕ
  pub rest : Body
  pub lits : s.lits ≡ pos table ∷ rest
  pub chosen : s.chosen ≡ true
  pub place : U table

pub record Less (S : Setting) (q q' : Queues) : Type 0 where
  pub less : (u : ℕ) (t : Strand) → Memᴰ t (q' u) → Memᴰ t (q u)
  pub most : (u : ℕ) (t : Strand) → Memᴰ t (q u) → FalseBody S.I t.lits ⊎ Memᴰ t (q' u)
  pub size : (u : ℕ) → length (q' u) ≤ length (q u)

pub less_trans : (S : Setting) {q q' q'' : Queues} → Less S q q' → Less S q' q'' → Less S q q''
less_trans S a b = record {
  less = λ u t m. a.less u t (b.less u t m);
  most = λ u t m. either inl (b.most u t) (a.most u t m);
  size = λ u. let x = a.size u in let y = b.size u in omega arith;
}

module _ (S : Setting) (U : ℕ → Type 0) (out : (u : ℕ) → U u → S.I u → ⊥) where
  stuck_false : (s : Strand) → Stuck U s → FalseBody S.I s.lits
  stuck_false s k = (pos k.table, subst (Memᴰ (pos k.table)) (sym k.lits) (Memᴰ.head refl), out k.table k.place)

  -- a queue of U is emptied
  pub less_put : (q : Queues) (u : ℕ) → ((s : Strand) → Memᴰ s (q u) → Stuck U s) → Less S q (put q u [])
  less_put q u stuck = record {
    less = λ v t m. either (λ p. absurd (Memᴰ.not-nil p.1)) (λ p. p.1) (at_put q u v [] t (ℕ_discrete u v) m);
    most = λ v t m. most v t (ℕ_discrete u v) m;
    size = λ v. size v (ℕ_discrete u v);
  }
    where
      most : (v : ℕ) (t : Strand) (d : Dec (u ≡ v)) → Memᴰ t (q v) → FalseBody S.I t.lits ⊎ Memᴰ t (pick d [] (q v))
      most v t (yes p) m = inl (stuck_false t (stuck t (subst (λ w. Memᴰ t (q w)) (sym p) m)))
      most v t (no n) m = inr m

      size : (v : ℕ) (d : Dec (u ≡ v)) → length (pick d [] (q v)) ≤ length (q v)
      size v (yes p) = omega arith
      size v (no n) = omega arith

  emptied_total : (q : Queues) (u : ℕ) → ((s : Strand) → Memᴰ s (q u) → Stuck U s)
      → ((s : Strand) → Memᴰ s (q u) → u < S.limits.goals)
      → sum S.limits.goals (λ g. length (put q u [] g)) + length (q u) ≤ sum S.limits.goals (λ g. length (q g))
  emptied_total q u stuck inside = go (q u) refl
    where
      l : Less S q (put q u [])
      l = less_put q u stuck

      none_here : length (put q u [] u) ≡ 0
      none_here = ap length (put_here q u u [] refl)

      go : (x : List Strand) → q u ≡ x → sum S.limits.goals (λ g. length (put q u [] g)) + length (q u) ≤ sum S.limits.goals
          (λ g. length (q g))
      go [] p = let a = sum_mono S.limits.goals (λ g. length (q g)) (λ g. length (put q u [] g)) l.size in
          let b : length (q u) ≡ 0 = ap length p in omega arith
      go (x ∷ xs) p = sum_drop S.limits.goals (λ g. length (q g)) (λ g. length (put q u [] g)) u (length (q u)) l.size
          (inside x (subst (Memᴰ x) (sym p) (Memᴰ.head refl))) (omega (arith, none_here))

  waits_some : (s : Strand) (k : Stuck U s) → awaited_goal s.chosen s.lits ≡ some k.table
  waits_some s k = rw (k.chosen, k.lits)

  pub clear_ok : (n : ℕ) (w : List Strand) (q : Queues) → ((s : Strand) → Memᴰ s w → Stuck U s)
      → ((u : ℕ) → U u → (s : Strand) → Memᴰ s (q u) → Stuck U s) → ((u : ℕ) (s : Strand) → Memᴰ s (q u) → u < S.limits.goals)
      → length w + sum S.limits.goals (λ g. length (q g)) ≤ n → (q' : Queues) × (clear n w q ≡ some q') × Less S q q'
  clear_ok zero [] q work queues inside o = (q, refl, record { less = λ u t m. m; most = λ u t m. inr m; size = λ u. omega arith })
  clear_ok zero (s ∷ w) q work queues inside o = absurd (omega arith)
  clear_ok (suc n) [] q work queues inside o = (q, refl, record { less = λ u t m. m; most = λ u t m. inr m; size = λ u. omega arith })
  clear_ok (suc n) (s ∷ w) q work queues inside o =
      let k = work s (Memᴰ.head refl) in
      let u = k.table in
      let l = less_put q u (queues u k.place) in
      let fewer = emptied_total q u (queues u k.place) (inside u) in
      let longer : length (q u ++ w) ≡ length (q u) + length w = length-append (q u) w in
      let r = clear_ok n (q u ++ w) (put q u []) (λ t m. either (queues u k.place t) (λ x. work t (Memᴰ.tail x))
      (Memᴰ.append_cases (q u) m))
      (λ v x t m. queues v x t (l.less v t m)) (λ v t m. inside v t (l.less v t m)) (omega arith) in
      (r.0, ap (λ z. clear_next z (λ v. clear n (q v ++ w) (put q v []))) (waits_some s k) ∙ r.1, less_trans S l r.2)

-- the clocks rise along the stack
pub clocks_rise : (S : Setting) (ans : ℕ → Bool) (H : ℕ → Strand → Type 0) (q : Queues) (e : Entry) (es : List Entry) (m u : ℕ)
    → Piled S ans H q e es → OnFrom m u es → m < e.clock
clocks_rise S ans H q e [] m u i o = absurd o
clocks_rise S ans H q e (c ∷ es) m u (P, i, a, r) (inl (p, o)) = let x = a.earlier in omega arith
clocks_rise S ans H q e (c ∷ es) m u (P, i, a, r) (inr o) = let x = a.earlier in let y = clocks_rise S ans H q c es m u r o in omega arith

module _ (S : Setting) (ans : ℕ → Bool) (q : Queues) (k : ℕ) (e : Entry) (es : List Entry) (inv : Inv S ans q k e es)
    (idle : e.active ≡ none) (late : (t : Strand) → Memᴰ t (q e.goal) → t.time < e.clock → ⊥)
    (high : e.clock ≤ e.positive_min) where
  P : List ℕ
  P = (top_new S ans (Holds q (e ∷ es)) q e es inv.piled).0

  settled : SettledAt S ans (Holds q (e ∷ es)) q e es P
  unfolding P
  settled = (top_new S ans (Holds q (e ∷ es)) q e es inv.piled).1

  Unfounded : ℕ → Type 0
  Unfounded u = (e.goal ≡ u) ⊎ Memᴰ u P

  in_set : (u : ℕ) → Place P e.positive_min e.goal e.clock es u → Unfounded u
  unfolding Unfounded
  in_set u (inl x) = inr x
  in_set u (inr (inl (x, y))) = inl x
  in_set u (inr (inr o)) = absurd (let x = clocks_rise S ans (Holds q (e ∷ es)) q e es e.positive_min u inv.piled o in omega arith)

  stuck_of : (s : Strand) → Waits ans (Place P e.positive_min e.goal e.clock es) s → Stuck Unfounded s
  stuck_of s w = record { table = w.table; rest = w.rest; lits = w.lits; chosen = w.chosen; place = in_set w.table w.place }

  stuck : (u : ℕ) → Unfounded u → (s : Strand) → Holds q (e ∷ es) u s → Stuck Unfounded s
  unfolding Unfounded
  stuck u (inl p) s (inl m) = let z = subst (λ v. Memᴰ s (q v)) (sym p) m in stuck_of s (settled_waits S settled s z (late s z))
  stuck u (inl p) s (inr (inl (x, y))) = absurd (no_such (sym idle ∙ y))
  stuck u (inl p) s (inr (inr x)) = absurd (settled.new (subst (λ v. On v es) (sym p) (act_on es u s x)))
  stuck u (inr m) s h = stuck_of s (settled.others u m s h)

  pending_all : (u : ℕ) → Unfounded u → ans u ≡ false
  unfolding Unfounded
  pending_all u (inl p) = subst (λ v. ans v ≡ false) p settled.pending
  pending_all u (inr m) = settled.open_others u m

  -- the tables of the cycle are unfounded
  no_goal : (u : ℕ) → Unfounded u → S.I u → ⊥
  no_goal = S.unfounded Unfounded λ g x c m. either inl
      (λ p. let z = stuck g x p.0 p.1 in inr (
        z.table,
        p.2 (pos z.table)
            (subst (Memᴰ (pos z.table)) (sym z.lits) (Memᴰ.head refl)),
        z.place,
      )) (inv.fine.kept g (pending_all g x) c m)

  own : Unfounded e.goal
  unfolding Unfounded
  own = inl refl

  pub case_clear : (q' : Queues) × (clear (sum S.limits.goals (λ g. length (q g))) (q e.goal) (put q e.goal []) ≡ some q')
      × Less S (put q e.goal []) q' × Less S q (put q e.goal [])
  case_clear =
      let g = e.goal in
      let here : (s : Strand) → Memᴰ s (q g) → Stuck Unfounded s = λ s m. stuck g own s (inl m) in
      let inside : (u : ℕ) (s : Strand) → Memᴰ s (q u) → u < S.limits.goals = λ u s m. (inv.fine.good u s (inl m)).inside in
      let l = less_put S Unfounded no_goal q g here in
      let o = emptied_total S Unfounded no_goal q g here (inside g) in
      let r = clear_ok S Unfounded no_goal (sum S.limits.goals (λ g. length (q g))) (q g) (put q g []) here
      (λ u x s m. stuck u x s (inl (l.less u s m))) (λ u s m. inside u s (l.less u s m)) (omega arith) in
      (r.0, r.1, r.2, l)

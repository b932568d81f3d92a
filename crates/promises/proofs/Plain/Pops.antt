-- The cases of a turn that pop the stack, and the ways in which a search ends.
use Prim.Native.Nat.{ℕ, ◌≤◌, ◌<◌, min}
use native.Mathlib.Omega.{arith}
use native.Mathlib.Decide.{dec_le, ℕ_discrete}
use mathlib.Core.Path.{◌≡◌, refl, sym, ap, subst, ◌∙◌}
use mathlib.Core.Bool.{Bool, true, false, true≢false}
use mathlib.Core.Logic.{◌⊎◌, inl, inr}
use mathlib.Core.Option.{none, some}
use mathlib.Core.List.Memᴰ
use mathlib.Core.List.{List, [], ◌∷◌, ◌++◌, Memᴰ}
use Rattle.laws.proofs.Options.{no_such, same_some}
use Rattle.promises.proofs.Plain.Model.{Lit, pos, neg, Body, literal_goal, LevelBody, level_head, TrueBody, all_end, FalseBody}
use Rattle.promises.proofs.Plain.Model.{either}
use Rattle.promises.proofs.Plain.Machine.{Strand, Entry, Queues, pick, put, entry_with, with_mins, append, popped}
use Rattle.promises.proofs.Plain.Steps.{Setting, Within, Fine, Child, fine_step, step_trans, Act, Holds, at_put}
use Rattle.promises.proofs.Plain.Steps.{append_back, step_on, step_off, step_restore, step_active}
use Rattle.promises.proofs.Plain.Stack.{On, Reach, Waits, Place, Calls, SettledAt, waits_kept, settled_kept, call_level, levels_fall}
use Rattle.promises.proofs.Plain.Stack.{reach_on, on_weaken, waits_map, settled_waits, piled_answered}
use Rattle.promises.proofs.Plain.Cases.{Inv, put_off, top_new, retop, pop_within, good_pop, neg_pos}

pub act_on : (es : List Entry) (u : ℕ) (s : Strand) → Act es u s → On u es
act_on [] u s p = elim p [ ]
act_on (e ∷ es) u s (inl p) = inl p.0
act_on (e ∷ es) u s (inr p) = inr (act_on es u s p)

pub reach_raise : (level : ℕ → ℕ) (m n n' : ℕ) (es : List Entry) → n ≤ n' → Reach level m n es → Reach level m n' es
reach_raise level m n n' [] o r = elim r [ ]
reach_raise level m n n' (e ∷ es) o (inl (a, b)) = inl (a, omega arith)
reach_raise level m n n' (e ∷ es) o (inr r) = inr (reach_raise level m n n' es o r)

-- a table without an answer and without a strand
pub nothing_left : (S : Setting) {ans : ℕ → Bool} {H : ℕ → Strand → Type 0} {k : ℕ} (g : ℕ) → Fine S ans H k → ans g ≡ false
    → ((s : Strand) → H g s → ⊥) → S.I g → ⊥
nothing_left S g fine n no_strand =
    S.unfounded (λ u. g ≡ u) (λ u p c m. inl (either (λ f. f) (λ x. absurd (no_strand x.0 x.1))
    (fine.kept g n c (subst (λ v. Memᴰ c (S.book v)) (sym p) m)))) g refl

-- the table T gets its answer, the entry T goes
pub fine_answered : (S : Setting) (ans : ℕ → Bool) (q : Queues) (k : ℕ) (e : Entry) (es : List Entry) → Fine S ans (Holds q (e ∷ es)) k
    → S.I e.goal → (On e.goal es → ⊥)
    → Fine S (put ans e.goal true) (Holds (put q e.goal []) es) k
fine_answered S ans q k e es fine true-goal off = record {
  good = λ g s h. fine.good g s (less g s h);
  timely = λ g s h. fine.timely g s (less g s h);
  proved = λ g a. proved g (ℕ_discrete e.goal g) a;
  quiet = λ g a s h. quiet g (ℕ_discrete e.goal g) a s h;
  kept = λ g a c m. kept g (ℕ_discrete e.goal g) a c m;
}
  where
    less : (u : ℕ) (t : Strand) → Holds (put q e.goal []) es u t → Holds q (e ∷ es) u t
    less u t (inl m) = either (λ p. absurd (Memᴰ.not-nil p.1)) (λ p. inl p.1)
        (at_put q e.goal u [] t (ℕ_discrete e.goal u) m)
    less u t (inr x) = inr (inr x)

    proved : (g : ℕ) (d : Dec (e.goal ≡ g)) → pick d true (ans g) ≡ true → S.I g
    proved g (yes p) a = subst S.I p true-goal
    proved g (no n) a = fine.proved g a

    quiet : (g : ℕ) (d : Dec (e.goal ≡ g)) → pick d true (ans g) ≡ true → (s : Strand) → Memᴰ s (pick d [] (q g)) ⊎ Act es g s → ⊥
    quiet g (yes p) a s (inl m) = Memᴰ.not-nil m
    quiet g (yes p) a s (inr x) = off (subst (λ u. On u es) (sym p) (act_on es g s x))
    quiet g (no n) a s h = fine.quiet g a s (either inl (λ x. inr (inr x)) h)

    keep : (g : ℕ) (s : Strand) → (e.goal ≡ g → ⊥) → Holds q (e ∷ es) g s → Memᴰ s (q g) ⊎ Act es g s
    keep g s n (inl m) = inl m
    keep g s n (inr (inl p)) = absurd (n p.0)
    keep g s n (inr (inr x)) = inr x

    kept : (g : ℕ) (d : Dec (e.goal ≡ g)) → pick d true (ans g) ≡ false → (c : Body) → Memᴰ c (S.book g)
        → FalseBody S.I c ⊎ ((s : Strand) × (Memᴰ s (pick d [] (q g)) ⊎ Act es g s) × Within s.lits c)
    kept g (yes p) a c m = absurd (true≢false a)
    kept g (no n) a c m = either inl (λ x. inr (x.0, keep g x.0 n x.1, x.2)) (fine.kept g a c m)

module _ (S : Setting) (ans : ℕ → Bool) (q : Queues) (k : ℕ) (e : Entry) (es : List Entry) (inv : Inv S ans q k e es) where
  pub top_off : On e.goal es → ⊥
  top_off = (top_new S ans (Holds q (e ∷ es)) q e es inv.piled).1.new

  pub top_pending : ans e.goal ≡ false
  top_pending = (top_new S ans (Holds q (e ∷ es)) q e es inv.piled).1.pending

  -- the strand has no literal left
  pub case_proved : (s : Strand) → e.active ≡ some s → s.lits ≡ [] → S.I e.goal
  case_proved s a p = (inv.fine.good e.goal s (inr (inl (refl, a)))).sound (subst (TrueBody S.I) (sym p) all_end)

  -- nothing is queued and nothing active
  pub case_unproved : e.active ≡ none → q e.goal ≡ [] → S.I e.goal → ⊥
  case_unproved a p = nothing_left S e.goal inv.fine top_pending no_strand
    where
      no_strand : (s : Strand) → Holds q (e ∷ es) e.goal s → ⊥
      no_strand s (inl m) = Memᴰ.not-nil (subst (Memᴰ s) p m)
      no_strand s (inr (inl (x, o))) = no_such (sym a ∙ o)
      no_strand s (inr (inr x)) = top_off (act_on es e.goal s x)

module _ (S : Setting) (ans : ℕ → Bool) (q : Queues) (k : ℕ) (e c : Entry) (es : List Entry) (inv : Inv S ans q k e (c ∷ es)) where
  called : Calls c e.goal e.clock
  called = inv.piled.2

  -- the caller's strand, its first literal
  pub call_names : (l : Lit) (s : Strand) (b : Body) → c.active ≡ some s → s.lits ≡ l ∷ b → literal_goal l ≡ e.goal
  call_names l s b a p = sym (same_lit called.lit called.rest
      (sym called.lits ∙ ap (λ z. z.lits) (same_some (sym called.active ∙ a)) ∙ p)) ∙ called.names
    where
      same_lit : (x : Lit) (d : Body) → x ∷ d ≡ l ∷ b → literal_goal x ≡ literal_goal l
      same_lit x d o = let y : x ≡ l = cc in ap literal_goal y

  pub call_chosen : (s : Strand) → c.active ≡ some s → (s.chosen ≡ true) × (s.time ≤ c.clock)
  call_chosen s a = subst (λ t. (t.chosen ≡ true) × (t.time ≤ c.clock)) (same_some (sym called.active ∙ a))
      (called.chosen, called.time)

  pub case_answered : (s : Strand) → e.active ≡ some s → s.lits ≡ [] → Inv S (put ans e.goal true) (put q e.goal []) k c es
  case_answered s a p =
      let off = top_off S ans q k e (c ∷ es) inv in
      let o = inv.now in
      let o' = called.earlier in
      record {
        fine = fine_answered S ans q k e (c ∷ es) inv.fine (case_proved S ans q k e (c ∷ es) inv s a p) off;
        piled = piled_answered S ans (Holds q (e ∷ c ∷ es)) (Holds (put q e.goal []) (c ∷ es)) q (put q e.goal []) e.goal s
            (inr (inl (refl, a))) p less c es inv.piled.3 off
            (λ u o t m. put_off q e.goal u [] t (λ x. off (subst (λ v. On v (c ∷ es)) (sym x) o)) m);
        now = omega arith;
        bound = inv.bound;
      }
    where
      less : (u : ℕ) (t : Strand) → Holds (put q e.goal []) (c ∷ es) u t → Holds q (e ∷ c ∷ es) u t
      less u t (inl m) = either (λ p. absurd (Memᴰ.not-nil p.1)) (λ p. inl p.1)
          (at_put q e.goal u [] t (ℕ_discrete e.goal u) m)
      less u t (inr x) = inr (inr x)

  -- the table is done with, without an answer, under a "not"
  pub case_not : (s : Strand) (h : ℕ) (b : Body) → e.active ≡ none → q e.goal ≡ [] → c.active ≡ some s → s.lits ≡ neg h ∷ b
      → Inv S ans q k (entry_with c (some (popped s.time b))) es
  case_not s h b a p a' p' =
      let no_goal = case_unproved S ans q k e (c ∷ es) inv a p in
      let o = inv.now in
      let o' = called.earlier in
      let names : h ≡ e.goal = call_names (neg h) s b a' p' in
      let child : Child S ans c.goal k k s (popped s.time b) = record {
        good = good_pop S c.goal s.time s (neg h) b p' (λ i. no_goal (subst S.I names i));
        time = λ x. x;
        keeps = λ v d l y n. absurd (neg_pos (sym p' ∙ l));
      } in
      let step₁ = step_off S {ans = ans} {k = k} q e (c ∷ es) a in
      let step₂ = step_active S {ans = ans} {k = k} q c (entry_with c (some (popped s.time b))) es s (popped s.time b) a' refl refl
      child (pop_within (neg h) b s p') in
      let step = step_trans S step₁ step₂ in
      record {
        fine = fine_step S inv.fine step;
        piled = retop S ans _ _ q q k k c c.positive_min c.negative_min (some (popped s.time b)) es inv.piled.3 step
            (λ u n t m. m) (λ P i. (P, settled_kept S i step (λ t m. m)));
        now = omega arith;
        bound = inv.bound;
      }

  -- the caller's strand is false
  pub case_false : (s : Strand) (h : ℕ) (b : Body) → e.active ≡ none → q e.goal ≡ [] → c.active ≡ some s → s.lits ≡ pos h ∷ b
      → FalseBody S.I s.lits
  case_false s h b a p a' p' = (
    pos h,
    subst (Memᴰ (pos h)) (sym p') (Memᴰ.head refl),
    λ i. case_unproved S ans q k e (c ∷ es) inv a p
        (subst S.I (call_names (pos h) s b a' p') i),
  )

  -- a cycle never goes through a "not"
  pub case_no_not : (s : Strand) (h : ℕ) (b : Body) → c.active ≡ some s → s.lits ≡ neg h ∷ b → e.positive_min < e.clock → ⊥
  case_no_not s h b a p lt =
      let lower : S.level h < S.level c.goal = level_head
      (subst (LevelBody S.level (S.level c.goal)) p (inv.fine.good c.goal s (inr (inr (inl (refl, a))))).levels) in
      let named : S.level h ≡ S.level e.goal = ap S.level (call_names (neg h) s b a p) in
      let r = reach_on S.level e.positive_min (S.level e.goal) (c ∷ es) (inv.piled.1.low lt) in
      let higher = levels_fall S ans q c es inv.fine.good (λ g t x. inr (inr (inr x))) inv.piled.3 r.0 r.1 in
      let most = r.2 in
      omega arith

  -- the table is popped as part of a cycle
  pub case_cycle : (s : Strand) (h : ℕ) (b : Body) → e.active ≡ none → ((t : Strand) → Memᴰ t (q e.goal) → t.time < e.clock → ⊥)
      → c.active ≡ some s → s.lits ≡ pos h ∷ b → e.positive_min < e.clock
      → Inv S ans (append q c.goal s) k (with_mins c (min c.positive_min e.positive_min) (min c.negative_min e.negative_min))
      es
  case_cycle s h b a late a' p lt =
      let n = min c.negative_min e.negative_min in
      let q' = append q c.goal s in
      let o = inv.now in
      let o' = called.earlier in
      let step₁ = step_off S {ans = ans} {k = k} q e (c ∷ es) a in
      let step₂ = step_restore S {ans = ans} {k = k} q c es (some s) a' in
      let step₃ = step_on S {ans = ans} {k = k} q' (with_mins c m n) es refl in
      let step = step_trans S step₁ (step_trans S step₂ step₃) in
      record {
        fine = fine_step S inv.fine step;
        piled = retop S ans _ _ q q' k k c m n none es inv.piled.3 step (λ u o x y. put_off q c.goal u _ x o y)
            (λ P j. (
              e.goal ∷ (inv.piled.0 ++ P),
              record {
                pending = j.pending;
                timed = λ x y. either (j.timed x) (λ o. subst (λ z. z.time ≤ c.clock) o.1 (call_chosen s a').1)
                    (append_back q c.goal s c.goal x (ℕ_discrete c.goal c.goal) y);
                parked = λ x y z. either (λ o. waits_map (from_lower P) (j.parked x o z))
                    (λ o. subst (λ w. Waits ans (New P) w) o.1 (parked_new P))
                    (append_back q c.goal s c.goal x (ℕ_discrete c.goal c.goal) y);
                open_others = λ u i. either (λ w. subst (λ v. ans v ≡ false) (sym w) inv.piled.1.pending)
                    (λ w. either (inv.piled.1.open_others u) (j.open_others u) (Memᴰ.append_cases inv.piled.0 w))
                    (Memᴰ.cases_cons i);
                others = λ u i x y. let z = step.from u x y in waits_kept (other P j u z.0 z.1 i) z.2.keeps;
                low = λ o. low_new (dec_le c.positive_min e.positive_min) P j o;
                plain = let w₁ = j.plain in let w₂ = inv.piled.1.plain in omega arith;
                new = j.new;
              },
            ));
        now = omega arith;
        bound = inv.bound;
      }
    where
      m : ℕ
      m = min c.positive_min e.positive_min

      New : List ℕ → ℕ → Type 0
      New P = Place (e.goal ∷ (inv.piled.0 ++ P)) (min c.positive_min e.positive_min) c.goal c.clock es

      from_lower : (P : List ℕ) (u : ℕ) → Place P c.positive_min c.goal c.clock es u → New P u
      from_lower P u (inl x) = inl (Memᴰ.tail (Memᴰ.append_right inv.piled.0 x))
      from_lower P u (inr (inl (x, y))) = inr (inl (x, omega arith))
      from_lower P u (inr (inr x)) = inr (inr (on_weaken c.positive_min (min c.positive_min e.positive_min) u es (omega arith) x))

      from_upper : (P : List ℕ) (u : ℕ) → Place inv.piled.0 e.positive_min e.goal e.clock (c ∷ es) u → New P u
      from_upper P u (inl x) = inl (Memᴰ.tail (Memᴰ.append_left P x))
      from_upper P u (inr (inl (x, y))) = inl (Memᴰ.head (sym x))
      from_upper P u (inr (inr (inl (x, y)))) = inr (inl (x, omega arith))
      from_upper P u (inr (inr (inr x))) =
          inr (inr (on_weaken e.positive_min (min c.positive_min e.positive_min) u es (omega arith) x))

      parked_new : (P : List ℕ) → Waits ans (New P) s
      parked_new P = record {
        table = h;
        rest = b;
        lits = p;
        chosen = (call_chosen s a').0;
        pending = subst (λ v. ans v ≡ false) (sym (call_names (pos h) s b a' p)) inv.piled.1.pending;
        place = inl (Memᴰ.head (call_names (pos h) s b a' p));
      }

      own : (P : List ℕ) (u : ℕ) (x : Strand) → e.goal ≡ u → Holds q (e ∷ c ∷ es) u x → Waits ans (New P) x
      own P u x w (inl y) = let z = subst (λ v. Memᴰ x (q v)) (sym w) y in
          waits_map (from_upper P) (settled_waits S inv.piled.1 x z (late x z))
      own P u x w (inr (inl (y, z))) = absurd (no_such (sym a ∙ z))
      own P u x w (inr (inr y)) = absurd (inv.piled.1.new (subst (λ v. On v (c ∷ es)) (sym w) (act_on (c ∷ es) u x y)))

      other : (P : List ℕ) → SettledAt S ans (Holds q (e ∷ c ∷ es)) q c es P → (u : ℕ) (x : Strand) → Holds q (e ∷ c ∷ es) u x
          → Memᴰ u (e.goal ∷ (inv.piled.0 ++ P)) → Waits ans (New P) x
      other P j u x y i = either (λ w. own P u x (sym w) y)
          (λ w. either (λ z. waits_map (from_upper P) (inv.piled.1.others u z x y)) (λ z. waits_map (from_lower P) (j.others u z x y))
          (Memᴰ.append_cases inv.piled.0 w)) (Memᴰ.cases_cons i)

      low_new : Dec (c.positive_min ≤ e.positive_min) → (P : List ℕ) → SettledAt S ans (Holds q (e ∷ c ∷ es)) q c es P
          → min c.positive_min e.positive_min < c.clock
          → Reach S.level (min c.positive_min e.positive_min) (S.level c.goal) es
      low_new (yes o) P j x = let y : c.positive_min ≡ min c.positive_min e.positive_min = omega arith in
          subst (λ z. Reach S.level z (S.level c.goal) es) y (j.low (omega arith))
      low_new (no o) P j x =
          let y : e.positive_min ≡ min c.positive_min e.positive_min = omega arith in
          let v = call_level S called (inv.fine.good c.goal called.strand (inr (inr (inl (refl, called.active))))) in
          subst (λ z. Reach S.level z (S.level c.goal) es) y
          (either (λ z. absurd (let w = z.0 in omega arith))
          (reach_raise S.level e.positive_min (S.level e.goal) (S.level c.goal) es v) (inv.piled.1.low lt))

-- a cycle is never found at the root
pub case_no_root : (S : Setting) (ans : ℕ → Bool) (q : Queues) (k : ℕ) (e : Entry) → Inv S ans q k e [] → e.positive_min < e.clock → ⊥
case_no_root S ans q k e inv lt = inv.piled.1.low lt

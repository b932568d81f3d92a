-- Parts 1 and 2 of the invariant, over any set of strands, and the few elementary changes of that set out of which each turn is made.
use Prim.Native.Nat.{ℕ, ◌≤◌, ◌<◌}
use native.Mathlib.Omega.{arith}
use native.Mathlib.Decide.{ℕ_discrete}
use mathlib.Core.Path.{◌≡◌, refl, sym, ap, subst, ◌∙◌}
use mathlib.Core.Bool.{Bool, true, false}
use mathlib.Core.Logic.{◌⊎◌, inl, inr}
use mathlib.Core.Option.{Option, none, some}
use mathlib.Core.List.Memᴰ
use mathlib.Core.List.{List, [], ◌∷◌, ◌++◌, Memᴰ}
use Rattle.laws.proofs.Options.{no_such, same_some}
use Rattle.promises.proofs.Plain.Model.{Lit, pos, Body, Book, LevelBody, TrueBody, FalseBody, Blocked, either}
use Rattle.promises.proofs.Plain.Machine.{Limits, Strand, Entry, Queues, pick, put, append, restore, all_back}

-- a book with its levels, limits and model, and what is used of them
pub record Setting : Type 1 where
  pub book : Book
  pub level : ℕ → ℕ
  pub limits : Limits
  pub I : ℕ → Type 0
  pub inside : (g : ℕ) (c : Body) → Memᴰ c (book g) → g < limits.goals
  pub levelled : (g : ℕ) (c : Body) → Memᴰ c (book g) → LevelBody level (level g) c
  pub closed : (g : ℕ) (c : Body) → Memᴰ c (book g) → TrueBody I c → I g
  pub unfounded : (U : ℕ → Type 0) → ((g : ℕ) → U g → (c : Body) → Memᴰ c (book g) → Blocked I U c) → (h : ℕ) → U h → I h → ⊥
  pub room : limits.limit ≤ limits.max

abbrev pub Within : Body → Body → Type 0
Within a b = (l : Lit) → Memᴰ l a → Memᴰ l b

-- part 1, of one strand
pub record Good (S : Setting) (g : ℕ) (s : Strand) : Type 0 where
  pub inside : g < S.limits.goals
  pub sound : TrueBody S.I s.lits → S.I g
  pub levels : LevelBody S.level (S.level g) s.lits

-- parts 1 and 2: H g s says that s is one of the strands of g's table
pub record Fine (S : Setting) (ans : ℕ → Bool) (H : ℕ → Strand → Type 0) (k : ℕ) : Type 0 where
  pub good : (g : ℕ) (s : Strand) → H g s → Good S g s
  pub timely : (g : ℕ) (s : Strand) → H g s → s.time ≤ k
  pub proved : (g : ℕ) → ans g ≡ true → S.I g
  pub quiet : (g : ℕ) → ans g ≡ true → (s : Strand) → H g s → ⊥
  pub kept : (g : ℕ) → ans g ≡ false → (c : Body) → Memᴰ c (S.book g)
      → FalseBody S.I c ⊎ ((s : Strand) × H g s × Within s.lits c)

-- what a strand that waits well keeps
abbrev pub Keeps : (ℕ → Bool) → Strand → Strand → Type 0
Keeps ans s t = (v : ℕ) (b : Body) → s.lits ≡ pos v ∷ b → s.chosen ≡ true → ans v ≡ false → (t.lits ≡ pos v ∷ b) × (t.chosen ≡ true)

-- the strand t of g's table comes from the strand s
pub record Child (S : Setting) (ans : ℕ → Bool) (g k k' : ℕ) (s t : Strand) : Type 0 where
  pub good : Good S g s → Good S g t
  pub time : s.time ≤ k → t.time ≤ k'
  pub keeps : Keeps ans s t

-- from the strands H at the time k to H' at the time k'
pub record Step (S : Setting) (ans : ℕ → Bool) (H : ℕ → Strand → Type 0) (k : ℕ) (H' : ℕ → Strand → Type 0) (k' : ℕ) : Type 0 where
  pub from : (g : ℕ) (t : Strand) → H' g t → (s : Strand) × H g s × Child S ans g k k' s t
  pub to : (g : ℕ) (s : Strand) → H g s → FalseBody S.I s.lits ⊎ ((t : Strand) × H' g t × Within t.lits s.lits)

pub false_within : (S : Setting) {a b : Body} → Within a b → FalseBody S.I a → FalseBody S.I b
false_within S w (l, m, f) = (l, w l m, f)

pub fine_step : (S : Setting) {ans : ℕ → Bool} {H H' : ℕ → Strand → Type 0} {k k' : ℕ} → Fine S ans H k → Step S ans H k H' k'
    → Fine S ans H' k'
fine_step S {ans} {H} {H'} {k} {k'} fine step = record {
  good = λ g t h. let p = step.from g t h in p.2.good (fine.good g p.0 p.1);
  timely = λ g t h. let p = step.from g t h in p.2.time (fine.timely g p.0 p.1);
  proved = fine.proved;
  quiet = λ g a t h. let p = step.from g t h in fine.quiet g a p.0 p.1;
  kept = λ g a c m. either inl (λ p. go g c p (step.to g p.0 p.1)) (fine.kept g a c m);
}
  where
    go : (g : ℕ) (c : Body) (p : (s : Strand) × H g s × Within s.lits c)
        → FalseBody S.I p.0.lits ⊎ ((t : Strand) × H' g t × Within t.lits p.0.lits)
        → FalseBody S.I c ⊎ ((t : Strand) × H' g t × Within t.lits c)
    go g c p (inl f) = inl (false_within S p.2 f)
    go g c p (inr (t, h, w)) = inr (t, h, λ l m. p.2 l (w l m))

pub same : (S : Setting) {ans : ℕ → Bool} (g k : ℕ) (s : Strand) → Child S ans g k k s s
same S g k s = record { good = λ x. x; time = λ x. x; keeps = λ v b e c a. (e, c) }

pub step_trans : (S : Setting) {ans : ℕ → Bool} {H H' H'' : ℕ → Strand → Type 0} {k k' k'' : ℕ} → Step S ans H k H' k'
    → Step S ans H' k' H'' k'' → Step S ans H k H'' k''
step_trans S {ans} {H} {H'} {H''} {k} {k'} {k''} a b = record {
  from = λ g t h. let p = b.from g t h in let r = a.from g p.0 p.1 in (
    r.0,
    r.1,
    record {
      good = λ x. p.2.good (r.2.good x);
      time = λ x. p.2.time (r.2.time x);
      keeps = λ v c e s n. let q = r.2.keeps v c e s n in p.2.keeps v c q.0 q.1 n;
    },
  );
  to = λ g s h. either inl (λ p. go g s p (b.to g p.0 p.1)) (a.to g s h);
}
  where
    go : (g : ℕ) (s : Strand) (p : (t : Strand) × H' g t × Within t.lits s.lits)
        → FalseBody S.I p.0.lits ⊎ ((t : Strand) × H'' g t × Within t.lits p.0.lits)
        → FalseBody S.I s.lits ⊎ ((t : Strand) × H'' g t × Within t.lits s.lits)
    go g s p (inl f) = inl (false_within S p.2 f)
    go g s p (inr (t, h, w)) = inr (t, h, λ l m. p.2 l (w l m))

-- the strands of the tables: queued, or active on the stack
abbrev pub Act : List Entry → ℕ → Strand → Type 0
Act [] u s = ⊥
Act (e ∷ es) u s = ((e.goal ≡ u) × (e.active ≡ some s)) ⊎ Act es u s

abbrev pub Holds : Queues → List Entry → ℕ → Strand → Type 0
Holds q st u s = Memᴰ s (q u) ⊎ Act st u s

-- the same strands in other places
pub moved : (S : Setting) {ans : ℕ → Bool} {H H' : ℕ → Strand → Type 0} {k : ℕ} → ((g : ℕ) (s : Strand) → H' g s → H g s)
    → ((g : ℕ) (s : Strand) → H g s → H' g s) → Step S ans H k H' k
moved S {k = k} back on = record { from = λ g t h. (t, back g t h, same S g k t); to = λ g s h. inr (s, on g s h, λ l m. m) }

-- where a strand of a changed queue stands
pub at_put : (q : Queues) (g u : ℕ) (r : List Strand) (s : Strand) (d : Dec (g ≡ u)) → Memᴰ s (pick d r (q u))
    → ((g ≡ u) × Memᴰ s r) ⊎ ((g ≡ u → ⊥) × Memᴰ s (q u))
at_put q g u r s (yes e) m = inl (e, m)
at_put q g u r s (no n) m = inr (n, m)

pub put_here : {A : Type 0} (f : ℕ → A) (g u : ℕ) (a : A) → g ≡ u → put f g a u ≡ a
put_here f g u a e = go (ℕ_discrete g u)
  where
    go : (d : Dec (g ≡ u)) → pick d a (f u) ≡ a
    go (yes p) = refl
    go (no n) = absurd (n e)

pub put_there : {A : Type 0} (f : ℕ → A) (g u : ℕ) (a : A) → (g ≡ u → ⊥) → put f g a u ≡ f u
put_there f g u a o = go (ℕ_discrete g u)
  where
    go : (d : Dec (g ≡ u)) → pick d a (f u) ≡ f u
    go (yes p) = absurd (o p)
    go (no n) = refl

-- a strand more at the end of g's queue
pub append_back : (q : Queues) (g : ℕ) (s : Strand) (u : ℕ) (t : Strand) (d : Dec (g ≡ u)) → Memᴰ t (pick d (q g ++ (s ∷ [])) (q u))
    → Memᴰ t (q u) ⊎ ((g ≡ u) × (s ≡ t))
append_back q g s u t (yes e) m = either (λ o. inl (subst (λ v. Memᴰ t (q v)) e o)) (λ o. inr (e, sym (Memᴰ.eq_of_singleton o)))
    (Memᴰ.append_cases (q g) m)
append_back q g s u t (no n) m = inl m

append_on : (q : Queues) (g : ℕ) (s : Strand) (u : ℕ) (t : Strand) (d : Dec (g ≡ u)) → Memᴰ t (q u)
    → Memᴰ t (pick d (q g ++ (s ∷ [])) (q u))
append_on q g s u t (yes e) m = Memᴰ.append_left (s ∷ []) (subst (λ v. Memᴰ t (q v)) (sym e) m)
append_on q g s u t (no n) m = m

append_new : (q : Queues) (g : ℕ) (s : Strand) (u : ℕ) (t : Strand) (d : Dec (g ≡ u)) → g ≡ u → s ≡ t
    → Memᴰ t (pick d (q g ++ (s ∷ [])) (q u))
append_new q g s u t (yes e) p o = Memᴰ.append_right (q g) (Memᴰ.head (sym o))
append_new q g s u t (no n) p o = absurd (n p)

module _ (S : Setting) {ans : ℕ → Bool} {k : ℕ} where
  -- an entry with no active strand comes and goes
  pub step_on : (q : Queues) (e : Entry) (es : List Entry) → e.active ≡ none → Step S ans (Holds q es) k (Holds q (e ∷ es)) k
  step_on q e es a = moved S back (λ g s h. either inl (λ x. inr (inr x)) h)
    where
      back : (g : ℕ) (s : Strand) → Holds q (e ∷ es) g s → Holds q es g s
      back g s (inl m) = inl m
      back g s (inr (inl (p, o))) = absurd (no_such (sym a ∙ o))
      back g s (inr (inr x)) = inr x

  pub step_off : (q : Queues) (e : Entry) (es : List Entry) → e.active ≡ none → Step S ans (Holds q (e ∷ es)) k (Holds q es) k
  step_off q e es a = moved S (λ g s h. either inl (λ x. inr (inr x)) h) on
    where
      on : (g : ℕ) (s : Strand) → Holds q (e ∷ es) g s → Holds q es g s
      on g s (inl m) = inl m
      on g s (inr (inl (p, o))) = absurd (no_such (sym a ∙ o))
      on g s (inr (inr x)) = inr x

  -- an entry gives its strand back and goes
  pub step_restore : (q : Queues) (e : Entry) (es : List Entry) (a : Option Strand) → e.active ≡ a
      → Step S ans (Holds q (e ∷ es)) k (Holds (restore q e.goal a) es) k
  step_restore q e es none a = step_off q e es a
  step_restore q e es (some s) a = moved S back on
    where
      back : (u : ℕ) (t : Strand) → Holds (append q e.goal s) es u t → Holds q (e ∷ es) u t
      back u t (inl m) = either inl (λ p. inr (inl (p.0, a ∙ ap some p.1))) (append_back q e.goal s u t (ℕ_discrete e.goal u) m)
      back u t (inr x) = inr (inr x)

      on : (u : ℕ) (t : Strand) → Holds q (e ∷ es) u t → Holds (append q e.goal s) es u t
      on u t (inl m) = inl (append_on q e.goal s u t (ℕ_discrete e.goal u) m)
      on u t (inr (inl (p, o))) = inl (append_new q e.goal s u t (ℕ_discrete e.goal u) p (same_some (sym a ∙ o)))
      on u t (inr (inr x)) = inr x

  pub step_back : (q : Queues) (es : List Entry) → Step S ans (Holds q es) k (Holds (all_back q es) []) k
  step_back q [] = moved S (λ g s h. h) (λ g s h. h)
  step_back q (e ∷ es) = step_trans S (step_restore q e es e.active refl) (step_back (restore q e.goal e.active) es)

  -- the top's strand is changed
  pub step_active : (q : Queues) (e e' : Entry) (es : List Entry) (s t : Strand) → e.active ≡ some s → e'.goal ≡ e.goal
      → e'.active ≡ some t → Child S ans e.goal k k s t → Within t.lits s.lits
      → Step S ans (Holds q (e ∷ es)) k (Holds q (e' ∷ es)) k
  step_active q e e' es s t a g' a' c w = record { from = from; to = to }
    where
      from : (u : ℕ) (x : Strand) → Holds q (e' ∷ es) u x → (y : Strand) × Holds q (e ∷ es) u y × Child S ans u k k y x
      from u x (inl m) = (x, inl m, same S u k x)
      from u x (inr (inl (p, o))) = (
        s,
        inr (inl (sym g' ∙ p, a)),
        subst (λ z. Child S ans u k k s z) (same_some (sym a' ∙ o))
            (subst (λ v. Child S ans v k k s t) (sym g' ∙ p) c),
      )
      from u x (inr (inr y)) = (x, inr (inr y), same S u k x)

      to : (u : ℕ) (x : Strand) → Holds q (e ∷ es) u x
          → FalseBody S.I x.lits ⊎ ((y : Strand) × Holds q (e' ∷ es) u y × Within y.lits x.lits)
      to u x (inl m) = inr (x, inl m, λ l i. i)
      to u x (inr (inl (p, o))) = inr (t, inr (inl (g' ∙ p, a')), subst (λ z. Within t.lits z.lits) (same_some (sym a ∙ o)) w)
      to u x (inr (inr y)) = inr (x, inr (inr y), λ l i. i)

  -- the top goes, with a strand that is false
  pub step_drop : (q : Queues) (e : Entry) (es : List Entry) (s : Strand) → e.active ≡ some s → FalseBody S.I s.lits
      → Step S ans (Holds q (e ∷ es)) k (Holds q es) k
  step_drop q e es s a f = record { from = from; to = to }
    where
      from : (u : ℕ) (x : Strand) → Holds q es u x → (y : Strand) × Holds q (e ∷ es) u y × Child S ans u k k y x
      from u x (inl m) = (x, inl m, same S u k x)
      from u x (inr y) = (x, inr (inr y), same S u k x)

      to : (u : ℕ) (x : Strand) → Holds q (e ∷ es) u x
          → FalseBody S.I x.lits ⊎ ((y : Strand) × Holds q es u y × Within y.lits x.lits)
      to u x (inl m) = inr (x, inl m, λ l i. i)
      to u x (inr (inl (p, o))) = inl (subst (λ z. FalseBody S.I z.lits) (same_some (sym a ∙ o)) f)
      to u x (inr (inr y)) = inr (x, inr y, λ l i. i)

  -- the top takes a strand from its queue
  pub step_take : (q : Queues) (e e' : Entry) (es : List Entry) (s : Strand) (r : List Strand) → e.active ≡ none → e'.goal ≡ e.goal
      → e'.active ≡ some s
      → ((t : Strand) → Memᴰ t r → Memᴰ t (q e.goal)) → Memᴰ s (q e.goal)
      → ((t : Strand) → Memᴰ t (q e.goal) → (s ≡ t) ⊎ Memᴰ t r)
      → Step S ans (Holds q (e ∷ es)) k (Holds (put q e.goal r) (e' ∷ es)) k
  step_take q e e' es s r a g' a' less mem all_of = moved S back on
    where
      back : (u : ℕ) (t : Strand) → Holds (put q e.goal r) (e' ∷ es) u t → Holds q (e ∷ es) u t
      back u t (inl m) = inl (either (λ p. subst (λ v. Memᴰ t (q v)) p.0 (less t p.1)) (λ p. p.1)
          (at_put q e.goal u r t (ℕ_discrete e.goal u) m))
      back u t (inr (inl (p, o))) = inl (subst (λ v. Memᴰ t (q v)) (sym g' ∙ p)
          (subst (λ z. Memᴰ z (q e.goal)) (same_some (sym a' ∙ o)) mem))
      back u t (inr (inr x)) = inr (inr x)

      split : (u : ℕ) (t : Strand) → Dec (e.goal ≡ u) → Memᴰ t (q u) → Holds (put q e.goal r) (e' ∷ es) u t
      split u t (yes p) m = either (λ o. inr (inl (g' ∙ p, a' ∙ ap some o))) (λ o. inl (rw (put_here q e.goal u r p) o))
          (all_of t (subst (λ v. Memᴰ t (q v)) (sym p) m))
      split u t (no n) m = inl (rw (put_there q e.goal u r n) m)

      on : (u : ℕ) (t : Strand) → Holds q (e ∷ es) u t → Holds (put q e.goal r) (e' ∷ es) u t
      on u t (inl m) = split u t (ℕ_discrete e.goal u) m
      on u t (inr (inl (p, o))) = absurd (no_such (sym a ∙ o))
      on u t (inr (inr x)) = inr (inr x)

  -- some queues lose strands that are false
  pub step_less : (q q' : Queues) (es : List Entry) → ((u : ℕ) (t : Strand) → Memᴰ t (q' u) → Memᴰ t (q u))
      → ((u : ℕ) (t : Strand) → Memᴰ t (q u) → FalseBody S.I t.lits ⊎ Memᴰ t (q' u))
      → Step S ans (Holds q es) k (Holds q' es) k
  step_less q q' es less most = record {
    from = λ u t h. (t, either (λ m. inl (less u t m)) inr h, same S u k t);
    to = λ u t h. either (λ m. either inl (λ o. inr (t, inl o, λ l i. i)) (most u t m)) (λ x. inr (t, inr x, λ l i. i)) h;
  }

pub step_tick : (S : Setting) {ans : ℕ → Bool} {H : ℕ → Strand → Type 0} {k k' : ℕ} → k ≤ k' → Step S ans H k H k'
step_tick S {k = k} {k' = k'} o = record {
  from = λ g t h. (t, h, record { good = λ x. x; time = λ x. omega arith; keeps = λ v b e c a. (e, c) });
  to = λ g s h. inr (s, h, λ l m. m);
}

-- A turn keeps the invariant, ends only in the ways allowed, and never makes more of strands and first modes.
use Prim.Native.Nat.{ℕ, suc, ◌+◌, ◌≤◌, ◌<◌, min}
use native.Mathlib.Omega.{arith}
use native.Mathlib.Decide.{dec_lt, dec_le, ℕ_discrete}
use mathlib.Core.Path.{◌≡◌, refl, sym, ap, subst, ◌∙◌}
use mathlib.Core.Bool.{Bool, true, false, true≢false}
use mathlib.Core.Logic.{inl, inr}
use mathlib.Core.Option.{Option, none, some}
use mathlib.Core.List.Memᴰ
use mathlib.Core.List.{List, [], ◌∷◌, ◌++◌, Memᴰ, nil≢cons}
use Rattle.promises.proofs.Plain.Model.{Lit, pos, neg, Body, literal_goal, either}
use Rattle.promises.proofs.Plain.Steps.{Setting, Fine, Step, fine_step, step_trans, Holds, moved, put_here}
use Rattle.promises.proofs.Plain.Steps.{step_off, step_back, step_drop, step_less}
use Rattle.promises.proofs.Plain.Cases.{Inv, remade, top_new, case_take, case_popped, case_park, case_no_cycle}
use Rattle.promises.proofs.Plain.Cases.{case_push}
use Rattle.promises.proofs.Plain.Pops.{top_pending, fine_answered, case_proved, case_unproved, case_answered, case_not, case_false}
use Rattle.promises.proofs.Plain.Pops.{case_no_not, case_cycle, case_no_root}
use lib.ListN.{length, length-append}
use Rattle.laws.proofs.Options.{no_such, same_some}
use Rattle.laws.proofs.Sums.{sum}
use Rattle.promises.proofs.Plain.Machine.{Strand, Entry, Queues, Forest, pick, put, with_queue, make, entry_with, append, popped}
use Rattle.promises.proofs.Plain.Machine.{pursued, restore, all_back, take_from, find_clock, clear, Outcome, found}
use Rattle.promises.proofs.Plain.Machine.{no_more_left, again, cut, clock_ended, noted, refused, negative_cycled, unselected}
use Rattle.promises.proofs.Plain.Machine.{repeated, broken, Turn, turn_goes_on, stop, answering, parking, pushing, unanswered}
use Rattle.promises.proofs.Plain.Machine.{selected, pursue, empty_at, empty, emptied, cleared, clearing, cycle_at, cycle, part_of}
use Rattle.promises.proofs.Plain.Machine.{waiting, idle, taking, turn_with, turn}
use Rattle.promises.proofs.Plain.Clear.{Less, less_trans, case_clear}
use Rattle.promises.proofs.Plain.Taking.{taken, none_taken, put_length}

abbrev pub flag : Bool → ℕ
flag true = 1
flag false = 0

abbrev pub one : Option Strand → {P : Type 0} → Dec P → ℕ
one none d = 0
one (some s) d = pick d 1 0

-- the active strands of u
abbrev pub count : List Entry → ℕ → ℕ
count [] u = 0
count (e ∷ es) u = one e.active (ℕ_discrete e.goal u) + count es u

-- the strands of u, and one while its mode is the first
abbrev pub size : Forest → List Entry → ℕ → ℕ
size f es u = length (f.queue u) + flag (f.first u) + count es u

-- the size of u is at most B u, and its strands at most L u
abbrev pub Fits : (B L : ℕ → ℕ) → Forest → List Entry → ℕ → Type 0
Fits B L f es u = (size f es u ≤ B u) × (length (f.queue u) + count es u ≤ L u)

pub append_length : (q : Queues) (g : ℕ) (s : Strand) (u : ℕ) → length (append q g s u) ≡ length (q u) + pick (ℕ_discrete g u) 1 0
append_length q g s u = go (ℕ_discrete g u)
  where
    go : (d : Dec (g ≡ u)) → length (pick d (q g ++ (s ∷ [])) (q u)) ≡ length (q u) + pick d 1 0
    go (yes p) = length-append (q g) (s ∷ []) ∙ ap (λ v. length (q v) + 1) p
    go (no n) = omega arith

pub nil_length : (q : Queues) (g u : ℕ) → length (put q g [] u) ≤ length (q u)
nil_length q g u = go (ℕ_discrete g u)
  where
    go : (d : Dec (g ≡ u)) → length (pick d [] (q u)) ≤ length (q u)
    go (yes p) = omega arith
    go (no n) = omega arith

pub back_length : (q : Queues) (es : List Entry) (u : ℕ) → length (all_back q es u) ≡ length (q u) + count es u
back_length q [] u = omega arith
back_length q (e ∷ es) u =
    let a = back_length (restore q e.goal e.active) es u in
    let b = go e.active in
    omega arith
  where
    go : (a : Option Strand) → length (restore q e.goal a u) ≡ length (q u) + one a (ℕ_discrete e.goal u)
    go none = omega arith
    go (some s) = append_length q e.goal s u

pub active_count : (e : Entry) (es : List Entry) (s : Strand) (u : ℕ) → e.active ≡ some s
    → count (e ∷ es) u ≡ pick (ℕ_discrete e.goal u) 1 0 + count es u
active_count e es s u a = ap (λ z. one z (ℕ_discrete e.goal u) + count es u) a

pub self_one : (g : ℕ) → ◌≡◌ {A = ℕ} (pick (ℕ_discrete g g) 1 0) 1
self_one g = go (ℕ_discrete g g)
  where
    go : (d : Dec (g ≡ g)) → ◌≡◌ {A = ℕ} (pick d 1 0) 1
    go (yes p) = refl
    go (no n) = absurd (n refl)

abbrev pub root_of : Entry → List Entry → ℕ
root_of e [] = e.goal
root_of e (c ∷ es) = root_of c es

pub record Resting (S : Setting) (f : Forest) : Type 0 where
  pub fine : Fine S f.answered (Holds f.queue []) f.clock
  pub bound : f.clock ≤ S.limits.limit

-- what an outcome of a search for r says, with the sizes before and after
abbrev pub Ends : Setting → ℕ → (ℕ → ℕ) → (ℕ → ℕ) → Outcome → Type 0
Ends S r before after found = S.I r
Ends S r before after no_more_left = S.I r → ⊥
Ends S r before after again = (u : ℕ) × (u < S.limits.goals) × (after u < before u)
Ends S r before after clock_ended = Unit {0}
Ends S r before after cut = Unit {0}
Ends S r before after noted = ⊥
Ends S r before after (refused n) = ⊥
Ends S r before after negative_cycled = ⊥
Ends S r before after unselected = ⊥
Ends S r before after repeated = ⊥
Ends S r before after broken = ⊥

pub record Going (S : Setting) (r : ℕ) (B L : ℕ → ℕ) (f : Forest) (e : Entry) (es : List Entry) : Type 0 where
  pub inv : Inv S f.answered f.queue f.clock e es
  pub root : root_of e es ≡ r
  pub fewer : (u : ℕ) → Fits B L f (e ∷ es) u

pub record Ended (S : Setting) (r : ℕ) (B L : ℕ → ℕ) (o : Outcome) (f : Forest) : Type 0 where
  pub rest : Resting S f
  pub ends : Ends S r B (size f []) o
  pub fewer : (u : ℕ) → Fits B L f [] u

abbrev pub TurnOK : Setting → ℕ → (ℕ → ℕ) → (ℕ → ℕ) → Turn → Type 0
TurnOK S r B L (turn_goes_on f e es) = Going S r B L f e es
TurnOK S r B L (stop o f) = Ended S r B L o f

-- the search ends after a step, and its stack is put back
pub rest_after : (S : Setting) (f : Forest) (e : Entry) (es : List Entry) (made' first' : ℕ → Bool) (q' : Queues) (es' : List Entry)
    → Inv S f.answered f.queue f.clock e es
    → Step S f.answered (Holds f.queue (e ∷ es)) f.clock (Holds q' es') f.clock → Resting S (record {
      made = made';
      answered = f.answered;
      first = first';
      queue = all_back q' es';
      clock = f.clock;
    })
rest_after S f e es made' first' q' es' inv step = record {
  fine = fine_step S inv.fine (step_trans S step (step_back S q' es'));
  bound = inv.bound;
}

module _ (S : Setting) (B L : ℕ → ℕ) where
  answering_ok : (b : Bool) (f : Forest) (e : Entry) (es : List Entry) (s : Strand) → Inv S f.answered f.queue f.clock e es
      → e.active ≡ some s → s.lits ≡ [] → f.answered e.goal ≡ b
      → ((u : ℕ) → Fits B L f (e ∷ es) u) → TurnOK S (root_of e es) B L (answering S.limits b f e es)
  answering_ok true f e es s inv a p t few = absurd (true≢false (sym t ∙ top_pending S f.answered f.queue f.clock e es inv))
  answering_ok false f e [] s inv a p t few =
      let proof = case_proved S f.answered f.queue f.clock e [] inv s a p in
      record {
        rest = record { fine = fine_answered S f.answered f.queue f.clock e [] inv.fine proof (λ x. x); bound = inv.bound };
        ends = proof;
        fewer = λ u. let x = few u in let y = nil_length f.queue e.goal u in omega arith;
      }
  answering_ok false f e (c ∷ es) s inv a p t few = record {
    inv = case_answered S f.answered f.queue f.clock e c es inv s a p;
    root = refl;
    fewer = λ u. let x = few u in let y = nil_length f.queue e.goal u in omega arith;
  }

  root_remade : (e : Entry) (m n : ℕ) (a : Option Strand) (es : List Entry) → root_of (remade e m n a) es ≡ root_of e es
  root_remade e m n a [] = refl
  root_remade e m n a (c ∷ es) = refl

  parking_ok : (l : Lit) (c : ℕ) (f : Forest) (e : Entry) (es : List Entry) (s : Strand) (b : Body)
      → Inv S f.answered f.queue f.clock e es → e.active ≡ some s → s.lits ≡ l ∷ b → f.answered (literal_goal l) ≡ false
      → find_clock (literal_goal l) (e ∷ es) ≡ some c → ((u : ℕ) → Fits B L f (e ∷ es) u)
      → TurnOK S (root_of e es) B L (parking S.limits l c f e es (pursued e.clock (l ∷ b)))
  parking_ok (pos h) c f e es s b inv a p n at few = record {
    inv = case_park S f.answered f.queue f.clock e es inv s h b c a p n at;
    root = root_remade e (min e.positive_min c) e.negative_min none es;
    fewer = λ u. let x = few u in let y = append_length f.queue e.goal (pursued e.clock (pos h ∷ b)) u in
        let z = active_count e es s u a in omega arith;
  }
  parking_ok (neg h) c f e es s b inv a p n at few = absurd (case_no_cycle S f.answered f.queue f.clock e es inv s h b c a p at)

  pushing_ok : (before f : Forest) (d : Dec (f.clock < S.limits.limit)) (l : Lit) (e : Entry) (es : List Entry) (s : Strand) (b : Body)
      → Inv S f.answered f.queue f.clock e es → e.active ≡ some s → s.lits ≡ l ∷ b
      → f.answered (literal_goal l) ≡ false → find_clock (literal_goal l) (e ∷ es) ≡ none → ((u : ℕ) → Fits B L f (e ∷ es) u)
      → Resting S before → ((u : ℕ) → Fits B L before [] u)
      → TurnOK S (root_of e es) B L (pushing S.limits d before f (literal_goal l) e es (pursued e.clock (l ∷ b)))
  pushing_ok before f (yes o) l e es s b inv a p n at few rest few' = record {
    inv = case_push S f.answered f.queue f.clock e es inv s l b a p n at o;
    root = root_remade e e.positive_min e.negative_min (some (pursued e.clock (l ∷ b))) es;
    fewer = λ u. let x = few u in let z = active_count e es s u a in omega arith;
  }
  pushing_ok before f (no o) l e es s b inv a p n at few rest few' = record { rest = rest; ends = tt; fewer = few' }

  unanswered_ok : (o : Option ℕ) (before f : Forest) (l : Lit) (e : Entry) (es : List Entry) (s : Strand) (b : Body)
      → Inv S f.answered f.queue f.clock e es → e.active ≡ some s → s.lits ≡ l ∷ b
      → f.answered (literal_goal l) ≡ false → find_clock (literal_goal l) (e ∷ es) ≡ o → ((u : ℕ) → Fits B L f (e ∷ es) u)
      → Resting S before → ((u : ℕ) → Fits B L before [] u)
      → TurnOK S (root_of e es) B L (unanswered S.limits o before f e es l b)
  unanswered_ok (some c) before f l e es s b inv a p n at few rest few' = parking_ok l c f e es s b inv a p n at few
  unanswered_ok none before f l e es s b inv a p n at few rest few' =
      pushing_ok before f (dec_lt f.clock S.limits.limit) l e es s b inv a p n at few rest few'

  selected_ok : (t : Bool) (before f : Forest) (l : Lit) (e : Entry) (es : List Entry) (s : Strand) (b : Body)
      → Inv S f.answered f.queue f.clock e es → e.active ≡ some s → s.lits ≡ l ∷ b
      → f.answered (literal_goal l) ≡ t → ((u : ℕ) → Fits B L f (e ∷ es) u) → Resting S before → ((u : ℕ) → Fits B L before [] u)
      → TurnOK S (root_of e es) B L (selected S.limits t before f e es l b)
  selected_ok true before f (pos h) e es s b inv a p t few rest few' = record {
    inv = case_popped S f.answered f.queue f.clock e es inv s h b a p t;
    root = root_remade e e.positive_min e.negative_min (some (popped e.clock b)) es;
    fewer = λ u. let x = few u in let z = active_count e es s u a in omega arith;
  }
  selected_ok true before f (neg h) e es s b inv a p t few rest few' = record {
    rest = rest_after S f e es f.made f.first f.queue es inv
        (step_drop S f.queue e es s a (neg h, subst (Memᴰ (neg h)) (sym p) (Memᴰ.head refl), inv.fine.proved h t));
    ends = (
      e.goal,
      (inv.fine.good e.goal s (inr (inl (refl, a)))).inside,
      let x = few e.goal in let y = back_length f.queue es e.goal in let z = active_count e es s e.goal a in
          let w = self_one e.goal in omega arith,
    );
    fewer = λ u. let x = few u in let y = back_length f.queue es u in omega arith;
  }
  selected_ok false before f l e es s b inv a p t few rest few' =
      unanswered_ok (find_clock (literal_goal l) (e ∷ es)) before f l e es s b inv a p t refl few rest few'

  pursue_ok : (b : Body) (before f : Forest) (e : Entry) (es : List Entry) (s : Strand) → Inv S f.answered f.queue f.clock e es
      → e.active ≡ some s → s.lits ≡ b
      → ((u : ℕ) → Fits B L f (e ∷ es) u) → Resting S before → ((u : ℕ) → Fits B L before [] u)
      → TurnOK S (root_of e es) B L (pursue S.limits b before f e es)
  pursue_ok [] before f e es s inv a p few rest few' = answering_ok (f.answered e.goal) f e es s inv a p refl few
  pursue_ok (l ∷ b) before f e es s inv a p few rest few' =
      selected_ok (f.answered (literal_goal l)) before (make f (literal_goal l)) l e es s b inv a p refl few rest few'

  empty_at_ok : (b : Body) (f : Forest) (e c : Entry) (es : List Entry) (s : Strand) → Inv S f.answered f.queue f.clock e (c ∷ es)
      → e.active ≡ none → f.queue e.goal ≡ [] → c.active ≡ some s → s.lits ≡ b
      → ((u : ℕ) → Fits B L f (e ∷ c ∷ es) u) → TurnOK S (root_of c es) B L (empty_at S.limits b s f c es)
  empty_at_ok [] f e c es s inv a n a' p few =
      let k = inv.piled.2 in
      absurd (nil≢cons (sym p ∙ sym (ap (λ z. z.lits) (same_some (sym k.active ∙ a'))) ∙ k.lits))
  empty_at_ok (pos h ∷ b) f e c es s inv a n a' p few = record {
    rest = rest_after S f e (c ∷ es) f.made f.first f.queue es inv
        (step_trans S (step_off S f.queue e (c ∷ es) a)
        (step_drop S f.queue c es s a' (case_false S f.answered f.queue f.clock e c es inv s h b a n a' p)));
    ends = (
      c.goal,
      (inv.fine.good c.goal s (inr (inr (inl (refl, a'))))).inside,
      let x = few c.goal in let y = back_length f.queue es c.goal in let z = active_count c es s c.goal a' in
          let w = self_one c.goal in omega arith,
    );
    fewer = λ u. let x = few u in let y = back_length f.queue es u in omega arith;
  }
  empty_at_ok (neg h ∷ b) f e c es s inv a n a' p few = record {
    inv = case_not S f.answered f.queue f.clock e c es inv s h b a n a' p;
    root = root_remade c c.positive_min c.negative_min (some (popped s.time b)) es;
    fewer = λ u. let x = few u in let z = active_count c es s u a' in omega arith;
  }

  empty_ok : (o : Option Strand) (f : Forest) (e c : Entry) (es : List Entry) → Inv S f.answered f.queue f.clock e (c ∷ es)
      → e.active ≡ none → f.queue e.goal ≡ [] → c.active ≡ o
      → ((u : ℕ) → Fits B L f (e ∷ c ∷ es) u) → TurnOK S (root_of c es) B L (empty S.limits o f c es)
  empty_ok none f e c es inv a n a' few = absurd (no_such (sym a' ∙ inv.piled.2.active))
  empty_ok (some s) f e c es inv a n a' few = empty_at_ok s.lits f e c es s inv a n a' refl few

  emptied_ok : (f : Forest) (e : Entry) (es : List Entry) → Inv S f.answered f.queue f.clock e es → e.active ≡ none
      → f.queue e.goal ≡ []
      → ((u : ℕ) → Fits B L f (e ∷ es) u) → TurnOK S (root_of e es) B L (emptied S.limits f es)
  emptied_ok f e [] inv a n few = record {
    rest = record { fine = fine_step S inv.fine (step_off S f.queue e [] a); bound = inv.bound };
    ends = case_unproved S f.answered f.queue f.clock e [] inv a n;
    fewer = λ u. let x = few u in omega arith;
  }
  emptied_ok f e (c ∷ es) inv a n few = empty_ok c.active f e c es inv a n refl few

  cleared_ok : (o : Option Queues) (f : Forest) (e : Entry) (es : List Entry) (x : Strand) (xs : List Strand)
      → Inv S f.answered f.queue f.clock e es → e.active ≡ none → f.queue e.goal ≡ x ∷ xs → (q' : Queues) → o ≡ some q'
      → Less S (put f.queue e.goal []) q' → Less S f.queue (put f.queue e.goal [])
      → ((u : ℕ) → Fits B L f (e ∷ es) u) → TurnOK S (root_of e es) B L (cleared S.limits o f es)
  cleared_ok none f e es x xs inv a n q' p l₁ l₂ few = absurd (no_such p)
  cleared_ok (some q) f e es x xs inv a n q' p l₁ l₂ few =
      let l : Less S (put f.queue e.goal []) q = subst (λ z. Less S (put f.queue e.goal []) z) (sym (same_some p)) l₁ in
      let m = less_trans S l₂ l in
      record {
        rest = rest_after S f e es f.made f.first q es inv
            (step_trans S (step_off S f.queue e es a) (step_less S f.queue q es m.less m.most));
        ends = (
          e.goal,
          (inv.fine.good e.goal x (inl (subst (Memᴰ x) (sym n) (Memᴰ.head refl)))).inside,
          let y = few e.goal in let z = back_length q es e.goal in let w = l.size e.goal in
              let v : length (put f.queue e.goal [] e.goal) ≡ 0 = ap length (put_here f.queue e.goal e.goal [] refl) in
              let t : length (f.queue e.goal) ≡ suc (length xs) = ap length n in
              omega arith,
        );
        fewer = λ u. let y = few u in let z = back_length q es u in let w = m.size u in omega arith;
      }

  clearing_ok : (f : Forest) (e : Entry) (es : List Entry) (d : Dec (e.negative_min ≡ S.limits.max)) (x : Strand) (xs : List Strand)
      → Inv S f.answered f.queue f.clock e es → e.active ≡ none → f.queue e.goal ≡ x ∷ xs
      → ((t : Strand) → Memᴰ t (f.queue e.goal) → t.time < e.clock → ⊥) → e.clock ≤ e.positive_min
      → ((u : ℕ) → Fits B L f (e ∷ es) u) → TurnOK S (root_of e es) B L (clearing S.limits d f e es)
  clearing_ok f e es (yes p) x xs inv a n late high few =
      let r = case_clear S f.answered f.queue f.clock e es inv a late high in
      cleared_ok (clear (sum S.limits.goals (λ g. length (f.queue g))) (f.queue e.goal) (put f.queue e.goal [])) f e es x
      xs inv a n r.0 r.1 r.2 r.3 few
  clearing_ok f e es (no o) x xs inv a n late high few =
      absurd (o (top_new S f.answered (Holds f.queue (e ∷ es)) f.queue e es inv.piled).1.plain)

  cycle_at_ok : (b : Body) (f : Forest) (e c : Entry) (es : List Entry) (s : Strand) → Inv S f.answered f.queue f.clock e (c ∷ es)
      → e.active ≡ none → ((t : Strand) → Memᴰ t (f.queue e.goal) → t.time < e.clock → ⊥) → c.active ≡ some s → s.lits ≡ b
      → e.positive_min < e.clock
      → ((u : ℕ) → Fits B L f (e ∷ c ∷ es) u) → TurnOK S (root_of c es) B L (cycle_at S.limits b s f e c es)
  cycle_at_ok [] f e c es s inv a late a' p lt few =
      let k = inv.piled.2 in
      absurd (nil≢cons (sym p ∙ sym (ap (λ z. z.lits) (same_some (sym k.active ∙ a'))) ∙ k.lits))
  cycle_at_ok (pos h ∷ b) f e c es s inv a late a' p lt few = record {
    inv = case_cycle S f.answered f.queue f.clock e c es inv s h b a late a' p lt;
    root = root_remade c (min c.positive_min e.positive_min) (min c.negative_min e.negative_min) none es;
    fewer = λ u. let x = few u in let y = append_length f.queue c.goal s u in let z = active_count c es s u a' in omega arith;
  }
  cycle_at_ok (neg h ∷ b) f e c es s inv a late a' p lt few =
      absurd (case_no_not S f.answered f.queue f.clock e c es inv s h b a' p lt)

  cycle_ok : (o : Option Strand) (f : Forest) (e c : Entry) (es : List Entry) → Inv S f.answered f.queue f.clock e (c ∷ es)
      → e.active ≡ none → ((t : Strand) → Memᴰ t (f.queue e.goal) → t.time < e.clock → ⊥) → c.active ≡ o
      → e.positive_min < e.clock
      → ((u : ℕ) → Fits B L f (e ∷ c ∷ es) u) → TurnOK S (root_of c es) B L (cycle S.limits o f e c es)
  cycle_ok none f e c es inv a late a' lt few = absurd (no_such (sym a' ∙ inv.piled.2.active))
  cycle_ok (some s) f e c es inv a late a' lt few = cycle_at_ok s.lits f e c es s inv a late a' refl lt few

  part_of_ok : (f : Forest) (e : Entry) (es : List Entry) → Inv S f.answered f.queue f.clock e es → e.active ≡ none
      → ((t : Strand) → Memᴰ t (f.queue e.goal) → t.time < e.clock → ⊥) → e.positive_min < e.clock
      → ((u : ℕ) → Fits B L f (e ∷ es) u) → TurnOK S (root_of e es) B L (part_of S.limits f e es)
  part_of_ok f e [] inv a late lt few = absurd (case_no_root S f.answered f.queue f.clock e inv lt)
  part_of_ok f e (c ∷ es) inv a late lt few = cycle_ok c.active f e c es inv a late refl lt few

  flag_put : (first : ℕ → Bool) (g u : ℕ) → flag (put first g false u) ≤ flag (first u)
  flag_put first g u = go (ℕ_discrete g u)
    where
      go : (d : Dec (g ≡ u)) → flag (pick d false (first u)) ≤ flag (first u)
      go (yes p) = omega arith
      go (no n) = omega arith

  waiting_ok : (m : Bool) (f : Forest) (e : Entry) (es : List Entry) (d : Dec (e.clock ≤ e.positive_min))
      (d' : Dec (e.clock ≤ e.negative_min)) (x : Strand) (xs : List Strand) → Inv S f.answered f.queue f.clock e es
      → f.first e.goal ≡ m → e.active ≡ none → f.queue e.goal ≡ x ∷ xs
      → ((t : Strand) → Memᴰ t (f.queue e.goal) → t.time < e.clock → ⊥) → ((u : ℕ) → Fits B L f (e ∷ es) u)
      → TurnOK S (root_of e es) B L (waiting S.limits m d d' f e es)
  waiting_ok true f e es d d' x xs inv t a n late few = record {
    rest = rest_after S f e es f.made (put f.first e.goal false) f.queue es inv (step_off S f.queue e es a);
    ends = (
      e.goal,
      (inv.fine.good e.goal x (inl (subst (Memᴰ x) (sym n) (Memᴰ.head refl)))).inside,
      let y = few e.goal in let z = back_length f.queue es e.goal in
          let v : flag (put f.first e.goal false e.goal) ≡ 0 = ap flag (put_here f.first e.goal e.goal false refl) in
          let w : flag (f.first e.goal) ≡ 1 = ap flag t in
          omega arith,
    );
    fewer = λ u. let y = few u in let z = back_length f.queue es u in let w = flag_put f.first e.goal u in omega arith;
  }
  waiting_ok false f e es (yes p) (yes p') x xs inv t a n late few =
      clearing_ok f e es (ℕ_discrete e.negative_min S.limits.max) x xs inv a n late p few
  waiting_ok false f e es (yes p) (no o) x xs inv t a n late few =
      absurd (let y = (top_new S f.answered (Holds f.queue (e ∷ es)) f.queue e es inv.piled).1.plain in let z = S.room in
      let w = inv.now in let v = inv.bound in omega arith)
  waiting_ok false f e es (no o) d' x xs inv t a n late few = part_of_ok f e es inv a late (omega arith) few

  idle_ok : (x : List Strand) (f : Forest) (e : Entry) (es : List Entry) → Inv S f.answered f.queue f.clock e es → e.active ≡ none
      → f.queue e.goal ≡ x
      → ((t : Strand) → Memᴰ t (f.queue e.goal) → t.time < e.clock → ⊥) → ((u : ℕ) → Fits B L f (e ∷ es) u)
      → TurnOK S (root_of e es) B L (idle S.limits x f e es)
  idle_ok [] f e es inv a n late few = emptied_ok f e es inv a n few
  idle_ok (x ∷ xs) f e es inv a n late few = waiting_ok (f.first e.goal) f e es (dec_le e.clock e.positive_min)
      (dec_le e.clock e.negative_min) x xs inv refl a n late few

module _ (S : Setting) (B L : ℕ → ℕ) where
  -- a search put back before the turn
  back_ok : (f : Forest) (e : Entry) (es : List Entry) → Inv S f.answered f.queue f.clock e es
      → Resting S (with_queue f (all_back f.queue (e ∷ es)))
  back_ok f e es inv = rest_after S f e es f.made f.first f.queue (e ∷ es) inv (moved S (λ g s h. h) (λ g s h. h))

  taking_ok : (o : Option (Strand × List Strand)) (f : Forest) (e : Entry) (es : List Entry)
      → Inv S f.answered f.queue f.clock e es → e.active ≡ none → take_from e.clock [] (f.queue e.goal) ≡ o
      → ((u : ℕ) → Fits B L f (e ∷ es) u) → TurnOK S (root_of e es) B L (taking S.limits o f e es)
  taking_ok none f e es inv a p few = idle_ok S B L (f.queue e.goal) f e es inv a refl (none_taken e.clock [] (f.queue e.goal) p)
      few
  taking_ok (some (s, r)) f e es inv a p few =
      let k = taken e.clock [] (f.queue e.goal) s r p in
      let w = pursue_ok S B L s.lits (with_queue f (all_back f.queue (e ∷ es))) (with_queue f (put f.queue e.goal r))
      (entry_with e (some s)) es s
      (case_take S f.answered f.queue f.clock e es inv s r a
      (λ t m. either (λ y. absurd (Memᴰ.not-nil y)) (λ y. y) (k.less t m)) k.mem k.most) refl refl
      (λ u. let x = few u in let y = put_length f.queue e.goal u r (let z = k.number in omega arith) in omega arith)
      (back_ok f e es inv) (λ u. let x = few u in let y = back_length f.queue (e ∷ es) u in omega arith) in
      subst (λ z. TurnOK S z B L (taking S.limits (some (s, r)) f e es))
      (root_remade S B L e e.positive_min e.negative_min (some s) es) w

  turn_with_ok : (o : Option Strand) (f : Forest) (e : Entry) (es : List Entry) → Inv S f.answered f.queue f.clock e es
      → e.active ≡ o
      → ((u : ℕ) → Fits B L f (e ∷ es) u) → TurnOK S (root_of e es) B L (turn_with S.limits o f e es)
  turn_with_ok none f e es inv a few = taking_ok (take_from e.clock [] (f.queue e.goal)) f e es inv a refl few
  turn_with_ok (some s) f e es inv a few =
      pursue_ok S B L s.lits (with_queue f (all_back f.queue (e ∷ es))) f e es s inv a refl few (back_ok f e es inv)
      (λ u. let x = few u in let y = back_length f.queue (e ∷ es) u in omega arith)

  -- every turn
  pub turn_ok : (f : Forest) (e : Entry) (es : List Entry) → Inv S f.answered f.queue f.clock e es
      → ((u : ℕ) → Fits B L f (e ∷ es) u) → TurnOK S (root_of e es) B L (turn S.limits f e es)
  turn_ok f e es inv few = turn_with_ok e.active f e es inv refl few

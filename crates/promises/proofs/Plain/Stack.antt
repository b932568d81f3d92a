-- Parts 3 and 4 of the invariant: the stack, and the strands that wait well.
use Prim.Native.Nat.{ℕ, suc, ◌≤◌, ◌<◌}
use native.Mathlib.Omega.{arith}
use native.Mathlib.Decide.{ℕ_discrete}
use mathlib.Core.Path.{◌≡◌, refl, sym, ap, subst, ◌∙◌}
use mathlib.Core.Bool.{Bool, true, false}
use mathlib.Core.Logic.{◌⊎◌, inl, inr}
use mathlib.Core.Option.{none, some}
use mathlib.Core.List.{List, [], ◌∷◌, Memᴰ, nil≢cons}
use Rattle.laws.proofs.Options.{no_such, same_some}
use Rattle.promises.proofs.Plain.Model.{Lit, pos, neg, Body, literal_goal, LevelLit, LevelBody, level_head}
use Rattle.promises.proofs.Plain.Machine.{Strand, Entry, Queues, pick, put, find_clock}
use Rattle.promises.proofs.Plain.Steps.{Setting, Good, Keeps, Step, Act, put_there}

-- u is on the stack
abbrev pub On : ℕ → List Entry → Type 0
On u [] = ⊥
On u (e ∷ es) = (e.goal ≡ u) ⊎ On u es

-- u is on the stack, with a clock not below m
abbrev pub OnFrom : ℕ → ℕ → List Entry → Type 0
OnFrom m u [] = ⊥
OnFrom m u (e ∷ es) = ((e.goal ≡ u) × (m ≤ e.clock)) ⊎ OnFrom m u es

-- an entry of level at most n with a clock not above m
abbrev pub Reach : (ℕ → ℕ) → ℕ → ℕ → List Entry → Type 0
Reach level m n [] = ⊥
Reach level m n (e ∷ es) = ((e.clock ≤ m) × (level e.goal ≤ n)) ⊎ Reach level m n es

-- a selected positive literal, whose table has no answer and lies in Place
pub record Waits (ans : ℕ → Bool) (Place : ℕ → Type 0) (s : Strand) : Type 0 where
  pub table : ℕ
  pub rest : Body
  pub lits : s.lits ≡ pos table ∷ rest
  pub chosen : s.chosen ≡ true
  pub pending : ans table ≡ false
  pub place : Place table

abbrev pub Place : List ℕ → (m g c : ℕ) → List Entry → ℕ → Type 0
Place P m g c es u = Memᴰ u P ⊎ (((g ≡ u) × (m ≤ c)) ⊎ OnFrom m u es)

-- the entry of goal g, clock c, minimums m and n, over the entries es; P holds the tables popped as part of a cycle
pub record Settled (S : Setting) (ans : ℕ → Bool) (H : ℕ → Strand → Type 0) (q : Queues) (g c m n : ℕ) (es : List Entry) (P : List ℕ) : Type
    0 where
  pub pending : ans g ≡ false
  pub timed : (s : Strand) → Memᴰ s (q g) → s.time ≤ c
  pub parked : (s : Strand) → Memᴰ s (q g) → s.time ≡ c → Waits ans (Place P m g c es) s
  pub open_others : (u : ℕ) → Memᴰ u P → ans u ≡ false
  pub others : (u : ℕ) → Memᴰ u P → (s : Strand) → H u s → Waits ans (Place P m g c es) s
  pub low : m < c → Reach S.level m (S.level g) es
  pub plain : n ≡ S.limits.max
  pub new : On g es → ⊥

-- the entry c has called for the goal g, whose entry has the clock k
pub record Calls (c : Entry) (g k : ℕ) : Type 0 where
  pub strand : Strand
  pub active : c.active ≡ some strand
  pub lit : Lit
  pub rest : Body
  pub lits : strand.lits ≡ lit ∷ rest
  pub names : literal_goal lit ≡ g
  pub chosen : strand.chosen ≡ true
  pub time : strand.time ≤ c.clock
  pub earlier : c.clock < k

abbrev pub SettledAt : (S : Setting) (ans : ℕ → Bool) (H : ℕ → Strand → Type 0) (q : Queues) (e : Entry) (es : List Entry) (P : List ℕ)
    → Type 0
SettledAt S ans H q e es P = Settled S ans H q e.goal e.clock e.positive_min e.negative_min es P

abbrev pub Piled : (S : Setting) (ans : ℕ → Bool) (H : ℕ → Strand → Type 0) (q : Queues) → Entry → List Entry → Type 0
Piled S ans H q e [] = (P : List ℕ) × SettledAt S ans H q e [] P
Piled S ans H q e (c ∷ es) = (P : List ℕ) × SettledAt S ans H q e (c ∷ es) P × Calls c e.goal e.clock × Piled S ans H q c es

pub waits_kept : {ans : ℕ → Bool} {Place : ℕ → Type 0} {s t : Strand} → Waits ans Place s → Keeps ans s t → Waits ans Place t
waits_kept w k =
    let p = k w.table w.rest w.lits w.chosen w.pending in
    record { table = w.table; rest = w.rest; lits = p.0; chosen = p.1; pending = w.pending; place = w.place }

pub settled_kept : (S : Setting) {ans : ℕ → Bool} {H H' : ℕ → Strand → Type 0} {q q' : Queues} {g c m n k k' : ℕ} {es : List Entry}
    {P : List ℕ}
    → Settled S ans H q g c m n es P → Step S ans H k H' k' → ((s : Strand) → Memᴰ s (q' g) → Memᴰ s (q g))
    → Settled S ans H' q' g c m n es P
settled_kept S i step less = record {
  pending = i.pending;
  timed = λ s x. i.timed s (less s x);
  parked = λ s x t. i.parked s (less s x) t;
  open_others = i.open_others;
  others = λ u p s h. let o = step.from u s h in waits_kept (i.others u p o.0 o.1) o.2.keeps;
  low = i.low;
  plain = i.plain;
  new = i.new;
}

pub piled_kept : (S : Setting) {ans : ℕ → Bool} {H H' : ℕ → Strand → Type 0} {q q' : Queues} {k k' : ℕ} (e : Entry) (es : List Entry)
    → Piled S ans H q e es → Step S ans H k H' k' → ((u : ℕ) → On u (e ∷ es) → (s : Strand) → Memᴰ s (q' u) → Memᴰ s (q u))
    → Piled S ans H' q' e es
piled_kept S e [] (P, i) step less = (P, settled_kept S i step (less e.goal (inl refl)))
piled_kept S e (c ∷ es) (P, i, a, r) step less =
    (P, settled_kept S i step (less e.goal (inl refl)), a, piled_kept S c es r step (λ u o. less u (inr o)))

pub lit_level : (level : ℕ → ℕ) (n : ℕ) (l : Lit) → LevelLit level n l → level (literal_goal l) ≤ n
lit_level level n (pos h) v = v
lit_level level n (neg h) v = let w : suc (level h) ≤ n = v in omega arith

pub call_level : (S : Setting) {c : Entry} {g k : ℕ} (a : Calls c g k) → Good S c.goal a.strand → S.level g ≤ S.level c.goal
call_level S {c} {g} a good =
    subst (λ h. S.level h ≤ S.level c.goal) a.names
    (lit_level S.level (S.level c.goal) a.lit
    (level_head (subst (λ b. LevelBody S.level (S.level c.goal) b) a.lits good.levels)))

-- levels do not rise along the stack
pub levels_fall : (S : Setting) (ans : ℕ → Bool) {H : ℕ → Strand → Type 0} (q : Queues) (e : Entry) (es : List Entry)
    → ((g : ℕ) (s : Strand) → H g s → Good S g s) → ((g : ℕ) (s : Strand) → Act es g s → H g s)
    → Piled S ans H q e es → (u : ℕ) → On u (e ∷ es) → S.level e.goal ≤ S.level u
levels_fall S ans q e [] good act i u (inl p) = let w : S.level e.goal ≡ S.level u = ap S.level p in omega arith
levels_fall S ans q e [] good act i u (inr p) = absurd p
levels_fall S ans q e (c ∷ es) good act i u (inl p) = let w : S.level e.goal ≡ S.level u = ap S.level p in omega arith
levels_fall S ans q e (c ∷ es) good act (P, i, a, r) u (inr p) =
    let x = levels_fall S ans q c es good (λ g s h. act g s (inr h)) r u p in
    let y = call_level S a (good c.goal a.strand (act c.goal a.strand (inl (refl, a.active)))) in
    omega arith

pub reach_on : (level : ℕ → ℕ) (m n : ℕ) (es : List Entry) → Reach level m n es → (u : ℕ) × On u es × (level u ≤ n)
reach_on level m n [] r = elim r [ ]
reach_on level m n (e ∷ es) (inl (a, b)) = (e.goal, inl refl, b)
reach_on level m n (e ∷ es) (inr r) = let x = reach_on level m n es r in (x.0, inr x.1, x.2)

-- where the table of a selected literal is looked for
pub found_on : (u : ℕ) (es : List Entry) (c : ℕ) → find_clock u es ≡ some c → OnFrom c u es
found_on u [] c p = absurd (no_such p)
found_on u (e ∷ es) c p = go (found_on u es c) (ℕ_discrete e.goal u) p
  where
    go : (find_clock u es ≡ some c → OnFrom c u es) → (d : Dec (e.goal ≡ u)) → pick d (some e.clock) (find_clock u es) ≡ some c
        → OnFrom c u (e ∷ es)
    go r (yes o) x = inl (o, let y : e.clock ≡ c = same_some x in omega arith)
    go r (no o) x = inr (r x)

pub found_reach : (level : ℕ → ℕ) (n u : ℕ) (es : List Entry) (c : ℕ) → level u ≤ n → find_clock u es ≡ some c → Reach level c n es
found_reach level n u [] c v p = absurd (no_such p)
found_reach level n u (e ∷ es) c v p = go (found_reach level n u es c v) (ℕ_discrete e.goal u) p
  where
    go : (find_clock u es ≡ some c → Reach level c n es) → (d : Dec (e.goal ≡ u)) → pick d (some e.clock) (find_clock u es) ≡ some c
        → Reach level c n (e ∷ es)
    go r (yes o) x = inl (let y : e.clock ≡ c = same_some x in omega arith, let z : level e.goal ≡ level u = ap level o in omega arith)
    go r (no o) x = inr (r x)

pub found_below : (level : ℕ → ℕ) (n u : ℕ) (e : Entry) (es : List Entry) (c : ℕ) → level u ≤ n → c < e.clock
    → find_clock u (e ∷ es) ≡ some c → Reach level c n es
found_below level n u e es c v lt p = go (ℕ_discrete e.goal u) p
  where
    go : (d : Dec (e.goal ≡ u)) → pick d (some e.clock) (find_clock u es) ≡ some c → Reach level c n es
    go (yes o) x = absurd (let y : e.clock ≡ c = same_some x in omega arith)
    go (no o) x = found_reach level n u es c v x

pub not_on : (u : ℕ) (es : List Entry) → find_clock u es ≡ none → On u es → ⊥
not_on u [] p o = elim o [ ]
not_on u (e ∷ es) p o = go (not_on u es) (ℕ_discrete e.goal u) p o
  where
    go : (find_clock u es ≡ none → On u es → ⊥) → (d : Dec (e.goal ≡ u)) → pick d (some e.clock) (find_clock u es) ≡ none
        → On u (e ∷ es) → ⊥
    go r (yes o) x a = no_such (sym x)
    go r (no o) x (inl a) = o a
    go r (no o) x (inr a) = r x a

pub on_of : (m u : ℕ) (es : List Entry) → OnFrom m u es → On u es
on_of m u [] p = elim p [ ]
on_of m u (e ∷ es) (inl p) = inl p.0
on_of m u (e ∷ es) (inr p) = inr (on_of m u es p)

pub on_weaken : (m m' u : ℕ) (es : List Entry) → m' ≤ m → OnFrom m u es → OnFrom m' u es
on_weaken m m' u [] o p = elim p [ ]
on_weaken m m' u (e ∷ es) o (inl p) = inl (p.0, let x : m ≤ e.clock = p.1 in omega arith)
on_weaken m m' u (e ∷ es) o (inr p) = inr (on_weaken m m' u es o p)

pub waits_map : {ans : ℕ → Bool} {Here There : ℕ → Type 0} {s : Strand} → ((u : ℕ) → Here u → There u) → Waits ans Here s
    → Waits ans There s
waits_map f w = record {
  table = w.table;
  rest = w.rest;
  lits = w.lits;
  chosen = w.chosen;
  pending = w.pending;
  place = f w.table w.place;
}

-- where no strand can be taken, all of them wait well
pub settled_waits : (S : Setting) {ans : ℕ → Bool} {H : ℕ → Strand → Type 0} {q : Queues} {g c m n : ℕ} {es : List Entry} {P : List ℕ}
    → Settled S ans H q g c m n es P → (s : Strand) → Memᴰ s (q g) → (s.time < c → ⊥) → Waits ans (Place P m g c es) s
settled_waits S i s x late = i.parked s x (let y = i.timed s x in omega arith)

pub still : (ans : ℕ → Bool) (T u : ℕ) → ans u ≡ false → (T ≡ u → ⊥) → put ans T true u ≡ false
still ans T u a n = put_there ans T u true n ∙ a

-- the table T gets its answer
module _ (S : Setting) (ans : ℕ → Bool) (H H' : ℕ → Strand → Type 0) (q q' : Queues) (T : ℕ) (s : Strand) (holds : H T s)
    (none_left : s.lits ≡ []) (less : (u : ℕ) (t : Strand) → H' u t → H u t) where
  settled_answered : {g c m n : ℕ} {es : List Entry} {P : List ℕ} → Settled S ans H q g c m n es P → (T ≡ g → ⊥) → (On T es → ⊥)
      → ((t : Strand) → Memᴰ t (q' g) → Memᴰ t (q g)) → Settled S (put ans T true) H' q' g c m n es P
  settled_answered {g} {c} {m} {n} {es} {P} i off off' sub = record {
    pending = still ans T g i.pending off;
    timed = λ t x. i.timed t (sub t x);
    parked = λ t x y. again (i.parked t (sub t x) y);
    open_others = λ u p. still ans T u (i.open_others u p) (apart u p);
    others = λ u p t h. again (i.others u p t (less u t h));
    low = i.low;
    plain = i.plain;
    new = i.new;
  }
    where
      apart : (u : ℕ) → Memᴰ u P → T ≡ u → ⊥
      apart u p e = let w = i.others u p s (subst (λ v. H v s) e holds) in nil≢cons (sym none_left ∙ w.lits)

      placed : (u : ℕ) → Place P m g c es u → T ≡ u → ⊥
      placed u (inl p) e = apart u p e
      placed u (inr (inl (p, o))) e = off (e ∙ sym p)
      placed u (inr (inr p)) e = off' (subst (λ v. On v es) (sym e) (on_of m u es p))

      again : {t : Strand} → Waits ans (Place P m g c es) t → Waits (put ans T true) (Place P m g c es) t
      again w = record {
        table = w.table;
        rest = w.rest;
        lits = w.lits;
        chosen = w.chosen;
        pending = still ans T w.table w.pending (placed w.table w.place);
        place = w.place;
      }

  pub piled_answered : (e : Entry) (es : List Entry) → Piled S ans H q e es → (On T (e ∷ es) → ⊥)
      → ((u : ℕ) → On u (e ∷ es) → (t : Strand) → Memᴰ t (q' u) → Memᴰ t (q u)) → Piled S (put ans T true) H' q' e es
  piled_answered e [] (P, i) off sub = (P, settled_answered i (λ p. off (inl (sym p))) (λ o. o) (sub e.goal (inl refl)))
  piled_answered e (c ∷ es) (P, i, a, r) off sub = (
    P,
    settled_answered i (λ p. off (inl (sym p))) (λ o. off (inr o)) (sub e.goal (inl refl)),
    a,
    piled_answered c es r
        (λ o. off (inr o)) (λ u o. sub u (inr o)),
  )

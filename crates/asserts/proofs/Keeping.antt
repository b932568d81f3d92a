-- Changing a table, and one table more: what waits on the tables goes on waiting, and the forest stays sound.
use Prim.Native.Nat.{ℕ, suc, ◌+◌, ◌≤◌, ◌<◌}
use native.Mathlib.Omega.{arith}
use native.Mathlib.Decide.{ℕ_discrete}
use borrow.Author.Tests.{leb-false}
use mathlib.Core.Path.{◌≡◌, refl, sym, ap, subst, ◌∙◌}
use mathlib.Core.Bool.{true, false, true≢false}
use mathlib.Core.Logic.{inl, inr}
use mathlib.Core.Option.{Option, none, some}
use mathlib.Core.List.{List, [], ◌∷◌, ◌++◌}
use lib.ListN.{length, get_elem?, set, length-append}
use lib.Dec.{leb}
use Rattle.definitions.specs.{Minimums}
use Rattle.definitions.specs.Stop.{go}
use Rattle.definitions.specs.Strand.{SelectedSubgoal, Strand}
use Rattle.definitions.specs.Table.{Table, with_strands, enqueue_strand}
use Rattle.definitions.specs.Tables.{Tables, Forest, with_tables, table_at, change_table, increment_clock, queued, held}
use Rattle.definitions.specs.Stack.{Stack}
use Rattle.definitions.proofs.Lists.{all_push}
use Rattle.laws.proofs.Lists.{set_here, at_append, set_other}
use Rattle.laws.proofs.Options.{same_some}
use Rattle.laws.specs.All.{All}
use Rattle.laws.proofs.All.{all_at, all_set, all_map}
use Rattle.laws.proofs.Totals.{total_set}
use Rattle.asserts.proofs.Safe.{Safe, goes, guard}
use Rattle.asserts.specs.Sound.{Reached, Selects, SoundStrand, SoundTable, SoundForest, Standing, Calls, Below, Rooted}
use Rattle.asserts.specs.Sound.{Searching, Active}

-- how a table may change: at any time; while it is on the stack

abbrev pub Above : Table → Table → Type 0
Above t t' = (k : ℕ) → Reached t k → Reached t' k

pub record Steady (t t' : Table) : Type 0 where
  pub same_floundered : t'.floundered ≡ t.floundered
  pub more_answers : length t.answers ≤ length t'.answers

pub steady_above : {t t' : Table} → Steady t t' → Above t t'
steady_above s k (inl e) = inl (s.same_floundered ∙ e)
steady_above s k (inr o) = let x = s.more_answers in inr (omega arith)

-- a change keeps the goal and its flag
abbrev pub SameGoal : Table → Table → Type 0
SameGoal t t' = (t'.table_goal ≡ t.table_goal) × (t'.coinductive_goal ≡ t.coinductive_goal)

pub record Grown (R : Table → Table → Type 0) (ts : Tables) (i : ℕ) (t : Table) : Type 0 where
  pub after : Table
  pub is_made : get_elem? ts i ≡ some after
  pub related : R t after

-- each table is still there, and has changed so at most
pub record Grows (R : Table → Table → Type 0) (ts ts' : Tables) : Type 0 where
  pub grown : (i : ℕ) (t : Table) → get_elem? ts i ≡ some t → Grown R ts' i t

pub grows_above : {ts ts' : Tables} → Grows Steady ts ts' → Grows Above ts ts'
grows_above g = record {
  grown = λ i t e. let x = g.grown i t e in record {
    after = x.after;
    is_made = x.is_made;
    related = steady_above x.related;
  };
}

pub steady_trans : {a b c : Tables} → Grows Steady a b → Grows Steady b c → Grows Steady a c
steady_trans g h = record {
  grown = λ i t e.
      let x = g.grown i t e in
      let y = h.grown i x.after x.is_made in
      record {
        after = y.after;
        is_made = y.is_made;
        related = record {
          same_floundered = y.related.same_floundered ∙ x.related.same_floundered;
          more_answers = let p = x.related.more_answers in let q = y.related.more_answers in omega arith;
        };
      };
}

module _ {R : Table → Table → Type 0} (same : (t : Table) → R t t) where
  pub grows_same : (ts : Tables) → Grows R ts ts
  grows_same ts = record { grown = λ i t e. record { after = t; is_made = e; related = same t } }

  pub grows_push : (ts : Tables) (u : Table) → Grows R ts (ts ++ (u ∷ []))
  grows_push ts u = record { grown = λ i t e. record { after = t; is_made = at_append ts (u ∷ []) i t e; related = same t } }

  pub grows_set : (ts : Tables) (i : ℕ) (t t' : Table) → get_elem? ts i ≡ some t → R t t' → Grows R ts (set ts i t')
  grows_set ts i t t' e r = record { grown = λ j u k. go j u k (ℕ_discrete i j) }
    where
      go : (j : ℕ) (u : Table) → get_elem? ts j ≡ some u → Dec (i ≡ j) → Grown R (set ts i t') j u
      go j u k (yes q) = record {
        after = t';
        is_made = subst (λ z. get_elem? (set ts i t') z ≡ some t') q (set_here ts i t t' e);
        related = subst (λ z. R z t') (same_some (sym e ∙ ap (get_elem? ts) q ∙ k)) r;
      }
      go j u k (no q) = record { after = u; is_made = set_other ts i j t' q ∙ k; related = same u }

pub steady_same : (t : Table) → Steady t t
steady_same t = record { same_floundered = refl; more_answers = omega arith }

pub above_same : (t : Table) → Above t t
above_same t k r = r

-- What waits on tables.

selects_grows : {ts ts' : Tables} → Grows Above ts ts' → (k : ℕ) (o : Option SelectedSubgoal) → Selects ts k o → Selects ts' k o
selects_grows g k none x = tt
selects_grows g k (some sel) x = let y = g.grown sel.subgoal_table x.table x.is_made in record {
  at_literal = x.at_literal;
  is_last = x.is_last;
  table = y.after;
  is_made = y.is_made;
  reached = y.related sel.answer_index x.reached;
}

module _ {n : ℕ} {ts ts' : Tables} (g : Grows Above ts ts') where
  pub strand_grows : (s : Strand) → SoundStrand n ts s → SoundStrand n ts' s
  strand_grows s x = (x.0, selects_grows g (length s.ex_clause.subgoals) s.selected_subgoal x.1)

  pub table_grows : (t : Table) → SoundTable n ts t → SoundTable n ts' t
  table_grows t x = record {
    goal_named = x.goal_named;
    sound_strands = all_map strand_grows x.sound_strands;
    sound_answers = x.sound_answers;
    floundered_empty = x.floundered_empty;
  }

  pub calls_grow : {awaited : ℕ} {o : Option Strand} → Calls n ts awaited o → Calls n ts' awaited o
  calls_grow x = record {
    strand = x.strand;
    is_active = x.is_active;
    sound = strand_grows x.strand x.sound;
    selected = x.selected;
    is_selected = x.is_selected;
    waits_for = x.waits_for;
  }

pub active_grows : (n : ℕ) {ts ts' : Tables} → Grows Above ts ts' → (o : Option Strand) → Active n ts o → Active n ts' o
active_grows n g none x = tt
active_grows n g (some s) x = strand_grows g s x

-- The forest after a step: sound, with a clock that did not go back, its tables grown.
pub record Kept (n : ℕ) (f f' : Forest) : Type 0 where
  pub sound : SoundForest n f'
  pub clock_kept : f.clock ≤ f'.clock
  pub grows : Grows Steady f.tables f'.tables

pub kept_same : {n : ℕ} {f : Forest} → SoundForest n f → Kept n f f
kept_same {n} {f} s = record { sound = s; clock_kept = omega arith; grows = grows_same steady_same f.tables }

pub kept_trans : {n : ℕ} {f g h : Forest} → Kept n f g → Kept n g h → Kept n f h
kept_trans a b = record {
  sound = b.sound;
  clock_kept = let x = a.clock_kept in let y = b.clock_kept in omega arith;
  grows = steady_trans a.grows b.grows;
}

module _ {n : ℕ} {f : Forest} (s : SoundForest n f) (i : ℕ) {t : Table} (e : get_elem? f.tables i ≡ some t) (t' : Table) where
  -- any change
  set_back : SameGoal t t' → (j : ℕ) (u : Table) → get_elem? (set f.tables i t') j ≡ some u
      → (v : Table) × (get_elem? f.tables j ≡ some v) × (v.table_goal ≡ u.table_goal)
  set_back same j u k = on (ℕ_discrete i j)
    where
      on : Dec (i ≡ j) → (v : Table) × (get_elem? f.tables j ≡ some v) × (v.table_goal ≡ u.table_goal)
      on (yes q) = (
        t,
        subst (λ z. get_elem? f.tables z ≡ some t) q e,
        sym same.0
            ∙ ap (λ z. z.table_goal) (same_some (sym (set_here f.tables i t t' e) ∙ ap (get_elem? (set f.tables i t')) q ∙ k)),
      )
      on (no q) = (u, sym (set_other f.tables i j t' q) ∙ k, refl)

  pub set_sound : SameGoal t t' → Above t t' → SoundTable n f.tables t' → held f + length t'.answers ≤ 256 + length t.answers
      → queued f + length t'.strands ≤ 256 + length t.strands → SoundForest n (with_tables f (set f.tables i t'))
  set_sound same r x room places =
      let g = grows_set {R = Above} above_same f.tables i t t' e r in
      record {
        goals = s.goals;
        few_goals = s.few_goals;
        tables_apart = λ j k u v a b c. let p = set_back same j u a in let q = set_back same k v b in
            s.tables_apart j k p.0 q.0 p.1 q.1 (p.2 ∙ c ∙ sym q.2);
        sound_book = s.sound_book;
        as_goals = all_set i s.as_goals (λ g q. same.1 ∙ all_at i s.as_goals e g (ap (get_elem? f.book) (sym same.0) ∙ q));
        sound_tables = all_set i (all_map (table_grows g) s.sound_tables) (table_grows g t' x);
        few_answers = let y = total_set (λ u. length u.answers) f.tables i t t' e in omega arith;
        few_strands = let y = total_set (λ u. length u.strands) f.tables i t t' e in omega arith;
        clock_within = s.clock_within;
        limit_within = s.limit_within;
      }

  pub set_kept : SameGoal t t' → Steady t t' → SoundTable n f.tables t' → held f + length t'.answers ≤ 256 + length t.answers
      → queued f + length t'.strands ≤ 256 + length t.strands → Kept n f (with_tables f (set f.tables i t'))
  set_kept same r x room places = record {
    sound = set_sound same (steady_above r) x room places;
    clock_kept = omega arith;
    grows = grows_set {R = Steady} steady_same f.tables i t t' e r;
  }

-- the table at a place is sound
pub table_sound : {n : ℕ} {f : Forest} → SoundForest n f → (i : ℕ) {t : Table} → get_elem? f.tables i ≡ some t
    → SoundTable n f.tables t
table_sound s i e = all_at i s.sound_tables e

module _ {n : ℕ} {f : Forest} (s : SoundForest n f) (i : ℕ) {t : Table} (e : get_elem? f.tables i ≡ some t) where
  -- another queue
  pub strands_kept : (ss : List Strand) → (t.floundered ≡ true → ss ≡ []) → queued f + length ss ≤ 256 + length t.strands
      → All (SoundStrand n f.tables) ss → Kept n f (with_tables f (set f.tables i (with_strands t ss)))
  strands_kept ss w places x =
      let y = table_sound s i e in
      let few = s.few_answers in
      set_kept s i e (with_strands t ss) (refl, refl) (record { same_floundered = refl; more_answers = omega arith }) (record {
        goal_named = y.goal_named;
        sound_strands = x;
        sound_answers = y.sound_answers;
        floundered_empty = λ q. (w q, (y.floundered_empty q).1);
      }) (omega arith) places

  pub enqueue_kept : queued f < 256 → t.floundered ≡ false → (strand : Strand) → SoundStrand n f.tables strand
      → Kept n f (with_tables f (set f.tables i (enqueue_strand strand t)))
  enqueue_kept free u strand x = strands_kept (t.strands ++ (strand ∷ [])) (λ q. absurd (true≢false (sym q ∙ u)))
      (let y : length (t.strands ++ (strand ∷ [])) ≡ length t.strands + 1 = length-append t.strands (strand ∷ []) in omega arith)
      (all_push (table_sound s i e).sound_strands x)

-- a strand more is queued
pub queued_enqueue : (f : Forest) (i : ℕ) (t : Table) (s : Strand) → get_elem? f.tables i ≡ some t
    → queued (with_tables f (set f.tables i (enqueue_strand s t))) ≡ suc (queued f)
queued_enqueue f i t s e =
    let x : length (t.strands ++ (s ∷ [])) ≡ length t.strands + 1 = length-append t.strands (s ∷ []) in
    let y = total_set (λ u. length u.strands) f.tables i t (enqueue_strand s t) e in
    omega arith

-- the statements that name a table
pub table_is : (f : Forest) (i : ℕ) (t : Table) → get_elem? f.tables i ≡ some t → table_at f i ≡ go t
table_is f i t e = rw e

pub change_is : (f : Forest) (i : ℕ) (t : Table) (change : Table → Table) → get_elem? f.tables i ≡ some t
    → change_table f i change ≡ go (with_tables f (set f.tables i (change t)))
change_is f i t change e = rw e

-- A search over the grown forest.

module _ {ts ts' : Tables} (g : Grows Steady ts ts') where
  pub standing_grows : {first table clock : ℕ} {m : Minimums} → Standing ts first table clock m → Standing ts' first table clock m
  standing_grows {table = table} x =
      let y = g.grown table x.own x.is_made in
      record {
        own = y.after;
        is_made = y.is_made;
        unfloundered = y.related.same_floundered ∙ x.unfloundered;
        clock_late = x.clock_late;
        positive_late = x.positive_late;
        negative_late = x.negative_late;
      }

  pub below_grows : (n root first table clock : ℕ) (es : Stack) → Below n ts root first table clock es
      → Below n ts' root first table clock es
  below_grows n root first table clock [] x = x
  below_grows n root first table clock (e ∷ es) x =
      (standing_grows x.0, calls_grow (grows_above g) x.1, below_grows n root first e.table e.clock es x.2, x.3)

  pub rooted_grows : {root index : ℕ} → Rooted ts root index → Rooted ts' root index
  rooted_grows {root} {index} x = let y = g.grown root x.own x.is_made in record {
    own = y.after;
    is_made = y.is_made;
    enough = let p = x.enough in let q = y.related.more_answers in omega arith;
  }

pub searching_kept : {n root index first : ℕ} {f f' : Forest} {table clock : ℕ} {m : Minimums} {es : Stack}
    → Searching n root index first f table clock m es → Kept n f f' → Searching n root index first f' table clock m es
searching_kept {n} {root} {index} {first} {f} {f'} {table} {clock} {m} {es} x k = record {
  forest = k.sound;
  begun = let p = x.begun in let q = k.clock_kept in omega arith;
  rooted = rooted_grows k.grows x.rooted;
  standing = standing_grows k.grows x.standing;
  below = below_grows k.grows n root first table clock es x.below;
  off = x.off;
}

-- the clock goes on
pub ticks : {n : ℕ} {f : Forest} → SoundForest n f → Safe (λ f'. Kept n f f' × (queued f' ≡ queued f)) (increment_clock f)
ticks {n} {f} s = guard (leb f.clock_limit f.clock) 21 tt (λ b. goes (
  record {
    sound = record {
      goals = s.goals;
      few_goals = s.few_goals;
      tables_apart = s.tables_apart;
      as_goals = s.as_goals;
      sound_book = s.sound_book;
      sound_tables = s.sound_tables;
      few_answers = s.few_answers;
      few_strands = s.few_strands;
      clock_within = leb-false f.clock_limit f.clock b;
      limit_within = s.limit_within;
    };
    clock_kept = omega arith;
    grows = grows_same steady_same f.tables;
  },
  refl,
))

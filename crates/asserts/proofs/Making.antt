-- Making a table: the goal is in the book, and the new table is sound.
use Prim.Native.Nat.{ℕ, ◌+◌, ◌≤◌, ◌<◌}
use native.Mathlib.Omega.{arith}
use borrow.Author.Tests.{eq-eqb, leb-false}
use mathlib.Core.Path.{◌≡◌, refl, sym, ap, ◌∙◌}
use mathlib.Core.Logic.{◌⊎◌, inl, inr}
use mathlib.Core.Option.{Option, none, some}
use mathlib.Core.List.{List, [], ◌∷◌, ◌++◌, map}
use lib.ListN.{length, get_elem?}
use lib.Dec.{eqb, ltb}
use mathlib.Core.Bool.{true≢false, false≢true}
use Rattle.definitions.specs.{TableIndex}
use Rattle.definitions.specs.Book.{Clause, Literal, goal_of, Book}
use Rattle.definitions.specs.Fitting.{gets_table}
use Rattle.definitions.specs.Table.{Table}
use Rattle.definitions.specs.Tables.{Tables, Forest, with_tables, index_of, queued}
use Rattle.definitions.specs.Logic.{initial_strand, build_table, get_or_create_table_for_ucanonical_goal, get_or_create_table_for_subgoal}
use Rattle.definitions.proofs.Lists.{all_push, position_at, position_none}
use Rattle.laws.proofs.Lists.{last_one, at_place, at_push}
use Rattle.laws.proofs.Options.{no_such, same_some}
use Rattle.laws.specs.All.{All, end, more}
use Rattle.laws.proofs.All.{all_at, all_map}
use Rattle.laws.proofs.Totals.{total_append}
use Rattle.asserts.proofs.Safe.{Safe, goes, after, known, guard, by_bool, by_option, unwraps}
use Rattle.asserts.specs.Sound.{AsGoal, Named, SoundStrand, SoundTable, SoundForest}
use Rattle.asserts.proofs.Keeping.{Steady, grows_push, grows_above, steady_same, table_grows, Kept, kept_same}

-- a table just built
pub record Fresh (n goal : ℕ) (book : Book) (t : Table) : Type 0 where
  pub as_goal : AsGoal book t
  pub for_goal : t.table_goal ≡ goal
  pub sound : (ts : Tables) → SoundTable n ts t
  pub unanswered : length t.answers ≡ 0

initial_sound : {n : ℕ} (ts : Tables) {cs : List Clause} → All (λ c. All (Named n) c.literals × (length c.literals ≤ 8)) cs
    → All (SoundStrand n ts) (map initial_strand cs)
initial_sound ts end = end
initial_sound ts (more {a = c} p x) =
    more {a = initial_strand c} (
      record {
        subgoals_named = p.0;
        floundered_named = end;
        delayed_named = end;
        few_literals = let o = p.1 in omega arith;
        few_delayed = omega arith;
      },
      tt,
    ) (initial_sound ts x)

built : {n : ℕ} {f : Forest} → SoundForest n f → (goal : ℕ) → goal < n → Safe (Fresh n goal f.book) (build_table f.book goal)
built {n} {f} s goal lt =
    let q = s.goals in
    let g = at_place f.book goal (omega arith) in
    known _ (unwraps (get_elem? f.book goal) g.0 g.1)
    (by_bool g.0.floundered
    (λ e. goes (record {
      sound = λ ts. record { goal_named = lt; sound_strands = end; sound_answers = end; floundered_empty = λ q. (refl, refl) };
      for_goal = refl;
      as_goal = λ h q. ap (λ z. z.coinductive) (same_some (sym g.1 ∙ q));
      unanswered = refl;
    }))
    (λ e. goes (record {
      sound = λ ts. record {
        goal_named = lt;
        sound_strands = initial_sound ts (all_at goal s.sound_book g.1);
        sound_answers = end;
        floundered_empty = λ q. absurd (false≢true q);
      };
      for_goal = refl;
      as_goal = λ h q. ap (λ z. z.coinductive) (same_some (sym g.1 ∙ q));
      unanswered = refl;
    })))

push_kept : {n : ℕ} {f : Forest} → SoundForest n f → (goal : ℕ) → index_of goal f.tables ≡ none → (t : Table) → Fresh n goal f.book t
    → queued (with_tables f (f.tables ++ (t ∷ []))) ≤ 256 → Kept n f (with_tables f (f.tables ++ (t ∷ [])))
push_kept {n} {f} s goal new t x places =
    let g = grows_push {R = Steady} steady_same f.tables t in
    record {
      sound = record {
        goals = s.goals;
        few_goals = s.few_goals;
        as_goals = all_push s.as_goals x.as_goal;
        tables_apart = λ i j u v a b c. apart i j u v (at_push f.tables t i u a) (at_push f.tables t j v b) c;
        sound_book = s.sound_book;
        sound_tables = all_push (all_map (table_grows (grows_above g)) s.sound_tables) (x.sound _);
        few_strands = places;
        few_answers = let y = total_append (λ u. length u.answers) f.tables (t ∷ []) in let z = x.unanswered in
            let w = s.few_answers in omega arith;
        clock_within = s.clock_within;
        limit_within = s.limit_within;
      };
      clock_kept = omega arith;
      grows = g;
    }
  where
    not_new : (i : ℕ) (u : Table) → get_elem? f.tables i ≡ some u → u.table_goal ≡ goal → ⊥
    not_new i u a q =
        true≢false (sym (eq-eqb u.table_goal goal q) ∙ position_none (λ v. eqb v.table_goal goal) f.tables new i u a)

    apart : (i j : ℕ) (u v : Table) → (get_elem? f.tables i ≡ some u) ⊎ ((t ≡ u) × (i ≡ length f.tables))
        → (get_elem? f.tables j ≡ some v) ⊎ ((t ≡ v) × (j ≡ length f.tables)) → u.table_goal ≡ v.table_goal → i ≡ j
    apart i j u v (inl a) (inl b) c = s.tables_apart i j u v a b c
    apart i j u v (inl a) (inr b) c = absurd (not_new i u a (c ∙ ap (λ z. z.table_goal) (sym b.0) ∙ x.for_goal))
    apart i j u v (inr a) (inl b) c = absurd (not_new j v b (sym c ∙ ap (λ z. z.table_goal) (sym a.0) ∙ x.for_goal))
    apart i j u v (inr a) (inr b) c = a.1 ∙ sym b.1

-- the forest with a table at that place
pub record MadeAt (n others : ℕ) (f : Forest) (i : TableIndex) (f' : Forest) : Type 0 where
  pub kept : Kept n f f'
  pub places : others + queued f' ≤ 256
  pub own : Table
  pub is_made : get_elem? f'.tables i ≡ some own

pub makes : {n : ℕ} {f : Forest} → SoundForest n f → (others goal : ℕ) → others + queued f ≤ 256 → goal < n
    → Safe (λ r. MadeAt n others f r.0 r.1) (get_or_create_table_for_ucanonical_goal others f goal)
makes {n} {f} s others goal free lt = by_option (index_of goal f.tables)
    (λ e. after (built s goal lt) (λ t x. guard (ltb 256 (others + queued (with_tables f (f.tables ++ (t ∷ []))))) 22 tt
    (λ b. let o = leb-false 257 (others + queued (with_tables f (f.tables ++ (t ∷ [])))) b in
    goes (record {
      places = omega arith;
      kept = push_kept s goal e t x (omega arith);
      own = t;
      is_made = last_one f.tables t;
    }))))
    (λ i e. let r = position_at (λ t. eqb t.table_goal goal) f.tables i e in
    goes (record { places = free; kept = kept_same s; own = r.0; is_made = r.1 }))

-- the same for a literal, which may get none
pub record FoundFor (n others : ℕ) (f : Forest) (o : Option TableIndex) (f' : Forest) : Type 0 where
  pub kept : Kept n f f'
  pub places : others + queued f' ≤ 256
  pub made : (i : TableIndex) → o ≡ some i → (t : Table) × (get_elem? f'.tables i ≡ some t)

pub makes_for : {n : ℕ} {f : Forest} → SoundForest n f → (others : ℕ) (l : Literal) → others + queued f ≤ 256 → Named n l
    → Safe (λ r. FoundFor n others f r.0 r.1) (get_or_create_table_for_subgoal others f l)
makes_for {n} {f} s others l free lt = by_bool (gets_table l)
    (λ e. after (makes s others (goal_of l) free lt) (λ r x. goes (record {
      places = x.places;
      kept = x.kept;
      made = λ i e. (x.own, ap (get_elem? r.1.tables) (sym (same_some e)) ∙ x.is_made);
    })))
    (λ e. goes (record { places = free; kept = kept_same s; made = λ i e. absurd (no_such e) }))

-- Choosing a literal: the passes that are allowed are enough, and where nothing is chosen and no literal is left, floundered ones
-- make the strand ambiguous.
use Prim.Native.Nat.{ℕ, zero, suc, ◌+◌, ◌*◌, ◌≤◌, ◌<◌, min}
use native.Mathlib.Omega.{arith}
use mathlib.Core.Path.{◌≡◌, refl, sym, ap, subst}
use mathlib.Core.Bool.{Bool, true, false, not, ◌&&◌, true≢false, false≢true}
use mathlib.Core.Logic.{inr}
use mathlib.Core.Option.{Option, none, some}
use mathlib.Core.List.{List, [], ◌∷◌}
use lib.ListN.{length, get_elem?}
use lib.Dec.{ltb}
use Rattle.definitions.specs.{ExClause, FlounderedSubgoal}
use Rattle.definitions.specs.Book.{Literal, Positive, Negative}
use Rattle.definitions.specs.Stop.{Stops, go, ◌>>=◌, ◌>>◌, stop_if, unwrap}
use Rattle.definitions.specs.Lists.{is_empty, total}
use Rattle.definitions.specs.Strand.{SelectedSubgoal, Strand, with_ex_clause, with_selected, with_ambiguous}
use Rattle.definitions.specs.Table.{Table}
use Rattle.definitions.specs.Tables.{Tables, Forest, table_at, queued}
use Rattle.definitions.specs.Stack.{active}
use Rattle.definitions.specs.Slg.{next_subgoal_index}
use Rattle.definitions.specs.Logic.{SubGoalSelection, Selected, NotSelected, SolveState, Selection, selecting, flounder_subgoal}
use Rattle.definitions.specs.Logic.{reconsider_floundered_subgoals, propagate_floundered_subgoal, get_or_create_table_for_subgoal}
use Rattle.definitions.specs.Logic.{select_from, select_subgoal}
use Rattle.definitions.proofs.Lists.{is_nil, not_nil, no_nil}
use Rattle.laws.proofs.Lists.{at_place}
use Rattle.laws.proofs.All.{all_at}
use Rattle.asserts.proofs.Safe.{Safe, goes, after, weaker, known, asserted, by_bool, by_option}
use Rattle.asserts.proofs.Safe.{unwraps}
use Rattle.asserts.specs.Sound.{Awaits, Selects, SoundClause, SoundStrand, SoundForest}
use Rattle.asserts.proofs.Keeping.{Kept, kept_same, kept_trans, table_is}
use Rattle.asserts.proofs.Making.{makes_for}
use Rattle.asserts.proofs.Returning.{late, lates, Floundered, flounders, returns}

-- the strand waits on a table that is not floundered
pub record Ready (f : Forest) (s : Strand) : Type 0 where
  pub selected : SelectedSubgoal
  pub is_selected : s.selected_subgoal ≡ some selected
  pub own : Table
  pub is_made : get_elem? f.tables selected.subgoal_table ≡ some own
  pub unfloundered : own.floundered ≡ false

-- what is known after the choice
abbrev pub Choice : Forest → Strand → SubGoalSelection → Type 0
Choice f s Selected = Ready f s
Choice f s NotSelected = is_empty s.ex_clause.subgoals ≡ true
    → (not (is_empty s.ex_clause.floundered_subgoals) && not s.ex_clause.ambiguous) ≡ false

pub record Chosen (n others : ℕ) (f : Forest) (c : Selection) : Type 0 where
  pub kept : Kept n f c.forest
  pub places : others + queued c.forest ≤ 256
  pub sound : SoundStrand n c.forest.tables c.strand
  pub choice : Choice c.forest c.strand c.selection

chosen_after : {n others : ℕ} {f f' : Forest} {r : Stops Selection} → Kept n f f' → Safe (Chosen n others f') r → Safe (Chosen n others f) r
chosen_after k x = weaker x (λ c y. record { kept = kept_trans k y.kept; places = y.places; sound = y.sound; choice = y.choice })

-- A selected literal over a floundered table.

pub record Propagated (n : ℕ) (ts : Tables) (s : Strand) (stuck : Bool) (s' : Strand) : Type 0 where
  pub sound : SoundStrand n ts s'
  pub when_stuck : stuck ≡ true → 0 < length s'.ex_clause.subgoals
  pub when_gone : stuck ≡ false → Floundered n s.ex_clause s'.ex_clause × (s'.selected_subgoal ≡ none)

propagates : {n : ℕ} {ts : Tables} (s : Strand) → SoundClause n s.ex_clause → (selected : SelectedSubgoal)
    → selected.subgoal_index < length s.ex_clause.subgoals
    → Safe (λ r. Propagated n ts s r.0 r.1) (propagate_floundered_subgoal s selected)
propagates {n} {ts} s x selected lt =
    let l = at_place s.ex_clause.subgoals selected.subgoal_index lt in
    known _ (unwraps (get_elem? s.ex_clause.subgoals selected.subgoal_index) l.0 l.1) (by_literal l.0)
  where
    some_there : 0 < length s.ex_clause.subgoals
    some_there = omega arith

    by_literal : (l : Literal) → Safe (λ (r : Bool × Strand). Propagated n ts s r.0 r.1) (elim l [
      | Positive goal want outsized ↦ flounder_subgoal s.ex_clause selected.subgoal_index >>= λ x. go
          (false, with_ex_clause (with_selected s none) x)
      | Negative goal outsized ↦ go (true, with_selected s none)
    ])
    by_literal (Positive goal want outsized) = after (flounders x selected.subgoal_index lt) (λ x' y. goes (record {
      sound = (y.clause, tt);
      when_stuck = λ e. absurd (false≢true e);
      when_gone = λ e. (y, refl);
    }))
    by_literal (Negative goal outsized) = goes (record {
      sound = (x, tt);
      when_stuck = λ e. some_there;
      when_gone = λ e. absurd (true≢false e);
    })

-- The passes.

abbrev busy : Option SelectedSubgoal → ℕ
busy none = 0
busy (some selected) = 1

-- the passes that are still needed
abbrev Enough : (passes : ℕ) → ExClause → Option SelectedSubgoal → Type 0
Enough p x o = 2 * length x.subgoals + 2 * lates x + min 1 (lates x) < p + busy o

abbrev Chooses : (n others passes : ℕ) → Type 0
Chooses n others p = (f : Forest) (s : Strand) → SoundForest n f → SoundStrand n f.tables s → others + queued f ≤ 256
    → Enough p s.ex_clause s.selected_subgoal → Safe (Chosen n others f) (select_from p others f s)

module _ (n others p : ℕ) (ih : Chooses n others p) (f : Forest) (s : Strand) (sf : SoundForest n f) (ss : SoundStrand n f.tables s)
    (free : others + queued f ≤ 256) (room : Enough (suc p) s.ex_clause s.selected_subgoal) where
  is_busy : (o : Option SelectedSubgoal) (selected : SelectedSubgoal) → o ≡ some selected → busy o ≡ 1
  is_busy o selected e = ap busy e

  is_idle : (o : Option SelectedSubgoal) → o ≡ none → busy o ≡ 0
  is_idle o e = ap busy e

  -- nothing is selected, and only floundered literals are left
  reconsider : s.selected_subgoal ≡ none → is_empty s.ex_clause.subgoals ≡ true → is_empty s.ex_clause.floundered_subgoals ≡ false
      → Safe (Chosen n others f) (
      let x = reconsider_floundered_subgoals s.ex_clause in
      elim (is_empty x.subgoals) [
        | true ↦ stop_if (is_empty x.floundered_subgoals) 0 >> go (selecting NotSelected (with_ex_clause s (with_ambiguous x true)) f)
        | false ↦ select_from p others f (with_ex_clause s x)
      ])
  reconsider e no_literal some-floundered =
      let x = reconsider_floundered_subgoals s.ex_clause in
      let r = returns s.ex_clause ss.0 in
      let idle = is_idle s.selected_subgoal e in
      let zero-literals = is_nil s.ex_clause.subgoals no_literal in
      let floundered-there = not_nil s.ex_clause.floundered_subgoals some-floundered in
      let a = r.returned in
      let b = r.none_late in
      let c = r.together in
      let selects : (k : ℕ) → Selects f.tables k s.selected_subgoal = λ k. subst (Selects f.tables k) (sym e) tt in
      by_bool (is_empty x.subgoals)
      (λ q. let z = is_nil x.subgoals q in asserted (is_empty x.floundered_subgoals) 0 (no_nil x.floundered_subgoals (omega arith))
      (goes (record {
        kept = kept_same sf;
        places = free;
        sound = (
          record {
            subgoals_named = r.clause.subgoals_named;
            floundered_named = r.clause.floundered_named;
            delayed_named = r.clause.delayed_named;
            few_literals = r.clause.few_literals;
            few_delayed = r.clause.few_delayed;
          },
          selects (length x.subgoals),
        );
        choice = λ w. rw (no_nil x.floundered_subgoals (omega arith));
      })))
      (λ q. let z = not_nil x.subgoals q in ih f (with_ex_clause s x) sf (r.clause, selects (length x.subgoals)) free (omega arith))

  -- nothing is selected, and there is a literal
  choose : s.selected_subgoal ≡ none → is_empty s.ex_clause.subgoals ≡ false → Safe (Chosen n others f) (
      let i = next_subgoal_index s.ex_clause in
      unwrap (get_elem? s.ex_clause.subgoals i) >>= λ literal. get_or_create_table_for_subgoal others f
      literal >>= λ found. elim found.0 [
        | some table ↦ select_from p others found.1
            (with_selected s (some (record { subgoal_index = i; subgoal_table = table; answer_index = 0 })))
        | none ↦ flounder_subgoal s.ex_clause i >>= λ x. select_from p others f (with_ex_clause s x)
      ])
  choose e some-literal =
      let i = next_subgoal_index s.ex_clause in
      let there = not_nil s.ex_clause.subgoals some-literal in
      let idle = is_idle s.selected_subgoal e in
      let l = at_place s.ex_clause.subgoals i (omega arith) in
      known _ (unwraps (get_elem? s.ex_clause.subgoals i) l.0 l.1)
      (after (makes_for sf others l.0 free (all_at i ss.0.subgoals_named l.1)) (λ found m. by_option found.0
      (λ q. after (flounders ss.0 i (omega arith)) (λ x y.
      let a = y.fewer in
      let b = y.same_lates in
      ih f (with_ex_clause s x) sf (y.clause, subst (Selects f.tables (length x.subgoals)) (sym e) tt) free (omega arith)))
      (λ t q.
      let w = m.made t q in
      chosen_after m.kept (ih found.1 (with_selected s (some (record { subgoal_index = i; subgoal_table = t; answer_index = 0 })))
      m.kept.sound (
        ss.0,
        record {
          at_literal = omega arith;
          is_last = omega arith;
          table = w.0;
          is_made = w.1;
          reached = inr (omega arith);
        },
      ) m.places (omega arith)))))

  -- something is selected
  on_selected : (selected : SelectedSubgoal) → s.selected_subgoal ≡ some selected → Safe (Chosen n others f) (
      table_at f selected.subgoal_table >>= λ table. elim table.floundered [
        | false ↦ go (selecting Selected s f)
        | true ↦ propagate_floundered_subgoal s selected >>= λ propagated. elim propagated.0
            [ true ↦ go (selecting NotSelected propagated.1 f) | false ↦ select_from p others f propagated.1 ]
      ])
  on_selected selected e =
      let w : Awaits f.tables (length s.ex_clause.subgoals) selected =
      subst (Selects f.tables (length s.ex_clause.subgoals)) e ss.1 in
      let one = is_busy s.selected_subgoal selected e in
      known _ (table_is f selected.subgoal_table w.table w.is_made)
      (by_bool w.table.floundered
      (λ q. after (propagates {ts = f.tables} s ss.0 selected w.at_literal) (λ r y. by_bool r.0
      (λ stuck. goes (record {
        kept = kept_same sf;
        places = free;
        sound = y.sound;
        choice = λ k. let z = y.when_stuck stuck in let z' = is_nil r.1.ex_clause.subgoals k in absurd (omega arith);
      }))
      (λ gone. let z = y.when_gone gone in let a = z.0.fewer in let b = z.0.same_lates in
      let c = is_idle r.1.selected_subgoal z.1 in ih f r.1 sf y.sound free (omega arith))))
      (λ q. goes (record {
        kept = kept_same sf;
        places = free;
        sound = ss;
        choice = record { selected = selected; is_selected = e; own = w.table; is_made = w.is_made; unfloundered = q };
      })))

  a_pass : Safe (Chosen n others f) (select_from (suc p) others f s)
  a_pass = by_option s.selected_subgoal
      (λ e. by_bool (is_empty s.ex_clause.subgoals)
      (λ no_literal. by_bool (is_empty s.ex_clause.floundered_subgoals)
      (λ no_floundered. goes (record { kept = kept_same sf; places = free; sound = ss; choice = λ q. rw no_floundered }))
      (λ some-floundered. reconsider e no_literal some-floundered))
      (λ some-literal. choose e some-literal))
      (λ selected e. on_selected selected e)

chooses : (n others p : ℕ) → Chooses n others p
chooses n others zero f s sf ss free room = absurd (none_left s.selected_subgoal ss.1 room)
  where
    none_left : (o : Option SelectedSubgoal) → Selects f.tables (length s.ex_clause.subgoals) o → Enough 0 s.ex_clause o → ⊥
    none_left none w r = omega arith
    none_left (some selected) w r = let z = w.at_literal in omega arith
chooses n others (suc p) f s sf ss free room = a_pass n others p (chooses n others p) f s sf ss free room

pub lates_few : (x : ExClause) → lates x ≤ length x.floundered_subgoals
lates_few x = go' x.floundered_subgoals
  where
    one : (b : Bool) → elim b [ true ↦ 1 | false ↦ 0 ] ≤ 1
    one true = omega arith
    one false = omega arith

    go' : (l : List FlounderedSubgoal) → total (late x.answer_time) l ≤ length l
    go' [] = omega arith
    go' (a ∷ l) = let y = go' l in let z = one (ltb a.floundered_time x.answer_time) in omega arith

pub selects_safely : {n : ℕ} (s : SolveState) (strand : Strand) → SoundForest n s.forest → SoundStrand n s.forest.tables strand
    → queued s.forest + active s.stack < 256 → Safe (Chosen n (active s.stack + 1) s.forest) (select_subgoal s strand)
selects_safely {n} s strand sf ss free =
    let few = lates_few strand.ex_clause in
    chooses n (active s.stack + 1) (2 * (length strand.ex_clause.subgoals + length strand.ex_clause.floundered_subgoals) + 4)
    s.forest strand sf ss (omega arith) (omega arith)

-- A strand with nothing left to choose: its answer is stored, and the caller goes on with it or the search has its result.
use Prim.Native.Nat.{ℕ, suc, ◌+◌, ◌≤◌, ◌<◌}
use native.Mathlib.Omega.{arith}
use borrow.Author.Tests.{leb-false, not-false}
use mathlib.Core.Path.{◌≡◌, refl, sym, subst, ◌∙◌}
use mathlib.Core.Bool.{true, false, not, ◌&&◌, true≢false}
use mathlib.Core.Logic.{inl, inr}
use mathlib.Core.Option.{Option, none, some}
use mathlib.Core.List.{List, [], ◌∷◌, ◌++◌}
use lib.ListN.{length, get_elem?, set, length-append}
use lib.Dec.{eqb, leb}
use Rattle.definitions.specs.{Answer}
use Rattle.definitions.specs.Fitting.{is_trivial, is_outsized}
use Rattle.definitions.specs.Lists.{is_empty, push}
use Rattle.definitions.specs.Strand.{Strand}
use Rattle.definitions.specs.Table.{Table, with_answers, take_strands, mark_floundered, equal_answer, push_answer}
use Rattle.definitions.specs.Tables.{Tables, Forest, with_tables, queued, held}
use Rattle.definitions.specs.Stack.{StackEntry, Stack, active}
use Rattle.definitions.specs.Turn.{other_than, pursue_answer}
use Rattle.definitions.proofs.Lists.{length_other_than, all_push}
use Rattle.laws.proofs.Lists.{last_one, set_here, set_other}
use Rattle.laws.proofs.Options.{no_such, same_some}
use Rattle.laws.specs.All.{All, end, more}
use Rattle.laws.proofs.All.{all_first, all_rest}
use Rattle.laws.proofs.Bools.{case_bool}
use Rattle.laws.proofs.Totals.{total_set}
use Rattle.asserts.proofs.Safe.{Safe, goes, after, known, guard, asserted, by_bool, by_option}
use Rattle.asserts.specs.Sound.{Goals, SoundAnswer, SoundClause, SoundTable, SoundStack, Off}
use Rattle.asserts.proofs.Keeping.{SameGoal, Above, Grows, calls_grow, Steady, above_same, grows_set, Kept, set_sound}
use Rattle.asserts.proofs.Keeping.{set_kept, table_is, change_is, table_sound}
use Rattle.asserts.proofs.Unwinding.{Waits, Ended, searching_ended, searching_waits}

other-goals : {n : ℕ} (goal : ℕ) {ds : List ℕ} → Goals n ds → Goals n (other_than goal ds)
other-goals goal end = end
other-goals {n} goal (more {a = d} p x) = case_bool (Goals n) (eqb d goal) (λ e. other-goals goal x) (λ e. more p (other-goals goal x))

-- a table with one answer more
record Longer (n : ℕ) (ts : Tables) (a : Answer) (t t' : Table) : Type 0 where
  sound : SoundTable n ts t'
  steady : Steady t t'
  same-goal : SameGoal t t'
  fewer : length t'.strands ≤ length t.strands
  one_more : length t'.answers ≡ suc (length t.answers)
  there : get_elem? t'.answers (length t.answers) ≡ some a

longer : {n : ℕ} {ts : Tables} {t : Table} → SoundTable n ts t → t.floundered ≡ false → (a : Answer) → SoundAnswer n a
    → Longer n ts a t (with_answers t (push t.answers a))
longer {n} {ts} {t} s u a g =
    let e : length (t.answers ++ (a ∷ [])) ≡ length t.answers + 1 = length-append t.answers (a ∷ []) in
    record {
      sound = record {
        goal_named = s.goal_named;
        sound_strands = s.sound_strands;
        sound_answers = all_push s.sound_answers g;
        floundered_empty = λ q. absurd (true≢false (sym q ∙ u));
      };
      same-goal = (refl, refl);
      fewer = omega arith;
      steady = record { same_floundered = refl; more_answers = omega arith };
      one_more = omega arith;
      there = last_one t.answers a;
    }

emptied : {n : ℕ} {ts : Tables} {a : Answer} {t t' : Table} → Longer n ts a t t' → Longer n ts a t (take_strands t')
emptied x = record {
  sound = record {
    goal_named = x.sound.goal_named;
    sound_strands = end;
    sound_answers = x.sound.sound_answers;
    floundered_empty = λ q. (refl, (x.sound.floundered_empty q).1);
  };
  same-goal = x.same-goal;
  fewer = omega arith;
  steady = record { same_floundered = x.steady.same_floundered; more_answers = x.steady.more_answers };
  one_more = x.one_more;
  there = x.there;
}

record Pushed (n : ℕ) (ts : Tables) (held : ℕ) (a : Answer) (t : Table) (o : Option ℕ) (t' : Table) : Type 0 where
  when-new : (i : ℕ) → o ≡ some i → (i ≡ length t.answers) × (held < 256) × Longer n ts a t t'

pushes : {n : ℕ} {ts : Tables} {t : Table} → SoundTable n ts t → t.floundered ≡ false → (h : ℕ) (a : Answer) → SoundAnswer n a
    → Safe (λ r. Pushed n ts h a t r.0 r.1) (push_answer h a t)
pushes {t = t} s u h a g = asserted t.floundered 0 u (by_option (equal_answer a t.answers)
    (λ e. guard (leb 256 h) 23 tt (λ b. goes (record { when-new = λ i q. (sym (same_some q), leb-false 256 h b, longer s u a g) })))
    (λ was e. guard (was.ambiguous && not a.ambiguous) 26 tt (λ b. goes (record { when-new = λ i q. absurd (no_such q) }))))

module _ (n root index first : ℕ) (f : Forest) (e : StackEntry) (es : Stack) (x : SoundStack n root index first f (e ∷ es)) where
  -- the top's table has the answer
  pub record Answered (i : ℕ) (f' : Forest) : Type 0 where
    pub kept : Kept n f f'
    pub fewer : queued f' ≤ queued f
    pub after_table : Table
    pub is_made : get_elem? f'.tables e.table ≡ some after_table
    pub unfloundered : after_table.floundered ≡ false
    pub the_answer : Answer
    pub there : get_elem? after_table.answers i ≡ some the_answer
    pub one_more : length after_table.answers ≡ suc (length x.0.standing.own.answers)

  abbrev pub Pursued : Option ℕ → Forest → Type 0
  Pursued none f' = Ended n root index f' × (queued f' + active es ≤ 256) × All (Waits n f'.tables) es
  Pursued (some i) f' = Answered i f'

  unchanged : Pursued none f
  unchanged = let o = x.2 in (searching_ended x.0, (omega arith), searching_waits x.0)

  marked : Pursued none (with_tables f (set f.tables e.table (mark_floundered x.0.standing.own)))
  marked =
      let k = x.0.standing.is_made in
      let few = x.0.forest.few_answers in
      let places = x.2 in
      let less = total_set (λ u. length u.strands) f.tables e.table x.0.standing.own (mark_floundered x.0.standing.own)
      k in
      let r : Above x.0.standing.own (mark_floundered x.0.standing.own) = λ j y. inl refl in
      let g = grows_set {R = Above} above_same f.tables e.table x.0.standing.own (mark_floundered x.0.standing.own) k r in
      let s = set_sound x.0.forest e.table k (mark_floundered x.0.standing.own) (refl, refl) r (record {
        goal_named = (table_sound x.0.forest e.table k).goal_named;
        sound_strands = end;
        sound_answers = end;
        floundered_empty = λ q. (refl, refl);
      }) (omega arith) (omega arith) in
      let t = g.grown root x.0.rooted.own x.0.rooted.is_made in (
        record {
          sound = s;
          own = t.after;
          is_made = t.is_made;
          reached = t.related index (inr x.0.rooted.enough);
        },
        (omega arith),
        still (searching_waits x.0) x.0.off,
      )
    where
      floundered-now : Grows Above f.tables (set f.tables e.table (mark_floundered x.0.standing.own))
      floundered-now = grows_set {R = Above} above_same f.tables e.table x.0.standing.own (mark_floundered x.0.standing.own)
          x.0.standing.is_made (λ j y. inl refl)

      still : {cs : Stack} → All (Waits n f.tables) cs → Off e.table cs
          → All (Waits n (set f.tables e.table (mark_floundered x.0.standing.own))) cs
      still end o = end
      still (more {a = c} w ws) o = more (record {
        own = w.own;
        is_made = set_other f.tables e.table c.table (mark_floundered x.0.standing.own) (λ q. all_first o (sym q))
            ∙ w.is_made;
        unfloundered = w.unfloundered;
        awaited = w.awaited;
        calls = calls_grow floundered-now w.calls;
      }) (still ws (all_rest o))

  module _ (strand : Strand) (y : SoundClause n strand.ex_clause)
      (nothing_left : is_empty strand.ex_clause.subgoals ≡ true
      → (not (is_empty strand.ex_clause.floundered_subgoals) && not strand.ex_clause.ambiguous) ≡ false) where
    stored : {a : Answer} (t' : Table) → held f < 256 → Longer n f.tables a x.0.standing.own t'
        → Answered (length x.0.standing.own.answers) (with_tables f (set f.tables e.table t'))
    stored {a} t' h l =
        let k = x.0.standing.is_made in
        let one = l.one_more in
        let shorter = l.fewer in
        let places = x.2 in
        let less = total_set (λ u. length u.strands) f.tables e.table x.0.standing.own t' k in
        record {
          kept = set_kept x.0.forest e.table k t' l.same-goal l.steady l.sound (omega arith) (omega arith);
          fewer = omega arith;
          after_table = t';
          is_made = set_here f.tables e.table x.0.standing.own t' k;
          unfloundered = l.steady.same_floundered ∙ x.0.standing.unfloundered;
          the_answer = a;
          there = l.there;
          one_more = l.one_more;
        }

    pub pursues : Safe (λ r. Pursued r.0 r.1) (pursue_answer f e.table strand)
    pursues =
        let c = strand.ex_clause in
        let t = x.0.standing.own in
        let k = x.0.standing.is_made in
        guard (not (is_empty c.subgoals)) 25 tt (λ b.
        asserted (not (is_empty c.floundered_subgoals) && not c.ambiguous) 0 (nothing_left (not-false (is_empty c.subgoals) b))
        (by_bool (is_outsized c.subst)
        (λ q. known _ (change_is f e.table t mark_floundered k)
        (goes {a = (none, with_tables f (set f.tables e.table (mark_floundered t)))} marked))
        (λ q. known _ (table_is f e.table t k)
        (after (pushes (table_sound x.0.forest e.table k) x.0.standing.unfloundered (held f) (record {
          variant = c.subst.variant;
          delayed_subgoals = other_than t.table_goal c.delayed_subgoals;
          ambiguous = c.ambiguous;
        }) (
          other-goals t.table_goal y.delayed_named,
          (let o = y.few_delayed in let p = length_other_than t.table_goal c.delayed_subgoals in omega arith),
        )) (λ r p. by_option r.0
        (λ w. goes {a = (none, f)} unchanged)
        (λ i w.
        let z = p.when-new i w in
        let t' : Table = elim (not c.ambiguous && is_trivial c.subst.variant) [ true ↦ take_strands r.1 | false ↦ r.1 ] in
        let l = case_bool (Longer n f.tables (record {
          variant = c.subst.variant;
          delayed_subgoals = other_than t.table_goal c.delayed_subgoals;
          ambiguous = c.ambiguous;
        }) t) (not c.ambiguous && is_trivial c.subst.variant) (λ v. emptied z.2) (λ v. z.2) in
        known _ (change_is f e.table t (λ _. t') k)
        (goes {a = (some i, with_tables f (set f.tables e.table t'))}
        (subst (λ j. Answered j (with_tables f (set f.tables e.table t'))) (sym z.0) (stored t' z.1 l)))))))))

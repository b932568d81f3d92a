-- A pass that takes no literal: the one that is selected is held against its table, and where that is floundered it flounders or is
-- stuck; or none is left, and those that floundered are looked at again.
use Prim.Native.Nat.{ℕ, suc, ◌<◌}
use native.Mathlib.Omega.{arith}
use mathlib.Core.Path.{◌≡◌, refl, sym, ap, ap₂, subst, ◌∙◌}
use mathlib.Core.Bool.{Bool, true, false}
use mathlib.Core.Option.{none}
use lib.ListN.{length}
use Rattle.definitions.specs.{ExClause}
use Rattle.definitions.specs.Book as books
use Rattle.definitions.specs.Lists.{is_empty}
use Rattle.definitions.specs.Logic as logic
use Rattle.definitions.specs.Slg.{next_subgoal_index}
use Rattle.definitions.specs.Stop.{go}
use Rattle.definitions.specs.Strand as held
use Rattle.laws.specs.All.{All}
use Rattle.definitions.proofs.Lists.{is_nil, not_nil}
use Rattle.asserts.specs.Sound.{SoundClause}
use Rattle.asserts.proofs.Returning.{lates, Returned}
use Rattle.small_steps.specs.Decide.{picking, table_of, literal_at, with_literal_floundered, decide_from}
use Rattle.book.specs.View.{meant}
use Rattle.strands.specs.declared.Selected.TheVariants.{Nothing, Subgoal}
use Rattle.strands.specs.declared.Selected.{Selected}
use Rattle.strands.specs.declared.Strand.{Strand}
use Rattle.strands.specs.Fields.{with_selected, with_ambiguous}
use Rattle.strands.specs.Floundering.{flounder, reconsider}
use Rattle.strands.specs.View.{Sound, seen, clause, selected, is_negative}
use Rattle.strands.proofs.FieldViews.{selected_sound, ambiguous_sound}
use Rattle.strands.proofs.FlounderViews.{flounder_kept, flounder_sound, reconsider_kept, reconsider_sound, reconsider_view}
use Rattle.control.specs.declared.select_subgoal.Selection.TheVariants as selection
use Rattle.control.specs.declared.select_subgoal.Choice.{Choice}
use Rattle.control.specs.SelectSubgoal.{chosen, table_floundered, leaves, propagated_by, reconsidered_by, held_by, held_against}
use Rattle.control.specs.SelectSubgoal.{noted_goals, noted_view, FlounderedGoal, clause_of, literals}
use Rattle.control.proofs.Seen.{chosen_means, flounder_clause}
use Rattle.control.proofs.SelectKnown.{busy, Waits, Going, After, room_less, falls_less, falls_back, room_back, busy_once, Setting}
use Rattle.control.proofs.SelectKnown.{Leads, leads_from, seen_in, made_in, seen_as, ends, stuck, held_as, looked, none_left}
use Rattle.control.proofs.SelectStrands.{counted, flounder_keeps, reconsider_keeps}
use Rattle.control.proofs.SelectTables.{table_flag}

module _ (z : Setting) (c : Choice) (g : Going z.forest z.start c) where
  -- A literal is floundered: the strand is t, which has nothing selected.
  module _ (t : Strand) (same : clause t ≡ clause_of c) (o : Sound t) (idle : t.selected ≡ Nothing) (some_left : 0 < literals c)
      (all : All (FlounderedGoal z.forest) (noted_goals c.made)) where
    there : 0 < length (clause t).subgoals
    there = let e = ap (λ (y : ExClause). length y.subgoals) same in omega arith

    next_idle : (flounder t).selected ≡ Nothing
    next_idle = flounder_kept t ∙ idle

    pub floundered_keeps : After z.forest z.start c (leaves selection.Again (flounder t) c) selection.Again
    floundered_keeps =
        let y = flounder_keeps t o there (subst (SoundClause (length z.forest.book)) (sym same) g.named) in
        let fewer = y.fewer ∙ ap (λ (y : ExClause). length y.subgoals) same in
        let late = y.same_lates ∙ ap lates same in (
          record {
            sound = flounder_sound t o;
            named = y.clause;
            noted = g.noted;
            room = room_less c.made.count _ _ _ _ (busy c.strand.selected) _ fewer late (busy_once c.strand.selected) g.room;
            waits = subst (Waits z.forest z.start (leaves selection.Again (flounder t) c)) (sym next_idle) all;
          },
          falls_less _ _ _ _ (busy c.strand.selected) _ fewer late (busy_once c.strand.selected),
        )

    pub floundered_is : (i : ℕ) → suc i ≡ literals c
        → seen_as z (with_literal_floundered (clause_of c) i) none ≡ seen z.time (flounder t)
    floundered_is i last =
        let e : i ≡ next_subgoal_index (clause_of c) = omega arith in
        ap₂ (seen_as z)
        (ap (with_literal_floundered (clause_of c)) e
        ∙ ap (λ (y : ExClause). with_literal_floundered y (next_subgoal_index y)) (sym same)
        ∙ sym (flounder_clause t o (counted t o there)))
        (ap selected (sym next_idle))

  -- SOMETHING IS SELECTED.
  module _ (i t a : ℕ) (is : c.strand.selected ≡ Subgoal i t a) where
    waits : Waits z.forest z.start c (Subgoal i t a)
    waits = subst (Waits z.forest z.start c) is g.waits

    by_sign : All (FlounderedGoal z.forest) (noted_goals c.made) → (l : books.Literal)
        → Leads z (λ p. stuck z c p i l) c (propagated_by (is_negative l) c)
    by_sign all (books.Positive goal want outsized) =
        let d = with_selected c.strand Nothing in
        let o = selected_sound c.strand Nothing g.sound in
        let last = waits.0.last in
        let some_left : 0 < literals c = omega arith in
        record {
          means = λ p. ap (decide_from p z.forest (noted_view c)) (floundered_is d refl o refl some_left all i last);
          keeps = floundered_keeps d refl o refl some_left all;
        }
    by_sign all (books.Negative goal outsized) = record {
      means = λ p. refl;
      keeps = ends z c g selection.NotSelected (with_selected c.strand Nothing) (selected_sound c.strand Nothing g.sound)
          g.named refl;
    }

    literal_is : literal_at (clause_of c) i ≡ meant (chosen c.strand)
    literal_is =
        let last = waits.0.last in
        let e : i ≡ next_subgoal_index (clause_of c) = omega arith in
        ap (literal_at (clause_of c)) e ∙ sym (chosen_means c.strand g.sound)

    by_flag : (b : Bool) → (table_of (made_in z c) t).floundered ≡ b → Leads z (λ p. held_as z c p i b) c (held_by b c)
    by_flag true e =
        leads_from z (λ p. stuck z c p i (meant (chosen c.strand))) (λ p. ap (stuck z c p i) literal_is)
        (by_sign (waits.1 e) (meant (chosen c.strand)))
    by_flag false e = record {
      means = λ p. refl;
      keeps = ends z c g selection.Selected c.strand g.sound g.named
          (record { index = i; table = t; answer = a; is_selected = is; awaits = waits.0; unfloundered = e });
    }

    abbrev flag : Bool
    flag = table_floundered z.floundered z.count z.goal_flags t c.made

    flag_is : flag ≡ (table_of (made_in z c) t).floundered
    flag_is =
        let below = waits.0.there in
        let n = z.mean.counted in
        table_flag z.goal z.floundered z.count z.goal_flags z.goal_len z.forest z.mean c.made g.noted.few
        g.noted.named t (omega arith)

    pub holds : Leads z (λ p. held_as z c p i (table_of (made_in z c) t).floundered) c
        (held_against z.floundered z.count z.goal_flags t c)
    holds = leads_from z (λ p. held_as z c p i flag) (λ p. ap (held_as z c p i) (sym flag_is)) (by_flag flag (sym flag_is))

  -- NOTHING IS SELECTED.
  module _ (is : c.strand.selected ≡ Nothing) where
    pub noted_floundered : All (FlounderedGoal z.forest) (noted_goals c.made)
    noted_floundered = subst (Waits z.forest z.start c) is g.waits

    pub none_busy : busy c.strand.selected ≡ 0
    none_busy = ap busy is

    -- No literal is left.

    abbrev back : Strand
    back = reconsider c.strand

    returned : Returned (length z.forest.book) (clause_of c) (clause back)
    returned = reconsider_keeps c.strand g.sound g.named

    back_idle : back.selected ≡ Nothing
    back_idle = reconsider_kept c.strand ∙ is

    back_is : (y : ExClause) → held.with_ex_clause (seen_in z c) y ≡ seen_as z y (selected back.selected)
    back_is y = ap (λ (k : Selected). seen_as z y (selected k)) (sym (reconsider_kept c.strand))

    by_back : is_empty (clause_of c).subgoals ≡ true → (b : Bool) → is_empty (clause back).subgoals ≡ b
        → Leads z (λ p. looked z c p (clause back) b) c (reconsidered_by false b c)
    by_back empty true e =
        let y = returned.clause in
        record {
          means = λ p. ap (λ (r : held.Strand). go (picking logic.NotSelected r (noted_view c)))
              (back_is (held.with_ambiguous (clause back) true));
          keeps = ends z c g selection.NotSelected (with_ambiguous back true)
              (ambiguous_sound back true (reconsider_sound c.strand g.sound))
              (record {
                subgoals_named = y.subgoals_named;
                floundered_named = y.floundered_named;
                delayed_named = y.delayed_named;
                few_literals = y.few_literals;
                few_delayed = y.few_delayed;
              }) back_idle;
        }
    by_back empty false e =
        let none_there = is_nil (clause_of c).subgoals empty in
        let some_back = not_nil (clause back).subgoals e in
        let b : busy back.selected ≡ 0 = ap busy back_idle in
        record {
          means = λ p. ap (decide_from p z.forest (noted_view c)) (back_is (clause back));
          keeps = (
            record {
              sound = reconsider_sound c.strand g.sound;
              named = returned.clause;
              noted = g.noted;
              room = room_back c.made.count _ _ _ _ _ _ returned.returned returned.none_late none_busy g.room;
              waits = subst (Waits z.forest z.start (leaves selection.Again back c)) (sym back_idle) noted_floundered;
            },
            falls_back _ _ _ _ _ _ none_there some_back returned.returned returned.none_late none_busy b,
          );
        }

    pub by_none : is_empty (clause_of c).subgoals ≡ true → (b : Bool)
        → Leads z (λ p. none_left z c p b) c (reconsidered_by b (is_empty (clause (reconsider c.strand)).subgoals) c)
    by_none empty true = record { means = λ p. refl; keeps = ends z c g selection.NotSelected c.strand g.sound g.named is }
    by_none empty false =
        leads_from z (λ p. looked z c p (clause back) (is_empty (clause back).subgoals))
        (λ p. ap (λ (y : ExClause). looked z c p y (is_empty y.subgoals)) (sym (reconsider_view c.strand g.sound)))
        (by_back empty (is_empty (clause back).subgoals) refl)

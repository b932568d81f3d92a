-- What is decided for a strand in hand keeps what it carries: its strands are sound, and an answer that is to be stored is a good one.
use Prim.Native.Nat.{ℕ, suc}
use mathlib.Core.Bool.{Bool, true, false, not, ◌&&◌}
use mathlib.Core.List.{List}
use mathlib.Core.Path.{◌≡◌, refl, sym, subst}
use lib.Dec.{eqb, leb, ltb}
use lib.ListN.{length, get_or}
use borrow.Author.Tests.{ltb-true}
use Rattle.std.specs.Prelude.{Option, Some, None}
use Rattle.definitions.specs.Fitting.{answer_fits, is_trivial}
use Rattle.definitions.specs.Lists.{is_empty}
use Rattle.asserts.specs.Sound.{SoundStrand, Selects}
use Rattle.small_steps.specs.Acts.{Origin}
use Rattle.book.specs.View.{meant}
use Rattle.book.specs.declared.Literal.{Literal}
use Rattle.strands.specs.declared.Answer.{Answer}
use Rattle.strands.specs.declared.Selected.{Selected}
use Rattle.strands.specs.declared.Strand.{Strand}
use Rattle.strands.specs.Answers.{blank_answer}
use Rattle.strands.specs.Fields.{with_selected, next_of}
use Rattle.strands.specs.Merging.{take_answer}
use Rattle.strands.specs.View.{Sound, SoundAnswer, clause, selected, seen, is_negative}
use Rattle.strands.proofs.AnswerViews.{blank_answer_sound}
use Rattle.stores.specs.Numbers.{within}
use Rattle.stores.specs.Sound.{GoodAnswer}
use Rattle.stores.specs.View.{unread_answer}
use Rattle.control.specs.declared.choose.Sight.{Sight}
use Rattle.control.specs.declared.choose.Sight.TheVariants.{Looks}
use Rattle.control.specs.declared.decision.Deed.{Deed}
use Rattle.control.specs.declared.decision.Decision.{Decision}
use Rattle.control.specs.declared.ensure_root_answer.Top.{Top}
use Rattle.control.specs.declared.on_subgoal_selected.Look.TheVariants as looks
use Rattle.control.specs.declared.on_subgoal_selected.Look.{Look}
use Rattle.control.specs.declared.select_subgoal.Choice.{Choice}
use Rattle.control.specs.declared.select_subgoal.Selection.{Selection}
use Rattle.control.specs.declared.select_subgoal.Selection.TheVariants as selection
use Rattle.control.specs.Choose.{height_of, coinductive_from, on_stack_by, on_stack, look_by, look_place, same_by, same_at}
use Rattle.control.specs.Choose.{sight_place, choose, decide_by, decide}
use Rattle.control.specs.Decision.{decided}
use Rattle.control.specs.OnNoRemainingSubgoals.{outsized, answer_again_by, answer_anew_by, pursue_by, no_remaining_by, no_remaining}
use Rattle.control.specs.OnSubgoalSelected.{deselected, merge_not_by, merge_into_by, merge_into, merge_positive_by, merge_literal_by}
use Rattle.control.specs.OnSubgoalSelected.{merge_answer_by, coinductive_by, goal_delayed, push_table, selected_deed}
use Rattle.control.specs.SelectSubgoal.{chosen, noted_goals, Ready, Outcome, Ended}
use Rattle.control.specs.Stores.{Stores, in_use, forest, SoundStores}
use Rattle.control.specs.TurnReads.{chosen_for, decided_for, GoodIf, KeptDecision}
use Rattle.control.proofs.ChooseDecides.{gives, sight_by, seeing, gives_good, few_tables, kept_in_book, choice, choice_known}
use Rattle.control.proofs.ChooseLook.{wanted_place, stored_there}
use Rattle.control.proofs.EnsureRootAnswer.{top_read, top_is}
use Rattle.control.proofs.OnSubgoalSelectedLeaves.{selected_deed_sound}
use Rattle.control.proofs.Stores.{top_entry}

alone_kept : (deed : Deed) (s : Strand) (a : Answer) → Sound s → GoodIf deed a → KeptDecision (decided deed false s s a)
alone_kept deed s a o g = record { strand = o; copy = o; answer = g }

-- A strand with no literal left: x is the answer that it gives.
module _ (s : Strand) (o : Sound s) (was x : Answer) (good : GoodAnswer x) where
  again_kept : (ambiguous was_ambiguous : Bool) → KeptDecision (answer_again_by ambiguous was_ambiguous s was)
  again_kept true was_ambiguous = alone_kept _ s was o tt
  again_kept false true = alone_kept _ s was o tt
  again_kept false false = alone_kept _ s was o tt

  anew_kept : (full : Bool) → KeptDecision (answer_anew_by full s was x)
  anew_kept true = alone_kept _ s was o tt
  anew_kept false = alone_kept _ s x o good

  pursue_kept : (none_left large is_new : Bool) (held : ℕ) → KeptDecision (pursue_by none_left large is_new s was x held)
  pursue_kept false large is_new held = alone_kept _ s was o tt
  pursue_kept true true is_new held = alone_kept _ s was o tt
  pursue_kept true false true held = anew_kept (leb 256 held)
  pursue_kept true false false held = again_kept s.ambiguous was.ambiguous

  remaining_kept_by : (puts_off is_new : Bool) (held : ℕ) → KeptDecision (no_remaining_by puts_off s was x is_new held)
  remaining_kept_by true is_new held = alone_kept _ s was o tt
  remaining_kept_by false is_new held = pursue_kept (is_empty (clause s).subgoals) (outsized s) is_new held

  pub remaining_kept : (is_new complete : Bool) (held : ℕ) → KeptDecision (no_remaining s was x is_new complete held)
  remaining_kept is_new complete held = remaining_kept_by (complete && s.ambiguous) is_new held

-- A strand that has selected a literal stores no answer.
module _ (s : Strand) (a : Answer) where
  abbrev StoresNone : Decision → Type 0
  StoresNone d = GoodIf d.deed d.answer

  not_none : (delays ambiguous : Bool) → StoresNone (merge_not_by delays ambiguous s a)
  not_none true ambiguous = tt
  not_none false true = tt
  not_none false false = tt

  into_none : (fits : Bool) (d : Option Strand) (copies : Bool) (copy : Strand) → StoresNone (merge_into_by fits d s a copies copy)
  into_none true None copies copy = tt
  into_none true (Some t) copies copy = tt
  into_none false d copies copy = tt

  taken_none : (l : Literal) (copies : Bool) (copy : Strand) → StoresNone (merge_into s a l copies copy)
  taken_none l copies copy = into_none (answer_fits (meant l) a.variant) (take_answer a (deselected s)) copies copy

  positive_none : (trivial full : Bool) (l : Literal) → StoresNone (merge_positive_by trivial full s a l)
  positive_none true full l = taken_none l false s
  positive_none false true l = tt
  positive_none false false l = taken_none l true (with_selected s (next_of s.selected))

  literal_none : (negative : Bool) (live : ℕ) → StoresNone (merge_literal_by negative s a live)
  literal_none true live = not_none (not (eqb a.delayed_count 0)) a.ambiguous
  literal_none false live = positive_none (is_trivial a.variant) (leb 256 live) (chosen s)

  merge_none : (unwanted : Bool) (live : ℕ) → StoresNone (merge_answer_by unwanted s a live)
  merge_none true live = tt
  merge_none false live = literal_none (is_negative (meant (chosen s))) live

  coinductive_none : (negative : Bool) (d : Option Strand) → StoresNone (coinductive_by negative d s a)
  coinductive_none true d = tt
  coinductive_none false None = tt
  coinductive_none false (Some t) = tt

  push_none : (late : Bool) (t : ℕ) → StoresNone (push_table late t s a)
  push_none true t = tt
  push_none false t = tt

  selected_none : (look : Look) (complete : Bool) (live : ℕ) (late : Bool) → StoresNone (selected_deed look s a complete live late)
  selected_none (looks.Answer place) complete live late = merge_none (complete && a.ambiguous) live
  selected_none looks.Coinductive complete live late =
      coinductive_none (is_negative (meant (chosen s))) (goal_delayed s)
  selected_none (looks.Cycle height) complete live late = tt
  selected_none (looks.Push table) complete live late = push_none late table

  pub selected_kept : Sound s → SoundAnswer a → (look : Look) (complete : Bool) (live : ℕ) (late : Bool)
      → KeptDecision (selected_deed look s a complete live late)
  selected_kept o p look complete live late =
      let d = selected_deed_sound s a o p look complete live late in
      record { strand = d.strand; copy = d.copy; answer = selected_none look complete live late }

-- A look that names no answer keeps the same whatever answer is carried.
module _ (s : Strand) (a b : Answer) (complete : Bool) (live : ℕ) (late : Bool) where
  push_alike : (late : Bool) (t : ℕ) → KeptDecision (push_table late t s b) → KeptDecision (push_table late t s a)
  push_alike true t k = alone_kept _ s a k.strand tt
  push_alike false t k = alone_kept _ s a k.strand tt

  coinductive_alike : (negative : Bool) (d : Option Strand)
      → KeptDecision (coinductive_by negative d s b) → KeptDecision (coinductive_by negative d s a)
  coinductive_alike true d k = alone_kept _ s a k.strand tt
  coinductive_alike false None k = alone_kept _ s a k.strand tt
  coinductive_alike false (Some t) k = alone_kept _ t a k.strand tt

  look_alike : (off all : Bool) (t height : ℕ) → KeptDecision (selected_deed (on_stack_by off all t height) s b complete live late)
      → KeptDecision (selected_deed (on_stack_by off all t height) s a complete live late)
  look_alike true all t height k = push_alike late t k
  look_alike false true t height k =
      coinductive_alike (is_negative (meant (chosen s))) (goal_delayed s) k
  look_alike false false t height k = alone_kept _ s a k.strand tt

-- FOR SOUND STORES, of a choice that is known
module _ (root index first : ℕ) (z : Stores) (o : SoundStores root index first z) (n : ℕ) (d : z.stack.depth ≡ suc n)
    (start : Selected) (literals : ℕ) (came : Selects (forest z).tables literals (selected start)) (c : Choice)
    (known : Ended (forest z) start c) where
  abbrev made : List ℕ
  made = noted_goals c.made

  abbrev decision_by : Selection → Sight → (complete : Bool) → Decision
  decision_by k sight complete =
      decide_by sight (seeing root index first z o n d start literals came c known k sight)
      (get_or z.answers.answers (sight_place sight) unread_answer) complete (leb z.clock_limit z.clock)
      (in_use z.answers.places)

  same_kept : (k : Selection) (b : Bool) (q : ℕ) (complete : Bool) → KeptDecision (decision_by k (same_by b q) complete)
  same_kept k true q complete =
      remaining_kept c.strand known.sound (get_or z.answers.answers q unread_answer)
      (gives root index first z o n d start literals came c known) (gives_good root index first z o n d start literals came c known) false
      complete (in_use z.answers.places)
  same_kept k false q complete =
      remaining_kept c.strand known.sound (get_or z.answers.answers 0 unread_answer)
      (gives root index first z o n d start literals came c known) (gives_good root index first z o n d start literals came c known) true
      complete (in_use z.answers.places)

  module _ (r : Ready (forest z) start c) (complete : Bool) where
    abbrev there : ℕ
    there = wanted_place root index first z o n d made r.table r.answer

    abbrev height : ℕ
    height = height_of z.stack.table z.stack.depth r.table

    abbrev else_look : Look
    else_look = on_stack z.stack.table z.tables.coinductive z.stack.depth r.table

    look_kept : (b : Bool) → ltb there 256 ≡ b → KeptDecision (decision_by selection.Selected (Looks (look_by b there else_look)) complete)
    look_kept true e =
        let stored = stored_there root index first z o n d made r.table r.answer
        (few_tables root index first z o n d start literals came c known r) (ltb-true there 256 e) in
        selected_kept c.strand (get_or z.answers.answers there unread_answer) known.sound stored.good.sound
        (looks.Answer there) complete c.live (leb z.clock_limit z.clock)
    look_kept false e =
        look_alike c.strand (get_or z.answers.answers (look_place else_look) unread_answer) blank_answer complete c.live
        (leb z.clock_limit z.clock) (leb (within z.stack.depth) height)
        (coinductive_from z.stack.table z.tables.coinductive z.stack.depth height) r.table height
        (selected_kept c.strand blank_answer known.sound blank_answer_sound else_look complete c.live
        (leb z.clock_limit z.clock))

  kept_by : (complete : Bool) (k : Selection) → Outcome (forest z) start c k
      → KeptDecision (decision_by k (sight_by root index first z o n d start literals came c known k c.strand.selected) complete)
  kept_by complete selection.Again out = absurd out
  kept_by complete selection.Selected r =
      subst
      (λ (j : Selected). KeptDecision (decision_by selection.Selected (sight_by root index first z o n d start literals came c known
      selection.Selected j) complete)) (sym r.is_selected) (look_kept r complete (ltb (there r complete) 256) refl)
  kept_by complete selection.NotSelected out =
      let q = same_at z.answers.places.next z.answers.places.tail z.answers.places.len z.answers.variant
      z.answers.key (top_entry z n).table (gives root index first z o n d start literals came c known) in
      same_kept selection.NotSelected (ltb q 256) q complete
  kept_by complete (selection.Stop m) out = alone_kept _ c.strand (get_or z.answers.answers 0 unread_answer) known.sound tt

-- and of a strand in hand
module _ (root index first : ℕ) (z : Stores) (o : SoundStores root index first z) (n : ℕ) (d : z.stack.depth ≡ suc n) (s : Strand)
    (sound : Sound s) (kept : SoundStrand z.book.goals (forest z).tables (seen (top_entry z n).clock s)) (origin : Origin) where
  abbrev decision_under : Top → Decision
  decision_under t =
      let c = choose z.tables.goal z.tables.coinductive z.tables.floundered z.tables.count z.book.goal_flags
      z.book.goal_len z.stack.table z.answers.places.next z.answers.places.tail z.answers.places.len
      z.answers.variant z.answers.key t s (in_use z.strands.places) in
      decide c (get_or z.answers.answers c.place unread_answer) t.complete (leb z.clock_limit z.clock)
      (in_use z.answers.places)

  pub strand_kept : KeptDecision (decided_for z (chosen_for z s))
  strand_kept =
      let c = choice root index first z o n d s sound kept origin in
      let known = choice_known root index first z o n d s sound kept origin in
      subst (λ (t : Top). KeptDecision (decision_under t)) (sym (top_is root index first z o n d))
      (kept_by root index first z o n d s.selected (length (clause s).subgoals)
      (kept_in_book root index first z o n d s sound kept origin).1 c known (top_read root index first z o n d).complete c.selection
      known.outcome)

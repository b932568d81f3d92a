-- The ways out of the functions of choose.rt, over variables: what a return says is the model at the tests that led there.
use Prim.Native.Nat.{ℕ, ◌≤◌, ◌<◌}
use native.Mathlib.Omega.{arith}
use mathlib.Core.Bool.{Bool, false}
use mathlib.Core.List.{List}
use mathlib.Core.Path.{◌≡◌, sym, ap, ◌∙◌}
use lib.Dec.{ltb}
use borrow.Author.Tests.{lt-ltb, le-ltb, le-leb, lt-leb}
use Rattle.strands.specs.declared.Answer.{Answer}
use Rattle.strands.specs.declared.Strand.{Strand}
use Rattle.strands.specs.Answers.{answer_of}
use Rattle.stores.specs.Numbers.{within}
use Rattle.stores.specs.Tables.{table_goal_at}
use Rattle.control.specs.declared.choose.Chosen.{Chosen}
use Rattle.control.specs.declared.choose.Sight.{Sight}
use Rattle.control.specs.declared.choose.Sight.TheVariants.{Same, Fresh}
use Rattle.control.specs.declared.ensure_root_answer.Top.{Top}
use Rattle.control.specs.declared.on_subgoal_selected.Look.TheVariants as looks
use Rattle.control.specs.declared.on_subgoal_selected.Look.{Look}
use Rattle.control.specs.declared.select_subgoal.Choice.{Choice}
use Rattle.control.specs.Choose.{on_stack_by, height_of, coinductive_from, on_stack, look_by, answer_place, look_at, same_by, same_at}
use Rattle.control.specs.Choose.{answer_sight, sight_for, sight_place, chosen_with, chosen_of, choose}
use Rattle.control.specs.SelectSubgoal.{select_subgoal}

-- A table with no answer for the strand, whose lowest entry of n is at this height.
module _ (entry_table coinductive : List ℕ) (depth t n height : ℕ) (n_is : n ≡ within depth)
    (height_is : height ≡ height_of entry_table depth t) where
  abbrev lowest : ℕ
  lowest = height_of entry_table depth t

  pub says_push : n ≤ height → looks.Push t ≡ on_stack entry_table coinductive depth t
  says_push h =
      sym
      (ap (λ (b : Bool). on_stack_by b (coinductive_from entry_table coinductive depth lowest) t lowest)
      (le-leb (within depth) lowest (omega arith)))

  pub says_on_stack : (all : Bool) → height < n → coinductive_from entry_table coinductive depth height ≡ all
      → on_stack_by false all t height ≡ on_stack entry_table coinductive depth t
  says_on_stack all h e =
      sym
      (ap (λ (b : Bool). on_stack_by b (coinductive_from entry_table coinductive depth lowest) t lowest)
      (lt-leb (within depth) lowest (omega arith))
      ∙ ap (λ (i : ℕ). on_stack_by false (coinductive_from entry_table coinductive depth i) t i) (sym height_is)
      ∙ ap (λ (b : Bool). on_stack_by false b t height) e)

-- The answer at an index of the table, looked for at the place p.
module _ (entry_table coinductive : List ℕ) (depth : ℕ) (answer_next answer_tail answer_len : List ℕ) (t index p : ℕ)
    (is : p ≡ answer_place answer_next answer_tail answer_len t index) where
  abbrev else_look : Look
  else_look = on_stack entry_table coinductive depth t

  pub says_stored : p < 256 → looks.Answer p ≡ look_at entry_table coinductive depth answer_next answer_tail answer_len t index
  says_stored h =
      sym (ap (λ (b : Bool). look_by b p else_look) (lt-ltb p 256 h)) ∙ ap (λ (q : ℕ). look_by (ltb q 256) q else_look) is

  pub says_not_stored : 256 ≤ p
      → on_stack entry_table coinductive depth t ≡ look_at entry_table coinductive depth answer_next answer_tail answer_len t index
  says_not_stored h =
      sym (ap (λ (b : Bool). look_by b p else_look) (le-ltb p 256 h)) ∙ ap (λ (q : ℕ). look_by (ltb q 256) q else_look) is

-- The answer that the strand gives, found at the place p.
module _ (answer_next answer_tail answer_len answer_variant answer_key : List ℕ) (t : ℕ) (x : Answer) (p : ℕ)
    (is : p ≡ same_at answer_next answer_tail answer_len answer_variant answer_key t x) where
  pub says_same : p < 256 → Same p ≡ answer_sight answer_next answer_tail answer_len answer_variant answer_key t x
  says_same h = sym (ap (λ (b : Bool). same_by b p) (lt-ltb p 256 h)) ∙ ap (λ (q : ℕ). same_by (ltb q 256) q) is

  pub says_fresh : 256 ≤ p → Fresh ≡ answer_sight answer_next answer_tail answer_len answer_variant answer_key t x
  says_fresh h = sym (ap (λ (b : Bool). same_by b p) (le-ltb p 256 h)) ∙ ap (λ (q : ℕ). same_by (ltb q 256) q) is

-- What is chosen, part by part.
abbrev pub placed : Choice → (gives : Answer) → Sight → (place : ℕ) → Chosen
placed c gives sight place = record {
  selection = c.selection;
  live = c.live;
  made = c.made;
  strand = c.strand;
  gives = gives;
  sight = sight;
  place = place;
}

module _ (goal coinductive floundered : List ℕ) (count : ℕ)
    (goal_flags goal_len entry_table answer_next answer_tail answer_len answer_variant answer_key : List ℕ) (top : Top) (s : Strand)
    (live : ℕ) where
  abbrev seen : Choice → Answer → Sight
  seen c gives =
      sight_for entry_table coinductive top.depth answer_next answer_tail answer_len answer_variant answer_key c.selection
      c.strand.selected top.table gives

  pub says_chosen : (c : Choice) (own : ℕ) (gives : Answer) (sight : Sight) (place : ℕ)
      → c ≡ select_subgoal goal floundered count goal_flags goal_len live s → own ≡ table_goal_at top.table goal
      → gives ≡ answer_of c.strand own → sight ≡ seen c gives → place ≡ sight_place sight
      → placed c gives sight place
      ≡ choose goal coinductive floundered count goal_flags goal_len entry_table answer_next answer_tail answer_len answer_variant
      answer_key top s live
  says_chosen c own gives sight place c-is own_is gives_is sight-is place_is =
      ap (placed c gives sight) place_is
      ∙ ap (chosen_with c gives) sight-is
      ∙ ap (λ (x : Answer). chosen_with c x (seen c x)) (gives_is ∙ ap (answer_of c.strand) own_is)
      ∙ ap
      (chosen_of goal coinductive floundered count goal_flags goal_len entry_table answer_next answer_tail answer_len answer_variant
      answer_key top)
      c-is

-- The reading half of a turn put together: what is read of the stores, in the order of the loop, and what it means.
use Rattle.std.specs.Prelude.{ℕ, suc, ◌-◌, Bool, true, false, [], ◌∷◌, leb, length, get_or}
use Rattle.std.proofs.Math.Option.{Option, none, some}
use Rattle.definitions.specs.{TimeStamp}
use Rattle.definitions.specs.Lists.{remove}
use Rattle.definitions.specs.Stack as said
use Rattle.definitions.specs.Stop.{Stops, go, ◌>>=◌}
use Rattle.definitions.specs.Strand as held
use Rattle.definitions.specs.Tables.{queued}
use Rattle.small_steps.specs.Acts.{Origin, was_active, was_queued, Act, takes, finishes, caller_failed, caller_proved, changes_mode}
use Rattle.small_steps.specs.Acts.{negative_cycle, clears, part_of_cycle}
use Rattle.small_steps.specs.Decide.{table_of, decide_clear, caller_strand, selected_of, selected_literal}
use Rattle.strands.specs.declared.Answer.{Answer}
use Rattle.strands.specs.declared.Strand.{Strand}
use Rattle.strands.specs.View.{Sound}
use Rattle.stores.specs.Places.{first_of}
use Rattle.stores.specs.Queue.{eligible}
use Rattle.stores.specs.Sound.{GoodAnswer}
use Rattle.stores.specs.View.{unread_strand, unread_answer, strand_at}
use Rattle.control.specs.declared.choose.Chosen.{Chosen}
use Rattle.control.specs.declared.decision.Decision.{Decision}
use Rattle.control.specs.declared.decision.Deed.{Deed}
use Rattle.control.specs.declared.decision.Deed.TheVariants.{Stop, GoesOn, GivesUp, Cycles, Pushes, Requeues, Flounders, Answers}
use Rattle.control.specs.declared.ensure_root_answer.Next.{Next}
use Rattle.control.specs.declared.ensure_root_answer.Top.{Top}
use Rattle.control.specs.declared.on_no_strands_left.Idle.{Idle}
use Rattle.control.specs.declared.on_no_strands_left.Idle.TheVariants as idles
use Rattle.control.specs.Choose.{choose, decide}
use Rattle.control.specs.Decision.{meaning}
use Rattle.control.specs.EnsureRootAnswer.{top_of, next_strand, strand_in_hand}
use Rattle.control.specs.OnNoStrandsLeft.{without_strand}
use Rattle.control.specs.SelectSubgoal.{noted_goals}
use Rattle.control.specs.Stores.{Stores, first_strands, in_use, forest, entries_of}

-- WHAT IS READ
module _ (z : Stores) where
  abbrev pub top : Top
  top = top_of z.stack.table z.stack.clock z.stack.active z.tables.complete z.stack.depth

  abbrev pub next : Next
  next =
      next_strand z.strands.places.next z.strands.places.tail z.strands.places.len z.strands.time
      z.strands.ambiguous top

  -- the strand at a place
  abbrev pub hand_at : (p : ℕ) → Strand
  hand_at p =
      strand_in_hand z.book.clause_variant z.book.clause_flags z.book.clause_len z.book.literal_kind
      z.book.literal_goal z.book.literal_want (get_or z.strands.strands p unread_strand) (get_or z.strands.waits p 0)
      (get_or z.strands.wants p 0)

  -- what is chosen for the strand in hand
  abbrev pub chosen_for : Strand → Chosen
  chosen_for s =
      choose z.tables.goal z.tables.coinductive z.tables.floundered z.tables.count z.book.goal_flags
      z.book.goal_len z.stack.table z.answers.places.next z.answers.places.tail z.answers.places.len
      z.answers.variant z.answers.key top s (in_use z.strands.places)

  -- and decided, with the answer at the place that it names
  abbrev pub decided_for : Chosen → Decision
  decided_for c =
      decide c (get_or z.answers.answers c.place unread_answer) top.complete (leb z.clock_limit z.clock)
      (in_use z.answers.places)

  -- or what is done with no strand; nothing where there is one
  abbrev pub idle : Idle
  idle =
      without_strand z.strands.places.len z.strands.waits z.stack.positive z.stack.negative z.stack.active next top

-- WHAT A DECISION KEEPS: the strands that it carries are sound, and so is an answer that is to be stored.
abbrev pub GoodIf : Deed → Answer → Type 0
GoodIf (Answers empties) a = GoodAnswer a
GoodIf (Stop n) a = Unit {0}
GoodIf GoesOn a = Unit {0}
GoodIf GivesUp a = Unit {0}
GoodIf (Cycles height) a = Unit {0}
GoodIf (Pushes table) a = Unit {0}
GoodIf Requeues a = Unit {0}
GoodIf Flounders a = Unit {0}

pub record KeptDecision (d : Decision) : Type 0 where
  pub strand : Sound d.strand
  pub copy : Sound d.copy
  pub answer : GoodIf d.deed d.answer

-- WHAT IT MEANS

-- the strand in hand was active, or in the queue of the top's table
abbrev pub origin_by : (queued : Bool) → (first : ℕ) → Origin
origin_by true first = was_queued first
origin_by false first = was_active

abbrev pub taken_by : (found : Bool) → held.Strand → Origin → Option (held.Strand × Origin)
taken_by true strand origin = some (strand, origin)
taken_by false strand origin = none

-- the caller's strand, whose "not" is proved
abbrev pub not_proved : held.Strand → held.Strand
not_proved s =
    held.with_ex_clause (held.with_selected s none)
    (held.with_subgoals s.ex_clause (remove s.ex_clause.subgoals (selected_of s).subgoal_index))

-- what the caller's strand is for: the entry below the top
abbrev pub with_caller : (held.Strand → Act) → said.Stack → Act
with_caller act [] = finishes
with_caller act (e ∷ []) = finishes
with_caller act (e ∷ c ∷ es) = act (caller_strand c)

module _ (z : Stores) where
  abbrev pub origin : Next → Origin
  origin p =
      origin_by p.queued (first_of (eligible z.strands.time z.strands.ambiguous (top z).clock (top z).complete) (top z).table
      z.strands.places)

  -- which strand is gone on with, and where it was
  abbrev pub taken : Next → Option (held.Strand × Origin)
  taken p = taken_by p.found (strand_at (first_strands z.book) z.strands p.place) (origin p)

  abbrev pub clock_at : (height : ℕ) → TimeStamp
  clock_at height = get_or z.stack.clock height 0

  abbrev pub strand_means : Next → Chosen → Stops Act
  strand_means p c =
      meaning (top z).clock clock_at (decided_for z c) >>= λ deed. go (takes (origin p) (noted_goals c.made) deed)

  -- clearing stops with 29 where the split does
  abbrev pub clearing : (table : ℕ) → Stops Act
  clearing t =
      decide_clear (forest z) (suc (queued (forest z) - length (table_of (forest z) t).strands)) (table_of (forest z) t).strands (t ∷ [])
      >>= λ gone. go (clears gone)

  -- with a strand there is no idle act, and what is decided for it counts
  abbrev pub act_means : Idle → Stops Act
  act_means idles.Nothing = strand_means (next z) (chosen_for z (hand_at z (next z).place))
  act_means idles.Finishes = go finishes
  act_means idles.CallerFailed = go caller_failed
  act_means idles.CallerProved = go (with_caller (λ s. caller_proved (not_proved s)) (entries_of z))
  act_means idles.ChangesMode = go changes_mode
  act_means idles.NegativeCycle = go negative_cycle
  act_means idles.Clears = clearing (top z).table
  act_means idles.PartOfCycle = go (with_caller (λ s. part_of_cycle s (selected_literal s)) (entries_of z))

  -- what the turn is decided to do
  abbrev pub turn_means : Stops Act
  turn_means = act_means (idle z)

-- The ways out of the functions of ensure_root_answer.rt, over variables.
use Prim.Native.Nat.{ℕ, ◌-◌, ◌%◌}
use mathlib.Core.Bool.{Bool, true, false}
use mathlib.Core.List.{List}
use mathlib.Core.Path.{◌≡◌, sym, ap, ap₂, ◌∙◌}
use lib.Dec.{leb}
use lib.ListN.{get_or}
use Rattle.definitions.specs.{MAX}
use Rattle.book.specs.declared.Book.{Book}
use Rattle.strands.specs.declared.Answer.{Answer}
use Rattle.strands.specs.declared.Strand.{Strand}
use Rattle.stores.specs.declared.places.Places.{Places}
use Rattle.stores.specs.Numbers.{free, within, written_at}
use Rattle.stores.specs.Places.{places}
use Rattle.stores.specs.Queue.{store}
use Rattle.stores.specs.Stack.{caller_place}
use Rattle.control.specs.declared.choose.Chosen.{Chosen}
use Rattle.control.specs.declared.decision.Decision.{Decision}
use Rattle.control.specs.declared.ensure_root_answer.Next.{Next}
use Rattle.control.specs.declared.ensure_root_answer.Top.{Top}
use Rattle.control.specs.declared.on_no_strands_left.Idle.{Idle}
use Rattle.control.specs.declared.performed.Carried.{Carried}
use Rattle.control.specs.declared.performed.Flow.{Flow}
use Rattle.control.specs.Choose.{decide}
use Rattle.control.specs.EnsureRootAnswer.{next_strand}
use Rattle.control.specs.MakeTables.{tables_of}
use Rattle.control.specs.OnNoStrandsLeft.{without_strand}
use Rattle.control.specs.Perform.{performed}
use Rattle.control.specs.PerformDeed.{stack_of, answers_of}
use Rattle.control.specs.TurnWrites.{put, place_by}
use Rattle.control.specs.PerformStrand.{Lent, lent_of, TurnDone}
use Rattle.control.specs.UnwindStack.{all_back}
use Rattle.search.specs.declared.course.Asked.{Asked}
use Rattle.search.specs.declared.course.Course.{Course}
use Rattle.search.specs.declared.ensure_root_answer.Looked.{Looked}
use Rattle.search.specs.declared.ensure_root_answer.Picked.{Picked}
use Rattle.search.specs.Course.{is_turn, carried, carry}
use Rattle.search.specs.EnsureRootAnswer.{place_read, looked_as, top_now, looked}
use Rattle.search.specs.RootAnswer.{one_more, course_at, end_search}
use Rattle.search.specs.Walk.{Walk, numbered, walk, numbers_of, goes_by, goes_on, turned, conclude_by, conclude, pass_with}

module _ (entry_table entry_clock positive negative active complete next tail len time ambiguous waits wants : List ℕ) (depth : ℕ) where
  abbrev with : Top → Next → (place : ℕ) → Looked
  with top p q = looked_as waits wants top p q positive negative active len

-- `goes_on`

-- `conclude`, by its two tests
module _ (asked : Asked) (c : Course) (goes : Bool) (is : goes ≡ goes_on asked c) where
  module _ (e : goes ≡ false) (turns : Bool) (it : turns ≡ is_turn asked.mode) where
    at : (b : Bool) → turns ≡ b → (w : Lent) → conclude_by false b asked c w ≡ conclude asked c w
    at b eb w = ap₂ (λ (g t : Bool). conclude_by g t asked c w) (sym e ∙ is) (sym eb ∙ it)

    -- the search has ended: the rings and the entries' arrays are as they were put back, and the course is the next one
    module _ (eb : turns ≡ false) (r : Course) (goal coinductive floundered complete : List ℕ) (strands : List Strand)
        (time ambiguous variant waits wants next tail len : List ℕ) (answers : List Answer)
        (answer_variant answer_key answer_ambiguous answer_next answer_tail answer_len : List ℕ)
        (entry_table entry_clock positive negative active : List ℕ)
        (er : r ≡ end_search asked floundered answer_next answer_tail answer_len answer_variant answer_key answer_ambiguous c) where
      abbrev with_arrays : Course → (next tail len entry_table entry_clock positive negative active : List ℕ) → Lent
      with_arrays d nx tl ln et ec ps ng ac = lent_of (tables_of d.count goal coinductive floundered complete)
          (store strands time ambiguous variant waits wants (places nx tl ln d.used))
          (answers_of answers answer_variant answer_key answer_ambiguous (places answer_next answer_tail answer_len d.answer_used))
          (stack_of d.depth et ec ps ng ac) d.clock

      abbrev f : Course → (next tail len entry_table entry_clock positive negative active : List ℕ) → Walk
      f d nx tl ln et ec ps ng ac = walk d (with_arrays d nx tl ln et ec ps ng ac)

      abbrev rings : (top : ℕ) → Places
      rings top = all_back entry_table active (within c.depth) (places next tail len top)

-- `pass`: what was lent by the numbers that the course carries, the turn as it was performed, and what it was concluded to
module _ (b : Book) (asked : Asked) (c : Course) (l : Looked) (k : Picked) (a : Answer) (lent_by : Carried → Lent) where
  abbrev w : Lent
  w = lent_by (carried c)

  abbrev performs : Decision → Carried → TurnDone
  performs d was =
      performed b.goal_flags b.goal_first b.goal_len b.clause_variant b.clause_flags l.next l.top
      k.chosen.made d l.place k.hand k.chosen.place a l.idle (lent_by was)

  abbrev decides : (held : ℕ) → Decision
  decides held = decide k.chosen a l.top.complete (leb asked.clock_limit c.clock) held

  pub pass_is : (was : Carried) → was ≡ carried c → (held : ℕ)
      → held ≡ (lent_by (carried c)).answers.places.top - get_or (lent_by (carried c)).answers.places.len free 0
      → (d : Decision) → d ≡ decide k.chosen a l.top.complete (leb asked.clock_limit c.clock) held
      → (t : TurnDone) → t ≡ performed b.goal_flags b.goal_first b.goal_len b.clause_variant b.clause_flags
      l.next l.top k.chosen.made d l.place k.hand k.chosen.place a l.idle (lent_by was)
      → (now : Course) → now ≡ carry t.flow (numbers_of t.lent) c → (v : Walk) → v ≡ conclude asked now (numbered now (put t))
      → v ≡ pass_with b asked c l k a (lent_by (carried c))
  pass_is was ew held eh d ed t et now en v ev =
      ev
      ∙ ap (λ (x : Course). conclude asked x (numbered x (put t))) en
      ∙ ap (λ (u : TurnDone). conclude asked (carry u.flow (numbers_of u.lent) c) (put u))
      (et ∙ ap₂ performs (ed ∙ ap decides eh) ew)

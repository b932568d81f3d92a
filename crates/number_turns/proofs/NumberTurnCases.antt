-- The functions of number_turn.rt at their tests' answers, over variables. From what the functions that they call leave.
use Prim.Native.Nat.{ℕ, ◌*◌, ◌%◌, ◌-◌, ◌≤◌, ◌<◌}
use mathlib.Core.Bool.{Bool, true, false}
use mathlib.Core.List.{List}
use mathlib.Core.Path.{◌≡◌, refl, sym, ap, ap₂, ◌∙◌}
use lib.Dec.{leb}
use lib.ListN.{get_or, set}
use borrow.Author.Tests.{le-leb, lt-leb}
use Rattle.definitions.specs.{TimeStamp, MAX}
use Rattle.strands.specs.declared.Strand.{Strand}
use Rattle.strands.specs.Times.{incremented}
use Rattle.stores.specs.declared.places.Places.{Places}
use Rattle.stores.specs.declared.queue.Strands.{Strands}
use Rattle.stores.specs.declared.stack.Stack.{Stack}
use Rattle.stores.specs.declared.table.Answers.{Answers}
use Rattle.stores.specs.declared.tables.Tables.{Tables}
use Rattle.stores.specs.Numbers.{waits_not, flag_at}
use Rattle.stores.specs.Places.{places, enqueued}
use Rattle.stores.specs.Queue.{store}
use Rattle.stores.specs.Stack.{pushed, activated, caller_taken}
use Rattle.control.specs.declared.ensure_root_answer.Next.{Next}
use Rattle.control.specs.declared.ensure_root_answer.Top.{Top}
use Rattle.control.specs.EnsureRootAnswer.{next_strand}
use Rattle.control.specs.OnNoStrandsLeft.{waits_on_not, caller_waits_on_not, minimum_at}
use Rattle.control.specs.OnPositiveCycle.{minimums_at, met_at, top_cycled, Minimized, cycled}
use Rattle.control.specs.PerformDeed.{stack_of, left_rings, left_active}
use Rattle.control.specs.PerformIdle.{rejoined}
use Rattle.control.specs.PerformStrand.{Lent, lent_of}
use Rattle.control.specs.UnwindStack.{Rings}
use Rattle.control.proofs.PerformDeedCases.{stack_is}
use Rattle.number_turns.specs.declared.number_turn.Move.{Move}
use Rattle.number_turns.specs.declared.number_turn.Move.TheVariants as move
use Rattle.number_turns.specs.NumberTurn.{strand_move_by, move_for, NumberTurn, numbered_by, entry_left, moved}
use Rattle.number_turns.specs.NumberTurn.{top_in, next_in, move_in, number_turn}

-- `strand_move`: m is the move by what the table holds
module _ (w : ℕ) (floundered : List ℕ) (m : Move) where
  abbrev flounders : Bool
  flounders = flag_at (w % waits_not) floundered

  pub waits_on_nothing : 2 * waits_not ≤ w → move.Nothing ≡ strand_move_by (leb (2 * waits_not) w) flounders m
  waits_on_nothing h = sym (ap (λ (b : Bool). strand_move_by b flounders m) (le-leb (2 * waits_not) w h))

  pub waits_on_floundered : w < 2 * waits_not → flounders ≡ true
      → move.Nothing ≡ strand_move_by (leb (2 * waits_not) w) flounders m
  waits_on_floundered h e = sym (ap₂ (λ (b f : Bool). strand_move_by b f m) (lt-leb (2 * waits_not) w h) e)

  pub waits_on_table : w < 2 * waits_not → flounders ≡ false → m ≡ strand_move_by (leb (2 * waits_not) w) flounders m
  waits_on_table h e = sym (ap₂ (λ (b f : Bool). strand_move_by b f m) (lt-leb (2 * waits_not) w h) e)

-- `make_move`: what is lent, by its parts
pub lent_is : {ts : Tables} {s s'' : Strands} {a : Answers} {k k' : Stack} {c c' : TimeStamp} → s ≡ s'' → k ≡ k' → c ≡ c'
    → lent_of ts s a k c ≡ lent_of ts s'' a k' c'
lent_is es ek ec = cc

pub store_is : {strands : List Strand} {time time' ambiguous variant waits wants : List ℕ} {p p' : Places} → time ≡ time' → p ≡ p'
    → store strands time ambiguous variant waits wants p ≡ store strands time' ambiguous variant waits wants p'
store_is et ep = cc

module _ (p : Next) (top : Top) (tables : Tables) (strands : List Strand) (ambiguous variant waits wants : List ℕ) (used : ℕ)
    (answers : Answers) (time next tail len : List ℕ) (depth : ℕ) (table clock positive negative active : List ℕ) (at : TimeStamp) where
  abbrev lent : Lent
  lent = lent_of tables (store strands time ambiguous variant waits wants (places next tail len used)) answers
      (stack_of depth table clock positive negative active) at

  -- what is left of it
  abbrev left : (time next tail len : List ℕ) → Stack → TimeStamp → NumberTurn
  left time' next' tail' len' k c =
      numbered_by true (lent_of tables (store strands time' ambiguous variant waits wants (places next' tail' len' used)) answers k c)

  -- after `pursue`
  module _ (next' tail' len' active' time' : List ℕ)
      (rings : Rings (left_rings p.queued top.table p.before) next tail len next' tail' len')
      (active_is : active' ≡ left_active p.queued depth active) (time_is : time' ≡ set time p.place top.clock) where
    pub pushes : (t : ℕ) (k : Stack) (c : TimeStamp)
        → k ≡ pushed t (incremented at) MAX (activated p.place (stack_of depth table clock positive negative active'))
        → c ≡ incremented at → left time' next' tail' len' k c ≡ moved p top (move.Pushes t) lent
    pushes t k c ek ec =
        ap (numbered_by true) (lent_is (store_is time_is (rings used))
        (ek ∙ ap (λ (a : List ℕ). pushed t (incremented at) MAX (activated p.place (stack_of depth table clock positive negative a)))
        active_is) ec)

    pub cycles : (height : ℕ) (not : Bool) → not ≡ waits_on_not (get_or waits p.place 0)
        → (next'' tail'' len'' positive' negative' : List ℕ)
        → Minimized (top_cycled not (met_at clock height) clock positive negative depth) depth positive negative positive' negative'
        → Rings (enqueued top.table p.place) next' tail' len' next'' tail'' len''
        → left time' next'' tail'' len'' (stack_of depth table clock positive' negative' active') at
        ≡ moved p top (move.Cycles height) lent
    cycles height not en next'' tail'' len'' positive' negative' em er =
        ap (numbered_by true) (lent_is
        (store_is time_is (er used ∙ ap (enqueued top.table p.place) (rings used)))
        (stack_is refl refl refl em.0 em.1 active_is
        ∙ ap (λ (b : Bool). cycled b (met_at clock height) (entry_left p top (stack_of depth table clock positive negative active))) en)
        refl)

  pub rejoins : (next' tail' len' positive' negative' active' : List ℕ) (depth' : ℕ) → depth' ≡ depth - 1
      → stack_of (depth - 1) table clock positive' negative' active'
      ≡ cycled (caller_waits_on_not waits active depth) (minimums_at (minimum_at positive depth) (minimum_at negative depth))
      (caller_taken (stack_of depth table clock positive negative active))
      → Rings (rejoined table active depth) next tail len next' tail' len'
      → left time next' tail' len' (stack_of depth' table clock positive' negative' active') at ≡ moved p top move.Rejoins lent
  rejoins next' tail' len' positive' negative' active' depth' ed ek er =
      ap (numbered_by true) (lent_is (store_is refl (er used)) (stack_is ed refl refl refl refl refl ∙ ek) refl)

-- `number_turn`: what is found, and what is done with that
module _ (late : Bool) (w : Lent) where
  abbrev next_for : Top → Next
  next_for top =
      let s = w.strands in
      next_strand s.places.next s.places.tail s.places.len s.time s.ambiguous top

  abbrev move_with : Next → Top → Move
  move_with p top =
      let s = w.strands in
      let a = w.answers.places in
      let k = w.stack in
      move_for k.table w.tables.coinductive w.tables.floundered a.next a.tail a.len late s.places.len s.waits
      s.wants k.positive k.negative k.active p top

  pub turns : (top : Top) (p : Next) (m : Move) → top ≡ top_in w → p ≡ next_for top → m ≡ move_with p top
      → moved p top m w ≡ number_turn late w
  turns top p m et ep em =
      let ep' : p ≡ next_in w = ep ∙ ap next_for et in
      let em' : m ≡ move_in late w = em ∙ ap₂ move_with ep' et in
      ap₂ (λ (q : Next) (t : Top). moved q t m w) ep' et ∙ ap (λ (x : Move). moved (next_in w) (top_in w) x w) em'

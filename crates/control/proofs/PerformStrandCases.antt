-- The functions of perform_strand.rt at their tests' answers, over variables, and the turn put together. From what the stages leave.
use Prim.Native.Nat.{ℕ, ◌%◌}
use mathlib.Core.Bool.{Bool, true, false}
use mathlib.Core.List.{List}
use mathlib.Core.Path.{◌≡◌, sym, ap, ap₂, ◌∙◌}
use lib.ListN.{set}
use Rattle.book.specs.View.{meant}
use Rattle.definitions.specs.{TimeStamp}
use Rattle.rings.specs.Rings.{linked, lengthened}
use Rattle.strands.specs.declared.Strand.{Strand}
use Rattle.strands.specs.View.{is_negative}
use Rattle.stores.specs.declared.places.Places.{Places}
use Rattle.stores.specs.declared.queue.Strands.{Strands}
use Rattle.stores.specs.declared.stack.Stack.{Stack}
use Rattle.stores.specs.Numbers.{flag_number}
use Rattle.stores.specs.Places.{places, enqueued, freed, TookPlace}
use Rattle.stores.specs.Queue.{waits_of, wants_of, with_places, store}
use Rattle.stores.proofs.PlacesMoves.{enqueued_is}
use Rattle.control.specs.declared.decision.Decision.{Decision}
use Rattle.control.specs.declared.ensure_root_answer.Next.{Next}
use Rattle.control.specs.declared.ensure_root_answer.Top.{Top}
use Rattle.control.specs.declared.create_refinement_strand.Left.{Left}
use Rattle.control.specs.declared.perform_strand.Settled.{Settled}
use Rattle.control.specs.declared.select_subgoal.Made.{Made}
use Rattle.control.specs.SelectSubgoal.{chosen}
use Rattle.control.specs.MakeTables.{Tabling}
use Rattle.control.specs.PerformDeed.{new_place, moving, Did, deed_done}
use Rattle.control.specs.PerformIdle.{noted}
use Rattle.control.specs.PerformStrand.{Lent, lent_of, copy_place, copy_noted, settled, settled_as, TurnDone}
use Rattle.control.specs.PerformStrand.{begun, stands, settled_in, left_stack, deed_in, tables_after, strand_performed}
use Rattle.control.proofs.PerformIdleCases.{noted_is}

-- `store_copy`
module _ (copies : Bool) (x : Strand) (at t place : ℕ) (n tl l : List ℕ) (u : ℕ) (tm am v w ws : List ℕ) where
  abbrev was : List Strand → Strands
  was strands = store strands tm am v w ws (places n tl l u)

  pub no_copy : copies ≡ false
      → (place ≡ copy_place copies place (places n tl l u)) ×
      ((strands : List Strand) → was strands ≡ copy_noted copies t at x (was strands))
  no_copy e = (
    sym (ap (λ (b : Bool). copy_place b place (places n tl l u)) e),
    λ strands. sym (ap (λ (b : Bool). copy_noted b t at x (was strands)) e),
  )

  -- the numbers at a place, and other rings
  noted_with : (strands : List Strand) (q q' : ℕ) (r r' : Places) → q ≡ q' → r ≡ r'
      → with_places (noted q at x (was strands)) r ≡ with_places (noted q' at x (was strands)) r'
  noted_with strands q q' r r' eq er = ap₂ (λ (i : ℕ) (p : Places). with_places (noted i at x (was strands)) p) eq er

  pub copied : copies ≡ true → (n' l' : List ℕ) (u' q : ℕ) → TookPlace n tl l u n' l' u' q → (tm' am' v' w' ws' : List ℕ)
      → tm' ≡ set tm (q % 256) at → am' ≡ set am (q % 256) (flag_number x.ambiguous) → v' ≡ set v (q % 256) x.variant
      → w' ≡ set w (q % 256) (waits_of x) → ws' ≡ set ws (q % 256) (wants_of x)
      → (n'' tl'' l'' : List ℕ) → n'' ≡ linked n' tl l' t (q % 256) → tl'' ≡ set tl t (q % 256) → l'' ≡ lengthened l' t
      → (q % 256 ≡ copy_place copies place (places n tl l u))
      × ((strands : List Strand) → store strands tm' am' v' w' ws' (places n'' tl'' l'' u') ≡ copy_noted copies t at x (was strands))
  copied e n' l' u' q took tm' am' v' w' ws' et ea ev ew en n'' tl'' l'' el em eo =
      let free : q % 256 ≡ new_place (places n tl l u) = ap (λ (i : ℕ). i % 256) took.is in (
        free ∙ sym (ap (λ (b : Bool). copy_place b place (places n tl l u)) e),
        λ strands. noted_is strands (places n'' tl'' l'' u') tm am v w ws (q % 256) at x tm' am' v' w' ws' et ea ev ew en
            ∙ noted_with strands (q % 256) (new_place (places n tl l u)) (places n'' tl'' l'' u')
            (enqueued t (new_place (places n tl l u)) (freed (places n tl l u))) free
            (enqueued_is (places n' tl l' u') t (q % 256) n'' tl'' l'' el em eo
            ∙ ap₂ (λ (i : ℕ) (r : Places). enqueued t i r) free took.left)
            ∙ sym (ap (λ (b : Bool). copy_noted b t at x (was strands)) e),
      )

-- `settle`
module _ (d : Decision) (place t : ℕ) (at : TimeStamp) (l l' : Left) (is : l ≡ l') where
  pub settled_is : (s s'' s''' : Strands) → s'' ≡ copy_noted d.copies t at d.copy s → s''' ≡ noted place l.time l.strand s''
      → s''' ≡ settled d l' t place at s
  settled_is s s'' s''' ec en =
      en ∙ ap (noted place l.time l.strand) ec
      ∙ ap (λ (m : Left). noted place m.time m.strand (copy_noted d.copies t at d.copy s)) is

  pub settled_so : (p : Places) (q : ℕ) → q ≡ copy_place d.copies place p
      → record { copy_place = q; strand = l.strand; refines = l.refines } ≡ settled_as d l' place p
  settled_so p q e = ap₂ (λ (i : ℕ) (m : Left). record { copy_place = i; strand = m.strand; refines = m.refines }) e is

-- THE TURN
module _ (gf first_of len_of_lem cv cf : List ℕ) (p : Next) (top : Top) (made : Made) (d : Decision) (seen : ℕ) (w : Lent) where
  -- a turn by what its stages leave
  abbrev turn_from : Tabling → Strands → Settled → Did → TurnDone
  turn_from m s c e = record {
    flow = e.flow;
    copy_at = c.copy_place;
    copy = d.copy;
    strand_at = p.place;
    strand = c.strand;
    answer_at = e.answer_at;
    answer = d.answer;
    lent = lent_of (tables_after gf first_of len_of_lem cv cf p top made d seen m.tables e.moved) (with_places s e.moved.rings)
        e.moved.answers e.moved.stack e.moved.clock;
  }

  turn_same : (m m' : Tabling) (s s'' : Strands) (c c' : Settled) (e e' : Did) → m ≡ m' → s ≡ s'' → c ≡ c' → e ≡ e'
      → turn_from m s c e ≡ turn_from m' s'' c' e'
  turn_same m m' s s'' c c' e e' em es ec ee = ap₂ (λ (a : Tabling) (b : Strands). turn_from a b c e) em es
      ∙ ap₂ (λ (a : Settled) (b : Did). turn_from m' s'' a b) ec ee

  -- the deed, by what it is done to
  abbrev deed_by : (not refines : Bool) → Tabling → Strands → Stack → Did
  deed_by not refines m s k = deed_done not refines d.answer top.table p.place seen d.deed
      (moving s.places m.tables.floundered w.answers k w.clock)

  deed_same : (b b' c c' : Bool) (m m' : Tabling) (s s'' : Strands) (k k' : Stack) → b ≡ b' → c ≡ c' → m ≡ m' → s ≡ s'' → k ≡ k'
      → deed_by b c m s k ≡ deed_by b' c' m' s'' k'
  deed_same b b' c c' m m' s s'' k k' eb ec em es ek =
      ap₂ (λ (i j : Bool). deed_by i j m s k) eb ec ∙ ap₂ (λ (i : Tabling) (j : Strands). deed_by b' c' i j k) em es
      ∙ ap (deed_by b' c' m' s'') ek

  pub performed_is : (m : Tabling) → m ≡ begun gf first_of len_of_lem cv cf p top made d seen w
      → (s : Strands) → s ≡ settled d (stands gf first_of len_of_lem cv cf p top made d seen w) top.table p.place top.clock
      m.strands
      → (c : Settled) → c ≡ settled_as d (stands gf first_of len_of_lem cv cf p top made d seen w) p.place m.strands.places
      → (k : Stack) → k ≡ left_stack gf first_of len_of_lem cv cf p top made d seen w.stack
      → (not : Bool) → not ≡ is_negative (meant (chosen d.strand)) → (e : Did) → e ≡ deed_by not c.refines m s k
      → turn_from m s c e ≡ strand_performed gf first_of len_of_lem cv cf p top made d seen w
  performed_is m em s es c ec k ek not eb e ee =
      let m' : Tabling = begun gf first_of len_of_lem cv cf p top made d seen w in
      let s'' : Strands = settled_in gf first_of len_of_lem cv cf p top made d seen w in
      let l : Left = stands gf first_of len_of_lem cv cf p top made d seen w in
      let es' : s ≡ s'' = es ∙ ap (λ (a : Tabling). settled d l top.table p.place top.clock a.strands) em in
      let ec' : c ≡ settled_as d l p.place m'.strands.places =
      ec ∙ ap (λ (a : Tabling). settled_as d l p.place a.strands.places) em in
      turn_same m m' s s'' c (settled_as d l p.place m'.strands.places) e (deed_in gf first_of len_of_lem cv cf p top made d seen w)
      em es' ec'
      (ee ∙ deed_same not (is_negative (meant (chosen d.strand))) c.refines l.refines m m' s s'' k
      (left_stack gf first_of len_of_lem cv cf p top made d seen w.stack) eb (ap (λ (a : Settled). a.refines) ec') em es' ek)

-- From before its first turn to its end: what a search comes to is the definitions' `root_answer`, what a peek comes to is their
-- `peek_rounds`, and the stores that are left are between two searches.
use Prim.Native.Nat.{ℕ, suc, ◌+◌, ◌≤◌, ◌<◌}
use mathlib.Core.Bool.{Bool, true, false}
use mathlib.Core.Path.{◌≡◌, refl, subst}
use Rattle.definitions.specs.{MAX}
use Rattle.definitions.specs.Forest.{peek_rounds}
use Rattle.definitions.specs.Turn.{root_answer}
use Rattle.asserts.proofs.Unwinding.{Ended}
use Rattle.small_steps.specs.Steps.{Progress, Ends}
use Rattle.small_steps.proofs.Peeking.{search_is, peek_is}
use Rattle.book.specs.declared.Book.{Book}
use Rattle.control.specs.PerformStrand.{Lent}
use Rattle.control.specs.Stores.{forest}
use Rattle.search.specs.declared.course.Asked.{Asked}
use Rattle.search.specs.declared.course.Course.{Course}
use Rattle.search.specs.Course.{is_turn, is_peek}
use Rattle.search.specs.Means.{Rests, stores_of, searched_of, peeked_of}
use Rattle.search.specs.Walk.{Walk, walk, Comes}
use Rattle.search.proofs.PassingPeeks.{started_settled, peek_comes}
use Rattle.search.proofs.PassingSearch.{Settled, search_comes}
use Rattle.search.proofs.Starting.{begun, started, start_is}
use Rattle.search.proofs.StartingSound.{root_there, start_rests, start_sound, start_left}
use Rattle.search.proofs.StartingValid.{started_peeks}

module _ (b : Book) (asked : Asked) (few : asked.limit ≤ MAX) (no_turn : is_turn asked.mode ≡ false) (c : Course) (w : Lent)
    (o : Rests (stores_of b asked (walk c w)))
    (x : Ended b.goals asked.table c.index (forest (stores_of b asked (walk c w)))) where
  abbrev d : Course
  d = started asked w c

  -- A SEARCH
  module _ (no_peek : is_peek asked.mode ≡ false) where
    settled_by : (over : Bool) → d.over ≡ over → Settled over b asked (suc c.clock) (begun asked w d)
    settled_by true e = start_rests b asked c w o x e
    settled_by false e =
        record { numbers = refl; sound = start_sound b asked c w o x e; turn_left = start_left b asked c w o x e }

    pub search_answers : {u : Walk} → Comes b asked (begun asked w (started asked w c)) u
        → (root_answer asked.limit asked.table c.index (forest (stores_of b asked (walk c w))) ≡ searched_of b asked u)
        × (u.course.over ≡ true) × Rests (stores_of b asked u)
    search_answers {u} h =
        let s = search_comes b asked few no_turn no_peek (suc c.clock) d.over refl (settled_by d.over refl) h in (
          search_is asked.limit asked.table c.index (forest (stores_of b asked (walk c w)))
              (subst (λ (g : Progress). Ends g (searched_of b asked u)) (start_is b asked c w o (root_there b asked c w o x) no_peek)
              s.ends),
          s.is_over,
          s.rests,
        )

  -- A PEEK
  module _ (peeks : is_peek asked.mode ≡ true) (rounds : c.exceeded + c.more < MAX) where
    pub peek_answers : {u : Walk} → Comes b asked (begun asked w (started asked w c)) u
        → (peek_rounds c.more asked.limit c.exceeded asked.table c.index (forest (stores_of b asked (walk c w)))
        ≡ peeked_of b asked u) × (u.course.over ≡ true) × Rests (stores_of b asked u)
    peek_answers {u} h =
        let s = peek_comes b asked few no_turn peeks (suc c.clock) d.over refl
        (started_settled b asked few no_turn peeks c w o x rounds d.over refl) h in (
          peek_is b.goals asked.table asked.limit c.more c.exceeded c.index (forest (stores_of b asked (walk c w))) x
              (started_peeks b asked peeks c w o x (peeked_of b asked u) s.came),
          s.is_over,
          s.rests,
        )

-- The functions of perform_deed.rt at their tests' answers, over variables. From what the functions of the stores and the rings leave.
use Prim.Native.Nat.{ℕ, ◌%◌, ◌≤◌, ◌<◌}
use mathlib.Core.Path.{◌≡◌, refl, sym, ap, ap₂, ◌∙◌}
use mathlib.Core.Bool.{Bool, true, false}
use mathlib.Core.List.{List}
use lib.ListN.{set}
use lib.Dec.{eqb, ltb}
use borrow.Author.Tests.{lt-ltb, le-ltb, eqb-true, eqb-false, eq-eqb, ne_eqb}
use Rattle.rings.specs.Rings.{unlinked, shortened, linked, lengthened, RingMove}
use Rattle.definitions.specs.{MAX}
use Rattle.strands.specs.declared.Answer.{Answer}
use Rattle.strands.specs.Times.{incremented}
use Rattle.strands.specs.View.{answer}
use Rattle.stores.specs.declared.places.Places.{Places}
use Rattle.stores.specs.declared.table.Answers.{Answers}
use Rattle.stores.specs.declared.stack.Stack.{Stack}
use Rattle.stores.specs.Numbers.{flag_number, count_after, written_at}
use Rattle.stores.specs.Places.{places, enqueued, TookPlace}
use Rattle.stores.specs.Stack.{top_written, pushed, activated}
use Rattle.stores.specs.Table.{key_of}
use Rattle.stores.proofs.PlacesMoves.{places_is, moved_is, enqueued_is}
use Rattle.control.specs.declared.performed.Flow.{Flow}
use Rattle.control.specs.UnwindStack.{Rings}
use Rattle.control.specs.PerformDeed.{stack_of, answers_of, left_rings, left_active, emptied_unless, emptied, emptied_if}
use Rattle.control.specs.PerformDeed.{new_place, answer_kept, answer_flow, Moving, moving, did}

-- one change of the rings after another
pub rings_then : (f g : Places → Places) (n t l n' t' l' n'' t'' l'' : List ℕ) → Rings f n t l n' t' l' → Rings g n' t' l' n'' t'' l''
    → Rings (λ p. g (f p)) n t l n'' t'' l''
rings_then f g n t l n' t' l' n'' t'' l'' a b top = b top ∙ ap g (a top)

pub enqueued_rings : (t q : ℕ) (n tl l n' tl' l' : List ℕ) → n' ≡ linked n tl l t q → tl' ≡ set tl t q → l' ≡ lengthened l t
    → Rings (enqueued t q) n tl l n' tl' l'
enqueued_rings t q n tl l n' tl' l' en et el top = enqueued_is (places n tl l top) t q n' tl' l' en et el

-- `leave`
module _ (queued : Bool) (t b depth : ℕ) (n tl l : List ℕ) (active : List ℕ) where
  pub left_queue : queued ≡ true → (n' tl' l' : List ℕ) → n' ≡ unlinked n b → tl' ≡ set tl t b → l' ≡ shortened l t
      → Rings (left_rings queued t b) n tl l n' tl' l' × (active ≡ left_active queued depth active)
  left_queue e n' tl' l' en et el = (
    λ top. places_is n' (unlinked n b) tl' (set tl t b) l' (shortened l t) top top en et el refl
        ∙ sym (ap (λ (w : Bool). left_rings w t b (places n tl l top)) e),
    sym (ap (λ (w : Bool). left_active w depth active) e),
  )

  pub left_entry : queued ≡ false → (active' : List ℕ) → active' ≡ top_written depth 256 active
      → Rings (left_rings queued t b) n tl l n tl l × (active' ≡ left_active queued depth active)
  left_entry e active' ea = (
    λ top. sym (ap (λ (w : Bool). left_rings w t b (places n tl l top)) e),
    ea ∙ sym (ap (λ (w : Bool). left_active w depth active) e),
  )

-- `empty_queue` and `mark_floundered`: what `ring_move` to the free places leaves
module _ (t : ℕ) (n tl l n' tl' l' : List ℕ) (did : RingMove n tl l t 64 n' tl' l') where
  stayed : t ≡ 64 → Rings (emptied t) n tl l n' tl' l'
  stayed e top =
      let s = did.stays e in
      places_is n' n tl' tl l' l top top s.0 s.1 s.2 refl
      ∙ sym (ap (λ (w : Bool). emptied_unless w t (places n tl l top)) (eq-eqb t 64 e))

  went : (t ≡ 64 → ⊥) → Rings (emptied t) n tl l n' tl' l'
  went d top =
      moved_is (places n tl l top) t 64 n' tl' l' (did.moves d)
      ∙ sym (ap (λ (w : Bool). emptied_unless w t (places n tl l top)) (ne_eqb t 64 d))

  moved_by : (b : Bool) → eqb t 64 ≡ b → Rings (emptied t) n tl l n' tl' l'
  moved_by true e = stayed (eqb-true t 64 e)
  moved_by false e = went (eqb-false t 64 e)

  pub emptied_rings : Rings (emptied t) n tl l n' tl' l'
  emptied_rings = moved_by (eqb t 64) refl

pub empties_some : (empties : Bool) (t : ℕ) (n tl l n' tl' l' : List ℕ) → empties ≡ true → Rings (emptied t) n tl l n' tl' l'
    → Rings (emptied_if empties t) n tl l n' tl' l'
empties_some empties t n tl l n' tl' l' e h top = h top ∙ sym (ap (λ (w : Bool). emptied_if w t (places n tl l top)) e)

pub empties_none : (empties : Bool) (t : ℕ) (n tl l : List ℕ) → empties ≡ false → Rings (emptied_if empties t) n tl l n tl l
empties_none empties t n tl l e top = sym (ap (λ (w : Bool). emptied_if w t (places n tl l top)) e)

-- `flow_of_answer`
pub flow_root : (depth : ℕ) (f : Flow) → depth < 2 → f ≡ answer_flow true → f ≡ answer_flow (ltb depth 2)
flow_root depth f h e = e ∙ ap answer_flow (sym (lt-ltb depth 2 h))

pub flow_caller : (depth : ℕ) (f : Flow) → 2 ≤ depth → f ≡ answer_flow false → f ≡ answer_flow (ltb depth 2)
flow_caller depth f h e = e ∙ ap answer_flow (sym (le-ltb depth 2 h))

-- `push_table`
pub pushed_is : (d : ℕ) (tb ck p n a tb' ck' p' n' a' a'' : List ℕ) (t q clock time d' : ℕ) → time ≡ incremented clock
    → a' ≡ top_written d q a → d' ≡ count_after d → tb' ≡ written_at d t tb → ck' ≡ written_at d time ck → p' ≡ written_at d MAX p
    → n' ≡ written_at d MAX n → a'' ≡ written_at d 256 a'
    → stack_of d' tb' ck' p' n' a'' ≡ pushed t (incremented clock) MAX (activated q (stack_of d tb ck p n a))
pushed_is d tb ck p n a tb' ck' p' n' a' a'' t q clock time d' et ea ed eb ec ep en ez = cc

-- `keep_answer`
module _ (n tl l : List ℕ) (u : ℕ) (v k am : List ℕ) (t : ℕ) (x : Answer) where
  abbrev was : List Answer → Answers
  was answers = answers_of answers v k am (places n tl l u)

  answers_is : (answers : List Answer) (p p' : Places) (v' k' am' v'' k'' am'' : List ℕ) → p ≡ p' → v' ≡ v'' → k' ≡ k'' → am' ≡ am''
      → answers_of answers v' k' am' p ≡ answers_of answers v'' k'' am'' p'
  answers_is answers p p' v' k' am' v'' k'' am'' ep ev ek ea = cc

  pub kept_is : (n' l' : List ℕ) (u' q : ℕ) → TookPlace n tl l u n' l' u' q
      → (v' k' am' : List ℕ) → v' ≡ set v (q % 256) (answer x).variant → k' ≡ set k (q % 256) (key_of (answer x).delayed_subgoals)
      → am' ≡ set am (q % 256) (flag_number (answer x).ambiguous)
      → (n'' tl'' l'' : List ℕ) → n'' ≡ linked n' tl l' t (q % 256) → tl'' ≡ set tl t (q % 256) → l'' ≡ lengthened l' t
      → (q % 256 ≡ new_place (places n tl l u))
      × ((answers : List Answer) → answers_of answers v' k' am' (places n'' tl'' l'' u') ≡ answer_kept t x (was answers))
  kept_is n' l' u' q took v' k' am' ev ek ea n'' tl'' l'' en et el =
      let at : q % 256 ≡ new_place (places n tl l u) = ap (λ (i : ℕ). i % 256) took.is in (
        at,
        λ answers. answers_is answers (places n'' tl'' l'' u') (answer_kept t x (was answers)).places v' k' am'
            (answer_kept t x (was answers)).variant (answer_kept t x (was answers)).key (answer_kept t x (was answers)).ambiguous
            (enqueued_is (places n' tl l' u') t (q % 256) n'' tl'' l'' en et el
            ∙ ap₂ (λ (i : ℕ) (r : Places). enqueued t i r) at took.left)
            (ev ∙ ap (λ (i : ℕ). set v i (answer x).variant) at)
            (ek ∙ ap (λ (i : ℕ). set k i (key_of (answer x).delayed_subgoals)) at)
            (ea ∙ ap (λ (i : ℕ). set am i (flag_number (answer x).ambiguous)) at),
      )

-- `perform_deed`: what is moved, by its parts
pub stack_is : {d d' : ℕ} {tb tb' ck ck' p p' n n' a a' : List ℕ} → d ≡ d' → tb ≡ tb' → ck ≡ ck' → p ≡ p' → n ≡ n' → a ≡ a'
    → stack_of d tb ck p n a ≡ stack_of d' tb' ck' p' n' a'
stack_is ed et ec ep en ea = cc

pub moving_is : {p p' : Places} {f f' : List ℕ} {a a' : Answers} {k k' : Stack} {c c' : ℕ} → p ≡ p' → f ≡ f' → a ≡ a' → k ≡ k' → c ≡ c'
    → moving p f a k c ≡ moving p' f' a' k' c'
moving_is ep ef ea ek ec = cc

pub did_is : {f f' : Flow} {q q' : ℕ} {m m' : Moving} → f ≡ f' → q ≡ q' → m ≡ m' → did f q m ≡ did f' q' m'
did_is ef eq em = cc

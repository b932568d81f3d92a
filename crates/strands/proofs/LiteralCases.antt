-- A strand's literals as the view shows them: the facts that each return of literals.rt cites. They follow from the laws on lists, for
-- an array of eight.
use Prim.Native.Nat.{ℕ, ◌+◌, ◌-◌, ◌≤◌, ◌<◌, min}
use native.Mathlib.Omega.{arith}
use mathlib.Core.Bool.{Bool, true, false}
use mathlib.Core.List.{map}
use mathlib.Core.Option.{none, some}
use mathlib.Core.Path.{◌≡◌, refl, sym, ap, ◌∙◌}
use lib.Dec.{eqb}
use lib.ListN.{length, take, get_or, get_elem?}
use borrow.Author.Tests.{lt-ltb, le-ltb, eq-eqb, ne_eqb}
use Rattle.std.specs.Prelude.{Some, None}
use Rattle.definitions.specs.Book as books
use Rattle.definitions.specs.Lists.{is_empty}
use Rattle.definitions.specs.Slg.{next_subgoal_index}
use Rattle.book.specs.View.{meant}
use Rattle.book.specs.declared.Literal.{Literal}
use Rattle.strands.specs.declared.Strand.{Strand}
use Rattle.strands.specs.Fields.{no_literal, with_literals, with_answer_time}
use Rattle.strands.specs.Literals.{without_last, answered, subgoal_at}
use Rattle.strands.specs.View.{clause, is_negative}
use Rattle.strands.proofs.Lists.{length_view, view_at, view_past, view_empty, view_remove_last}

negative_by : (l : Literal) (b : Bool) → books.bit1 l.kind ≡ b → b ≡ is_negative (meant l)
negative_by l true e = rw e
negative_by l false e = rw e

pub negative_is : (l : Literal) → books.bit1 l.kind ≡ is_negative (meant l)
negative_is l = negative_by l (books.bit1 l.kind) refl

goal_by : (l : Literal) (b : Bool) → books.bit1 l.kind ≡ b → l.goal ≡ books.goal_of (meant l)
goal_by l true e = rw e
goal_by l false e = rw e

pub goal_is : (l : Literal) → l.goal ≡ books.goal_of (meant l)
goal_is l = goal_by l (books.bit1 l.kind) refl

module _ (s : Strand) (long : length s.literals ≡ 8) where
  pub count_is : length (clause s).subgoals ≡ min s.literal_count 8
  count_is = length_view meant s.literal_count s.literals ∙ ap (λ (k : ℕ). min s.literal_count k) long

  pub index_is : next_subgoal_index (clause s) ≡ min s.literal_count 8 - 1
  index_is = ap (λ (k : ℕ). k - 1) count_is

  pub empty_is : eqb s.literal_count 0 ≡ is_empty (clause s).subgoals
  empty_is = view_empty meant s.literal_count s.literals (omega arith)

  pub found_at : (i : ℕ) → i < min s.literal_count 8 → some (meant (get_or s.literals i no_literal)) ≡ get_elem? (clause s).subgoals i
  found_at i h = sym (view_at meant s.literal_count i s.literals no_literal (rw long h))

  pub found_past : (i : ℕ) → min s.literal_count 8 ≤ i → none ≡ get_elem? (clause s).subgoals i
  found_past i h = sym (view_past meant s.literal_count i s.literals (rw long h))

  -- the literals below the last one
  pub removed : (i : ℕ) → i ≡ min s.literal_count 8 - 1 → map meant (take i s.literals) ≡ (without_last (clause s)).subgoals
  removed i e =
      ap (λ (k : ℕ). map meant (take k s.literals)) (e ∙ ap (λ (k : ℕ). min s.literal_count k - 1) (sym long))
      ∙ sym (view_remove_last meant s.literal_count s.literals)

-- The ways out of `answered`, by the tests of the code.
module _ (s : Strand) where
  pub answered_none : s.literal_count ≡ 0 → answered s ≡ s
  answered_none p = rw (eq-eqb s.literal_count 0 p)

  pub answered_many : (s.literal_count ≡ 0 → ⊥) → 8 < s.literal_count → answered s ≡ s
  answered_many p q = rw (ne_eqb s.literal_count 0 p, lt-ltb 8 s.literal_count q)

  pub answered_end : (s.literal_count ≡ 0 → ⊥) → s.literal_count ≤ 8 → s.answer_time ≡ 255 → answered s ≡ s
  answered_end p q r = rw (ne_eqb s.literal_count 0 p, le-ltb 8 s.literal_count q, eq-eqb s.answer_time 255 r)

  pub answered_last : (s.literal_count ≡ 0 → ⊥) → s.literal_count ≤ 8 → (s.answer_time ≡ 255 → ⊥)
      → answered s ≡ with_answer_time (with_literals s s.literals (s.literal_count - 1)) (s.answer_time + 1)
  answered_last p q r = rw (ne_eqb s.literal_count 0 p, le-ltb 8 s.literal_count q, ne_eqb s.answer_time 255 r)

  -- The ways out of `subgoal_at`.
  pub found_there : (i : ℕ) → i < min s.literal_count 8 → subgoal_at s i ≡ Some (get_or s.literals i no_literal)
  found_there i p = rw (lt-ltb i (min s.literal_count 8) p)

  pub found_nothing : (i : ℕ) → min s.literal_count 8 ≤ i → subgoal_at s i ≡ None
  found_nothing i p = rw (le-ltb i (min s.literal_count 8) p)

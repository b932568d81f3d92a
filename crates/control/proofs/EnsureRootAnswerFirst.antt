-- The first strand of a clause, made from the arrays of a book, means the clause's initial strand: where the place is fresh that is the
-- strand in hand.
use Prim.Native.Nat.{ℕ, ◌+◌, ◌*◌, ◌%◌, ◌≤◌, ◌<◌}
use native.Mathlib.Omega.{arith}
use mathlib.Core.Bool.{Bool, true, false}
use mathlib.Core.List.{List, map}
use mathlib.Core.Path.{◌≡◌, refl, sym, ap, ap₂, ◌∙◌}
use lib.Dec.{ltb}
use lib.ListN.{length, take, get_or, get_or-eq_default}
use borrow.Author.Tests.{ltb-true, ltb-false}
use Rattle.definitions.specs.{TimeStamp}
use Rattle.definitions.specs.Book as said
use Rattle.definitions.specs.Logic.{initial_strand}
use Rattle.definitions.specs.Strand as held
use Rattle.asserts.specs.Sound.{Named}
use Rattle.laws.specs.All.{All}
use Rattle.laws.proofs.Spans.{take_span, span_moved, all_span, map_span}
use Rattle.book.specs.Access.{literal_read}
use Rattle.book.specs.View as books
use Rattle.book.specs.View.{kept, meant, literal_viewed, clause_viewed}
use Rattle.book.specs.declared.Book.{Book}
use Rattle.book.specs.declared.Literal.{Literal}
use Rattle.book.proofs.Looks.{literal_in}
use Rattle.book.proofs.MoreLiterals.{goal_of_kept}
use Rattle.strands.specs.declared.Strand.{Strand}
use Rattle.strands.specs.Making.{clause_of, nothing}
use Rattle.strands.specs.View.{Sound, seen}
use Rattle.strands.proofs.MakeViews.{blank_sound, initial_view, initial_sound}
use Rattle.stores.specs.View.{strand_by}
use Rattle.control.specs.EnsureRootAnswer.{clause_literals, first_by, in_hand_by}
use Rattle.control.specs.Stores.{first_strands}

module _ (b : Book) (sound : books.Sound b) (goals : ℕ) (few : goals ≤ 64) where
  abbrev read : (c j : ℕ) → Literal
  read c j = literal_read b.literal_kind b.literal_goal b.literal_want c j

  abbrev literals : (c : ℕ) → List Literal
  literals c = clause_literals b.literal_kind b.literal_goal b.literal_want c 8

  -- a clause of the arrays whose literals name goals
  module _ (c : ℕ) (h : c < 256) (named : All (Named goals) (clause_viewed b c).literals) where
    abbrev count : ℕ
    count = get_or b.clause_len c 0

    module _ (j : ℕ) (l : j < count) where
      abbrev place : ℕ
      place = 8 * c + j

      goal_is : get_or b.literal_goal place 0 % 256 ≡ get_or b.literal_goal place 0
      goal_is =
          let in_clause = all_span (literal_viewed b) (8 * c) count j named l in
          let is = goal_of_kept (get_or b.literal_kind place 0) (get_or b.literal_goal place 0) (get_or b.literal_want place 0) in
          omega arith

      literal_means : meant (read c j) ≡ literal_viewed b place
      literal_means =
          ap meant (literal_in b.literal_kind b.literal_goal b.literal_want c j h (omega (arith, sound.few_literals c)))
          ∙ ap (λ (g : ℕ). kept (get_or b.literal_kind place 0) g (get_or b.literal_want place 0)) goal_is

    literals_mean : map meant (take count (literals c)) ≡ (clause_viewed b c).literals
    literals_mean =
        ap (map meant) (take_span (read c) 0 8 count (sound.few_literals c))
        ∙ map_span meant (read c) 0 count
        ∙ span_moved (λ j. meant (read c j)) (literal_viewed b) 0 (8 * c) count
        (λ j l. let z : 0 + j ≡ j = omega arith in ap (λ (i : ℕ). meant (read c i)) z ∙ literal_means j l)

    clause_is : clause_of (get_or b.clause_variant c 0) (get_or b.clause_flags c 0) (literals c) count ≡ clause_viewed b c
    clause_is =
        ap (λ (ls : List said.Literal). record {
          variant = get_or b.clause_variant c 0;
          cannot_prove = said.bit0 (get_or b.clause_flags c 0);
          outsized = said.bit1 (get_or b.clause_flags c 0);
          literals = ls;
        }) literals_mean

  -- past the arrays there is an empty clause
  no_clause : (c : ℕ) → 256 ≤ c → nothing ≡ clause_viewed b c
  no_clause c h =
      let past : (l : List ℕ) → length l ≡ 256 → get_or l c 0 ≡ 0 = λ l e. get_or-eq_default l 0 (omega arith) in
      sym
      (ap₂ (λ (v f : ℕ). books.clause_made (literal_viewed b) c v f (get_or b.clause_len c 0))
      (past b.clause_variant sound.full.clause_variant) (past b.clause_flags sound.full.clause_flags)
      ∙ ap (books.clause_made (literal_viewed b) c 0 0) (past b.clause_len sound.full.clause_len))

  abbrev strand_by_place : (can_be : Bool) → (c : ℕ) → Strand
  strand_by_place can_be c =
      first_by b.clause_variant b.clause_flags b.clause_len b.literal_kind b.literal_goal b.literal_want
      can_be c

  abbrev at_time : TimeStamp → held.Strand → held.Strand
  at_time time s = held.with_pursued s time

  by_place_means : (time : TimeStamp) (can_be : Bool) (c : ℕ) → ltb c 256 ≡ can_be → All (Named goals) (clause_viewed b c).literals
      → seen time (strand_by_place can_be c) ≡ at_time time (first_strands b c)
  by_place_means time true c e named =
      ap (at_time time)
      (initial_view (get_or b.clause_variant c 0) (get_or b.clause_flags c 0) (literals c) (get_or b.clause_len c 0) refl
      ∙ ap initial_strand (clause_is c (ltb-true c 256 e) named))
  by_place_means time false c e named = ap (λ (x : said.Clause). at_time time (initial_strand x)) (no_clause c (ltb-false c 256 e))

  by_place_sound : (can_be : Bool) (c : ℕ) → Sound (strand_by_place can_be c)
  by_place_sound true c =
      initial_sound (get_or b.clause_variant c 0) (get_or b.clause_flags c 0) (literals c) (get_or b.clause_len c 0) refl
  by_place_sound false c = blank_sound

  -- THE STRAND IN HAND: x stands at the place, which is fresh or not
  module _ (x : Strand) (c : ℕ) where
    abbrev hand : (fresh : Bool) → Strand
    hand fresh =
        in_hand_by b.clause_variant b.clause_flags b.clause_len b.literal_kind b.literal_goal
        b.literal_want fresh x c

    pub hand_means : (fresh : Bool) (was time : TimeStamp)
        → All (Named goals) (strand_by fresh was (first_strands b c) x).ex_clause.subgoals
        → seen time (hand fresh) ≡ held.with_pursued (strand_by fresh was (first_strands b c) x) time
    hand_means true was time named = by_place_means time (ltb c 256) c refl named
    hand_means false was time named = refl

    pub hand_sound : (fresh : Bool) → (fresh ≡ false → Sound x) → Sound (hand fresh)
    hand_sound true written = by_place_sound (ltb c 256) c
    hand_sound false written = written refl

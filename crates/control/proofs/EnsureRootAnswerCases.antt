-- The ways out of the functions of ensure_root_answer.rt, over variables: what a return says is the model at the tests that led there.
use Prim.Native.Nat.{ℕ, ◌+◌, ◌≤◌, ◌<◌}
use native.Mathlib.Numerals.{add-one}
use mathlib.Core.Bool.{Bool}
use mathlib.Core.List.{List}
use mathlib.Core.Path.{◌≡◌, sym, ap, ap₂, ◌∙◌}
use lib.Dec.{eqb, ltb}
use lib.ListN.{get_or, set}
use borrow.Author.Tests.{lt-ltb, le-ltb, eq-eqb, ne_eqb}
use Rattle.std.specs.Prelude.{true, false}
use Rattle.book.specs.Access.{literal_read}
use Rattle.book.specs.declared.Literal.{Literal}
use Rattle.strands.specs.declared.Strand.{Strand}
use Rattle.strands.specs.Making.{blank_strand, strand_of}
use Rattle.stores.specs.declared.queue.Spot.{Spot}
use Rattle.stores.specs.Queue.{is_found, place_found}
use Rattle.control.specs.declared.ensure_root_answer.Top.{Top}
use Rattle.control.specs.EnsureRootAnswer.{no_top, topmost, top_by, top_of, next_by, clause_literals}
use Rattle.control.specs.EnsureRootAnswer.{first_by, in_hand_by, strand_in_hand}

module _ (entry_table entry_clock active complete : List ℕ) (depth : ℕ) where
  abbrev says : (empty deep : Bool) → Top
  says empty deep = top_by entry_table entry_clock active complete depth empty deep

  pub says_empty : depth ≡ 0 → no_top ≡ top_of entry_table entry_clock active complete depth
  says_empty e = sym (ap (λ (b : Bool). says b (ltb 64 depth)) (eq-eqb depth 0 e))

  pub says_deep : (depth ≡ 0 → ⊥) → 64 < depth → no_top ≡ top_of entry_table entry_clock active complete depth
  says_deep n h = sym (ap₂ says (ne_eqb depth 0 n) (lt-ltb 64 depth h))

  pub says_topmost : (depth ≡ 0 → ⊥) → depth ≤ 64
      → topmost entry_table entry_clock active complete depth ≡ top_of entry_table entry_clock active complete depth
  says_topmost n h = sym (ap₂ says (ne_eqb depth 0 n) (le-ltb 64 depth h))

pub says_active : (place : ℕ) (s : Spot) → place < 256
    → record { found = true; queued = false; place = place; before = 0 } ≡ next_by (ltb place 256) place s
says_active place s h = ap (λ (b : Bool). next_by b place s) (sym (lt-ltb place 256 h))

-- the queue was looked along: `was` is what that came to
pub says_queued : (place : ℕ) (was s : Spot) (found : Bool) (q : ℕ) → 256 ≤ place → was ≡ s → found ≡ is_found was → q ≡ place_found was
    → record { found = found; queued = true; place = q; before = was.before } ≡ next_by (ltb place 256) place s
says_queued place was s found q h is there at =
    ap₂ (λ (b : Bool) (n : ℕ). record { found = b; queued = true; place = n; before = was.before }) there at
    ∙ ap₂ (λ (b : Bool) (r : Spot). next_by b place r) (sym (le-ltb place 256 h)) is

-- one more literal is read
pub read_next : (kind goal want : List ℕ) (c i : ℕ) (was : List Literal) (l : Literal) → was ≡ clause_literals kind goal want c i
    → l ≡ literal_read kind goal want c i → set was i l ≡ clause_literals kind goal want c (i + 1)
read_next kind goal want c i was l e is =
    ap₂ (λ (w : List Literal) (x : Literal). set w i x) e is ∙ ap (clause_literals kind goal want c) (sym (add-one i))

-- The first strand of a clause, and the strand in hand.
module _ (clause_variant clause_flags clause_len literal_kind literal_goal literal_want : List ℕ) (c : ℕ) where
  abbrev first : (can_be : Bool) → Strand
  first can_be = first_by clause_variant clause_flags clause_len literal_kind literal_goal literal_want can_be c

  pub says_no_clause : 256 ≤ c → blank_strand ≡ first (ltb c 256)
  says_no_clause h = sym (ap first (le-ltb c 256 h))

  pub says_clause : (l : List Literal) → c < 256 → l ≡ clause_literals literal_kind literal_goal literal_want c 8
      → strand_of (get_or clause_variant c 0) (get_or clause_flags c 0) l (get_or clause_len c 0) ≡ first (ltb c 256)
  says_clause l h is =
      ap (λ (m : List Literal). strand_of (get_or clause_variant c 0) (get_or clause_flags c 0) m (get_or clause_len c 0)) is
      ∙ sym (ap first (lt-ltb c 256 h))

  pub says_in_hand : (s : Strand) (w : ℕ) (fresh : Bool) → eqb w 254 ≡ fresh
      → in_hand_by clause_variant clause_flags clause_len literal_kind literal_goal literal_want fresh s c
      ≡ strand_in_hand clause_variant clause_flags clause_len literal_kind literal_goal literal_want s w c
  says_in_hand s w fresh e =
      ap (λ (b : Bool). in_hand_by clause_variant clause_flags clause_len literal_kind literal_goal literal_want b s c) (sym e)

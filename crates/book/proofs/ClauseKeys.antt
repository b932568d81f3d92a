-- What the proofs of `keys` cite, over variables. Two clauses whose keys differ are not the same, since the key is a function of the
-- clause; nothing more is asked of it.
use Prim.Native.Nat.{ℕ, ◌+◌, ◌-◌, ◌≤◌, ◌<◌}
use native.Mathlib.Omega.{arith}
use mathlib.Core.Path.{◌≡◌, refl, sym, ap, ◌∙◌}
use mathlib.Core.Bool.{Bool, true, false}
use mathlib.Core.List.{List}
use lib.ListN.{length, get_or}
use Rattle.laws.specs.Spans.{span}
use Rattle.laws.proofs.Spans.{span_left}
use Rattle.definitions.specs.Book as said
use Rattle.definitions.specs.Book.{Clause, want_of, bit0, bit1, flag}
use Rattle.definitions.specs.Desk.{same_clause}
use Rattle.definitions.proofs.Desk.{same_clause_is}
use Rattle.book.specs.declared.Literal.{Literal}
use Rattle.book.specs.View.{meant}
use Rattle.book.specs.Access.{literal_read}
use Rattle.book.specs.Repeats.{Lent, lent, Keys, clause_read, mix_literal}
use Rattle.book.specs.Repeats.{literals_key, clause_key}

module _ (f : ℕ → said.Literal) (key j n X : ℕ) (left : literals_key key (span f j (n - j)) ≡ X) where
  key_again : (k : ℕ) → j < n → k ≡ mix_literal key (f j) → literals_key k (span f (j + 1) (n - (j + 1))) ≡ X
  key_again k lt e = ap (λ (x : ℕ). literals_key x (span f (j + 1) (n - (j + 1)))) e ∙ (rw (span_left f j n j lt) at left)

-- the key of a clause that is read
module _ (variants flags len kind goal want : List ℕ) (c : ℕ) where
  abbrev Whole : ℕ → Type 0
  Whole n = n ≡ clause_key (clause_read (lent variants flags len kind goal want) c)

  abbrev literal_of : ℕ → said.Literal
  literal_of i = meant (literal_read kind goal want c i)

  module _ (count key j : ℕ) (left : Whole (literals_key key (span literal_of j (count - j)))) where
    pub key_more : (l : Literal) (k : ℕ) → j < count → l ≡ literal_read kind goal want c j → k ≡ mix_literal key (meant l)
        → Whole (literals_key k (span literal_of (j + 1) (count - (j + 1))))
    key_more l k lt own e = key_again literal_of key j count _ left k lt (e ∙ ap (λ (x : Literal). mix_literal key (meant x)) own)

-- clauses whose keys differ
keys_apart : (c d : Clause) → (clause_key d ≡ clause_key c → ⊥) → same_clause c d ≡ false
keys_apart c d apart = at (same_clause c d) refl
  where
    at : (b : Bool) → same_clause c d ≡ b → same_clause c d ≡ false
    at true e = absurd (apart (sym (ap clause_key ((same_clause_is c d).0 e))))
    at false e = e

-- the keys of the first c of n clauses
pub record KeysSoFar (a : Lent) (n : ℕ) (keys : List ℕ) (c : ℕ) : Type 0 where
  pub few : n ≤ 256
  pub full : length keys ≡ 256
  pub within : c ≤ n
  pub so_far : Keys a keys c

pub keys_tell : (a : Lent) (keys : List ℕ) (c d : ℕ) → Keys a keys (c + 1) → d ≤ c → (get_or keys c 0 ≡ get_or keys d 0 → ⊥)
    → false ≡ same_clause (clause_read a c) (clause_read a d)
keys_tell a keys c d known le apart =
    sym (keys_apart (clause_read a c) (clause_read a d)
    (λ e. apart (known c (omega arith) ∙ sym e ∙ sym (known d (omega arith)))))

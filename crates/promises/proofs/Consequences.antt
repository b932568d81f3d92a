-- Demand 3 at work. For the book `0 :- 1, not 2. 1. 2 :- 2.` the calls below say yes to goal 0 and "no more solutions" to goal 2; so,
-- by the theorem, goal 0 is in the layered least model and goal 2 is not. And for `0 :- 0` as many searches end in QuantumExceeded
-- as the theorem allows.
use Prim.Native.Nat.{ℕ, zero, suc, ◌+◌}
use native.Mathlib.Omega.{arith}
use mathlib.Core.Path.{◌≡◌, refl, sym, subst}
use mathlib.Core.Bool.{false}
use mathlib.Core.List.Memᴰ
use mathlib.Core.List.{List, [], ◌∷◌, map, Memᴰ}
use lib.ListN.{length, get_or}
use Rattle.definitions.specs.Book.{any, Book, Clause, Positive, Negative, clause_count}
use Rattle.definitions.specs.Refusal.{accepted}
use Rattle.definitions.specs.Stop.{go}
use Rattle.definitions.specs.Tables.{Forest}
use Rattle.definitions.specs.Logic.{NoMoreSolutions, QuantumExceeded}
use Rattle.definitions.specs.Turn.{found, fail}
use Rattle.definitions.specs.Forest.{make, opened}
use Rattle.definitions.specs.Calls.{Call, opens, searches, peeks, table, searched, peeked, sitting, Called, calls}
use Rattle.definitions.specs.Lists.{Each}
use Rattle.papers.specs.Model.{Plain, LevelLiteral, Levelled, In}
use Rattle.papers.specs.Claim.{exceeded}
use Rattle.promises.proofs.Demand.{demand_3}

-- 0 :- 1, not 2. 1. 2 :- 2.

abbrev bytes : List ℕ
bytes = 0x47 ∷ 0x00 ∷ 0x43 ∷ 0x00 ∷ 0x00 ∷ 0x00 ∷ 0x50 ∷ 0x01 ∷ 0x00 ∷ 0x00 ∷ 0x00 ∷ 0x00 ∷ 0x4E ∷ 0x02 ∷ 0x00 ∷ 0x00
    ∷ 0x47 ∷ 0x00 ∷ 0x43 ∷ 0x00 ∷ 0x00 ∷ 0x00
    ∷ 0x47 ∷ 0x00 ∷ 0x43 ∷ 0x00 ∷ 0x00 ∷ 0x00 ∷ 0x50 ∷ 0x02 ∷ 0x00 ∷ 0x00 ∷ 0x00 ∷ 0x00
    ∷ 0x45 ∷ []

abbrev book : Book
book =
    record {
      coinductive = false;
      floundered = false;
      clauses =
          record { variant = 0; cannot_prove = false; outsized = false; literals = Positive 1 any false ∷ Negative 2 false ∷ [] } ∷ [];
    }
    ∷ record {
      coinductive = false;
      floundered = false;
      clauses = record { variant = 0; cannot_prove = false; outsized = false; literals = [] } ∷ [];
    }
    ∷ record {
      coinductive = false;
      floundered = false;
      clauses = record { variant = 0; cannot_prove = false; outsized = false; literals = Positive 2 any false ∷ [] } ∷ [];
    }
    ∷ []

abbrev forest : Forest
forest = record { book = book; clock_limit = 1000; mark = 0; tables = []; clock = 0 }

made : make bytes 1000 ≡ accepted forest
made = refl

abbrev level : ℕ → ℕ
level g = get_or (1 ∷ 0 ∷ 0 ∷ []) g 0

plain : Plain book
plain = (
  record {
    inductive = refl;
    unfloundered = refl;
    clauses_plain = (record { as_a_whole = refl; provable = refl; small = refl; literals_plain = ((refl, refl), (refl, tt)) }, tt);
  },
  (
    record {
      inductive = refl;
      unfloundered = refl;
      clauses_plain = (record { as_a_whole = refl; provable = refl; small = refl; literals_plain = tt }, tt);
    },
    (
      record {
        inductive = refl;
        unfloundered = refl;
        clauses_plain = (record { as_a_whole = refl; provable = refl; small = refl; literals_plain = ((refl, refl), tt) }, tt);
      },
      tt,
    ),
  ),
)

one_clause : (n : ℕ) (b c : Clause) → Each (LevelLiteral level n) b.literals → Memᴰ c (b ∷ [])
    → Each (LevelLiteral level n) c.literals
one_clause n b c l m = subst (λ (z : Clause). Each (LevelLiteral level n) z.literals) (sym (Memᴰ.eq_of_singleton m)) l

levelled : Levelled book level
levelled zero c m = one_clause 1 (record {
  variant = 0;
  cannot_prove = false;
  outsized = false;
  literals = Positive 1 any false ∷ Negative 2 false ∷ [];
}) c (omega arith, (omega arith, tt)) m
levelled (suc zero) c m = one_clause 0 (record { variant = 0; cannot_prove = false; outsized = false; literals = [] }) c tt m
levelled (suc (suc zero)) c m = one_clause 0 (record {
  variant = 0;
  cannot_prove = false;
  outsized = false;
  literals = Positive 2 any false ∷ [];
}) c (omega arith, tt) m
levelled (suc (suc (suc g))) c m = absurd (Memᴰ.not-nil m)

-- open goal 0, whose table is number 0; peek there; open goal 2, whose table is number 1; peek there
abbrev asked : List Call
asked = opens 0 ∷ peeks 0 0 10 100 ∷ opens 2 ∷ peeks 1 0 10 100 ∷ []

-- what the calls reply
pub replies : map (λ (c : Called). c.reply) (calls (sitting forest) asked) ≡
    table (go 0)
    ∷ peeked (found (record { variant = 0; ambiguous = false })) 0 6 2
    ∷ table (go 1)
    ∷ peeked (fail NoMoreSolutions) 0 1 0
    ∷ []
replies = refl

-- the forest that the call at a place of the list leaves
abbrev left_by : ℕ → Forest
left_by n = get_or (map (λ (c : Called). c.after.forest) (calls (sitting forest) asked)) n forest

-- so goal 0 is in the model
pub zero_in : In book level 0
zero_in = (demand_3 bytes 1000 forest made level plain levelled asked).0.1.0.0.1.1 0 (opened 0 (left_by 1) 0, refl, refl)

-- and goal 2 is not
pub two_out : In book level 2 → ⊥
two_out = ((demand_3 bytes 1000 forest made level plain levelled asked).0.1.1.1.0.0 refl).1 2 (opened 0 (left_by 3) 2, refl, refl)

-- 0 :- 0

abbrev loop_bytes : List ℕ
loop_bytes = 0x47 ∷ 0x00 ∷ 0x43 ∷ 0x00 ∷ 0x00 ∷ 0x00 ∷ 0x50 ∷ 0x00 ∷ 0x00 ∷ 0x00 ∷ 0x00 ∷ 0x00 ∷ 0x45 ∷ []

abbrev loop_book : Book
loop_book = record {
  coinductive = false;
  floundered = false;
  clauses = record { variant = 0; cannot_prove = false; outsized = false; literals = Positive 0 any false ∷ [] } ∷ [];
} ∷ []

abbrev loop_forest : Forest
loop_forest = record { book = loop_book; clock_limit = 1000; mark = 0; tables = []; clock = 0 }

pub loop_made : make loop_bytes 1000 ≡ accepted loop_forest
loop_made = refl

abbrev loop_asked : List Call
loop_asked = opens 0 ∷ searches 0 0 10 ∷ searches 0 0 10 ∷ searches 0 0 10 ∷ []

pub loop_replies : map (λ (c : Called). c.reply) (calls (sitting loop_forest) loop_asked) ≡
    table (go 0) ∷ searched (fail QuantumExceeded) 2 ∷ searched (fail QuantumExceeded) 2 ∷ searched (fail NoMoreSolutions) 1 ∷ []
loop_replies = refl

-- the bound is reached
pub bound_reached : exceeded (calls (sitting loop_forest) loop_asked) ≡ length loop_book + clause_count loop_book
bound_reached = refl

-- The largest book there can be: 64 goals with 4 clauses each, which have 8 literals each, all of them ranges. It has the bytes that
-- `largest_book` tells (`largest_long`), is read as it was written (`largest_read`), and with a byte more it is refused with 7
-- (`largest_past`). Assumes nothing.
use Prim.Native.Nat.{ℕ, zero, suc}
use native.Mathlib.Omega.{arith}
use mathlib.Core.Bool.{true}
use mathlib.Core.Path.{◌≡◌, refl}
use mathlib.Core.List.{[], ◌∷◌, ◌++◌}
use lib.ListN.{length, replicate}
use Rattle.definitions.specs.Refusal.{refused, accepted}
use Rattle.definitions.specs.Book.{between, Literal, Positive, Clause, Goal, Book, largest_book, read, write}
use Rattle.definitions.specs.Book.{LiteralWithin, LiteralsWithin, ClauseWithin, ClausesWithin, GoalsWithin, Within}
use Rattle.definitions.proofs.RoundTrip.{read_write, read_past}

abbrev literal : Literal
literal = Positive 63 (between 0 65535) true

abbrev clause : Clause
clause = record { variant = 65535; cannot_prove = true; outsized = true; literals = replicate 8 literal }

abbrev goal : Goal
goal = record { coinductive = true; floundered = true; clauses = replicate 4 clause }

abbrev pub largest : Book
largest = replicate 64 goal

literals_within : (n k : ℕ) (l : Literal) → LiteralWithin n l → LiteralsWithin n (replicate k l)
literals_within n zero l w = tt
literals_within n (suc k) l w = (w, literals_within n k l w)

clauses_within : (n k : ℕ) (c : Clause) → ClauseWithin n c → ClausesWithin n (replicate k c)
clauses_within n zero c w = tt
clauses_within n (suc k) c w = (w, clauses_within n k c w)

goals_within : (n k : ℕ) (g : Goal) → ClausesWithin n g.clauses → GoalsWithin n (replicate k g)
goals_within n zero g w = tt
goals_within n (suc k) g w = (w, goals_within n k g w)

clause_within : ClauseWithin 64 clause
clause_within = record {
  variant_fits = omega arith;
  few_literals = omega arith;
  literals_fit = literals_within 64 8 literal (omega arith, (omega arith, omega arith));
}

largest_within : Within largest
largest_within = record {
  some_goal = omega arith;
  few_goals = omega arith;
  few_clauses = omega arith;
  clauses_fit = goals_within 64 64 goal (clauses_within 64 4 clause clause_within);
}

pub largest_long : length (write largest) ≡ largest_book
largest_long = refl

pub largest_read : read (write largest) ≡ accepted largest
largest_read = read_write largest largest_within

pub largest_past : (b : ℕ) → read (write largest ++ (b ∷ [])) ≡ refused 7
largest_past b = read_past largest largest_within b []

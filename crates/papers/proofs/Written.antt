-- What is written for a book within the limits are bytes: each number of the list is below 256 (`write_bytes`, at the end), so that
-- the list of `read_write` (RoundTrip.antt) can stand in a file. This is what the limits on goals, wants and variants are for.
-- Assumes nothing.
use Prim.Native.Nat.{ℕ, zero, suc, ◌+◌, ◌*◌, ◌/◌, ◌%◌, ◌<◌, ◌≤◌}
use native.Mathlib.Omega.{arith}
use mathlib.Core.Bool.{Bool, true, false}
use mathlib.Core.List.{List, [], ◌∷◌, ◌++◌}
use lib.ListN.{length}
use Rattle.definitions.specs.Book.{any, exactly, between, Literal, Positive, Negative, Clause, Goal, Book, byte, flag}
use Rattle.definitions.specs.Book.{write_literal, write_literals, write_clauses, write_goals, write}
use Rattle.definitions.specs.Book.{LiteralWithin, LiteralsWithin, ClausesWithin, GoalsWithin, Within}

abbrev Bytes : List ℕ → Type 0
Bytes [] = Unit {0}
Bytes (b ∷ bs) = (b < 256) × Bytes bs

bytes_append : (l m : List ℕ) → Bytes l → Bytes m → Bytes (l ++ m)
bytes_append [] m p q = q
bytes_append (b ∷ l) m p q = (p.0, bytes_append l m p.1 q)

bytes_at : (l : List ℕ) (i : ℕ) → Bytes l → byte l i < 256
bytes_at [] i p = omega arith
bytes_at (b ∷ l) zero p = p.0
bytes_at (b ∷ l) (suc i) p = bytes_at l i p.1

flag_small : (a : Bool) → flag a ≤ 1
flag_small true = omega arith
flag_small false = omega arith

low : (n : ℕ) → n % 256 < 256
low n = omega arith

high : (n : ℕ) → n < 65536 → n / 256 < 256
high n h = omega arith

bits : (a b : Bool) → flag a + 2 * flag b < 256
bits a b = omega (arith, flag_small a, flag_small b)

bit : (a : Bool) → flag a < 256
bit a = omega (arith, flag_small a)

-- a goal's number fits two bytes in a book of at most 65,536 goals
module _ (n : ℕ) (h : n ≤ 65536) where
  literal_bytes : (l : Literal) → LiteralWithin n l → Bytes (write_literal l)
  literal_bytes (Positive g any x) w = (omega arith, (low g, (high g (omega arith), (omega arith, (omega arith, (bit x, tt))))))
  literal_bytes (Positive g (exactly v) x) w = (omega arith, (low g, (high g (omega arith), (low v, (high v w.1.1, (bit x, tt))))))
  literal_bytes (Positive g (between l m) x) w = (
    omega arith,
    (low g, (high g (omega arith), (low l, (high l (omega arith), (low m, (high m w.1.1, (bit x, tt))))))),
  )
  literal_bytes (Negative g x) w = (omega arith, (low g, (high g (omega arith), (bit x, tt))))

  literals_bytes : (ls : List Literal) → LiteralsWithin n ls → Bytes (write_literals ls)
  literals_bytes [] w = tt
  literals_bytes (l ∷ ls) w = bytes_append (write_literal l) (write_literals ls) (literal_bytes l w.0) (literals_bytes ls w.1)

  clauses_bytes : (cs : List Clause) → ClausesWithin n cs → Bytes (write_clauses cs)
  clauses_bytes [] w = tt
  clauses_bytes (c ∷ cs) w = (
    omega arith,
    (
      low c.variant,
      (
        high c.variant w.0.variant_fits,
        (
          bits c.cannot_prove c.outsized,
          bytes_append (write_literals c.literals) (write_clauses cs) (literals_bytes c.literals w.0.literals_fit)
              (clauses_bytes cs w.1),
        ),
      ),
    ),
  )

  goals_bytes : (gs : List Goal) → GoalsWithin n gs → Bytes (write_goals gs)
  goals_bytes [] w = tt
  goals_bytes (g ∷ gs) w = (
    omega arith,
    (
      bits g.coinductive g.floundered,
      bytes_append (write_clauses g.clauses) (write_goals gs) (clauses_bytes g.clauses w.0) (goals_bytes gs w.1),
    ),
  )

pub write_bytes : (book : Book) → Within book → (i : ℕ) → byte (write book) i < 256
write_bytes book w i =
    bytes_at (write book) i
    (bytes_append (write_goals book) (0x45 ∷ []) (goals_bytes (length book) (omega arith) book w.clauses_fit) (omega arith, tt))

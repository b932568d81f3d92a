-- What stands at a place of a book's arrays, for any place: past an array's size there is nothing.
use Rattle.std.specs.Prelude.{ℕ, ◌+◌, ◌*◌, ◌/◌, ◌%◌, Bool, true, false, List, get_or, ltb}
use Rattle.book.specs.declared.Literal.{Literal}

abbrev pub entry_by : Bool → ℕ → ℕ
entry_by true x = x
entry_by false x = 0

-- the entry of an array of a size
abbrev pub entry : (size : ℕ) → List ℕ → ℕ → ℕ
entry size l i = entry_by (ltb i size) (get_or l i 0)

abbrev pub blank_literal : Literal
blank_literal = record { goal = 0; kind = 0; want = 0; high = 0 }

abbrev pub literal_by : Bool → Bool → Literal → Literal
literal_by true true l = l
literal_by true false l = blank_literal
literal_by false b l = blank_literal

-- the literal at a place; a goal is kept in a byte, and the ends of a range in one number
abbrev pub literal_there : (kind goal want : List ℕ) → ℕ → Literal
literal_there kind goal want i = record {
  goal = get_or goal i 0 % 256;
  kind = get_or kind i 0;
  want = get_or want i 0 % 65536;
  high = get_or want i 0 / 65536;
}

-- literal j of clause c
abbrev pub literal_read : (kind goal want : List ℕ) → (c j : ℕ) → Literal
literal_read kind goal want c j = literal_by (ltb c 256) (ltb j 8) (literal_there kind goal want (8 * c + j))

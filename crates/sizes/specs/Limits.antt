-- THE LIMITS, each here and nowhere else: the definitions cite them, and the code's own, which size its arrays, are proved to be these
-- (`limits` of src/).
use Rattle.std.specs.Prelude.{ℕ, ◌*◌}
use Rattle.sizes.specs.declared.Sizes.{Sizes}

-- "A book" (document 01): goals, clauses in all of them, literals of a clause
abbrev pub most_goals : ℕ
most_goals = 64

abbrev pub most_clauses : ℕ
most_clauses = 256

abbrev pub most_literals : ℕ
most_literals = 8

-- how many bytes of an input a program reads: more than any book has, and enough to settle how any input is read
abbrev pub read_ahead : ℕ
read_ahead = 20480

-- "Stopped by the state" (document 01): a forest's tables, one for a goal; entries of the stack, one for a table; strands that live
-- together, queued, active or in hand; answers that are held together
abbrev pub most_tables : ℕ
most_tables = most_goals

abbrev pub most_entries : ℕ
most_entries = most_tables

abbrev pub most_strands : ℕ
most_strands = 256

abbrev pub most_answers : ℕ
most_answers = 256

-- places of a store, for strands or for answers; a byte names one
abbrev pub most_places : ℕ
most_places = 256

-- as the code has them
abbrev pub the_limits : Sizes
the_limits = record {
  goals = most_goals;
  clauses = most_clauses;
  literals = most_literals;
  book_literals = most_clauses * most_literals;
  read_ahead = read_ahead;
  tables = most_tables;
  entries = most_entries;
  places = most_places;
}

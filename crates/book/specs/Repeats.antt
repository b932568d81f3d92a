-- The clauses of a book by its arrays, at any place; the numbers by which they are told apart; and what is found.
use Rattle.std.specs.Prelude.{ℕ, ◌+◌, ◌*◌, ◌%◌, ◌≤◌, ◌<◌, ◌≡◌, Bool, true, false, List, [], ◌∷◌, get_or, Some, None, Result, Ok, Err, IfOk}
use Rattle.std.specs.declared.option.Option as found
use Rattle.std.proofs.Math.Option.{Option, none, some}
use Rattle.laws.specs.Spans.{span}
use Rattle.definitions.specs.Book as said
use Rattle.definitions.specs.Book.{Want, any, exactly, between, Positive, Negative, Clause, bit0, bit1, flag}
use Rattle.definitions.specs.Desk as desks
use Rattle.definitions.specs.Desk.{same_clause, repeat_of}
use Rattle.book.specs.declared.Book.{Book}
use Rattle.book.specs.declared.Repeat.{Repeat}
use Rattle.book.specs.declared.Looked.{Looked}
use Rattle.book.specs.declared.refusal.Refusal.{Refusal}
use Rattle.book.specs.Access.{entry, literal_read}
use Rattle.book.specs.View.{meant, Read}

-- the arrays that hold clauses and their literals
pub record Lent : Type 0 where
  pub variants : List ℕ
  pub flags : List ℕ
  pub lens : List ℕ
  pub kinds : List ℕ
  pub goals : List ℕ
  pub wants : List ℕ

abbrev pub lent : (variants flags lens kinds goals wants : List ℕ) → Lent
lent variants flags lens kinds goals wants =
    record { variants = variants; flags = flags; lens = lens; kinds = kinds; goals = goals; wants = wants }

abbrev pub literals_read : (lens kinds goals wants : List ℕ) → (c : ℕ) → List said.Literal
literals_read lens kinds goals wants c = span (λ j. meant (literal_read kinds goals wants c j)) 0 (entry 256 lens c)

-- the clause at a place
abbrev pub clause_read : Lent → ℕ → Clause
clause_read a c = record {
  variant = entry 256 a.variants c;
  cannot_prove = bit0 (entry 256 a.flags c);
  outsized = bit1 (entry 256 a.flags c);
  literals = literals_read a.lens a.kinds a.goals a.wants c;
}

-- a book's own
abbrev pub lent_by : Book → Lent
lent_by b = lent b.clause_variant b.clause_flags b.clause_len b.literal_kind b.literal_goal b.literal_want

-- a literal in two numbers: the goal with its sign and mark, and what is wanted of it
abbrev pub literal_number : said.Literal → ℕ
literal_number (Positive g want outsized) = 4 * g + flag outsized
literal_number (Negative g outsized) = 4 * g + flag outsized + 2

abbrev pub wanted_number : Want → ℕ
wanted_number any = 0
wanted_number (exactly v) = v
wanted_number (between least most) = least + 65536 * most

abbrev pub want_number : said.Literal → ℕ
want_number (Positive g want outsized) = wanted_number want
want_number (Negative g outsized) = 0

abbrev pub mix : (key n : ℕ) → ℕ
mix key n = (key * 2654435769 + n) % 4294967296

abbrev pub mix_literal : (key : ℕ) → said.Literal → ℕ
mix_literal key l = mix (mix key (want_number l)) (literal_number l)

abbrev pub literals_key : (key : ℕ) → List said.Literal → ℕ
literals_key key [] = key
literals_key key (l ∷ ls) = literals_key (mix_literal key l) ls

abbrev pub head_number : (variant : ℕ) → (cannot_prove outsized : Bool) → ℕ
head_number variant cannot_prove outsized = 4 * variant + 2 * flag cannot_prove + flag outsized

-- THE KEY of a clause: clauses that are the same have the same
abbrev pub clause_key : Clause → ℕ
clause_key c = literals_key (head_number c.variant c.cannot_prove c.outsized) c.literals

-- the keys of the first n clauses
abbrev pub Keys : Lent → (keys : List ℕ) → (n : ℕ) → Type 0
Keys a keys n = (c : ℕ) → c < n → get_or keys c 0 ≡ clause_key (clause_read a c)

-- the first place from `first` on that has the clause at c
pub record Earlier (clause : ℕ → Clause) (first c r : ℕ) : Type 0 where
  pub not_before : first ≤ r
  pub not_behind : r ≤ c
  pub none_before : (d : ℕ) → first ≤ d → d < r → same_clause (clause c) (clause d) ≡ false
  pub found : r < c → same_clause (clause c) (clause r) ≡ true

-- a repeat as the definitions have it
abbrev pub repeat_seen : found.Option Repeat → Option desks.Repeat
repeat_seen (Some r) = some (record { goal = r.goal; clause = r.clause; earlier = r.earlier })
repeat_seen None = none

abbrev pub book_looked : Result Looked Refusal → Result Book Refusal
book_looked (Ok l) = Ok l.book
book_looked (Err e) = Err e

-- what `look` is to give
pub record Looks (bytes : List ℕ) (r : Result Looked Refusal) : Type 0 where
  pub reads : Read bytes (book_looked r)
  pub repeats : IfOk r (λ l. repeat_seen l.repeat ≡ repeat_of (said.read bytes))

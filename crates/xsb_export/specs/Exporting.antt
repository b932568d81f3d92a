-- What an export is to give, and the rules of a book at their places.
use Rattle.std.specs.Prelude.{ℕ, List, ◌++◌}
use Rattle.std.proofs.Math.Option.{Option}
use Rattle.definitions.specs.Refusal.{Refusable, refused, accepted}
use Rattle.definitions.specs.Book.{Literal}
use Rattle.papers.specs.Xsb.{Rule}
use Rattle.papers.specs.NotPlain.{Place}
use Rattle.pen.specs.Pen.{Pen, put_all}
use Rattle.pen.specs.Refusals.{refusal_lines}
use Rattle.places.specs.Words.{place_line}
use Rattle.book.specs.declared.Book.{Book}
use Rattle.book.specs.Access.{literal_read}
use Rattle.book.specs.View.{meant}
use Rattle.book.specs.Repeats.{lent_by, clause_read}

-- a refusal's lines; behind those of 37 stands the place that is not plain first, and with no other number is there one (definitions
-- NotPlain: `place_of_37`, `no_place_but_37`)
abbrev pub lines_of : ℕ → Option Place → List ℕ
lines_of n place = refusal_lines n ++ place_line place

-- 0, the text put down, and no lines; or the number of a refusal, no text, and the refusal's lines
abbrev pub exported : Refusable (List ℕ) → Option Place → (out told : Pen) → ℕ × Pen × Pen
exported (refused n) place out told = (n, out, put_all (lines_of n place) told)
exported (accepted text) place out told = (0, put_all text out, told)

-- literal j of clause c
abbrev pub literal_said : Book → (c j : ℕ) → Literal
literal_said b c j = meant (literal_read b.literal_kind b.literal_goal b.literal_want c j)

-- clause c, as one for a goal
abbrev pub rule_read : Book → (goal c : ℕ) → Rule
rule_read b goal c = record { head = goal; body = (clause_read (lent_by b) c).literals }

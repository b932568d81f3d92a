-- What `levels` prints: whether the paper is within demand 3, and then a line for each goal with its level; or a refusal with its sentence,
-- and where to look: with 37 the place that is not plain first, with 38 the goals that are on a cycle through "not".
use Rattle.std.specs.Prelude.{ℕ, ◌≡◌, Bool, true, false, List, [], ◌++◌, eqb}
use Rattle.std.proofs.Math.Option.{Option}
use Rattle.definitions.specs.Text.{ascii, decimal}
use Rattle.definitions.specs.Refusal.{Refusable, refused, accepted}
use Rattle.definitions.specs.Book.{Book}
use Rattle.definitions.specs.Desk.{desk}
use Rattle.papers.specs.Levels.{check_levels}
use Rattle.papers.specs.NotPlain.{Place, not_plain_place}
use Rattle.paper_checks.specs.Profile.{Marks}
use Rattle.pen.specs.Goals.{words_from}
use Rattle.pen.specs.Pen.{Pen, put_all}
use Rattle.pen.specs.Refusals.{refusal_lines}
use Rattle.places.specs.Words.{place_line}

unfoldable pub level_line : (goal level : ℕ) → List ℕ
level_line goal level = decimal goal ++ ((ascii " " ++ decimal level) ++ ascii "\n")

abbrev pub level_lines : ℕ → List ℕ → List ℕ
level_lines g levels = words_from level_line g levels

-- a goal that is marked, with a space before it
unfoldable pub marked_words : (goal : ℕ) → (mark : Bool) → List ℕ
marked_words goal true = ascii " " ++ decimal goal
marked_words goal false = []

unfoldable pub cycle_words : (marks : List Bool) → List ℕ
cycle_words marks = ascii "goals on a cycle through \"not\":" ++ (words_from marked_words 0 marks ++ ascii "\n")

-- behind the refusal's lines; the goals on a cycle are why a paper is refused with 38, and with no other number. Nor is there a place that
-- is not plain with any other number than 37 (papers NotPlain: `place_of_37`, `no_place_but_37`).
abbrev pub reason_words : (of_38 : Bool) → (marks : List Bool) → List ℕ
reason_words true marks = cycle_words marks
reason_words false marks = []

unfoldable pub refused_words : ℕ → Option Place → (marks : List Bool) → List ℕ
refused_words n place marks = refusal_lines n ++ (place_line place ++ reason_words (eqb n 38) marks)

-- A paper that the check accepts is within demand 3 (promises Profile: `accepted_as_promised`). One that is not plain, or not levelled, is
-- outside it; of one that the desk refuses neither is said, for the old entry may take it.
abbrev pub outside_by : (of_37 of_38 : Bool) → List ℕ
outside_by true of_38 = ascii "outside demand 3\n"
outside_by false true = ascii "outside demand 3\n"
outside_by false false = []

unfoldable pub outside_words : ℕ → List ℕ
outside_words n = outside_by (eqb n 37) (eqb n 38)

-- THE WORDS of a paper's check, by the place that is not plain first and the marks of the goals on a cycle
abbrev pub level_words : Refusable (List ℕ) → Option Place → (marks : List Bool) → List ℕ
level_words (accepted levels) place marks = ascii "within demand 3\n" ++ level_lines 0 levels
level_words (refused n) place marks = outside_words n ++ refused_words n place marks

-- the words of a byte string's check are put down. The marks are those of its goals wherever they are told; so from a buffer and a byte
-- string there is one outcome (proofs/Once: `told_once`).
pub record Tells (bytes : List ℕ) (before after : Pen) : Type 0 where
  pub marks : List Bool
  pub marked : (book : Book) → desk bytes ≡ accepted book → check_levels bytes ≡ refused 38 → Marks book marks
  pub told : after ≡ put_all (level_words (check_levels bytes) (not_plain_place bytes) marks) before

-- The refusals as the programs say them: the number, and its sentence.
use Rattle.std.specs.Prelude.{ℕ, true, false, List, [], ◌∷◌, ◌++◌, eqb}
use Rattle.definitions.specs.Text.{ascii, decimal}

-- the sentences of the refusals of a paper, or of a book's text, by their numbers; no other number but 8 comes
abbrev pub sentences : List (ℕ × List ℕ)
sentences =
    (1, ascii "a command, an operand or the end is missing\n")
    ∷ (2, ascii "unknown command\n")
    ∷ (3, ascii "a clause before a goal, or a literal before a clause\n")
    ∷ (4, ascii "unknown flag bit\n")
    ∷ (5, ascii "a 65th goal, a 257th clause or a 9th literal of a clause\n")
    ∷ (6, ascii "a literal names no goal\n")
    ∷ (7, ascii "bytes after the end\n")
    ∷ (32, ascii "a range with its low end above its high end\n")
    ∷ (36, ascii "a goal has the same clause twice\n")
    ∷ (37, ascii "not plain: a variant, a want or a flag that is not 0, or a range\n")
    ∷ (38, ascii "not levelled: no numbers can be given to the goals so that each \"not\" leads lower and no other literal higher\n")
    ∷ (39, ascii "not text of the form that a book is written in\n")
    ∷ []

abbrev pub sentence_in : List (ℕ × List ℕ) → ℕ → List ℕ
sentence_in [] n = ascii "no goal\n"
sentence_in (s ∷ ss) n = elim (eqb n s.0) [ true ↦ s.1 | false ↦ sentence_in ss n ]

unfoldable pub sentence : ℕ → List ℕ
sentence n = sentence_in sentences n

unfoldable pub refusal_line : ℕ → List ℕ
refusal_line n = (ascii "refused " ++ decimal n) ++ ascii "\n"

unfoldable pub refusal_lines : ℕ → List ℕ
refusal_lines n = refusal_line n ++ sentence n

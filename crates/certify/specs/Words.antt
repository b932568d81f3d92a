-- What `certify` prints: a line for each goal, which is clean, or spoilt by a goal that spoils by itself; or a refusal with its sentence.
use Rattle.std.specs.Prelude.{ℕ, List, [], ◌++◌}
use Rattle.std.proofs.Math.Option.{Option, none, some}
use Rattle.std.proofs.Math.ListN.{get_elem?}
use Rattle.definitions.specs.Text.{ascii, decimal}
use Rattle.definitions.specs.Refusal.{Refusable, refused, accepted}
use Rattle.definitions.specs.Book.{Book}
use Rattle.papers.specs.Spoilt.{Spoil, a_coinductive_goal, a_not, spoil, spoilers}
use Rattle.pen.specs.Goals.{words_from}
use Rattle.pen.specs.Refusals.{refusal_lines}

-- what a goal of the book spoils by itself
abbrev pub spoil_of : Book → (goal : ℕ) → Option Spoil
spoil_of book goal = elim (get_elem? book goal) [ none ↦ none | some h ↦ spoil h ]

abbrev pub not_words : (clause literal : ℕ) → List ℕ
not_words clause literal = (ascii ": a \"not\" in clause " ++ decimal clause) ++ (ascii ", literal " ++ decimal literal)

-- what a spoiler spoils by; it spoils by something (crate `derivable`, `spoilt_by`)
abbrev pub reason_words : Option Spoil → List ℕ
reason_words none = []
reason_words (some a_coinductive_goal) = ascii ": coinductive"
reason_words (some (a_not clause literal)) = not_words clause literal

abbrev pub clean_words : List ℕ
clean_words = ascii " clean\n"

-- by which goal, and what that one spoils by
abbrev pub spoilt_words : (by : ℕ) → (reason : List ℕ) → List ℕ
spoilt_words by reason = (ascii " spoilt by goal " ++ decimal by) ++ (reason ++ ascii "\n")

abbrev pub verdict_words : Book → Option ℕ → List ℕ
verdict_words book none = clean_words
verdict_words book (some by) = spoilt_words by (reason_words (spoil_of book by))

unfoldable pub goal_line : Book → (goal : ℕ) → Option ℕ → List ℕ
goal_line book goal spoiler = decimal goal ++ verdict_words book spoiler

-- THE WORDS of a paper, from what the desk gives. A clean goal is within the promise (papers Certified: `UnspoiltCertified`).
abbrev pub certify_words : Refusable Book → List ℕ
certify_words (refused n) = refusal_lines n
certify_words (accepted book) = words_from (goal_line book) 0 (spoilers book)

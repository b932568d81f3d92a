-- The words of `certify` by what crate `paper_checks` gives (its struct Spoilers).
use Rattle.std.specs.Prelude.{ℕ, List, [], ◌++◌, get_or, Some, None}
use Rattle.std.specs.declared.option.Option as found
use Rattle.definitions.specs.Text.{ascii, decimal}
use Rattle.paper_checks.specs.declared.OwnSpoil.{OwnSpoil}
use Rattle.paper_checks.specs.declared.OwnSpoil.TheVariants.{Coinductive, Negative}
use Rattle.paper_checks.specs.declared.Spoiler.{Spoiler}
use Rattle.paper_checks.specs.Spoilers.{nothing}
use Rattle.certify.specs.Words.{not_words, clean_words, spoilt_words}

abbrev pub own_words : OwnSpoil → List ℕ
own_words Coinductive = ascii ": coinductive"
own_words (Negative clause literal) = not_words clause literal

abbrev pub reason_told : found.Option OwnSpoil → List ℕ
reason_told None = []
reason_told (Some own) = own_words own

abbrev pub verdict_told : (told : List Spoiler) → (by : found.Option ℕ) → List ℕ
verdict_told told None = clean_words
verdict_told told (Some by) = spoilt_words by (reason_told (get_or told by nothing).own)

unfoldable pub line_told : (told : List Spoiler) → (goal : ℕ) → Spoiler → List ℕ
line_told told goal spoiler = decimal goal ++ verdict_told told spoiler.by

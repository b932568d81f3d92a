-- A yes that can be printed (change request 2), of the page that the listing prints: for every byte string that the desk takes, a line that
-- says yes of a goal of a clean set names a variant as which the goal can be derived.
use Rattle.std.specs.Prelude.{ℕ, ◌≡◌, false, List}
use Rattle.std.proofs.Math.Option.{Option, none}
use Rattle.definitions.specs.{CompleteAnswer}
use Rattle.definitions.specs.Book.{Book}
use Rattle.definitions.specs.Refusal.{accepted}
use Rattle.definitions.specs.Turn.{found}
use Rattle.definitions.specs.Desk.{desk}
use Rattle.papers.specs.Listing.{Line, lines}
use Rattle.definitions.specs.Lists.{Each}
use Rattle.papers.specs.Derive.{Derivable, Clean}
use Rattle.papers.specs.Spoilt.{spoiler_in, check_spoilers}

-- `C` is the clean set; an answer that is not ambiguous is printed as yes
abbrev pub LineDerivable : (book : Book) (C : ℕ → Type 0) → Line → Type 0
LineDerivable book C l =
    C l.goal → (a : CompleteAnswer) → l.ending ≡ found a → a.ambiguous ≡ false → Derivable book l.goal a.variant

abbrev pub ListingCertified : Type 1
ListingCertified =
    (bytes : List ℕ) (book : Book) → desk bytes ≡ accepted book → (C : ℕ → Type 0) → Clean book C →
    (ls : List Line) → lines bytes ≡ accepted ls → Each (LineDerivable book C) ls

-- of the goals that nothing spoils, as the check of the paper tells them
abbrev pub UnspoiltListing : Type 0
UnspoiltListing =
    (bytes : List ℕ) (book : Book) → desk bytes ≡ accepted book →
    (ss : List (Option ℕ)) → check_spoilers bytes ≡ accepted ss →
    (ls : List Line) → lines bytes ≡ accepted ls → Each (LineDerivable book (λ goal. spoiler_in ss goal ≡ none)) ls

-- What `unsettled` says (change request 5): "NoMoreSolutions comes after a skipped answer of that goal (in this peek or an earlier one)".
-- A peek's index rises by the answers that it skips and by nothing else, so that the listing may go by the index; on the page the word can
-- be told by counting; and on a plain levelled book it never comes. `Skips` of proofs/ has the proofs.
use Rattle.std.specs.Prelude.{ℕ, suc, ◌+◌, Bool, true, false, List, [], ◌∷◌, ◌≡◌, ltb}
use Rattle.definitions.specs.Text.{ascii}
use Rattle.definitions.specs.Book.{Book}
use Rattle.definitions.specs.Calls.{Call, opens, searches, peeks, asks_future, Reply, refusal, table, searched, peeked, future}
use Rattle.definitions.specs.Calls.{sitting, searches_made, calls}
use Rattle.papers.specs.Claim.{one_if}
use Rattle.definitions.specs.Desk.{desk}
use Rattle.definitions.specs.Forest.{make, is_invalid, SearchMade}
use Rattle.papers.specs.Listing.{Line, Next, next_index, next_goal, the_end, next, lines, word}
use Rattle.definitions.specs.Logic.{NoMoreSolutions}
use Rattle.definitions.specs.Lists.{Each}
use Rattle.papers.specs.Model.{Plain, Levelled}
use Rattle.definitions.specs.Refusal.{accepted}
use Rattle.definitions.specs.Tables.{Forest}
use Rattle.definitions.specs.Turn.{Ending, fail}

-- which lines have the word: "and `none` otherwise", so that no other ending has either
pub record UnsettledWord : Type 0 where
  pub behind_a_skip : word (fail NoMoreSolutions) true ≡ ascii "unsettled"
  pub behind_none : word (fail NoMoreSolutions) false ≡ ascii "none"
  pub unsettled_alone : (e : Ending) (skipped : Bool) → word e skipped ≡ ascii "unsettled" → (e ≡ fail NoMoreSolutions) × (skipped ≡ true)
  pub none_alone : (e : Ending) (skipped : Bool) → word e skipped ≡ ascii "none" → (e ≡ fail NoMoreSolutions) × (skipped ≡ false)

-- the searches whose answer was invalid, so that a peek skipped it
abbrev pub skipped_among : List SearchMade → ℕ
skipped_among [] = 0
skipped_among (s ∷ ss) = one_if (is_invalid s.result.ending) + skipped_among ss

-- a peek ended at the index that was asked for and one more for each answer that it skipped
abbrev pub RisesBySkips : Call → Reply → List SearchMade → Type 0
RisesBySkips (peeks t asked rounds limit) (peeked e i turns k) made = i ≡ asked + skipped_among made
RisesBySkips (peeks t asked rounds limit) (refusal n) made = Unit {0}
RisesBySkips (peeks t asked rounds limit) (table r) made = ⊥
RisesBySkips (peeks t asked rounds limit) (searched e turns) made = ⊥
RisesBySkips (peeks t asked rounds limit) (future b) made = ⊥
RisesBySkips (opens goal) r made = Unit {0}
RisesBySkips (searches t i limit) r made = Unit {0}
RisesBySkips (asks_future t i v) r made = Unit {0}

abbrev pub IndexRisesBySkips : Type 0
IndexRisesBySkips = (bytes : List ℕ) (clock_limit : ℕ) (f : Forest) → make bytes clock_limit ≡ accepted f → (cs : List Call)
    → Each (λ c. RisesBySkips c.asked c.reply (searches_made c.before c.asked)) (calls (sitting f) cs)

-- Whether a line is behind a skipped answer can be seen on the page: its index is above the number of the goal's lines before it.
abbrev pub next_count : Next → (count : ℕ) → ℕ
next_count next_index n = suc n
next_count next_goal n = 0
next_count the_end n = 0

-- behind so many lines of the first line's goal
abbrev pub Counted : (count : ℕ) → List Line → Type 0
Counted n [] = Unit {0}
Counted n (l ∷ ls) = (l.skipped ≡ ltb n l.index) × Counted (next_count (next l.ending) n) ls

abbrev pub SkipsCounted : Type 0
SkipsCounted = (bytes : List ℕ) (ls : List Line) → lines bytes ≡ accepted ls → Counted 0 ls

-- on a plain levelled book nothing is skipped
abbrev pub NeverUnsettled : Type 0
NeverUnsettled = (bytes : List ℕ) (book : Book) → desk bytes ≡ accepted book → Plain book → (level : ℕ → ℕ) → Levelled book level
    → (ls : List Line) → lines bytes ≡ accepted ls → Each (λ l. l.skipped ≡ false) ls

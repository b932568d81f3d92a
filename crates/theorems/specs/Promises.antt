-- EVERY FINAL STATEMENT, each with the sentence that it stands for: of document 01, the scope, or of a change request (02). There is a
-- proof of each in proofs/Theorems.antt, under the statement's name in small letters. What is said of the code is said of its own results,
-- of every forest that anybody can have, and of every way of calling: by value, of a forest that is lent by `&mut`, and of calls handed
-- over together (`Steps`). Of a function itself only its contract is known: `MakeSays`, `OpenSays`, `SearchSays`, `PeekSays` and
-- `FutureSays` (crate `forest`), which docs/API.md explains. docs/TRUST.md tells what is assumed and what is only tested.
use Rattle.std.specs.Prelude.{ℕ, suc, ◌+◌, ◌≤◌, ◌<◌, Bool, true, false, List, [], map, ◌⊎◌, ◌≡◌, length, get_or, take, Ok, None}
use Rattle.std.proofs.Math.Option.{Option, none, some}
use Rattle.std.proofs.Math.ListN.{get_elem?}
use Rattle.sizes.specs.Limits.{read_ahead}
use Rattle.definitions.specs.{CompleteAnswer}
use Rattle.definitions.specs.Book.{Book, Clause, Want, Positive, low, high, read, write, Within, clause_count}
use Rattle.definitions.specs.Mend.{read_loosely}
use Rattle.definitions.specs.Calls.{calls}
use Rattle.definitions.specs.Desk.{desk, Repeat, first_repeat, same_clause, NoRepeats, RepeatAt}
use Rattle.definitions.specs.Fitting.{answer_fits}
use Rattle.definitions.specs.Lists.{Each}
use Rattle.definitions.specs.Refusal.{refused, accepted}
use Rattle.definitions.specs.Turn.{turn, found}
use Rattle.papers.specs.Cases.{Case, run_on, cases}
use Rattle.papers.specs.Derive.{Clean, CleanBook}
use Rattle.papers.specs.Levels.{levels, level_in, OnNotCycle}
use Rattle.papers.specs.Listing.{Line, lines, fields, listing}
use Rattle.papers.specs.Mend.{Mended, mend, copied, reasons, reasons_behind, mended_book, Why}
use Rattle.papers.specs.Model.{Plain, Levelled, In}
use Rattle.papers.specs.NotPlain.{Place, first_not_plain, FirstAt}
use Rattle.papers.specs.Pages.{OfClause, Paged, words_from}
use Rattle.papers.specs.Spoilt.{spoilers, spoiler_in, check_spoilers}
use Rattle.papers.specs.Xsb.{export, import, check_export, check_import}
use Rattle.papers.specs.XsbForm.{Form, most_bytes, WithinLimits, Unknown, FormNumber}
use Rattle.promises.specs.ListingWhole.{ListedAs}
use Rattle.promises.specs.Skips.{UnsettledWord, Counted, IndexRisesBySkips}
use Rattle.promises.specs.Total.{making_numbers, desk_numbers}
use Rattle.derivable.specs.Listing.{LineDerivable}
use Rattle.derivable.specs.Spoilt.{LargestClean, SpoiltBy}
use Rattle.paper_checks.specs.declared.LeastLevels.{LeastLevels}
use Rattle.paper_checks.specs.declared.Spoilers.{Spoilers}
use Rattle.paper_checks.specs.Profile.{Profiles}
use Rattle.paper_checks.specs.Spoilers.{nothing, spoilers_told}
use Rattle.control.specs.declared.performed.Flow.TheVariants as ways
use Rattle.control.specs.InHand.{flows}
use Rattle.control.specs.QueueInPlace.{TakesInPlace}
use Rattle.control.specs.Stores.{Stores, state, SoundStores}
use Rattle.control.specs.TurnWrites.{turn_done, turned}
use Rattle.forest.specs.declared.Forest.{Forest}
use Rattle.forest.specs.declared.make.Made.{Made}
use Rattle.forest.specs.declared.make.Making.TheVariants as makings
use Rattle.forest.specs.Make.{MakeSays, MakeAtDeskSays}
use Rattle.forest.specs.ServeCalls.{all_left}
use Rattle.forest.specs.Sittings.{Told, asked}
use Rattle.theorems.specs.Derivable.{AllDerivable}
use Rattle.theorems.specs.Replies.{at, told_calls}
use Rattle.theorems.specs.Right.{MarkedTells, AllTell, exceeded, EntrySays, AllTellNoAssert}
use Rattle.theorems.specs.Steps.{Step, Runs, TellSo}
use Rattle.theorems.specs.Total.{MadeListed, making_mark, AllListed}

-- 1. TOTAL

-- 01, "Refused by the input": "Nothing changes; the number returns." "Stopped by the state": "21 to 29 undo the turn or open, put the
-- search back as a cut does and mark the forest; a later open, search or peek gets 20 and changes nothing." For every byte string and clock
-- limit: making gives one of its results, by the numbers of the entry; and on whatever forest came out, refused or made, every sequence of
-- calls gives listed results, each call by the mark that those before it left.
abbrev pub ResultsListedBy : List ℕ → ((bytes : List ℕ) → (clock_limit : ℕ) → Made → Type 0) → Type 0
ResultsListedBy numbers Says =
    (bytes : List ℕ) (clock_limit : ℕ) (m : Made) → Says bytes clock_limit m →
    MadeListed numbers m.making
    × ((ss : List Step) → Runs m.forest ss → TellSo m.forest ss (AllListed (making_mark m.making) m.forest))

pub record ResultsListed : Type 0 where
  pub by_make : ResultsListedBy making_numbers MakeSays
  pub at_desk : ResultsListedBy desk_numbers MakeAtDeskSays

-- what follows for a forest that is marked: every open, search and peek gets 20, and all of them leave the very same forest
abbrev pub StaysMarked : Type 0
StaysMarked = (mark : ℕ) (f : Forest) (ts : List Told) → AllListed (suc mark) f ts → Each MarkedTells ts × (all_left f ts ≡ f)

-- 01: "The Rust's other asserts and panics are proved never to be met."
abbrev pub NoAssertMet : Type 0
NoAssertMet =
    (bytes : List ℕ) (clock_limit : ℕ) (m : Made) → EntrySays bytes clock_limit m →
    (ss : List Step) → Runs m.forest ss → TellSo m.forest ss AllTellNoAssert

-- 2. IT IS THE RUST

-- 01: "The Rust decides what a turn does." What a turn of the code leaves, and how it ends, is the definitions' `turn` of the state that
-- the stores hold, written from logic.rs; where the search goes on the stores are sound again, and a stop leaves the state as it was.
pub record TurnIsTheRusts (root index first : ℕ) (z : Stores) : Type 0 where
  pub the_turn : flows (turn_done z).flow (state (turned z)) ≡ turn (state z)
  pub goes_on : (turn_done z).flow ≡ ways.Continue → SoundStores root index first (turned z)
  pub stop_undoes : (n : ℕ) → (turn_done z).flow ≡ ways.Stop n → state (turned z) ≡ state z

abbrev pub TurnsAreTheRusts : Type 0
TurnsAreTheRusts = (root index first : ℕ) (z : Stores) → SoundStores root index first z → TurnIsTheRusts root index first z

-- 01: "Reference functions: `root_answer` (logic.rs) and its wrapper `peek_answer` (forest.rs)." Every sequence of calls of the code, on
-- any forest, tells what the definitions' `calls` tell: replies, turns and forests, call by call.
abbrev pub CallsAreTheRusts : Type 0
CallsAreTheRusts =
    (bytes : List ℕ) (clock_limit : ℕ) (m : Made) → EntrySays bytes clock_limit m →
    (ss : List Step) → Runs m.forest ss →
    TellSo m.forest ss (λ ts. calls (at m.forest) (map asked ts) ≡ told_calls m.forest ts)

-- 02, order 6: the first eligible strand "is to be taken within the queue itself, with no second list of entries. Proved: the order left
-- behind is that of document 01, and no other queue changes." Of a turn whose top, the entry at n, has no active strand.
abbrev pub TakenInPlace : Type 0
TakenInPlace =
    (root index first : ℕ) (z : Stores) → SoundStores root index first z →
    (n : ℕ) → z.stack.depth ≡ suc n → get_or z.stack.active n 0 ≡ 256 → TakesInPlace z n

-- 01, (d): "Cases p1 to p9 make up a table whose agreement with the definitions is proved by one theorem."
abbrev pub TheCasesAgree : Type 0
TheCasesAgree = map (λ (c : Case). run_on c.book c.run) cases ≡ map (λ (c : Case). c.gives) cases

-- 3. IT IS RIGHT

-- 01, (e): "Demand 3 is one claim about the whole list." On a forest just made from a plain levelled book, with any clock limit: every
-- answer is in the layered least model, every "no more solutions" at index 0 is not; nothing floundered, ambiguous or cyclic; 21 is the
-- only stop; and no more searches than goals and clauses end in QuantumExceeded, wherever searches are cut.
abbrev pub AnswersRight : Type 0
AnswersRight =
    (bytes : List ℕ) (clock_limit : ℕ) (m : Made) → EntrySays bytes clock_limit m → m.making ≡ makings.Made →
    (book : Book) → read bytes ≡ accepted book → (level : ℕ → ℕ) → Plain book → Levelled book level →
    (ss : List Step) → Runs m.forest ss →
    TellSo m.forest ss (λ ts.
    AllTell (In book level) clock_limit false ts × (exceeded ts ≤ length book + clause_count book))

-- 02, order 12: "Teachers want to know beforehand whether a paper is within demand 3." The same of a paper for which the check of the code
-- gives levels, by these levels.
abbrev pub AcceptedTells : Type 0
AcceptedTells =
    (bytes : List ℕ) (p : LeastLevels) → Profiles bytes (Ok p) →
    (clock_limit : ℕ) (m : Made) → MakeAtDeskSays bytes clock_limit m → m.making ≡ makings.Made →
    (book : Book) → desk bytes ≡ accepted book →
    (ss : List Step) → Runs m.forest ss →
    TellSo m.forest ss (λ ts.
    AllTell (In book (level_in p.levels)) clock_limit false ts × (exceeded ts ≤ length book + clause_count book))

-- 01: "goals can bear levels"; which ones are taken doesn't matter: the layered least model of a plain book is one
abbrev pub ModelIsOne : Type 0
ModelIsOne =
    (book : Book) → Plain book → (k l : ℕ → ℕ) → Levelled book k → Levelled book l →
    (goal : ℕ) → (In book k goal → In book l goal) × (In book l goal → In book k goal)

-- 4. A YES THAT CAN BE PRINTED (02, order 2)

-- "any unambiguous answer must be derivable from the clauses, variants and wants included, even if the search flounders elsewhere." Of
-- every book, through either entry, and every clean set of its goals: none of the set is coinductive or has a "not", or leads out of the
-- set. What a search or peek finds, and what is stored.
abbrev pub AnswersDerivable : Type 1
AnswersDerivable =
    (bytes : List ℕ) (clock_limit : ℕ) (m : Made) → EntrySays bytes clock_limit m → m.making ≡ makings.Made →
    (book : Book) → read bytes ≡ accepted book → (C : ℕ → Type 0) → Clean book C →
    (ss : List Step) → Runs m.forest ss → TellSo m.forest ss (AllDerivable book C m.forest)

-- "For books .. with no "not" and no coinductive goal": of every goal
abbrev pub BookDerivable : Type 0
BookDerivable =
    (bytes : List ℕ) (clock_limit : ℕ) (m : Made) → EntrySays bytes clock_limit m → m.making ≡ makings.Made →
    (book : Book) → read bytes ≡ accepted book → CleanBook book →
    (ss : List Step) → Runs m.forest ss → TellSo m.forest ss (AllDerivable book (λ goal. Unit {0}) m.forest)

-- beforehand: of the goals that nothing spoils, as the check of the paper gives them; and as the code returns them (crate `paper_checks`,
-- `spoilers`), where `by` is None of a goal that nothing spoils
abbrev pub UnspoiltTells : Type 0
UnspoiltTells =
    (bytes : List ℕ) (by : List (Option ℕ)) → check_spoilers bytes ≡ accepted by →
    (clock_limit : ℕ) (m : Made) → MakeAtDeskSays bytes clock_limit m → m.making ≡ makings.Made →
    (book : Book) → desk bytes ≡ accepted book →
    (ss : List Step) → Runs m.forest ss →
    TellSo m.forest ss (AllDerivable book (λ goal. spoiler_in by goal ≡ none) m.forest)

abbrev pub CleanTells : Type 0
CleanTells =
    (bytes : List ℕ) (p : Spoilers) → accepted p ≡ spoilers_told (desk bytes) →
    (clock_limit : ℕ) (m : Made) → MakeAtDeskSays bytes clock_limit m → m.making ≡ makings.Made →
    (book : Book) → desk bytes ≡ accepted book →
    (ss : List Step) → Runs m.forest ss →
    TellSo m.forest ss (AllDerivable book (λ goal. (get_or p.told goal nothing).by ≡ None) m.forest)

-- the goals that nothing spoils are the largest clean set, and the goal that is named does spoil
pub record SpoilersRight : Type 1 where
  pub largest_set : (book : Book) → LargestClean book
  pub does_spoil : (book : Book) (goal by : ℕ) → spoiler_in (spoilers book) goal ≡ some by → SpoiltBy book goal by

-- 5. THE LISTING: `listing bytes` is what the program prints (contract of `list`, crate `listing`)
pub record ListingRight : Type 1 where
  -- 01, "The listing program": "for each goal upward, peek from index 0 ..": refused as the desk refuses, or all goals, each to its end; a
  -- stop has one of the numbers 21 to 29, and no line says invalid
  pub whole : (bytes : List ℕ) → ListedAs (desk bytes) (lines bytes)
  -- the first 20,480 bytes settle it
  pub listed_by_the_first : (bytes : List ℕ) → listing (take read_ahead bytes) ≡ listing bytes
  -- 02, order 3: "pages of 60 lines .. each line 26 bytes and a newline .. An empty page is never written"
  pub paged : (bytes : List ℕ) → Each (λ b. b < 256) bytes → (ls : List Line) → lines bytes ≡ accepted ls → Paged bytes ls
  -- "the cases of 01 then give the fields"
  pub says_fields : (bytes : List ℕ) → words_from false false (listing bytes) ≡ fields bytes
  pub variants :
      (bytes : List ℕ) (book : Book) → desk bytes ≡ accepted book → (ls : List Line) → lines bytes ≡ accepted ls →
      Each (λ l. (a : CompleteAnswer) → l.ending ≡ found a → OfClause book l.goal a.variant) ls
  -- order 2: every yes of a clean goal on the page can be derived; and of a goal that nothing spoils
  pub yes_derivable :
      (bytes : List ℕ) (book : Book) → desk bytes ≡ accepted book → (C : ℕ → Type 0) → Clean book C →
      (ls : List Line) → lines bytes ≡ accepted ls → Each (LineDerivable book C) ls
  pub unspoilt_derivable :
      (bytes : List ℕ) (book : Book) → desk bytes ≡ accepted book → (by : List (Option ℕ)) → check_spoilers bytes ≡ accepted by →
      (ls : List Line) → lines bytes ≡ accepted ls → Each (LineDerivable book (λ goal. spoiler_in by goal ≡ none)) ls
  -- order 5: "`unsettled` where NoMoreSolutions comes after a skipped answer of that goal (in this peek or an earlier one), and `none`
  -- otherwise": a peek's index rises by the answers that it skips and by nothing else; on the page that is seen by counting lines; and on a
  -- plain levelled book nothing is skipped
  pub unsettled_word : UnsettledWord
  pub index_rises : IndexRisesBySkips
  pub skips_counted : (bytes : List ℕ) (ls : List Line) → lines bytes ≡ accepted ls → Counted 0 ls
  pub never_unsettled :
      (bytes : List ℕ) (book : Book) → desk bytes ≡ accepted book → Plain book → (level : ℕ → ℕ) → Levelled book level →
      (ls : List Line) → lines bytes ≡ accepted ls → Each (λ l. l.skipped ≡ false) ls

-- 6. PAPERS: the definitions that the contracts of crates book, paper_checks, mending, xsb_export and xsb_import equate their results with

-- 01, "A book", and 02, order 7: "An answer fits if its variant is 0 or lies from low to high .. so fitting is one promise for all three"
pub record ReadingRight : Type 0 where
  pub written_is_read : (book : Book) → Within book → read (write book) ≡ accepted book
  pub read_by_the_first : (bytes : List ℕ) → read (take read_ahead bytes) ≡ read bytes
  pub fits : (goal : ℕ) (want : Want) (outsized : Bool) (v : ℕ) →
      (answer_fits (Positive goal want outsized) v ≡ true → (v ≡ 0) ⊎ ((low want ≤ v) × (v ≤ high want)))
      × ((v ≡ 0) ⊎ ((low want ≤ v) × (v ≤ high want)) → answer_fits (Positive goal want outsized) v ≡ true)

-- order 10: "It refuses with 36 the later of two equal clauses, tested after 6."
pub record DeskRight : Type 0 where
  pub reads : (bytes : List ℕ) (book : Book) → desk bytes ≡ accepted book → (read bytes ≡ accepted book) × NoRepeats book
  pub takes : (bytes : List ℕ) (book : Book) → read bytes ≡ accepted book → NoRepeats book → desk bytes ≡ accepted book
  pub refuses :
      (bytes : List ℕ) (book : Book) (r : Repeat) → read bytes ≡ accepted book → first_repeat book ≡ some r →
      (desk bytes ≡ refused 36) × RepeatAt book r
  pub same_is_equal : (c d : Clause) → (same_clause c d ≡ true → c ≡ d) × (c ≡ d → same_clause c d ≡ true)

-- order 12: "It must say not levelled only where no numbering whatsoever satisfies the rule, and the levels must be least for every goal
-- together." And of a book that isn't plain the first place that is not.
pub record LevelsRight : Type 0 where
  pub levelled : (book : Book) (ls : List ℕ) → levels book ≡ some ls → Levelled book (level_in ls)
  pub least :
      (book : Book) (ls : List ℕ) → levels book ≡ some ls → (level : ℕ → ℕ) → Levelled book level →
      (g : ℕ) → level_in ls g ≤ level g
  pub none_whatsoever : (book : Book) → levels book ≡ none → (level : ℕ → ℕ) → Levelled book level → ⊥
  pub cycle_through_not : (book : Book) → levels book ≡ none → (goal : ℕ) × OnNotCycle book goal
  pub not_plain : (book : Book) (p : Place) → first_not_plain book ≡ some p → FirstAt book p
  pub plain : (book : Book) → (first_not_plain book ≡ none → Plain book) × (Plain book → first_not_plain book ≡ none)

-- order 13: "Export and the import of exactly this form give back the same book." "Text of the form that breaks a rule of the desk gets the
-- desk's number; a literal's number without a table line, however large, gets 6." And 39 exactly where the text is not of the form.
pub record XsbRight : Type 0 where
  pub import_of_export : (book : Book) → Plain book → Within book → NoRepeats book → import (export book) ≡ accepted book
  pub export_of_import : (text : List ℕ) (book : Book) → import text ≡ accepted book → export book ≡ text
  pub book_back : (bytes text : List ℕ) → check_export bytes ≡ accepted text → import text ≡ desk bytes
  pub bytes_back : (text bytes : List ℕ) → check_import text ≡ accepted bytes → check_export bytes ≡ accepted text
  pub says_39 :
      (text : List ℕ) → length text ≤ most_bytes →
      (import text ≡ refused 39 → Form text → ⊥) × ((Form text → ⊥) → import text ≡ refused 39)
  pub form_or_39 : (text : List ℕ) → length text ≤ most_bytes → Form text ⊎ (import text ≡ refused 39)
  pub of_the_form : (text : List ℕ) → Form text → length text ≤ most_bytes → (n : ℕ) → import text ≡ refused n → FormNumber n
  pub says_6 :
      (text : List ℕ) (f : Form text) → WithinLimits f.goals f.rules → Unknown f.goals f.rules → import text ≡ refused 6

-- order 11: "The result is accepted by the desk, and an accepted book comes out unchanged byte by byte." "A paper refused by any number but
-- 6 or 36 gets `refused` and that number." "A clause with both reasons gets 6." Mending twice is mending once.
pub record MendingRight : Type 0 where
  pub reasons_are :
      (goals : ℕ) (cs : List Clause) (i : ℕ) (c : Clause) → get_elem? cs i ≡ some c →
      (r : Option ℕ) × (get_elem? (reasons_behind goals [] cs) i ≡ some r) × Why goals cs i c r
  pub result_accepted :
      (bytes : List ℕ) (book : Book) → read_loosely bytes ≡ accepted book →
      desk (copied bytes (reasons book)) ≡ accepted (mended_book book)
  pub accepted_unchanged :
      (bytes : List ℕ) (book : Book) → desk bytes ≡ accepted book → mend bytes ≡ accepted (record { bytes = bytes; lines = [] })
  pub once :
      (bytes : List ℕ) (m : Mended) → mend bytes ≡ accepted m → mend m.bytes ≡ accepted (record { bytes = m.bytes; lines = [] })
  pub refused_by_the_desk :
      (bytes : List ℕ) (n : ℕ) → mend bytes ≡ refused n → (desk bytes ≡ refused n) × (n ≡ 6 → ⊥) × (n ≡ 36 → ⊥)
  pub desk_refused :
      (bytes : List ℕ) (n : ℕ) → desk bytes ≡ refused n → (n ≡ 6 → ⊥) → (n ≡ 36 → ⊥) → mend bytes ≡ refused n

-- Which goals' yes can be printed, as the code tells it (papers, Spoilt); and the same by a book's arrays.
use Rattle.std.specs.Prelude.{ℕ, ◌-◌, ◌≤◌, ◌<◌, ◌≡◌, List, [], ◌∷◌, ◌++◌, map, length, get_or, replicate, Some, None, Result, Ok, Err}
use Rattle.std.specs.declared.option.Option as found
use Rattle.std.proofs.Math.Option.{Option, none, some}
use Rattle.laws.specs.Spans.{span}
use Rattle.definitions.specs.Refusal.{Refusable, refused, accepted}
use Rattle.definitions.specs.Book as said
use Rattle.definitions.specs.Book.{bit0}
use Rattle.papers.specs.NotPlain.{or_else, first_from}
use Rattle.papers.specs.Spoilt.{Spoil, a_coinductive_goal, a_not, spoil_by_flag, not_in_clause, spoil, spoiler_in}
use Rattle.papers.specs.Spoilt.{clauses_spoilt, spoilers_after}
use Rattle.book.specs.declared.Book.{Book}
use Rattle.book.specs.declared.refusal.Refusal.{Refusal}
use Rattle.book.specs.Refusals.{number}
use Rattle.book.specs.Access.{entry}
use Rattle.book.specs.Repeats.{lent_by, clause_read}
use Rattle.book.specs.View.{view}
use Rattle.paper_checks.specs.declared.OwnSpoil.{OwnSpoil}
use Rattle.paper_checks.specs.declared.OwnSpoil.TheVariants.{Coinductive, Negative}
use Rattle.paper_checks.specs.declared.Spoiler.{Spoiler}
use Rattle.paper_checks.specs.declared.Spoilers.{Spoilers}
use Rattle.paper_checks.specs.Telling.{option_of}

-- what a goal spoils by itself
abbrev pub told_own : Spoil → OwnSpoil
told_own a_coinductive_goal = Coinductive
told_own (a_not clause literal) = Negative clause literal

abbrev pub own_told : Option Spoil → found.Option OwnSpoil
own_told = option_of told_own

-- the goal that spoils another one
abbrev pub by_told : Option ℕ → found.Option ℕ
by_told = option_of (λ (goal : ℕ). goal)

abbrev pub told : (by : Option ℕ) → (own : Option Spoil) → Spoiler
told by own = record { by = by_told by; own = own_told own }

abbrev pub nothing : Spoiler
nothing = told none none

-- each goal of a book, by which one it is spoilt
abbrev pub each_told : List (Option ℕ) → said.Book → List Spoiler
each_told [] book = []
each_told (o ∷ os) [] = []
each_told (o ∷ os) (g ∷ gs) = told o (spoil g) ∷ each_told os gs

-- a list with so much of `other` behind it that there are 64
module _ {A : Type 0} where
  abbrev pub filled : (other : A) → List A → List A
  filled other l = l ++ replicate (64 - length l) other

-- of a book, after so many passes
abbrev pub told_after : (passes : ℕ) → said.Book → Spoilers
told_after n book = record { goals = length book; told = filled nothing (each_told (spoilers_after n book) book) }

-- THE SPOILERS of a paper, from what the desk gives: as many passes as there are goals
abbrev pub spoilers_told : Refusable said.Book → Refusable Spoilers
spoilers_told (refused n) = refused n
spoilers_told (accepted book) = accepted (told_after (length book) book)

-- what is given, by the number of its refusal
abbrev pub spoilers_seen : Result Spoilers Refusal → Refusable Spoilers
spoilers_seen (Ok s) = accepted s
spoilers_seen (Err e) = refused (number e)

-- By the arrays of a book.

abbrev pub by_seen : found.Option ℕ → Option ℕ
by_seen None = none
by_seen (Some goal) = some goal

-- what is known of all goals
abbrev pub known : List Spoiler → List (Option ℕ)
known l = map (λ (s : Spoiler). by_seen s.by) l

-- an array that has f at each of the first n places, and `other` behind them
pub record Fills {A : Type 0} (other : A) (f : ℕ → A) (n : ℕ) (l : List A) : Type 0 where
  pub whole : length l ≡ 64
  pub there : (g : ℕ) → g < n → get_or l g other ≡ f g
  pub past : (g : ℕ) → n ≤ g → get_or l g other ≡ other

-- what goal g spoils by itself, with so many clauses from `first` on
abbrev pub spoil_read : (b : Book) → (g first count : ℕ) → Option Spoil
spoil_read b g first count =
    or_else (spoil_by_flag (bit0 (entry 64 b.goal_flags g))) (first_from not_in_clause 0 (span (clause_read (lent_by b)) first count))

-- goal g after one more pass
abbrev pub passed_read : (b : Book) → (ss : List (Option ℕ)) → (g first count : ℕ) → Option ℕ
passed_read b ss g first count = or_else (spoiler_in ss g) (clauses_spoilt ss (span (clause_read (lent_by b)) first count))

-- by which goal it is spoilt before any pass: by itself, or by none
abbrev pub itself : found.Option OwnSpoil → (goal : ℕ) → found.Option ℕ
itself None goal = None
itself (Some s) goal = Some goal

-- what a pass over all goals gives
abbrev pub pass_told : (b : Book) → List Spoiler → (g : ℕ) → Spoiler
pass_told b l g = record {
  by = by_told (passed_read b (known l) g (entry 64 b.goal_first g) (entry 64 b.goal_len g));
  own = (get_or l g nothing).own;
}

abbrev pub Passes : (b : Book) → (before after : List Spoiler) → Type 0
Passes b before after = Fills nothing (pass_told b before) b.goals after

-- what is told of the goals of a book after so many passes
abbrev pub Stands : (b : Book) → (n : ℕ) → List Spoiler → Type 0
Stands b n l = l ≡ filled nothing (each_told (spoilers_after n (view b)) (view b))

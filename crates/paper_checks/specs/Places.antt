-- A place that is not plain, as the code tells it; and what is not plain of a clause's head and of a goal, by a book's arrays.
use Rattle.std.specs.Prelude.{ℕ, Some, None}
use Rattle.std.specs.declared.option.Option as found
use Rattle.std.proofs.Math.Option.{Option, none, some}
use Rattle.definitions.specs.Book.{bit0, bit1}
use Rattle.papers.specs.NotPlain.{Fault, a_flag, a_variant, a_want, a_range, Place, in_goal, in_clause, in_literal}
use Rattle.papers.specs.NotPlain.{or_else, flag_fault, variant_fault}
use Rattle.book.specs.declared.Book.{Book}
use Rattle.book.specs.Access.{entry}
use Rattle.paper_checks.specs.declared.Fault as told
use Rattle.paper_checks.specs.declared.Fault.TheVariants as faults
use Rattle.paper_checks.specs.declared.NotPlain.{NotPlain}
use Rattle.paper_checks.specs.declared.NotPlain.TheVariants as places
use Rattle.paper_checks.specs.Telling.{option_of}

abbrev pub told_fault : Fault → told.Fault
told_fault a_flag = faults.Flag
told_fault a_variant = faults.Variant
told_fault a_want = faults.Want
told_fault a_range = faults.Range

abbrev pub fault_told : Option Fault → found.Option told.Fault
fault_told = option_of told_fault

abbrev pub told_place : Place → NotPlain
told_place (in_goal g f) = places.Goal g (told_fault f)
told_place (in_clause g k f) = places.Clause g k (told_fault f)
told_place (in_literal g k j f) = places.Literal g k j (told_fault f)

-- THE NUMBERS of a place. They settle it (proofs/Tested, `place_told`).
abbrev pub numbers : Option Place → found.Option NotPlain
numbers = option_of told_place

-- and back
abbrev pub fault_seen : told.Fault → Fault
fault_seen faults.Flag = a_flag
fault_seen faults.Variant = a_variant
fault_seen faults.Want = a_want
fault_seen faults.Range = a_range

abbrev pub seen_place : NotPlain → Place
seen_place (places.Goal g f) = in_goal g (fault_seen f)
seen_place (places.Clause g k f) = in_clause g k (fault_seen f)
seen_place (places.Literal g k j f) = in_literal g k j (fault_seen f)

abbrev pub place_seen : found.Option NotPlain → Option Place
place_seen None = none
place_seen (Some p) = some (seen_place p)

-- the head of clause c
abbrev pub head_read : (b : Book) → (c : ℕ) → Option Fault
head_read b c =
    or_else (variant_fault (entry 256 b.clause_variant c))
    (or_else (flag_fault (bit0 (entry 256 b.clause_flags c))) (flag_fault (bit1 (entry 256 b.clause_flags c))))

-- goal g
abbrev pub goal_read : (b : Book) → (g : ℕ) → Option Fault
goal_read b g = or_else (flag_fault (bit0 (entry 64 b.goal_flags g))) (flag_fault (bit1 (entry 64 b.goal_flags g)))

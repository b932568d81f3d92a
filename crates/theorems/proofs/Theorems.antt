-- A PROOF OF EACH STATEMENT of `Promises`, in its order: the theorem is cited from where it is proved.
use Rattle.definitions.proofs.Desk.{desk_reads, desk_takes, desk_refuses, same_clause_is}
use Rattle.definitions.proofs.Prefix.{read_take}
use Rattle.definitions.proofs.RoundTrip.{read_write}
use Rattle.papers.specs.Cases as cases
use Rattle.papers.proofs.Fitting.{fits_one}
use Rattle.papers.proofs.Levels as levels
use Rattle.papers.proofs.ListingPrefix.{listing_take}
use Rattle.papers.proofs.Mend.{mended_accepted, mended_same, mended_twice}
use Rattle.papers.proofs.MendReasons.{reason_is}
use Rattle.papers.proofs.MendRefused.{mend_refused, refused_mend}
use Rattle.papers.proofs.NotPlain.{place_first, none_plain, plain_none}
use Rattle.papers.proofs.PageFields.{pages_say_fields}
use Rattle.papers.proofs.PlainTest.{plain_is, is_plain_of}
use Rattle.papers.proofs.Texts as texts
use Rattle.papers.proofs.Xsb.{import_export, export_import}
use Rattle.papers.proofs.XsbRefusals as refusals
use Rattle.promises.proofs.Listing.{listing_whole}
use Rattle.promises.proofs.Profile.{one_model}
use Rattle.promises.proofs.Skips as skips
use Rattle.derivable.proofs.Listing.{listing_certified, unspoilt_listing}
use Rattle.derivable.proofs.Spoilt.{largest_clean, spoilt_by}
use Rattle.derivable.proofs.Variants.{listing_variants}
use Rattle.pages.proofs.Fits.{listing_paged}
use Rattle.control.proofs.QueueInPlace.{control_in_place}
use Rattle.control.proofs.TurnDoes as turns
use Rattle.theorems.specs.Promises.{ResultsListed, StaysMarked, NoAssertMet, TurnsAreTheRusts, CallsAreTheRusts, TakenInPlace, TheCasesAgree}
use Rattle.theorems.specs.Promises.{AnswersRight, AcceptedTells, ModelIsOne, AnswersDerivable, BookDerivable, UnspoiltTells}
use Rattle.theorems.specs.Promises.{CleanTells, SpoilersRight, ListingRight, ReadingRight, DeskRight, LevelsRight, XsbRight}
use Rattle.theorems.specs.Promises.{MendingRight}
use Rattle.theorems.proofs.Accepted as accepted
use Rattle.theorems.proofs.Asserts as asserts
use Rattle.theorems.proofs.Calls.{sits_calls}
use Rattle.theorems.proofs.Derivable as derivable
use Rattle.theorems.proofs.Right as right
use Rattle.theorems.proofs.Steps.{tell_so}
use Rattle.theorems.proofs.Total as listed

-- 1. TOTAL

pub results_listed : ResultsListed
results_listed = listed.steps_total

pub stays_marked : StaysMarked
stays_marked = listed.marked_stays

pub no_assert_met : NoAssertMet
no_assert_met = asserts.steps_meet_none

-- 2. IT IS THE RUST

pub turns_are_the_rusts : TurnsAreTheRusts
turns_are_the_rusts root index first z sound = record {
  the_turn = turns.turn_is root index first z sound;
  goes_on = turns.turn_goes_on root index first z sound;
  stop_undoes = λ n e. (turns.turn_stops root index first z sound n e).as_it_was;
}

pub calls_are_the_rusts : CallsAreTheRusts
calls_are_the_rusts bytes limit m says ss runs =
    let s = right.entry_sound bytes limit m says in
    tell_so (λ ts. _) ss m.forest s runs (λ ts g. sits_calls ts m.forest s g)

pub taken_in_place : TakenInPlace
taken_in_place = control_in_place

pub the_cases_agree : TheCasesAgree
the_cases_agree = cases.cases_agree

-- 3. IT IS RIGHT

pub answers_right : AnswersRight
answers_right = right.steps_right

pub accepted_tells : AcceptedTells
accepted_tells = accepted.accepted_right

pub model_is_one : ModelIsOne
model_is_one = one_model

-- 4. A YES THAT CAN BE PRINTED

pub answers_derivable : AnswersDerivable
answers_derivable = derivable.steps_derivable

pub book_derivable : BookDerivable
book_derivable = derivable.book_steps_derivable

pub unspoilt_tells : UnspoiltTells
unspoilt_tells = derivable.unspoilt_steps

pub clean_tells : CleanTells
clean_tells = derivable.clean_steps

pub spoilers_right : SpoilersRight
spoilers_right = record { largest_set = largest_clean; does_spoil = spoilt_by }

-- 5. THE LISTING

pub listing_right : ListingRight
listing_right = record {
  whole = listing_whole;
  listed_by_the_first = listing_take;
  paged = listing_paged;
  says_fields = pages_say_fields;
  variants = listing_variants;
  yes_derivable = listing_certified;
  unspoilt_derivable = unspoilt_listing;
  unsettled_word = skips.unsettled_word;
  index_rises = skips.index_rises;
  skips_counted = skips.skips_counted;
  never_unsettled = skips.never_unsettled;
}

-- 6. PAPERS

pub reading_right : ReadingRight
reading_right = record { written_is_read = read_write; read_by_the_first = read_take; fits = fits_one }

pub desk_right : DeskRight
desk_right = record { reads = desk_reads; takes = desk_takes; refuses = desk_refuses; same_is_equal = same_clause_is }

pub levels_right : LevelsRight
levels_right = record {
  levelled = levels.levels_levelled;
  least = levels.levels_least;
  none_whatsoever = levels.levels_none;
  cycle_through_not = levels.levels_none_cycle;
  not_plain = place_first;
  plain = λ book. (λ e. plain_is book (none_plain book e), λ p. plain_none book (is_plain_of book p));
}

pub xsb_right : XsbRight
xsb_right = record {
  import_of_export = import_export;
  export_of_import = export_import;
  book_back = texts.text_back;
  bytes_back = texts.bytes_back;
  says_39 = refusals.import_39;
  form_or_39 = refusals.form_or_39;
  of_the_form = refusals.form_refusals;
  says_6 = refusals.unknown_6;
}

pub mending_right : MendingRight
mending_right = record {
  reasons_are = reason_is;
  result_accepted = mended_accepted;
  accepted_unchanged = mended_same;
  once = mended_twice;
  refused_by_the_desk = mend_refused;
  desk_refused = refused_mend;
}

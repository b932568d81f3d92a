-- What the code finds can be derived, since what the definitions find can be.
use Prim.Native.Nat.{ℕ, zero, suc}
use native.Mathlib.Omega.{arith}
use mathlib.Core.Bool.{false}
use mathlib.Core.List.{List, [], ◌∷◌, map}
use mathlib.Core.Logic.{inr}
use mathlib.Core.Option.{Option, none, some}
use mathlib.Core.Path.{◌≡◌, refl, sym, ap, subst, ◌∙◌}
use Rattle.std.specs.declared.option.Option as found
use Rattle.std.proofs.Common.{Some, None}
use Rattle.laws.proofs.Options.{no_such}
use lib.ListN.{length, get_or}
use Rattle.definitions.specs.Book as books
use Rattle.definitions.specs.Calls as said
use Rattle.papers.specs.Certified as claim
use Rattle.papers.specs.Derive.{Derivable, Clean}
use Rattle.definitions.specs.Forest as forests
use Rattle.definitions.specs.Lists.{Each}
use Rattle.definitions.specs.Refusal.{accepted}
use Rattle.papers.specs.Spoilt.{spoiler_in, spoilers}
use Rattle.definitions.specs.Tables as tables
use Rattle.definitions.specs.Turn as turns
use Rattle.definitions.proofs.Desk.{desk_reads}
use Rattle.definitions.proofs.Refusal.{same_accepted}
use Rattle.papers.proofs.Spoilt.{length_after}
use Rattle.paper_checks.specs.declared.Spoilers.{Spoilers}
use Rattle.paper_checks.specs.declared.Spoiler.{Spoiler}
use Rattle.paper_checks.specs.Spoilers.{by_seen, nothing, each_told, told_after, spoilers_told}
use Rattle.paper_checks.proofs.Firsts.{get_or_filled}
use Rattle.paper_checks.proofs.Spreading.{seen_back}
use Rattle.derivable.proofs.Spoilt.{unspoilt_clean, checked_clean}
use Rattle.derivable.proofs.Theorem as derived
use Rattle.forest.specs.declared.Forest.{Forest}
use Rattle.forest.specs.declared.make.Made.{Made}
use Rattle.forest.specs.declared.make.Making.TheVariants as makings
use Rattle.forest.specs.declared.searches.Outcome.{Outcome}
use Rattle.forest.specs.declared.searches.Outcome.TheVariants as outcomes
use Rattle.forest.specs.Make.{MakeSays}
use Rattle.forest.specs.Sittings.{Told, opens, searches, peeks, asks_future, left, Sits, asked}
use Rattle.forest.specs.View.{view, Sound}
use Rattle.forest.proofs.Serving.{left_sound}
use Rattle.theorems.specs.Derivable.{OutcomeDerivable, ToldDerivable, AllDerivable}
use Rattle.theorems.specs.Promises.{AnswersDerivable, BookDerivable, UnspoiltTells, CleanTells}
use Rattle.theorems.specs.Replies.{outcome_reply, told_call, told_calls}
use Rattle.theorems.proofs.Calls.{sits_calls}
use Rattle.theorems.proofs.Right.{named_told, made_book, is_made, either_made, entry_sound}
use Rattle.theorems.proofs.Steps.{tell_so}

module _ (book : books.Book) (C : ℕ → Type 0) where
  -- of a search and of a peek: `with` is the definitions' reply by its ending
  outcome_told : (f : Forest) → Sound f → (t i : ℕ) (with : turns.Ending → said.Reply)
      → ((e : turns.Ending) → claim.ReplyDerivable book C (some (t, i)) (view f) (with e) → claim.EndingDerivable book C (view f) t e)
      → (o : Outcome) → claim.ReplyDerivable book C (some (t, i)) (view f) (outcome_reply o with) → OutcomeDerivable book C f t o
  outcome_told f s t i with ends (outcomes.Refused n) x = tt
  outcome_told f s t i with ends (outcomes.Found variant ambiguous) x =
      named_told f s t (λ goal. C goal → ambiguous ≡ false → Derivable book goal variant)
      (ends (turns.found (record { variant = variant; ambiguous = ambiguous })) x)
  outcome_told f s t i with ends outcomes.NoMoreSolutions x = tt
  outcome_told f s t i with ends outcomes.Floundered x = tt
  outcome_told f s t i with ends outcomes.QuantumExceeded x = tt
  outcome_told f s t i with ends outcomes.NegativeCycle x = tt
  outcome_told f s t i with ends outcomes.InvalidAnswer x = tt
  outcome_told f s t i with ends outcomes.Cut x = tt
  outcome_told f s t i with ends (outcomes.Stopped n) x = tt

  call_derivable : (f : Forest) (t : Told) → Sound (left f t) → claim.CallDerivable book C (told_call f t) → ToldDerivable book C t
  call_derivable f (opens goal r) s x = tt
  call_derivable f (searches table index limit r) s x =
      outcome_told r.forest s table index (λ e. said.searched e r.turns) (λ e y. y) r.outcome x.reply_derivable
  call_derivable f (peeks table index rounds limit r) s x =
      outcome_told r.forest s table index (λ e. said.peeked e r.index r.turns r.exceeded) (λ e y. y) r.outcome
      x.reply_derivable
  call_derivable f (asks_future table index variant r) s x = tt

  all_derivable : (ts : List Told) (f : Forest) → Sound f → Sits f ts → Each (claim.CallDerivable book C) (told_calls f ts)
      → AllDerivable book C f ts
  all_derivable [] f s g x = tt
  all_derivable (t ∷ ts) f s g x =
      let s'' = left_sound f t s g.0 in
      (call_derivable f t s'' x.0, x.0.stored_derivable, all_derivable ts (left f t) s'' g.1 x.1)

-- what the definitions promise, at the book that was read
promise : (bytes : List ℕ) (limit : ℕ) (F : tables.Forest) → forests.make bytes limit ≡ accepted F
    → (book : books.Book) → books.read bytes ≡ accepted book → (C : ℕ → Type 0) → Clean book C
    → (cs : List said.Call) (told : List said.Called) → said.calls (said.sitting F) cs ≡ told → Each (claim.CallDerivable book C) told
promise bytes limit F e book k C clean cs told same =
    subst (λ (z : List said.Called). Each (claim.CallDerivable book C) z) same
    (subst (λ (b : books.Book). Clean b C → Each (claim.CallDerivable b C) (said.calls (said.sitting F) cs))
    (made_book bytes limit F book e k) (λ c. derived.certified bytes limit F e C c cs) clean)

-- by `make`
sitting_derivable : (bytes : List ℕ) (limit : ℕ) (m : Made) → MakeSays bytes limit m → m.making ≡ makings.Made
    → (book : books.Book) → books.read bytes ≡ accepted book → (C : ℕ → Type 0) → Clean book C
    → (ts : List Told) → Sits m.forest ts → AllDerivable book C m.forest ts
sitting_derivable bytes limit m says e book k C clean ts g =
    let s = says.sound in
    all_derivable book C ts m.forest s g (promise bytes limit (view m.forest) (is_made bytes limit m says e) book k C clean
    (map asked ts) (told_calls m.forest ts) (sits_calls ts m.forest s g))

-- BY ANY STEPS
pub steps_derivable : AnswersDerivable
steps_derivable bytes limit m says e book k C clean ss runs =
    let made = either_made bytes limit m says e in
    tell_so (AllDerivable book C m.forest) ss m.forest (entry_sound bytes limit m says) runs
    (sitting_derivable bytes limit m made e book k C clean)

-- a book with no "not" and no coinductive goal is clean as a whole
pub book_steps_derivable : BookDerivable
book_steps_derivable bytes limit m says e book k clean =
    steps_derivable bytes limit m says e book k (λ goal. Unit {0}) (derived.whole_book book clean)

-- the goals that nothing spoils are a clean set
pub unspoilt_steps : UnspoiltTells
unspoilt_steps bytes spoilers checked limit m made is book took =
    steps_derivable bytes limit m (inr made) is book (desk_reads bytes book took).0 (λ goal. spoiler_in spoilers goal ≡ none)
    (checked_clean bytes book took spoilers checked)

-- as the code tells them

each_by : (os : List (Option ℕ)) (gs : books.Book) (goal : ℕ) → length os ≡ length gs
    → by_seen (get_or (each_told os gs) goal nothing).by ≡ spoiler_in os goal
each_by [] [] goal e = refl
each_by [] (g ∷ gs) goal e = absurd (omega arith)
each_by (o ∷ os) [] goal e = absurd (omega arith)
each_by (o ∷ os) (g ∷ gs) zero e = seen_back o
each_by (o ∷ os) (g ∷ gs) (suc goal) e = each_by os gs goal (omega arith)

seen_none : (o : found.Option ℕ) → by_seen o ≡ none → o ≡ None
seen_none None e = refl
seen_none (Some by) e = absurd (no_such (sym e))

told_by : (book : books.Book) (p : Spoilers) → p ≡ told_after (length book) book
    → (goal : ℕ) → by_seen (get_or p.told goal nothing).by ≡ spoiler_in (spoilers book) goal
told_by book p is goal =
    ap (λ (z : Spoilers). by_seen (get_or z.told goal nothing).by) is
    ∙ ap (λ (s : Spoiler). by_seen s.by) (get_or_filled nothing (each_told (spoilers book) book) goal)
    ∙ each_by (spoilers book) book goal (length_after (length book) book)

pub clean_steps : CleanTells
clean_steps bytes p says limit m made is book took =
    let told = told_by book p (same_accepted (says ∙ ap spoilers_told took)) in
    steps_derivable bytes limit m (inr made) is book (desk_reads bytes book took).0 (λ goal. (get_or p.told goal nothing).by ≡ None)
    (derived.clean_same book {C = λ goal. spoiler_in (spoilers book) goal ≡ none} {D = λ goal. (get_or p.told goal nothing).by ≡ None}
    (λ goal e. seen_none (get_or p.told goal nothing).by (told goal ∙ e)) (λ goal e. sym (told goal) ∙ ap by_seen e)
    (unspoilt_clean book))

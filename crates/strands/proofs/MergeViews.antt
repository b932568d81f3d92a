-- Taking an answer means what `merge_into` of the definitions does for a positive literal whose answer fits: raising the time before the
-- goals are delayed or after comes to the same.
use Prim.Native.Nat.{ℕ, suc, ◌+◌, ◌<◌}
use native.Mathlib.Omega.{arith}
use mathlib.Core.Bool.{Bool, true, false, ◌||◌, or-true, or-false}
use mathlib.Core.List.{List, ◌++◌}
use mathlib.Core.Option.{Option, none, some}
use mathlib.Core.Path.{◌≡◌, refl, ap, ◌∙◌, sym}
use lib.Dec.{eqb, ltb}
use lib.ListN.{length}
use borrow.Author.Tests.{ne_eqb}
use Rattle.std.specs.Prelude as code
use Rattle.definitions.specs as said
use Rattle.definitions.specs.Book as books
use Rattle.definitions.specs.Fitting.{answer_fits}
use Rattle.definitions.specs.Logic.{SolveState, Merge, merged, no_solution, merge_into}
use Rattle.definitions.specs.Slg.{delay}
use Rattle.definitions.specs.Stop.{Stops, stop, go, ◌>>=◌, ◌>>◌, stop_if}
use Rattle.definitions.specs.Strand as held
use Rattle.strands.specs.declared.Answer.{Answer}
use Rattle.strands.specs.declared.Strand.{Strand}
use Rattle.strands.specs.Delaying.{delayed, strand_or}
use Rattle.strands.specs.Fields.{with_ambiguous}
use Rattle.strands.specs.Literals.{without_last, answered}
use Rattle.strands.specs.Merging.{taking, ambiguous_too, take_by, goals_taken, take_answer}
use Rattle.strands.specs.View.{Sound, clause, answer, Kept}
use Rattle.strands.proofs.DelayViews.{delay_view, delay_kept, delay_sound}
use Rattle.strands.proofs.FieldViews.{kept_on, ambiguous_sound}
use Rattle.strands.proofs.LiteralViews.{answered_view, answered_kept, answered_sound}

abbrev then : (said.ExClause → said.ExClause) → Stops said.ExClause → Stops said.ExClause
then f x = x >>= λ y. go (f y)

abbrev ambiguous_clause : Bool → said.ExClause → said.ExClause
ambiguous_clause b x = held.with_ambiguous x (x.ambiguous || b)

ambiguous_too_view : (b : Bool) (t : Strand) → clause (ambiguous_too b t) ≡ ambiguous_clause b (clause t)
ambiguous_too_view true t = ap (held.with_ambiguous (clause t)) (sym (or-true t.ambiguous))
ambiguous_too_view false t = ap (held.with_ambiguous (clause t)) (sym (or-false t.ambiguous))

-- the ways out, as one change of the clause that delaying leaves
take_by_view : (b : Bool) (s : Strand) (d : code.Option Strand)
    → delayed (take_by false b s d) ≡ then (ambiguous_clause b) (delayed d)
take_by_view b s code.None = refl
take_by_view b s (code.Some t) = ap go (ambiguous_too_view b t)

by_test : (b over : Bool) (goals : List ℕ) (x : said.ExClause)
    → then (ambiguous_clause b)
    (stop_if over 24 >> go (held.with_delayed (held.with_answer_time x (suc x.answer_time)) (x.delayed_subgoals ++ goals)))
    ≡ then (taking b) (stop_if over 24 >> go (held.with_delayed x (x.delayed_subgoals ++ goals)))
by_test b true goals x = refl
by_test b false goals x = refl

module _ (a : Answer) (s : Strand) where
  abbrev goals : List ℕ
  goals = (answer a).delayed_subgoals

  pub take_view : Sound s → 0 < s.literal_count
      → delayed (take_answer a s) ≡ (delay goals (without_last (clause s)) >>= λ x. go (taking a.ambiguous x))
  take_view o some_left =
      let x : said.ExClause = without_last (clause s) in
      ap (λ (b : Bool). delayed (take_by b a.ambiguous s (goals_taken a s))) (ne_eqb s.literal_count 0 (λ z. omega arith))
      ∙ take_by_view a.ambiguous s (goals_taken a s)
      ∙ ap (then (ambiguous_clause a.ambiguous))
      (delay_view goals (answered s) (answered_sound s o).delayed_long
      ∙ ap (λ (v : held.Strand). delay goals v.ex_clause) (answered_view 0 s o some_left))
      ∙ by_test a.ambiguous (ltb 8 (length x.delayed_subgoals + length goals)) goals x

  -- what is over leaves the strand as it was
  pub take_as_it_was : take_answer a s ≡ code.None → strand_or s (take_answer a s) ≡ s
  take_as_it_was e = ap (strand_or s) e

  ambiguous_too_kept : (b : Bool) (t : Strand) → Kept s t → Kept s (ambiguous_too b t)
  ambiguous_too_kept true t k = kept_on s t (with_ambiguous t true) k refl
  ambiguous_too_kept false t k = k

  kept_by : (none_left b : Bool) (d : code.Option Strand) → Kept s (strand_or s d) → Kept s (strand_or s (take_by none_left b s d))
  kept_by true b d k = refl
  kept_by false b code.None k = refl
  kept_by false b (code.Some t) k = ambiguous_too_kept b t k

  goals_kept : (d : code.Option Strand) → Kept (answered s) (strand_or (answered s) d) → Kept s (strand_or s d)
  goals_kept code.None k = refl
  goals_kept (code.Some t) k = kept_on s (answered s) t (answered_kept s) k

  pub take_kept : Kept s (strand_or s (take_answer a s))
  take_kept =
      kept_by (eqb s.literal_count 0) a.ambiguous (goals_taken a s)
      (goals_kept (goals_taken a s) (delay_kept goals (answered s)))

  ambiguous_too_sound : (b : Bool) (t : Strand) → Sound t → Sound (ambiguous_too b t)
  ambiguous_too_sound true t o = ambiguous_sound t true o
  ambiguous_too_sound false t o = o

  sound_by : (none_left b : Bool) (d : code.Option Strand) → Sound s → Sound (strand_or (answered s) d)
      → Sound (strand_or s (take_by none_left b s d))
  sound_by true b d o p = o
  sound_by false b code.None o p = o
  sound_by false b (code.Some t) o p = ambiguous_too_sound b t p

  pub take_sound : Sound s → Sound (strand_or s (take_answer a s))
  take_sound o =
      sound_by (eqb s.literal_count 0) a.ambiguous (goals_taken a s) o (delay_sound goals (answered s) (answered_sound s o))

-- The definitions' `merge_into` for a positive literal whose answer fits, by what `take_view` says: it takes the answer, or stops.
abbrev applied_by : List ℕ → said.ExClause → (fits : Bool) → Stops (Option said.ExClause)
applied_by goals x fits = elim fits [ false ↦ go none | true ↦ elim (delay goals x) [ stop n ↦ stop n | go y ↦ go (some y) ] ]

abbrev merged_by : SolveState → held.Strand → (ambiguous : Bool) → Option said.ExClause → Stops Merge
merged_by st s b o = elim o [ none ↦ no_solution st | some y ↦ go (merged (held.with_ex_clause s (taking b y)) st) ]

merge_delayed : (st : SolveState) (s : held.Strand) (b : Bool) (d : Stops said.ExClause)
    → ((elim d as (λ _. Stops (Option said.ExClause)) [ stop n ↦ stop n | go y ↦ go (some y) ]) >>= merged_by st s b)
    ≡ (then (taking b) d >>= λ x. go (merged (held.with_ex_clause s x) st))
merge_delayed st s b (stop n) = refl
merge_delayed st s b (go y) = refl

pub merge_into_takes : (st : SolveState) (s : held.Strand) (goal : ℕ) (want : books.Want) (outsized : Bool) (a : said.Answer)
    → answer_fits (books.Positive goal want outsized) a.variant ≡ true
    → merge_into st s (books.Positive goal want outsized) a
    ≡ ((delay a.delayed_subgoals s.ex_clause >>= λ x. go (taking a.ambiguous x)) >>= λ x. go (merged (held.with_ex_clause s x) st))
merge_into_takes st s goal want outsized a fits =
    ap (λ (f : Bool). applied_by a.delayed_subgoals s.ex_clause f >>= merged_by st s a.ambiguous) fits
    ∙ merge_delayed st s a.ambiguous (delay a.delayed_subgoals s.ex_clause)

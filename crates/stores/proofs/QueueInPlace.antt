-- ORDER 6 of `take_strand`: the statement of specs/QueueInPlace, from what is known of a strand taken, wherever it stands (QueueSound), and
-- of where the first eligible one stands (QueueViews).
use Prim.Native.Nat.{ℕ, ◌<◌}
use mathlib.Core.Bool.{Bool, true, false}
use mathlib.Core.List.{List}
use mathlib.Core.Path.{◌≡◌, refl, sym, subst, ◌∙◌}
use lib.ListN.{length, get_or}
use borrow.Author.Tests.{ltb-true}
use Rattle.laws.proofs.Options.{no_such, same_some}
use Rattle.definitions.specs.Strand as said
use Rattle.definitions.specs.Turn as turns
use Rattle.rings.specs.Rings.{place_if}
use Rattle.stores.specs.declared.queue.Strands.{Strands}
use Rattle.stores.specs.declared.table.Answers.{Answers}
use Rattle.stores.specs.declared.tables.Tables.{Tables}
use Rattle.stores.specs.Numbers.{flag}
use Rattle.stores.specs.Places.{ring, taken_at, taken_if, first_of}
use Rattle.stores.specs.Queue.{with_places, test_at, taken_strand, strand_place, any_strand}
use Rattle.stores.specs.QueueInPlace.{TakenAt, InPlace}
use Rattle.stores.specs.Sound.{SoundStrands}
use Rattle.stores.specs.View.{FirstStrands, mode}
use Rattle.stores.proofs.QueueSound.{taken_there}
use Rattle.stores.proofs.QueueViews.{first_eligible}

module _ (fresh : FirstStrands) (ts : Tables) (a : Answers) (s : Strands) (held : List ℕ) (t clock : ℕ) (h : t < ts.count)
    (sound : SoundStrands fresh s ts.count held) where
  abbrev complete : Bool
  complete = flag (get_or ts.complete t 0)

  abbrev test : said.Strand → Bool
  test = turns.eligible clock (mode (get_or ts.complete t 0))

  abbrev j : ℕ
  j = first_of (test_at clock complete s) t s.places

  abbrev Says : Strands → ℕ → Type 0
  Says s'' q = InPlace fresh ts.count held test t s s'' q

  found_by : (b : Bool) → any_strand clock complete t s ≡ b
      → Says (with_places s (taken_if b t j s.places)) (place_if b (get_or (ring s.places t) j 0))
  found_by true e = record {
    taken = λ i is. subst
        (λ (k : ℕ). TakenAt fresh ts.count held t k s (with_places s (taken_at t j s.places)) (get_or (ring s.places t) j 0))
        (same_some (sym (first_eligible fresh ts a s held t clock h sound true e) ∙ is))
        (taken_there fresh s ts.count held t j h sound (ltb-true j (length (ring s.places t)) e));
    untouched = λ is. absurd (no_such (sym is ∙ first_eligible fresh ts a s held t clock h sound true e));
  }
  found_by false e = record {
    taken = λ i is. absurd (no_such (sym (first_eligible fresh ts a s held t clock h sound false e) ∙ is));
    untouched = λ is. (refl, refl);
  }

  pub in_place : InPlace fresh ts.count held (turns.eligible clock (mode (get_or ts.complete t 0))) t s
      (taken_strand clock (flag (get_or ts.complete t 0)) t s) (strand_place clock (flag (get_or ts.complete t 0)) t s)
  in_place = found_by (any_strand clock complete t s) refl

-- What the proof of `say` cites: what a profile says of the check. Assumes nothing.
use Prim.Native.Nat.{ℕ}
use mathlib.Core.Bool.{Bool}
use mathlib.Core.Path.{◌≡◌, refl, sym, ap, subst, ◌∙◌}
use mathlib.Core.List.{List, [], ◌++◌}
use lib.ListN.{take}
use lib.Dec.{eqb}
use borrow.Author.Tests.{ne_eqb}
use Rattle.std.proofs.Common.{Ok, Err}
use Rattle.definitions.specs.Text.{ascii}
use Rattle.definitions.specs.Refusal.{Refusable, refused}
use Rattle.papers.specs.NotPlain.{not_plain_place}
use Rattle.definitions.proofs.Refusal.{same_refused, not_accepted}
use Rattle.pen.specs.Pen.{Pen, put_all}
use Rattle.pen.specs.Refusals.{refusal_lines}
use Rattle.pen.proofs.Putting.{put_two, put_nothing}
use Rattle.places.specs.Words.{place_line}
use Rattle.book.specs.declared.refusal.Refusal.{Refusal}
use Rattle.book.specs.Refusals.{number}
use Rattle.paper_checks.specs.declared.LeastLevels.{LeastLevels}
use Rattle.paper_checks.specs.declared.Unlevelled.{Unlevelled}
use Rattle.paper_checks.specs.declared.Unlevelled.TheVariants.{Refused, OnCycles}
use Rattle.paper_checks.specs.Profile.{Profiles}
use Rattle.levels.specs.Words.{level_lines, cycle_words, reason_words, refused_words, outside_words, level_words, Tells}

module _ (bytes : List ℕ) (p : Pen) where
  pub tells_levels : (l : LeastLevels) (s q : Pen) → Profiles bytes (Ok l) → s ≡ put_all (ascii "within demand 3\n") p
      → q ≡ put_all (level_lines 0 (take l.goals l.levels)) s → Tells bytes p q
  tells_levels l s q x e f = record {
    marks = [];
    marked = λ book took k. absurd (not_accepted (sym k ∙ sym x.means));
    told =
        put_two (ascii "within demand 3\n") (level_lines 0 (take l.goals l.levels)) p s q e f
        ∙ ap (λ (c : Refusable (List ℕ)). put_all (level_words c (not_plain_place bytes) []) p) x.means;
  }

  -- a refusal, with what is behind it
  words_said : (n : ℕ) (marks : List Bool) (q r : Pen)
      → q ≡ put_all (place_line (not_plain_place bytes)) (put_all (refusal_lines n) (put_all (outside_words n) p))
      → r ≡ put_all (reason_words (eqb n 38) marks) q → r ≡ put_all (level_words (refused n) (not_plain_place bytes) marks) p
  unfolding refused_words
  words_said n marks q r e f =
      let reason = reason_words (eqb n 38) marks in
      let place = place_line (not_plain_place bytes) in
      put_two (outside_words n) (refusal_lines n ++ (place ++ reason)) p _ r refl
      (put_two (refusal_lines n) (place ++ reason) _ _ r refl (put_two place reason _ q r e f))

  pub tells_refusal : (why : Unlevelled) (e : Refusal) (q : Pen) → Profiles bytes (Err why) → why ≡ Refused e
      → q ≡ put_all (place_line (not_plain_place bytes)) (put_all (refusal_lines (number e)) (put_all (outside_words (number e)) p))
      → Tells bytes p q
  tells_refusal why e q given is f = let x = subst (λ (w : Unlevelled). Profiles bytes (Err w)) is given in record {
    marks = [];
    marked = λ book took k. absurd (x.reason (same_refused (x.means ∙ k)));
    told =
        words_said (number e) [] q q f
        (sym (put_nothing q) ∙ ap (λ (t : Bool). put_all (reason_words t []) q) (sym (ne_eqb (number e) 38 x.reason)))
        ∙ ap (λ (c : Refusable (List ℕ)). put_all (level_words c (not_plain_place bytes) []) p) x.means;
  }

  -- the marks are told by the profile wherever the check says 38
  pub tells_cycles : (why : Unlevelled) (marks : List Bool) (q r : Pen) → Profiles bytes (Err why) → why ≡ OnCycles marks
      → q ≡ put_all (place_line (not_plain_place bytes)) (put_all (refusal_lines 38) (put_all (outside_words 38) p))
      → r ≡ put_all (cycle_words marks) q → Tells bytes p r
  tells_cycles why marks q r given is e f = let x = subst (λ (w : Unlevelled). Profiles bytes (Err w)) is given in record {
    marks = marks;
    marked = λ book took k. x.reason book took;
    told =
        words_said 38 marks q r e f
        ∙ ap (λ (c : Refusable (List ℕ)). put_all (level_words c (not_plain_place bytes) marks) p) x.means;
  }

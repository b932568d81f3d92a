-- The numbers of a peek's reply tell the line of the ending that it stands for, and what follows it.
use Prim.Native.Nat.{ℕ}
use mathlib.Core.Bool.{Bool, true, false}
use mathlib.Core.List.{[]}
use mathlib.Core.Path.{◌≡◌, refl, ap, subst, ◌∙◌}
use Rattle.papers.specs.Listing.{line, word, number, page_line, next}
use Rattle.definitions.specs.Refusal.{Refusable, accepted}
use Rattle.definitions.specs.Logic.{NoMoreSolutions}
use Rattle.definitions.specs.Turn.{Ending, fail, stopped}
use Rattle.definitions.proofs.Refusal.{same_accepted, not_accepted}
use Rattle.batch.specs.declared.calls.Reply.{Reply}
use Rattle.forest.specs.declared.searches.Outcome.{Outcome}
use Rattle.forest.specs.declared.searches.Outcome.TheVariants as outcomes
use Rattle.forest.specs.Searches.{reply_by}
use Rattle.forest.specs.ServeCalls.{outcome_numbers}
use Rattle.listing.specs.Lines.{word_of, settled_word, number_of, reply_line}
use Rattle.listing.specs.Goals.{next_of}
use Rattle.listing.proofs.Pages.{line_is}

-- the ending that an outcome stands for; a refused call has none
abbrev pub ending_of : Outcome → Refusable Ending
ending_of o = reply_by o (λ e. e)

-- its numbers tell where the peek ended and how, whether an answer was skipped or not, and so what follows its line
pub record Tells (m : Reply) (index : ℕ) (e : Ending) : Type 0 where
  pub ended_at : m.index ≡ index
  pub says_word : (skipped : Bool) → word_of (settled_word m.word skipped) ≡ word e skipped
  pub says_number : (skipped : Bool) → number_of (settled_word m.word skipped) m.value ≡ number e
  pub follows : next_of m.word ≡ next e

tells_by : {m : Reply} {index : ℕ} {d e : Ending} → accepted d ≡ accepted e → m.index ≡ index
    → ((skipped : Bool) → word_of (settled_word m.word skipped) ≡ word d skipped)
    → ((skipped : Bool) → number_of (settled_word m.word skipped) m.value ≡ number d) → next_of m.word ≡ next d → Tells m index e
tells_by {m} {index} s a b c d =
    subst (λ (z : Ending). Tells m index z) (same_accepted s) (record { ended_at = a; says_word = b; says_number = c; follows = d })

pub reply_tells : (i t x : ℕ) (o : Outcome) (e : Ending) → ending_of o ≡ accepted e → Tells (outcome_numbers i t x o) i e
unfolding word_of settled_word number_of
reply_tells i t x (outcomes.Refused n) e s = absurd (not_accepted s)
reply_tells i t x (outcomes.Found variant true) e s = tells_by s refl (λ skipped. refl) (λ skipped. refl) refl
reply_tells i t x (outcomes.Found variant false) e s = tells_by s refl (λ skipped. refl) (λ skipped. refl) refl
reply_tells i t x outcomes.NoMoreSolutions e s = tells_by s refl says numbers refl
  where
    says : (skipped : Bool) → word_of (settled_word 5 skipped) ≡ word (fail NoMoreSolutions) skipped
    says true = refl
    says false = refl

    numbers : (skipped : Bool) → number_of (settled_word 5 skipped) 0 ≡ []
    numbers true = refl
    numbers false = refl
reply_tells i t x outcomes.Floundered e s = tells_by s refl (λ skipped. refl) (λ skipped. refl) refl
reply_tells i t x outcomes.QuantumExceeded e s = tells_by s refl (λ skipped. refl) (λ skipped. refl) refl
reply_tells i t x outcomes.NegativeCycle e s = tells_by s refl (λ skipped. refl) (λ skipped. refl) refl
reply_tells i t x outcomes.InvalidAnswer e s = tells_by s refl (λ skipped. refl) (λ skipped. refl) refl
reply_tells i t x outcomes.Cut e s = tells_by s refl (λ skipped. refl) (λ skipped. refl) refl
reply_tells i t x (outcomes.Stopped n) e s = tells_by s refl (λ skipped. refl) (λ skipped. refl) refl

-- the line of an open that stopped
pub stop_line : (goal n : ℕ) → reply_line goal 0 2 n ≡ page_line (line goal 0 (stopped n) false)
unfolding word_of number_of
stop_line goal n = line_is goal 0 2 n (stopped n) false refl refl

-- the line of a peek
pub peek_line : (goal index : ℕ) (m : Reply) (e : Ending) (skipped : Bool) → Tells m index e
    → reply_line goal m.index (settled_word m.word skipped) m.value ≡ page_line (line goal index e skipped)
peek_line goal index m e skipped x =
    ap (λ (i : ℕ). reply_line goal i (settled_word m.word skipped) m.value) x.ended_at
    ∙ line_is goal index (settled_word m.word skipped) m.value e skipped (x.says_word skipped) (x.says_number skipped)

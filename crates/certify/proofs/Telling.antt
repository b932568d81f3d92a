-- What the proof of `say` cites: the words by what `spoilers` gives are those of the book. Assumes nothing.
use Prim.Native.Nat.{ℕ, zero, suc, ◌-◌, ◌≤◌}
use native.Mathlib.Omega.{arith}
use mathlib.Core.Path.{◌≡◌, refl, sym, ap, ap₂, ◌∙◌}
use mathlib.Core.Option.{Option, none, some}
use mathlib.Core.List.{List, [], ◌∷◌, ◌++◌}
use lib.ListN.{length, get_or, take, replicate}
use lib.Seq.{take_at}
use Rattle.definitions.specs.Text.{decimal}
use Rattle.definitions.specs.Refusal.{Refusable, refused, accepted}
use Rattle.definitions.specs.Book.{Book}
use Rattle.definitions.specs.Desk.{desk}
use Rattle.definitions.proofs.Refusal.{same_accepted, same_refused, not_accepted}
use Rattle.papers.specs.Spoilt.{Spoil, a_coinductive_goal, a_not, spoil, spoilers}
use Rattle.definitions.proofs.Desk.{desk_reads}
use Rattle.papers.proofs.Spoilt.{length_after}
use Rattle.definitions.proofs.ReadLimits.{book_good}
use Rattle.pen.specs.Goals.{words_from}
use Rattle.pen.specs.Pen.{Pen, put_all}
use Rattle.pen.specs.Refusals.{refusal_lines}
use Rattle.book.specs.declared.refusal.Refusal.{Refusal}
use Rattle.book.specs.Refusals.{number}
use Rattle.paper_checks.specs.declared.Spoiler.{Spoiler}
use Rattle.paper_checks.specs.declared.Spoilers.{Spoilers}
use Rattle.paper_checks.specs.Spoilers.{own_told, told, nothing, each_told, filled, told_after, spoilers_told}
use Rattle.paper_checks.proofs.Firsts.{get_or_filled}
use Rattle.certify.specs.Words.{spoil_of, reason_words, spoilt_words, goal_line, certify_words}
use Rattle.certify.specs.Told.{reason_told, line_told}

reason_is : (o : Option Spoil) → reason_told (own_told o) ≡ reason_words o
reason_is none = refl
reason_is (some a_coinductive_goal) = refl
reason_is (some (a_not k j)) = refl

length_each : (os : List (Option ℕ)) (gs : Book) → length os ≡ length gs → length (each_told os gs) ≡ length gs
length_each [] [] e = refl
length_each [] (g ∷ gs) e = absurd (omega arith)
length_each (o ∷ os) [] e = refl
length_each (o ∷ os) (g ∷ gs) e = ap suc (length_each os gs (omega arith))

-- what goal n spoils by itself
own_each : (os : List (Option ℕ)) (gs : Book) (n : ℕ) → length os ≡ length gs
    → (get_or (each_told os gs) n nothing).own ≡ own_told (spoil_of gs n)
own_each [] [] n e = refl
own_each [] (g ∷ gs) n e = absurd (omega arith)
own_each (o ∷ os) [] n e = absurd (omega arith)
own_each (o ∷ os) (g ∷ gs) zero e = refl
own_each (o ∷ os) (g ∷ gs) (suc n) e = own_each os gs n (omega arith)

module _ (book : Book) where
  abbrev all : List Spoiler
  all = filled nothing (each_told (spoilers book) book)

  as_many : length (spoilers book) ≡ length book
  as_many = length_after (length book) book

  own_of : (n : ℕ) → (get_or all n nothing).own ≡ own_told (spoil_of book n)
  own_of n =
      ap (λ (s : Spoiler). s.own) (get_or_filled nothing (each_told (spoilers book) book) n) ∙ own_each (spoilers book) book n as_many

  line_is : (goal : ℕ) (o : Option ℕ) (own : Option Spoil) → line_told all goal (told o own) ≡ goal_line book goal o
  unfolding line_told goal_line
  line_is goal none own = refl
  line_is goal (some n) own =
      ap (λ (w : List ℕ). decimal goal ++ spoilt_words n w) (ap reason_told (own_of n) ∙ reason_is (spoil_of book n))

  lines_are : (g : ℕ) (os : List (Option ℕ)) (gs : Book) → length os ≡ length gs
      → words_from (line_told all) g (each_told os gs) ≡ words_from (goal_line book) g os
  unfolding words_from
  lines_are g [] gs e = refl
  lines_are g (o ∷ os) [] e = absurd (omega arith)
  lines_are g (o ∷ os) (h ∷ gs) e =
      ap₂ (λ (v w : List ℕ). v ++ w) (line_is g o (spoil h)) (lines_are (suc g) os gs (omega arith))

  -- those of its goals
  goals_of : take (length book) all ≡ each_told (spoilers book) book
  goals_of =
      take_at (each_told (spoilers book) book) (replicate (64 - length (each_told (spoilers book) book)) nothing) (length book)
      (length_each (spoilers book) book as_many)

-- A paper.

pub refused_said : (bytes : List ℕ) (r : Refusal) (n : ℕ) (p q : Pen) → refused (number r) ≡ spoilers_told (desk bytes)
    → n ≡ number r → q ≡ put_all (refusal_lines n) p → q ≡ put_all (certify_words (desk bytes)) p
refused_said bytes r n p q e is f = f ∙ ap (λ (m : ℕ). put_all (refusal_lines m) p) is ∙ on (desk bytes) e
  where
    on : (d : Refusable Book) → refused (number r) ≡ spoilers_told d → put_all (refusal_lines (number r)) p ≡ put_all (certify_words d) p
    on (refused m) x = ap (λ (n : ℕ). put_all (refusal_lines n) p) (same_refused x)
    on (accepted book) x = absurd (not_accepted x)

module _ (bytes : List ℕ) (s : Spoilers) (e : accepted s ≡ spoilers_told (desk bytes)) where
  -- the desk took it
  taken : (book : Book) × (desk bytes ≡ accepted book)
  taken = on (desk bytes) refl
    where
      on : (d : Refusable Book) → desk bytes ≡ d → (book : Book) × (desk bytes ≡ accepted book)
      on (refused m) x = absurd (not_accepted (sym (e ∙ ap spoilers_told x)))
      on (accepted book) x = (book, x)

  s_is : s ≡ told_after (length taken.0) taken.0
  s_is = same_accepted (e ∙ ap spoilers_told taken.1)

  pub few_goals : s.goals ≤ 64
  few_goals =
      let few = (book_good bytes taken.0 (desk_reads bytes taken.0 taken.1).0).small.few_goals in
      omega (arith, ap (λ (r : Spoilers). r.goals) s_is)

  pub lines_said : (p q : Pen) → q ≡ put_all (words_from (line_told s.told) 0 (take s.goals s.told)) p
      → q ≡ put_all (certify_words (desk bytes)) p
  lines_said p q f =
      let book = taken.0 in
      f
      ∙ ap (λ (r : Spoilers). put_all (words_from (line_told r.told) 0 (take r.goals r.told)) p) s_is
      ∙ ap (λ (w : List ℕ). put_all w p) (ap (words_from (line_told (all book)) 0) (goals_of book)
      ∙ lines_are book 0 (spoilers book) book (as_many book))
      ∙ sym (ap (λ (d : Refusable Book). put_all (certify_words d) p) taken.1)

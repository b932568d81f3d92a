-- What the proof of `mend` cites: the copy by the reasons that were found is the definitions' copy, and each way out of it. Assumes
-- nothing.
use Prim.Native.Nat.{ℕ, zero, suc, ◌+◌, ◌-◌, ◌≤◌}
use Rattle.std.specs.Prelude.{Ok, Err}
use Rattle.std.specs.declared.option.Option as found
use native.Mathlib.Omega.{arith}
use mathlib.Core.Path.{◌≡◌, refl, sym, ap, ap₂, ◌∙◌}
use mathlib.Core.Bool.{Bool, true}
use mathlib.Core.Option.{Option, none}
use mathlib.Core.List.{List, [], ◌∷◌, ◌++◌}
use Rattle.laws.specs.Spans.{span}
use Rattle.laws.proofs.Spans.{span_append}
use Rattle.laws.specs.All.{All, end, more}
use Rattle.definitions.specs.Refusal.{Refusable}
use Rattle.definitions.specs.Book.{Command, goal, clause, positive, ranged, negative, unknown, command, width}
use Rattle.definitions.specs.Book as said
use Rattle.papers.specs.Mend.{Copying, has_none, at_clause, at_command, if_stays, copy, copied, goal_lines}
use Rattle.papers.specs.Mend.{reasons as reasonsOf}
use Rattle.papers.specs.Mend.{mended_from, mend}
use Rattle.book.specs.declared.Book.{Book}
use Rattle.book.specs.declared.refusal.Refusal.{Refusal}
use Rattle.book.specs.Refusals.{number}
use Rattle.book.specs.View.{view, Formed, ReadLoosely}
use Rattle.book.proofs.Held.{goals_counted}
use Rattle.pen.specs.Pen.{Pen, put_all}
use Rattle.pen.specs.Refusals.{refusal_line}
use Rattle.mending.specs.declared.reasons.Reason.{Reason}
use Rattle.mending.specs.Reasons.{reason_seen, reason_at, Reasoned}
use Rattle.mending.specs.Mending.{mends}
use Rattle.mending.proofs.AllReasons.{flat}

-- Where clauses behind the last would all stay, they make no difference.

abbrev NoReason : List (Option ℕ) → Type 0
NoReason rs = All (λ (r : Option ℕ). r ≡ none) rs

abbrev state : (stays last : Bool) → List (Option ℕ) → Copying
state s l rs = record { stays = s; last_stays = l; to_come = rs }

copy_more : (bs : List ℕ) (skip : ℕ) (rs xs : List (Option ℕ)) (s l : Bool) → NoReason xs
    → copy bs skip (state s l (rs ++ xs)) ≡ copy bs skip (state s l rs)
copy_more [] skip rs xs s l z = refl
copy_more (b ∷ bs) (suc skip) rs xs s l z = ap (if_stays s b) (copy_more bs skip rs xs s l z)
copy_more (b ∷ bs) zero rs xs s l z = on (command b) (copy_more bs)
  where
    Same : ℕ → List (Option ℕ) → List (Option ℕ) → Bool → Bool → Type 0
    Same skip rs xs s l = copy bs skip (state s l (rs ++ xs)) ≡ copy bs skip (state s l rs)

    IH : Type 0
    IH = (skip : ℕ) (rs xs : List (Option ℕ)) (s l : Bool) → NoReason xs → Same skip rs xs s l

    at_one : IH → (rs xs : List (Option ℕ)) → NoReason xs
        → if_stays (at_clause (rs ++ xs)).stays b (copy bs 3 (at_clause (rs ++ xs)))
        ≡ if_stays (at_clause rs).stays b (copy bs 3 (at_clause rs))
    at_one ih [] [] z = refl
    at_one ih [] (x ∷ xs) (more e z) =
        ap (λ (r : Option ℕ). if_stays (at_clause (r ∷ xs)).stays b (copy bs 3 (at_clause (r ∷ xs)))) e
        ∙ ap (λ (t : List ℕ). b ∷ t) (ih 3 [] xs true true z)
    at_one ih (r ∷ rs) xs z = ap (if_stays (has_none r) b) (ih 3 rs xs (has_none r) (has_none r) z)

    on : (m : Command) → IH
        → if_stays (at_command m (state s l (rs ++ xs))).stays b (copy bs (width m) (at_command m (state s l (rs ++ xs))))
        ≡ if_stays (at_command m (state s l rs)).stays b (copy bs (width m) (at_command m (state s l rs)))
    on goal ih = ap (if_stays true b) (ih 1 rs xs true l z)
    on clause ih = at_one ih rs xs z
    on positive ih = ap (if_stays l b) (ih 5 rs xs l l z)
    on ranged ih = ap (if_stays l b) (ih 7 rs xs l l z)
    on negative ih = ap (if_stays l b) (ih 3 rs xs l l z)
    on said.end ih = ap (if_stays true b) (ih 0 rs xs true l z)
    on unknown ih = ap (if_stays true b) (ih 0 rs xs true l z)

none_from : (reasons : List (found.Option Reason)) (s n : ℕ) → ((c : ℕ) → s ≤ c → reason_at reasons c ≡ none)
    → NoReason (span (reason_at reasons) s n)
none_from reasons s zero z = end
none_from reasons s (suc n) z = more (z s (omega arith)) (none_from reasons (suc s) n (λ c h. z c (omega arith)))

-- The copy.

module _ (b : Book) (formed : Formed b) (reasons : List (found.Option Reason)) (reasoned : Reasoned b reasons) where
  copied_so : (bytes : List ℕ) → copied bytes (span (reason_at reasons) 0 256) ≡ copied bytes (reasonsOf (view b))
  copied_so bytes =
      let z : 256 ≡ b.clauses + (256 - b.clauses) = omega (arith, formed.few_clauses) in
      let rest = span (reason_at reasons) (0 + b.clauses) (256 - b.clauses) in
      ap (λ (rs : List (Option ℕ)). copied bytes rs)
      (ap (span (reason_at reasons) 0) z ∙ span_append (reason_at reasons) 0 b.clauses (256 - b.clauses))
      ∙ copy_more bytes 0 (span (reason_at reasons) 0 b.clauses) rest true true
      (none_from reasons (0 + b.clauses) (256 - b.clauses) (λ c h. ap reason_seen (reasoned.others c (omega arith))))
      ∙ ap (copied bytes) (sym (flat b formed reasons reasoned))

-- Each way out.

module _ (bytes : List ℕ) (out p q : Pen) where
  pub refused_mended : (e : Refusal) (n : ℕ) → ReadLoosely bytes (Err e) → n ≡ number e → q ≡ put_all (refusal_line n) p
      → ◌≡◌ {A = ℕ × Pen × Pen} (number e, out, q) (mends (mend bytes) out p)
  refused_mended e n given is f =
      ap (λ (x : Pen). (number e, out, x)) (f ∙ ap (λ (m : ℕ). put_all (refusal_line m) p) is)
      ∙ ap (λ (x : Refusable said.Book). mends (mended_from bytes x) out p) given.means

  pub book_mended : (b : Book) (reasons : List (found.Option Reason)) (r : Pen) → ReadLoosely bytes (Ok b) → Reasoned b reasons
      → r ≡ put_all (copied bytes (span (reason_at reasons) 0 256)) out
      → q ≡ put_all (goal_lines b.goals 0 (view b)) p → ◌≡◌ {A = ℕ × Pen × Pen} (0, r, q) (mends (mend bytes) out p)
  book_mended b reasons r given reasoned e f =
      ap₂ (λ (x y : Pen). (0, x, y))
      (e ∙ ap (λ (l : List ℕ). put_all l out) (copied_so b given.formed reasons reasoned bytes))
      (f ∙ ap (λ (n : ℕ). put_all (goal_lines n 0 (view b)) p) (sym (goals_counted b)))
      ∙ ap (λ (x : Refusable said.Book). mends (mended_from bytes x) out p) given.means

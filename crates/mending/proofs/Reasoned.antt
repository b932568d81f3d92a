-- The reasons that are found in a book's arrays are those of the definitions: of one clause, of a goal's clauses, and of all. Assumes
-- nothing.
use Prim.Native.Nat.{ℕ, zero, suc, ◌+◌, ◌*◌, ◌-◌, ◌<◌, ◌≤◌}
use Rattle.std.specs.Prelude.{Some, None}
use Rattle.std.specs.declared.option.Option as found
use native.Mathlib.Omega.{arith}
use mathlib.Core.Path.{◌≡◌, refl, sym, ap, ap₂, subst, ◌∙◌}
use mathlib.Core.Bool.{Bool, true, false, true≢false}
use mathlib.Core.Option.{Option, none, some}
use mathlib.Core.List.{List, [], ◌∷◌}
use lib.ListN.{length, get_or, set, length-set}
use lib.Seq.{get_or-set_same, get_or-set_other}
use lib.Dec.{ltb}
use borrow.Author.Tests.{ltb-true, ltb-false}
use Rattle.laws.specs.Spans.{span}
use Rattle.laws.proofs.Spans.{span_snoc}
use Rattle.definitions.specs.Book.{Clause, literals_name}
use Rattle.definitions.specs.Desk.{same_clause}
use Rattle.definitions.specs.Lists.{push, position}
use Rattle.papers.specs.Mend.{repeated, reason, reasons_behind}
use Rattle.definitions.proofs.Desk.{same_clause_is}
use Rattle.book.specs.declared.Book.{Book}
use Rattle.book.specs.View.{Formed, literal_viewed, clause_viewed}
use Rattle.book.specs.Repeats.{lent_by, clause_read}
use Rattle.book.proofs.MoreLiterals.{goal_of_kept}
use Rattle.book.proofs.Shown.{formed_shown}
use Rattle.mending.specs.declared.reasons.Reason.{Reason}
use Rattle.mending.specs.declared.reasons.Reason.TheVariants as why
use Rattle.mending.specs.Reasons.{all_below, one_passes, names_none, repeats_at, repeats, chosen, reason_by, reasons_from}
use Rattle.mending.specs.Reasons.{reason_seen, reason_at}

-- One clause against those before it.

module _ (test : Clause → Bool) (clause : ℕ → Clause) (p : ℕ → Bool) where
  -- the first that passes, whatever its place
  one_found : (s m : ℕ) → ((i : ℕ) → s ≤ i → i < s + m → p i ≡ test (clause i))
      → reason_seen (chosen true (one_passes p s m)) ≡ repeated (position test (span clause s m))
  one_found s zero same = refl
  one_found s (suc m) same =
      on (p s) (test (clause s)) (same s (omega arith) (omega arith)) (position test (span clause (suc s) m))
      (one_found (suc s) m (λ i a b. same i (omega arith) (omega arith)))
    where
      further : (o : Option ℕ) → repeated o ≡ repeated (elim o [ none ↦ none | some i ↦ some (suc i) ])
      further none = refl
      further (some i) = refl

      on : (x t : Bool) → x ≡ t → (o : Option ℕ) → reason_seen (chosen true (one_passes p (suc s) m)) ≡ repeated o
          → reason_seen (chosen true (elim x [ true ↦ true | false ↦ one_passes p (suc s) m ]))
          ≡ repeated (elim t [ true ↦ some 0 | false ↦ elim o [ none ↦ none | some i ↦ some (suc i) ] ])
      on x true e o ih = ap (λ (y : Bool). reason_seen (chosen true (elim y [ true ↦ true | false ↦ one_passes p (suc s) m ]))) e
      on x false e o ih =
          ap (λ (y : Bool). reason_seen (chosen true (elim y [ true ↦ true | false ↦ one_passes p (suc s) m ]))) e ∙ ih ∙ further o

names_all : (r : found.Option Reason) (o : Option ℕ) → reason_seen r ≡ repeated o → names_none r ≡ false
names_all None o e = refl
names_all (Some why.RepeatedClause) o e = refl
names_all (Some why.NamesNoGoal) none e = cc
names_all (Some why.NamesNoGoal) (some i) e = cc

names_not : (r : found.Option Reason) → reason_seen r ≡ some 6 → names_none r ≡ true
names_not None e = cc
names_not (Some why.RepeatedClause) e = cc
names_not (Some why.NamesNoGoal) e = refl

module _ (b : Book) (formed : Formed b) where
  abbrev v : ℕ → Clause
  v c = clause_viewed b c

  abbrev names : ℕ → Bool
  names c = literals_name b.goals (v c).literals

  -- the goals of a clause, by the array or by its literals
  below_names : (s m : ℕ) → all_below b.goals (span (λ i. get_or b.literal_goal i 0) s m)
      ≡ literals_name b.goals (span (literal_viewed b) s m)
  below_names s zero = refl
  below_names s (suc m) =
      ap₂ (λ (g : ℕ) (t : Bool). elim (ltb g b.goals) [ true ↦ t | false ↦ false ])
      (sym (goal_of_kept (get_or b.literal_kind s 0) (get_or b.literal_goal s 0) (get_or b.literal_want s 0)))
      (below_names (suc s) m)

  module _ (first k : ℕ) (reasons : List (found.Option Reason)) (inside : first + k < b.clauses)
      (known : (i : ℕ) → i < k → reason_at reasons (first + i) ≡ reason b.goals (span v first i) (v (first + i))) where
    abbrev c : ℕ
    c = first + k

    abbrev at : ℕ → found.Option Reason
    at i = get_or reasons (first + i) None

    -- a clause before it, with its reason
    seen_by : (i : ℕ) → i < k → (t : Bool) → names (first + i) ≡ t
        → reason_seen (at i) ≡ elim t [ false ↦ some 6 | true ↦ repeated (position (same_clause (v (first + i))) (span v first i)) ]
    seen_by i h t e =
        known i h
        ∙ ap (λ (x : Bool). elim x [
          | false ↦ some 6
          | true ↦ repeated (position (same_clause (v (first + i))) (span v first i))
        ]) e

    -- whether an earlier one is the same: those that name no goal are not
    same_by : (i : ℕ) → i < k → names c ≡ true → (t : Bool) → names (first + i) ≡ t
        → repeats_at (lent_by b) reasons c (first + i) ≡ same_clause (v c) (v (first + i))
    same_by i h all true e =
        ap (λ (t : Bool). elim t [ true ↦ false | false ↦ same_clause (clause_read (lent_by b) c) (clause_read (lent_by b) (first + i)) ])
        (names_all (at i) (position (same_clause (v (first + i))) (span v first i)) (seen_by i h true e))
        ∙ ap₂ same_clause (formed_shown b formed b.goals c formed.few_goals inside all)
        (formed_shown b formed b.goals (first + i) formed.few_goals (omega (arith, inside)) e)
    same_by i h all false e =
        ap (λ (t : Bool). elim t [ true ↦ false | false ↦ same_clause (clause_read (lent_by b) c) (clause_read (lent_by b) (first + i)) ])
        (names_not (at i) (seen_by i h false e)) ∙ sym (on (same_clause (v c) (v (first + i))) refl)
      where
        on : (t : Bool) → same_clause (v c) (v (first + i)) ≡ t → t ≡ false
        on false q = refl
        on true q =
            absurd (true≢false (sym all ∙ ap (λ (x : Clause). literals_name b.goals x.literals)
            ((same_clause_is (v c) (v (first + i))).0 q) ∙ e))

    same_at : names c ≡ true → (d : ℕ) → first ≤ d → d < first + k → repeats_at (lent_by b) reasons c d ≡ same_clause (v c) (v d)
    same_at all d low high =
        let z : first + (d - first) ≡ d = omega arith in
        subst (λ (x : ℕ). repeats_at (lent_by b) reasons c x ≡ same_clause (v c) (v x)) z
        (same_by (d - first) (omega arith) all (names (first + (d - first))) refl)

    reason_is : reason_seen (reason_by (lent_by b) reasons b.goals first c) ≡ reason b.goals (span v first k) (v c)
    reason_is =
        ap (λ (t : Bool). reason_seen (chosen t (repeats (lent_by b) reasons first c))) (below_names (8 * c) (get_or b.clause_len c 0))
        ∙ on (names c) refl
      where
        on : (t : Bool) → names c ≡ t → reason_seen (chosen t (repeats (lent_by b) reasons first c))
            ≡ elim t [ false ↦ some 6 | true ↦ repeated (position (same_clause (v c)) (span v first k)) ]
        on false e = refl
        on true e =
            let z : c - first ≡ k = omega arith in
            ap (λ (m : ℕ). reason_seen (chosen true (one_passes (repeats_at (lent_by b) reasons c) first m))) z
            ∙ one_found (same_clause (v c)) v (repeats_at (lent_by b) reasons c) first k (same_at e)

  -- The clauses of one goal.

  -- the first k of them have their reasons
  abbrev pub Known : (first k : ℕ) → (reasons : List (found.Option Reason)) → Type 0
  Known first k reasons =
      (i : ℕ) → i < k → reason_at reasons (first + i) ≡ reason b.goals (span (clause_viewed b) first i) (clause_viewed b (first + i))

  -- what becomes of the reasons where m clauses from c on get theirs
  pub record Found (first k m : ℕ) (reasons to : List (found.Option Reason)) : Type 0 where
    pub size : length to ≡ 256
    pub found : Known first (k + m) to
    pub before : (i : ℕ) → i < first + k → get_or to i None ≡ get_or reasons i None
    pub behind : (i : ℕ) → first + k + m ≤ i → get_or to i None ≡ get_or reasons i None

  pub goal_found : (first m k : ℕ) (reasons : List (found.Option Reason)) → first + (k + m) ≤ b.clauses → length reasons ≡ 256
      → Known first k reasons → Found first k m reasons (reasons_from (lent_by b) b.goals first (first + k) m reasons)
  goal_found first zero k reasons h l known =
      let z : k + 0 ≡ k = omega arith in
      record {
        size = l;
        found = subst (λ (n : ℕ). Known first n reasons) (sym z) known;
        before = λ i a. refl;
        behind = λ i a. refl;
      }
  goal_found first (suc m) k reasons h l known =
      let z : suc (first + k) ≡ first + (k + 1) = omega arith in
      let w : k + 1 + m ≡ k + suc m = omega arith in
      let next = set reasons (first + k) here in
      let rest = goal_found first m (k + 1) next (omega arith) (length-set reasons (first + k) here ∙ l) one_more in
      let to = reasons_from (lent_by b) b.goals first (first + (k + 1)) m next in
      subst (λ (s : ℕ). Found first k (suc m) reasons (reasons_from (lent_by b) b.goals first s m next)) (sym z)
      (record {
        size = rest.size;
        found = subst (λ (n : ℕ). Known first n to) w rest.found;
        before = λ i a. rest.before i (omega arith) ∙ get_or-set_other reasons (first + k) i here None (λ e. absurd (omega arith));
        behind = λ i a. rest.behind i (omega arith) ∙ get_or-set_other reasons (first + k) i here None (λ e. absurd (omega arith));
      })
    where
      here : found.Option Reason
      here = reason_by (lent_by b) reasons b.goals first (first + k)

      one_more : Known first (k + 1) (set reasons (first + k) here)
      one_more i a = on (ltb i k) refl
        where
          on : (t : Bool) → ltb i k ≡ t
              → reason_at (set reasons (first + k) here) (first + i) ≡ reason b.goals (span v first i) (v (first + i))
          on true e =
              let x = ltb-true i k e in
              ap reason_seen (get_or-set_other reasons (first + k) (first + i) here None (λ q. absurd (omega arith))) ∙ known i x
          on false e =
              let x = ltb-false i k e in
              let y : k ≡ i = omega arith in
              subst
              (λ (j : ℕ). reason_at (set reasons (first + k) here) (first + j) ≡ reason b.goals (span v first j) (v (first + j)))
              y
              (ap reason_seen (get_or-set_same reasons (first + k) here None (omega (arith, formed.few_clauses)))
              ∙ reason_is first k reasons (omega arith) known)

  reasons_known : (first m k : ℕ) (reasons : List (found.Option Reason)) → Known first (k + m) reasons
      → reasons_behind b.goals (span v first k) (span v (first + k) m) ≡ span (reason_at reasons) (first + k) m
  reasons_known first zero k reasons known = refl
  reasons_known first (suc m) k reasons known =
      let z : suc (first + k) ≡ first + suc k = omega arith in
      let w : k + suc m ≡ suc k + m = omega arith in
      let pushed : push (span v first k) (v (first + k)) ≡ span v first (suc k) = sym (span_snoc v first k) in
      ap₂ (λ (r : Option ℕ) (rs : List (Option ℕ)). r ∷ rs) (sym (known k (omega arith)))
      (ap₂ (λ (before : List Clause) (s : ℕ). reasons_behind b.goals before (span v s m)) pushed z
      ∙ reasons_known first m (suc k) reasons (subst (λ (n : ℕ). Known first n reasons) w known)
      ∙ ap (λ (s : ℕ). span (reason_at reasons) s m) (sym z))

  -- those of a whole goal
  pub goal_reasons : (first m : ℕ) (reasons : List (found.Option Reason)) → Known first m reasons
      → reasons_behind b.goals [] (span (clause_viewed b) first m) ≡ span (reason_at reasons) first m
  goal_reasons first m reasons known =
      let z : first + 0 ≡ first = omega arith in
      let w : m ≡ 0 + m = omega arith in
      ap (λ (s : ℕ). reasons_behind b.goals [] (span v s m)) (sym z)
      ∙ reasons_known first m 0 reasons (subst (λ (n : ℕ). Known first n reasons) w known)
      ∙ ap (λ (s : ℕ). span (reason_at reasons) s m) z

-- Rules in order, written one after the other, are the bytes of their book.
use Prim.Native.Nat.{ℕ, zero, suc, ◌+◌, ◌-◌, ◌<◌}
use native.Mathlib.Omega.{arith}
use mathlib.Core.Path.{◌≡◌, sym, ap, subst, ◌∙◌}
use mathlib.Core.Bool.{Bool, true, false}
use mathlib.Core.List.{List, [], ◌∷◌, ◌++◌, append_assoc}
use borrow.Author.Tests.{eq-eqb}
use Rattle.laws.specs.All.{more}
use Rattle.laws.proofs.All.{all_map}
use Rattle.definitions.specs.Book.{Clause, write_clauses, write_goals}
use Rattle.papers.specs.Xsb.{Rule, clause_of, clauses_for, goals_for}
use Rattle.xsb_import.specs.Keeping.{goal_bytes, rule_bytes, flat, goals_after}
use Rattle.papers.specs.XsbForm.{Ordered, and_rule}
use Rattle.papers.proofs.XsbBooks.{HeadsAre, parted, heads_least, clauses_none, goals_skip}

-- with the goals that are left
abbrev pub flat_to : (n g : ℕ) → List Rule → List ℕ
flat_to n g rs = flat g rs ++ goal_bytes (n - goals_after g rs)

-- a goal without a rule
flat_shift : (n g : ℕ) (rs : List Rule) → g < n → Ordered n (suc g) rs → flat_to n g rs ≡ 0x47 ∷ 0 ∷ flat_to n (suc g) rs
flat_shift n g [] h o = let z : n - g ≡ suc (n - suc g) = omega arith in ap goal_bytes z
flat_shift n g (r ∷ rs) h (and_rule le lt o) =
    let z : suc r.head - g ≡ suc (suc r.head - suc g) = omega arith in
    ap (λ (k : ℕ). (goal_bytes k ++ (rule_bytes r.body ++ flat (suc r.head) rs)) ++ goal_bytes (n - goals_after (suc r.head) rs)) z

-- the rules of the goal that was written last
flat_own : (n g : ℕ) (own after : List Rule) → HeadsAre (λ h. h ≡ g) own → HeadsAre (λ h. h ≡ g → ⊥) after
    → flat_to n (suc g) (own ++ after) ≡ write_clauses (clauses_for g (own ++ after)) ++ flat_to n (suc g) after
flat_own n g [] after x y = ap (λ (cs : List Clause). write_clauses cs ++ flat_to n (suc g) after) (sym (clauses_none g after y))
flat_own n g (r ∷ own) after (more e x) y =
    let z : suc r.head - suc g ≡ 0 = omega arith in
    let w : suc r.head ≡ suc g = omega arith in
    let here : flat_to n (suc g) (r ∷ (own ++ after)) ≡ rule_bytes r.body ++ flat_to n (suc r.head) (own ++ after)
    = ap (λ (k : ℕ). (goal_bytes k ++ (rule_bytes r.body ++ flat (suc r.head) (own ++ after)))
    ++ goal_bytes (n - goals_after (suc r.head) (own ++ after))) z
    ∙ append_assoc (rule_bytes r.body) (flat (suc r.head) (own ++ after))
    (goal_bytes (n - goals_after (suc r.head) (own ++ after))) in
    here
    ∙ ap (λ (k : ℕ). rule_bytes r.body ++ flat_to n k (own ++ after)) w
    ∙ ap (λ (t : List ℕ). rule_bytes r.body ++ t) (flat_own n g own after x y)
    ∙ sym (append_assoc (rule_bytes r.body) (write_clauses (clauses_for g (own ++ after))) (flat_to n (suc g) after))
    ∙ ap (λ (b : Bool). write_clauses (elim b [ true ↦ clause_of r ∷ clauses_for g (own ++ after) | false ↦ clauses_for g (own ++ after) ])
    ++ flat_to n (suc g) after) (sym (eq-eqb r.head g e))

flat_first : (n g : ℕ) (own after : List Rule) → g < n → HeadsAre (λ h. h ≡ g) own → Ordered n (suc g) after
    → flat_to n g (own ++ after) ≡ 0x47 ∷ 0 ∷ flat_to n (suc g) (own ++ after)
flat_first n g [] after h x o = flat_shift n g after h o
flat_first n g (r ∷ own) after h (more e x) o =
    let z : suc r.head - g ≡ suc (suc r.head - suc g) = omega arith in
    ap (λ (k : ℕ). (goal_bytes k ++ (rule_bytes r.body ++ flat (suc r.head) (own ++ after)))
    ++ goal_bytes (n - goals_after (suc r.head) (own ++ after))) z

pub flat_written : (k n g : ℕ) (rs : List Rule) → g + k ≡ n → Ordered n g rs → flat_to n g rs ≡ write_goals (goals_for g k rs)
flat_written zero n g [] e o = let z : n - g ≡ 0 = omega arith in ap goal_bytes z
flat_written zero n g (r ∷ rs) e (and_rule le lt o) = absurd (omega arith)
flat_written (suc k) n g rs e o =
    let p = parted n g rs o in
    let later : HeadsAre (λ h. h ≡ g → ⊥) p.after = all_map (λ r u f. omega arith) (heads_least p.in_order) in
    subst (λ (qs : List Rule). flat_to n g qs ≡ write_goals (goals_for g (suc k) qs)) p.whole
    (flat_first n g p.own p.after (omega arith) p.for_it p.in_order
    ∙ ap (λ (t : List ℕ). 0x47 ∷ 0 ∷ t) (flat_own n g p.own p.after p.for_it later
    ∙ ap (λ (t : List ℕ). write_clauses (clauses_for g (p.own ++ p.after)) ++ t)
    (flat_written k n (suc g) p.after (omega arith) p.in_order
    ∙ ap write_goals (sym (goals_skip (suc g) k p.own p.after (all_map (λ r u. omega arith) p.for_it))))))

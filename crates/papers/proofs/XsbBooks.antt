-- The rules of a plain book, in book order, and the book of rules in order: each gives back the other.
use Prim.Native.Nat.{ℕ, zero, suc, ◌+◌, ◌<◌, ◌≤◌}
use native.Mathlib.Omega.{arith}
use mathlib.Core.Path.{◌≡◌, refl, sym, ap, ap₂, subst, ◌∙◌}
use mathlib.Core.Bool.{Bool, true, false}
use mathlib.Core.List.{List, [], ◌∷◌, ◌++◌, append-nil, append_assoc}
use lib.ListN.{length}
use lib.Dec.{eqb}
use borrow.Author.Tests.{eq-eqb, ne_eqb, eqb-true, eqb-false}
use Rattle.laws.specs.All.{All, end, more}
use Rattle.laws.proofs.All.{all_append, all_map}
use Rattle.definitions.specs.Book.{Clause, Goal, Book}
use Rattle.definitions.specs.Lists.{Each}
use Rattle.papers.specs.Model.{PlainClause, PlainGoal, Plain}
use Rattle.papers.specs.Xsb.{Rule, rules_of_goal, rules_from, clause_of, clauses_for, goals_for}
use Rattle.papers.specs.XsbForm.{Ordered, no_rule, and_rule}

-- Heads.

abbrev pub HeadsAre : (ℕ → Type 0) → List Rule → Type 0
HeadsAre P rs = All (λ (r : Rule). P r.head) rs

heads_of_goal : (g : ℕ) (cs : List Clause) → HeadsAre (λ h. h ≡ g) (rules_of_goal g cs)
heads_of_goal g [] = end
heads_of_goal g (c ∷ cs) = more refl (heads_of_goal g cs)

heads_from : (g : ℕ) (hs : List Goal) → HeadsAre (λ h. g ≤ h) (rules_from g hs)
heads_from g [] = end
heads_from g (h ∷ hs) =
    all_append (all_map (λ r e. omega arith) (heads_of_goal g h.clauses)) (all_map (λ r e. omega arith) (heads_from (suc g) hs))

pub heads_least : {n least : ℕ} {rs : List Rule} → Ordered n least rs → HeadsAre (λ h. least ≤ h) rs
heads_least no_rule = end
heads_least (and_rule le lt o) = more le (all_map (λ r e. omega arith) (heads_least o))

-- Clauses for a goal.

-- none by the rules of others
clauses_skip : (g : ℕ) (rs after : List Rule) → HeadsAre (λ h. h ≡ g → ⊥) rs → clauses_for g (rs ++ after) ≡ clauses_for g after
clauses_skip g [] after x = refl
clauses_skip g (r ∷ rs) after (more p x) =
    ap (λ (b : Bool). elim b [ true ↦ clause_of r ∷ clauses_for g (rs ++ after) | false ↦ clauses_for g (rs ++ after) ])
    (ne_eqb r.head g p)
    ∙ clauses_skip g rs after x

pub clauses_none : (g : ℕ) (rs : List Rule) → HeadsAre (λ h. h ≡ g → ⊥) rs → clauses_for g rs ≡ []
clauses_none g rs x = ap (clauses_for g) (sym (append-nil rs)) ∙ clauses_skip g rs [] x

pub goals_skip : (g n : ℕ) (rs after : List Rule) → HeadsAre (λ h. h < g) rs → goals_for g n (rs ++ after) ≡ goals_for g n after
goals_skip g zero rs after x = refl
goals_skip g (suc n) rs after x =
    ap₂ (λ (cs : List Clause) (hs : Book). record { coinductive = false; floundered = false; clauses = cs } ∷ hs)
    (clauses_skip g rs after (all_map (λ r e f. omega arith) x))
    (goals_skip (suc g) n rs after (all_map (λ r e. omega arith) x))

pub goals_for_length : (g n : ℕ) (rs : List Rule) → length (goals_for g n rs) ≡ n
goals_for_length g zero rs = refl
goals_for_length g (suc n) rs = ap suc (goals_for_length (suc g) n rs)

-- From a book to its rules and back.

clause_back : (c : Clause) → PlainClause c → clause_of (record { head = 0; body = c.literals }) ≡ c
clause_back c p = rw (p.as_a_whole, p.provable, p.small) refl

clauses_back : (g : ℕ) (cs : List Clause) (after : List Rule) → Each PlainClause cs
    → clauses_for g (rules_of_goal g cs ++ after) ≡ cs ++ clauses_for g after
clauses_back g [] after p = refl
clauses_back g (c ∷ cs) after p =
    ap (λ (b : Bool). elim b [
      | true ↦ clause_of (record { head = g; body = c.literals }) ∷ clauses_for g (rules_of_goal g cs ++ after)
      | false ↦ clauses_for g (rules_of_goal g cs ++ after)
    ]) (eq-eqb g g refl)
    ∙ ap₂ (λ (d : Clause) (ds : List Clause). d ∷ ds) (clause_back c p.0) (clauses_back g cs after p.1)

goal_back : (h : Goal) → PlainGoal h → record { coinductive = false; floundered = false; clauses = h.clauses } ≡ h
goal_back h p = rw (p.inductive, p.unfloundered) refl

goals_back : (g : ℕ) (hs : List Goal) (before : List Rule) → Each PlainGoal hs → HeadsAre (λ h. h < g) before
    → goals_for g (length hs) (before ++ rules_from g hs) ≡ hs
goals_back g [] before p x = refl
goals_back g (h ∷ hs) before p x =
    let own = rules_of_goal g h.clauses in
    let after = rules_from (suc g) hs in
    let mine : clauses_for g (before ++ (own ++ after)) ≡ h.clauses
    = clauses_skip g before (own ++ after) (all_map (λ r e f. omega arith) x)
    ∙ clauses_back g h.clauses after p.0.clauses_plain
    ∙ ap (λ (cs : List Clause). h.clauses ++ cs) (clauses_none g after (all_map (λ r e f. omega arith) (heads_from (suc g) hs)))
    ∙ append-nil h.clauses in
    let rest : goals_for (suc g) (length hs) (before ++ (own ++ after)) ≡ hs
    = ap (goals_for (suc g) (length hs)) (sym (append_assoc before own after))
    ∙ goals_back (suc g) hs (before ++ own) p.1
    (all_append (all_map (λ r e. omega arith) x) (all_map (λ r e. omega arith) (heads_of_goal g h.clauses))) in
    ap₂ (λ (cs : List Clause) (ks : Book). record { coinductive = false; floundered = false; clauses = cs } ∷ ks) mine rest
    ∙ ap (λ (k : Goal). k ∷ hs) (goal_back h p.0)

pub book_back : (book : Book) → Plain book → goals_for 0 (length book) (rules_from 0 book) ≡ book
book_back book p = goals_back 0 book [] p end

-- its rules are in order

ordered_goal : {n least : ℕ} (g : ℕ) (cs : List Clause) {after : List Rule} → least ≤ g → g < n
    → ((k : ℕ) → k ≤ g → Ordered n k after) → Ordered n least (rules_of_goal g cs ++ after)
ordered_goal {least = k} g [] le lt o = o k le
ordered_goal {least = k} g (c ∷ cs) le lt o =
    and_rule {least = k} {r = record { head = g; body = c.literals }} le lt (ordered_goal g cs (omega arith) lt o)

ordered_from : {n least : ℕ} (g : ℕ) (hs : List Goal) → least ≤ g → g + length hs ≤ n → Ordered n least (rules_from g hs)
ordered_from g [] le few = no_rule
ordered_from g (h ∷ hs) le few = ordered_goal g h.clauses le (omega arith) (λ k w. ordered_from (suc g) hs (omega arith) (omega arith))

pub book_ordered : (book : Book) → Ordered (length book) 0 (rules_from 0 book)
book_ordered book = ordered_from 0 book (omega arith) (omega arith)

-- From rules in order to their book and back.

-- those for the least goal stand in front
pub record Parted (n g : ℕ) (rs : List Rule) : Type 0 where
  pub own : List Rule
  pub after : List Rule
  pub whole : own ++ after ≡ rs
  pub for_it : HeadsAre (λ h. h ≡ g) own
  pub in_order : Ordered n (suc g) after

pub parted : (n g : ℕ) (rs : List Rule) → Ordered n g rs → Parted n g rs
parted n g [] o = record { own = []; after = []; whole = refl; for_it = end; in_order = no_rule }
parted n g (r ∷ rs) (and_rule le lt o) = on (parted n g rs) (eqb r.head g) refl
  where
    on : (Ordered n g rs → Parted n g rs) → (b : Bool) → eqb r.head g ≡ b → Parted n g (r ∷ rs)
    on h true e =
        let same : r.head ≡ g = eqb-true r.head g e in
        let p = h (subst (λ (k : ℕ). Ordered n k rs) same o) in
        record {
          own = r ∷ p.own;
          after = p.after;
          whole = ap (λ (qs : List Rule). r ∷ qs) p.whole;
          for_it = more same p.for_it;
          in_order = p.in_order;
        }
    on h false e =
        let other = eqb-false r.head g e in
        record {
          own = [];
          after = r ∷ rs;
          whole = refl;
          for_it = end;
          in_order = and_rule {least = suc g} {r = r} (omega arith) lt o;
        }

own_back : (g : ℕ) (own after : List Rule) → HeadsAre (λ h. h ≡ g) own → HeadsAre (λ h. h ≡ g → ⊥) after
    → rules_of_goal g (clauses_for g (own ++ after)) ≡ own
own_back g [] after x y = ap (rules_of_goal g) (clauses_none g after y)
own_back g (r ∷ own) after (more e x) y =
    ap (λ (b : Bool). rules_of_goal g (elim b [
      | true ↦ clause_of r ∷ clauses_for g (own ++ after)
      | false ↦ clauses_for g (own ++ after)
    ])) (eq-eqb r.head g e)
    ∙ ap₂ (λ (h : ℕ) (qs : List Rule). record { head = h; body = r.body } ∷ qs) (sym e) (own_back g own after x y)

no_room : {n : ℕ} {rs : List Rule} → Ordered n n rs → [] ≡ rs
no_room no_rule = refl
no_room (and_rule le lt o) = absurd (omega arith)

rules_back_from : (k n g : ℕ) (rs : List Rule) → g + k ≡ n → Ordered n g rs → rules_from g (goals_for g k rs) ≡ rs
rules_back_from zero n g rs e o = let z : g ≡ n = omega arith in no_room (subst (λ (x : ℕ). Ordered n x rs) z o)
rules_back_from (suc k) n g rs e o =
    let p = parted n g rs o in
    let later = heads_least p.in_order in
    subst (λ (qs : List Rule). rules_from g (goals_for g (suc k) qs) ≡ qs) p.whole
    (ap₂ (λ (a b : List Rule). a ++ b)
    (own_back g p.own p.after p.for_it (all_map (λ r u f. omega arith) later))
    (ap (rules_from (suc g)) (goals_skip (suc g) k p.own p.after (all_map (λ r u. omega arith) p.for_it))
    ∙ rules_back_from k n (suc g) p.after (omega arith) p.in_order))

pub rules_back : (n : ℕ) (rs : List Rule) → Ordered n 0 rs → rules_from 0 (goals_for 0 n rs) ≡ rs
rules_back n rs o = rules_back_from n n 0 rs (omega arith) o

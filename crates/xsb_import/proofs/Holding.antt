-- The bytes hold the rules that were begun, or a limit is passed.
use Rattle.std.specs.Prelude.{Some, None}
use Rattle.std.specs.declared.option.Option as found
use Prim.Native.Nat.{ℕ, zero, suc, ◌-◌, ◌*◌, ◌≤◌, ◌<◌}
use native.Mathlib.Omega.{arith}
use mathlib.Core.Path.{◌≡◌, refl, sym, ap, subst, ◌∙◌}
use mathlib.Core.Bool.{Bool, true, false, ◌||◌, or-false}
use mathlib.Core.List.{List, [], ◌∷◌, ◌++◌, map, append-nil, append_assoc}
use lib.ListN.{length, length-append}
use borrow.Author.Tests.{lt-ltb, ltb-true}
use Rattle.definitions.specs.Lists.{push, any_passes}
use Rattle.definitions.specs.Book.{any, Literal, Positive, Negative, write_literal, write_literals}
use Rattle.papers.specs.Xsb.{Rule, is_long}
use Rattle.xsb_import.specs.declared.Ended.{Ended}
use Rattle.xsb_import.specs.declared.Ended.TheVariants as ended
use Rattle.xsb_import.specs.declared.Kept.{Kept}
use Rattle.xsb_import.specs.Keeping.{capped_literal, capped_rule, goal_bytes, rule_bytes, flat, goals_after, last_length, TooMuch}
use Rattle.xsb_import.specs.Keeping.{goals, clauses, literals, Whole, Begins, Adds, Happens, KeepsOn, Begun}

-- Lists with one more at their end.

module _ {A B : Type 0} where
  pub map_push : (f : A → B) (l : List A) (a : A) → map f (push l a) ≡ push (map f l) (f a)
  map_push f [] a = refl
  map_push f (b ∷ l) a = ap (λ (t : List B). f b ∷ t) (map_push f l a)

module _ {A : Type 0} (test : A → Bool) where
  pub any_push : (l : List A) (a : A) → any_passes test (push l a) ≡ any_passes test l || test a
  any_push [] a = or-false (test a)
  any_push (b ∷ l) a = on (test b) (any_push l a)
    where
      on : (c : Bool) → any_passes test (push l a) ≡ any_passes test l || test a
          → c || any_passes test (push l a) ≡ (c || any_passes test l) || test a
      on true e = refl
      on false e = e

or_first : (a b : Bool) → a ≡ true → a || b ≡ true
or_first a b e = ap (λ (c : Bool). c || b) e

pub or_second : (a b : Bool) → b ≡ true → a || b ≡ true
or_second true b e = refl
or_second false b e = e

pub length_push : {A : Type 0} (l : List A) (a : A) → length (push l a) ≡ suc (length l)
length_push l a = omega (arith, length-append l (a ∷ []))

pub last_length_push : (rs : List Rule) (r : Rule) → last_length (push rs r) ≡ length r.body
last_length_push [] r = refl
last_length_push (q ∷ []) r = refl
last_length_push (q ∷ p ∷ rs) r = last_length_push (p ∷ rs) r

-- The bytes of rules.

pub goals_after_capped : (g : ℕ) (rs : List Rule) → goals_after g (map capped_rule rs) ≡ goals_after g rs
goals_after_capped g [] = refl
goals_after_capped g (r ∷ rs) = goals_after_capped (suc r.head) rs

flat_push : (g : ℕ) (rs : List Rule) (r : Rule)
    → flat g (push rs r) ≡ flat g rs ++ (goal_bytes (suc r.head - goals_after g rs) ++ rule_bytes r.body)
flat_push g [] r = ap (λ (t : List ℕ). goal_bytes (suc r.head - g) ++ t) (append-nil (rule_bytes r.body))
flat_push g (q ∷ rs) r =
    let x = goal_bytes (suc r.head - goals_after (suc q.head) rs) ++ rule_bytes r.body in
    ap (λ (t : List ℕ). goal_bytes (suc q.head - g) ++ (rule_bytes q.body ++ t)) (flat_push (suc q.head) rs r)
    ∙ ap (λ (t : List ℕ). goal_bytes (suc q.head - g) ++ t) (sym (append_assoc (rule_bytes q.body) (flat (suc q.head) rs) x))
    ∙ sym (append_assoc (goal_bytes (suc q.head - g)) (rule_bytes q.body ++ flat (suc q.head) rs) x)

pub literals_push : (ls : List Literal) (l : Literal) → write_literals (push ls l) ≡ write_literals ls ++ write_literal l
literals_push [] l = append-nil (write_literal l)
literals_push (m ∷ ls) l =
    ap (λ (t : List ℕ). write_literal m ++ t) (literals_push ls l)
    ∙ sym (append_assoc (write_literal m) (write_literals ls) (write_literal l))

pub length_goal_bytes : (n : ℕ) → length (goal_bytes n) ≡ 2 * n
length_goal_bytes zero = refl
length_goal_bytes (suc n) = let e = length_goal_bytes n in omega arith

-- of the capped rules
pub held_push : (rs : List Rule) (r : Rule) → flat 0 (map capped_rule (push rs r))
    ≡ flat 0 (map capped_rule rs) ++ (goal_bytes (suc r.head - goals_after 0 rs) ++ rule_bytes (map capped_literal r.body))
held_push rs r =
    ap (flat 0) (map_push capped_rule rs r) ∙ flat_push 0 (map capped_rule rs) (capped_rule r)
    ∙ ap (λ (g : ℕ). flat 0 (map capped_rule rs) ++ (goal_bytes (suc r.head - g) ++ rule_bytes (map capped_literal r.body)))
    (goals_after_capped 0 rs)

-- Limits that are passed stay so.

more_long : (r : Rule) (l : Literal) → is_long r ≡ true → is_long (record { head = r.head; body = push r.body l }) ≡ true
more_long r l e =
    let h = ltb-true 8 (length r.body) e in
    let k = length_push r.body l in
    lt-ltb 8 (length (push r.body l)) (omega arith)

stays_same : (n m : ℕ) (rs after : List Rule) → (64 < n → 64 < m) → after ≡ rs → TooMuch n rs → TooMuch m after
stays_same n m rs after k e (goals h) = goals (k h)
stays_same n m rs after k e (clauses h) = clauses (omega (arith, ap length e))
stays_same n m rs after k e (literals h) = literals (ap (any_passes is_long) e ∙ h)

stays_begun : (goal n m : ℕ) (rs after : List Rule) → (64 < n → 64 < m) → Begins goal m rs after → TooMuch n rs → TooMuch m after
stays_begun goal n m rs after k b (goals h) = goals (k h)
stays_begun goal n m rs after k b (clauses h) =
    clauses (omega (arith, ap length b.begun, length_push rs (record { head = goal; body = [] })))
stays_begun goal n m rs after k b (literals h) =
    literals (ap (any_passes is_long) b.begun ∙ any_push is_long rs (record { head = goal; body = [] })
    ∙ or_first (any_passes is_long rs) (is_long (record { head = goal; body = [] })) h)

long_grown : (before : List Rule) (r q : Rule) → (is_long r ≡ true → is_long q ≡ true) → any_passes is_long (push before r) ≡ true
    → any_passes is_long (push before q) ≡ true
long_grown before r q f e =
    any_push is_long before q ∙ on (any_passes is_long before) (is_long r) (is_long q) f (sym (any_push is_long before r) ∙ e)
  where
    on : (a b c : Bool) → (b ≡ true → c ≡ true) → a || b ≡ true → a || c ≡ true
    on true b c f e = refl
    on false b c f e = f e

stays_added : (l : Literal) (n m : ℕ) (rs after : List Rule) → (64 < n → 64 < m) → Adds l rs after → TooMuch n rs → TooMuch m after
stays_added l n m rs after k a (goals h) = goals (k h)
stays_added l n m rs after k a (clauses h) =
    let r = length_push a.before a.rule in
    let q = length_push a.before (record { head = a.rule.head; body = push a.rule.body l }) in
    clauses (omega (arith, ap length a.was, ap length a.grown))
stays_added l n m rs after k a (literals h) =
    literals (ap (any_passes is_long) a.grown
    ∙ long_grown a.before a.rule (record { head = a.rule.head; body = push a.rule.body l }) (more_long a.rule l)
    (sym (ap (any_passes is_long) a.was) ∙ h))

stays : (e : found.Option Ended) (n m : ℕ) (rs after : List Rule) → (64 < n → 64 < m) → Happens e m rs after → TooMuch n rs
    → TooMuch m after
stays None n m rs after k h t = stays_same n m rs after k h t
stays (Some (ended.Head v)) n m rs after k h t = stays_begun v n m rs after k h t
stays (Some (ended.Positive v)) n m rs after k h t = stays_added (Positive v any false) n m rs after k h t
stays (Some (ended.Negative v)) n m rs after k h t = stays_added (Negative v false) n m rs after k h t

-- What is kept.

pub keeps_none : (k : Kept) (bytes : List ℕ) → KeepsOn None (Some k) bytes (Some k) bytes
keeps_none k bytes n m rs after g same x = record {
  room = x.room;
  within = subst (λ (qs : List Rule). Whole qs k bytes) (sym same) x.within;
}

pub keeps_over : (e : found.Option Ended) (bytes : List ℕ) → KeepsOn e None bytes None bytes
keeps_over e bytes n m rs after g h x = record { room = x.room; within = stays e n m rs after g h x.within }

-- a limit is passed now
pub begin_clauses : (k : Kept) (bytes : List ℕ) (goal : ℕ) → 256 ≤ k.clauses → Begun goal k bytes None bytes
begin_clauses k bytes goal h n m rs after g b x = record {
  room = x.room;
  within = clauses (omega (
    arith,
    h,
    x.within.clauses_are,
    ap length b.begun,
    length_push rs (record { head = goal; body = [] }),
  ));
}

pub begin_goals : (k : Kept) (bytes : List ℕ) (goal : ℕ) → 64 ≤ goal → Begun goal k bytes None bytes
begin_goals k bytes goal h n m rs after g b x = record { room = x.room; within = goals (omega (arith, h, b.has_table)) }

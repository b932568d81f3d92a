-- A rule that is begun, and a literal that is added, are written behind the bytes so far.
use Rattle.std.specs.Prelude.{Some, None}
use Rattle.std.specs.declared.option.Option as found
use Prim.Native.Nat.{ℕ, suc, ◌+◌, ◌-◌, ◌*◌, ◌/◌, ◌%◌, ◌≤◌, ◌<◌}
use native.Mathlib.Omega.{arith}
use mathlib.Core.Path.{◌≡◌, sym, ap, subst, ◌∙◌}
use mathlib.Core.Bool.{Bool, true, false, ◌||◌}
use mathlib.Core.List.{List, [], ◌∷◌, ◌++◌, map, append_assoc}
use lib.ListN.{length, take}
use borrow.Author.Tests.{lt-ltb, le-ltb}
use Rattle.laws.proofs.Bools.{both_false}
use Rattle.definitions.specs.Lists.{push, any_passes}
use Rattle.definitions.specs.Book.{any, Literal, Positive, Negative, write_literal}
use Rattle.papers.specs.Xsb.{Rule, is_long}
use Rattle.xsb_import.specs.declared.Ended.{Ended}
use Rattle.xsb_import.specs.declared.Ended.TheVariants as ended
use Rattle.xsb_import.specs.declared.Kept.{Kept}
use Rattle.xsb_import.specs.Keeping.{capped_to, capped_literal, capped_rule, goal_bytes, rule_bytes, flat, goals_after, last_length}
use Rattle.xsb_import.specs.Keeping.{literals, Whole, Keeps, Happens, Writes, KeepsOn, Begun, Added}
use Rattle.xsb_import.proofs.Begun.{goals_after_push}
use Rattle.xsb_import.proofs.Filling.{positive_bytes, negative_bytes}
use Rattle.xsb_import.proofs.Holding.{map_push, any_push, or_second, length_push, last_length_push, literals_push, length_goal_bytes}
use Rattle.xsb_import.proofs.Holding.{held_push}

abbrev bare : ℕ → Rule
bare g = record { head = g; body = [] }

-- A rule.

-- the room that it takes is there
begin_room : (k : Kept) (a : List ℕ) (rs : List Rule) (goal : ℕ) → length a ≡ 13441 → Whole rs k a → k.clauses < 256 → goal < 64
    → k.used + 2 * ((goal + 1) - k.goals) + 4 ≤ length a
begin_room k a rs goal room w few lt =
    let i = w.inside in
    let g = w.few_goals in
    let c = w.few_literals in
    omega arith

pub begin_keeps : (k r : Kept) (a b c : List ℕ) (goal u v : ℕ) → k.clauses < 256 → goal < 64
    → Writes a k.used (goal_bytes ((goal + 1) - k.goals)) b u → Writes b u (0x43 ∷ 0 ∷ 0 ∷ 0 ∷ []) c v
    → r ≡ record { goals = goal + 1; clauses = k.clauses + 1; literals = 0; used = v } → Begun goal k a (Some r) c
begin_keeps k r a b c goal u v few lt f g e n m rs after more h x =
    let w = x.within in
    let room = begin_room k a rs goal x.room w few lt in
    let size = length_goal_bytes ((goal + 1) - k.goals) in
    let fits : k.used + length (goal_bytes ((goal + 1) - k.goals)) ≤ length a = omega arith in
    let u-is = f.ends fits in
    let same = f.same in
    let fits-too : u + 4 ≤ length b = omega arith in
    let v-is = g.ends fits-too in
    let s : suc goal - goals_after 0 rs ≡ (goal + 1) - k.goals = omega (arith, w.goals_are) in
    let bytes : take v c ≡ flat 0 (map capped_rule after)
    = g.written fits-too ∙ ap (λ (t : List ℕ). t ++ (0x43 ∷ 0 ∷ 0 ∷ 0 ∷ [])) (f.written fits)
    ∙ append_assoc (take k.used a) (goal_bytes ((goal + 1) - k.goals)) (0x43 ∷ 0 ∷ 0 ∷ 0 ∷ [])
    ∙ ap (λ (t : List ℕ). t ++ (goal_bytes ((goal + 1) - k.goals) ++ (0x43 ∷ 0 ∷ 0 ∷ 0 ∷ []))) w.held
    ∙ ap (λ (j : ℕ). flat 0 (map capped_rule rs) ++ (goal_bytes j ++ (0x43 ∷ 0 ∷ 0 ∷ 0 ∷ []))) (sym s)
    ∙ sym (ap (λ (qs : List Rule). flat 0 (map capped_rule qs)) h.begun ∙ held_push rs (bare goal)) in
    let long : any_passes is_long after ≡ false
    = ap (any_passes is_long) h.begun ∙ any_push is_long rs (bare goal) ∙ ap (λ (z : Bool). z || is_long (bare goal)) w.short in
    let count : length after ≡ suc (length rs) = ap length h.begun ∙ length_push rs (bare goal) in
    let counted : length rs ≡ k.clauses = sym w.clauses_are in
    let reach : goals_after 0 after ≡ suc goal = ap (goals_after 0) h.begun ∙ goals_after_push 0 rs (bare goal) in
    let last : last_length after ≡ 0 = ap last_length h.begun ∙ last_length_push rs (bare goal) in
    let order : k.goals ≤ suc goal = omega (arith, w.goals_are, h.in_order) in
    let i = w.inside in
    let l = w.few_literals in
    subst (λ (q : Kept). Keeps m after (Some q) c) (sym e) (record {
      room = g.same ∙ same ∙ x.room;
      within = record {
        held = bytes;
        goals_are = omega arith;
        clauses_are = omega arith;
        literals_are = sym last;
        few_goals = omega arith;
        few_clauses = omega arith;
        few_literals = omega arith;
        inside = omega arith;
        short = long;
      };
    })

-- A literal.

pub add_over : (bytes : List ℕ) (k : Kept) (a : List ℕ) → 8 ≤ k.literals → Added bytes k a None a
add_over bytes k a h l n m rs after is more d x =
    let w = x.within in
    let q : Rule = record { head = d.rule.head; body = push d.rule.body l } in
    let last : last_length rs ≡ length d.rule.body = ap last_length d.was ∙ last_length_push d.before d.rule in
    let long : is_long q ≡ true = lt-ltb 8 (length (push d.rule.body l))
    (omega (arith, h, last, w.literals_are, length_push d.rule.body l)) in
    record {
      room = x.room;
      within = literals (ap (any_passes is_long) d.grown ∙ any_push is_long d.before q
          ∙ or_second (any_passes is_long d.before) (is_long q) long);
    }

pub add_keeps : (bytes : List ℕ) (k r : Kept) (a c : List ℕ) (v : ℕ) → length bytes ≤ 6 → k.literals < 8
    → Writes a k.used bytes c v → r ≡ record { goals = k.goals; clauses = k.clauses; literals = k.literals + 1; used = v }
    → Added bytes k a (Some r) c
add_keeps bytes k r a c v small few f e l n m rs after is more d x =
    let w = x.within in
    let i = w.inside in
    let q : Rule = record { head = d.rule.head; body = push d.rule.body l } in
    let x-room = x.room in
    let g-few = w.few_goals in
    let c-few = w.few_clauses in
    let fits : k.used + length bytes ≤ length a = omega arith in
    let v-is = f.ends fits in
    let front = flat 0 (map capped_rule d.before) in
    let goal = goal_bytes (suc d.rule.head - goals_after 0 d.before) in
    let body = rule_bytes (map capped_literal d.rule.body) in
    let one = write_literal (capped_literal l) in
    let longer : rule_bytes (map capped_literal q.body) ≡ body ++ one
    = ap (λ (ls : List Literal). rule_bytes ls) (map_push capped_literal d.rule.body l)
    ∙ ap (λ (t : List ℕ). 0x43 ∷ 0 ∷ 0 ∷ 0 ∷ t) (literals_push (map capped_literal d.rule.body) (capped_literal l)) in
    let held : take v c ≡ flat 0 (map capped_rule after)
    = f.written fits ∙ ap (λ (t : List ℕ). take k.used a ++ t) is
    ∙ ap (λ (t : List ℕ). t ++ one) (w.held ∙ ap (λ (qs : List Rule). flat 0 (map capped_rule qs)) d.was
    ∙ held_push d.before d.rule)
    ∙ append_assoc front (goal ++ body) one
    ∙ ap (λ (t : List ℕ). front ++ t) (append_assoc goal body one)
    ∙ ap (λ (t : List ℕ). front ++ (goal ++ t)) (sym longer)
    ∙ sym (ap (λ (qs : List Rule). flat 0 (map capped_rule qs)) d.grown ∙ held_push d.before q) in
    let last : last_length rs ≡ length d.rule.body = ap last_length d.was ∙ last_length_push d.before d.rule in
    let last-now : last_length after ≡ length (push d.rule.body l) = ap last_length d.grown ∙ last_length_push d.before q in
    let plus = length_push d.rule.body l in
    let shorter : (any_passes is_long d.before ≡ false) × (is_long d.rule ≡ false)
    = both_false (any_passes is_long d.before) (is_long d.rule)
    (sym (any_push is_long d.before d.rule) ∙ sym (ap (any_passes is_long) d.was) ∙ w.short) in
    let l-are = w.literals_are in
    let short-now : is_long q ≡ false = le-ltb 8 (length (push d.rule.body l)) (omega arith) in
    let long : any_passes is_long after ≡ false
    = ap (any_passes is_long) d.grown ∙ any_push is_long d.before q
    ∙ ap (λ (z : Bool). z || is_long q) shorter.0 ∙ short-now in
    let reach : goals_after 0 after ≡ goals_after 0 rs
    = ap (goals_after 0) d.grown ∙ goals_after_push 0 d.before q
    ∙ sym (ap (goals_after 0) d.was ∙ goals_after_push 0 d.before d.rule) in
    let count : length after ≡ length rs
    = ap length d.grown ∙ length_push d.before q ∙ sym (ap length d.was ∙ length_push d.before d.rule) in
    subst (λ (z : Kept). Keeps m after (Some z) c) (sym e) (record {
      room = f.same ∙ x.room;
      within = record {
        held = held;
        goals_are = w.goals_are ∙ sym reach;
        clauses_are = w.clauses_are ∙ sym count;
        literals_are = omega arith;
        few_goals = w.few_goals;
        few_clauses = w.few_clauses;
        few_literals = omega arith;
        inside = omega arith;
        short = long;
      };
    })

-- What is kept, by what a byte ended.

module _ (e : Ended) (k : Kept) (bytes : List ℕ) (r : found.Option Kept) (out : List ℕ) where
  pub head_kept : (v : ℕ) → e ≡ ended.Head v → Begun v k bytes r out → KeepsOn (Some e) (Some k) bytes r out
  head_kept v is x n m rs after more h y = x n m rs after more (subst (λ (z : Ended). Happens (Some z) m rs after) is h) y

  pub positive_kept : (v g : ℕ) → e ≡ ended.Positive v → g ≡ capped_to v
      → Added (0x50 ∷ g % 256 ∷ g / 256 ∷ 0 ∷ 0 ∷ 0 ∷ []) k bytes r out → KeepsOn (Some e) (Some k) bytes r out
  positive_kept v g is c x n m rs after more h y =
      x (Positive v any false) n m rs after (positive_bytes v g c) more (subst (λ (z : Ended). Happens (Some z) m rs after) is h) y

  pub negative_kept : (v g : ℕ) → e ≡ ended.Negative v → g ≡ capped_to v
      → Added (0x4E ∷ g % 256 ∷ g / 256 ∷ 0 ∷ []) k bytes r out → KeepsOn (Some e) (Some k) bytes r out
  negative_kept v g is c x n m rs after more h y =
      x (Negative v false) n m rs after (negative_bytes v g c) more (subst (λ (z : Ended). Happens (Some z) m rs after) is h) y

-- of whatever is kept
pub some_kept : (e : found.Option Ended) (kept : found.Option Kept) (x : Ended) (k : Kept) (bytes : List ℕ) (r : found.Option Kept)
    (out : List ℕ) → e ≡ Some x → kept ≡ Some k → KeepsOn (Some x) (Some k) bytes r out → KeepsOn e kept bytes r out
some_kept e kept x k bytes r out is at h =
    subst (λ (z : found.Option Kept). KeepsOn e z bytes r out) (sym at)
    (subst (λ (z : found.Option Ended). KeepsOn z (Some k) bytes r out) (sym is) h)

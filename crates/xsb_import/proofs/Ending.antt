-- What the byte behind a head or a literal does.
use Rattle.std.specs.Prelude.{Some, None}
use Rattle.std.specs.declared.option.Option as found
use Prim.Native.Nat.{ℕ, ◌≤◌, ◌<◌}
use native.Mathlib.Omega.{arith}
use mathlib.Core.Path.{◌≡◌, refl, sym, ap, subst, ◌∙◌}
use mathlib.Core.Bool.{Bool, true, false, ◌&&◌}
use mathlib.Core.Option.{none, some}
use mathlib.Core.List.{List, []}
use lib.Dec.{eqb, ltb, leb}
use borrow.Author.Tests.{eq-eqb, ne_eqb, lt-ltb, le-ltb, le-leb, lt-leb}
use Rattle.definitions.specs.Text.{ascii}
use Rattle.definitions.specs.Lists.{push, is_empty}
use Rattle.definitions.specs.Book as book
use Rattle.definitions.specs.Book.{any}
use Rattle.papers.specs.Xsb.{Rule, head, number, literal, behind, comes, State, at, if_so}
use Rattle.papers.specs.Xsb.{with_head, with_literal, rule_read, head_fits, behind_literal, behind_head, ends, step_at}
use Rattle.definitions.proofs.Lists.{is_empty_push}
use Rattle.xsb_import.specs.declared.What.TheVariants.{Head, Positive, Negative}
use Rattle.xsb_import.specs.declared.Place.{Place}
use Rattle.xsb_import.specs.declared.Place.TheVariants.{Fixed, Number, Behind}
use Rattle.xsb_import.specs.declared.Ended.{Ended}
use Rattle.xsb_import.specs.declared.Ended.TheVariants as ended
use Rattle.xsb_import.specs.declared.Spot.{Spot}
use Rattle.xsb_import.specs.Places.{place_seen, Known}
use Rattle.xsb_import.specs.Keeping.{goals_after, Adds}
use Rattle.xsb_import.specs.Reading.{in_rule, begun_by, begun_rules, Follows, Goes, After, Steps, moved, headed, behind_spot, NoDigit}
use Rattle.xsb_import.proofs.Begun.{goals_after_push, begun_here, neither, by_place, breaks}
use Rattle.xsb_import.proofs.Numbering.{behind_as}

-- Heads.

abbrev pub AtHead : Spot → (v b : ℕ) → Type 0
AtHead s v b = (s.place ≡ Number Head (Some v)) × NoDigit b

unfitting : (st : State) (v b : ℕ) → head_fits st v ≡ false → ends st head v b ≡ none
unfitting st v b e = ap (λ (c : Bool). elim c [ true ↦ behind_head (with_head st v) b | false ↦ none ]) e

fitting : (st : State) (v b : ℕ) → head_fits st v ≡ true → ends st head v b ≡ behind_head (with_head st v) b
fitting st v b e = ap (λ (c : Bool). elim c [ true ↦ behind_head (with_head st v) b | false ↦ none ]) e

and_none : (c : Bool) → c && false ≡ false
and_none true = refl
and_none false = refl

pub head_past : (s : Spot) (v b : ℕ) → AtHead s v b → s.tables ≤ v → Steps s b None
head_past s v b h p =
    breaks s b (Number Head (Some v)) h.0 (λ st f. behind_as Head (Some v) b h.1 st ∙ unfitting st v b
    (ap (λ (c : Bool). c && leb st.rule.head v) (le-ltb v st.tables (omega (arith, p, f.tables_are)))))

pub head_below : (s : Spot) (v b : ℕ) → AtHead s v b → v < s.head → Steps s b None
head_below s v b h p =
    breaks s b (Number Head (Some v)) h.0 (λ st f. behind_as Head (Some v) b h.1 st ∙ unfitting st v b
    (ap (λ (c : Bool). ltb v st.tables && c) (lt-leb st.rule.head v (omega (arith, p, f.head_is)))
    ∙ and_none (ltb v st.tables)))

head_as : (st : State) (s : Spot) (v b : ℕ) → NoDigit b → Follows st s → v < s.tables → s.head ≤ v
    → step_at st (place_seen (Number Head (Some v))) b ≡ behind_head (with_head st v) b
head_as st s v b other f p q =
    behind_as Head (Some v) b other st
    ∙ fitting st v b (ap (λ (c : Bool). c && leb st.rule.head v) (lt-ltb v st.tables (omega (arith, p, f.tables_are)))
    ∙ le-leb st.rule.head v (omega (arith, q, f.head_is)))

-- a rule that is begun so
abbrev bare : ℕ → Rule
bare g = record { head = g; body = [] }

headed_goes : (st t : State) (s : Spot) (v : ℕ) (p : Place) → Follows st s → st.place ≡ number head (some v) → v < s.tables
    → s.head ≤ v → Known p → place_seen p ≡ t.place → t.tables ≡ st.tables → t.rule ≡ bare v
    → begun_rules t ≡ push st.rules (bare v) → Goes st t (headed s v p)
headed_goes st t s v p f was lo le k e n r now = record {
  follows = record {
    place_is = e;
    known = k;
    tables_are = f.tables_are ∙ sym n;
    head_is = ap (λ (q : Rule). q.head) (sym r);
    none_begun = sym (ap is_empty now ∙ is_empty_push st.rules (bare v));
    in_order = omega (arith, ap (goals_after 0) now ∙ goals_after_push 0 st.rules (bare v), ap (λ (q : Rule). q.head) r);
  };
  more_tables = λ h. omega (arith, n);
  happens = record {
    has_table = omega (arith, lo, f.tables_are, n);
    in_order = omega (arith, le, f.head_is, f.in_order);
    begun = now ∙ ap (λ (rs : List Rule). push rs (bare v)) (sym (begun_here st (number head (some v)) was));
  };
}

pub head_fact : (s n : Spot) (v b : ℕ) → AtHead s v b → v < s.tables → s.head ≤ v → b ≡ 0x2E → n ≡ headed s v (Fixed 11)
    → Steps s b (Some n)
head_fact s n v b h p q e m st f =
    let was : st.place ≡ number head (some v) = sym f.place_is ∙ ap place_seen h.0 in
    by_place st s (Number Head (Some v)) (Some n) b (some (rule_read (with_head st v))) f h.0
    (head_as st s v b h.1 f p q ∙ ap (behind_head (with_head st v)) e)
    (subst (Goes st (rule_read (with_head st v))) (sym m)
    (headed_goes st (rule_read (with_head st v)) s v (Fixed 11) f was p q (omega arith) refl refl refl refl))

pub head_rule : (s n : Spot) (v b : ℕ) → AtHead s v b → v < s.tables → s.head ≤ v → b ≡ 0x20 → n ≡ headed s v (Fixed 12)
    → Steps s b (Some n)
head_rule s n v b h p q e m st f =
    let was : st.place ≡ number head (some v) = sym f.place_is ∙ ap place_seen h.0 in
    let t : State = at (with_head st v) (comes (ascii ":- ") literal) in
    by_place st s (Number Head (Some v)) (Some n) b (some t) f h.0
    (head_as st s v b h.1 f p q ∙ ap (behind_head (with_head st v)) e)
    (subst (Goes st t) (sym m) (headed_goes st t s v (Fixed 12) f was p q (omega arith) refl refl refl refl))

pub head_other : (s : Spot) (v b : ℕ) → AtHead s v b → v < s.tables → s.head ≤ v → (b ≡ 0x2E → ⊥) → (b ≡ 0x20 → ⊥) → Steps s b None
head_other s v b h p q x y =
    breaks s b (Number Head (Some v)) h.0 (λ st f. head_as st s v b h.1 f p q
    ∙ neither (eqb b 0x2E) (eqb b 0x20) (rule_read (with_head st v))
    (at (with_head st v) (comes (ascii ":- ") literal)) (ne_eqb b 0x2E x) (ne_eqb b 0x20 y))

-- Literals.

abbrev grown : Rule → book.Literal → Rule
grown r l = record { head = r.head; body = push r.body l }

begun_in : (st : State) (s : Spot) (from : Place) → Follows st s → s.place ≡ from → in_rule (place_seen from) ≡ true
    → begun_rules st ≡ push st.rules st.rule
begun_in st s from f e inside =
    begun_here st (place_seen from) (sym f.place_is ∙ ap place_seen e)
    ∙ ap (λ (c : Bool). begun_by c st.rules st.rule) inside

-- a state whose last rule is another one, with the same head
grown_follows : (st t : State) (s : Spot) (p : Place) (ended : found.Option Ended) → Follows st s → begun_rules st ≡ push st.rules st.rule
    → Known p → place_seen p ≡ t.place → t.tables ≡ st.tables → t.rule.head ≡ st.rule.head → begun_rules t ≡ push st.rules t.rule
    → Follows t (moved s p ended)
grown_follows st t s p ended f inside k e tables r now = record {
  place_is = e;
  known = k;
  tables_are = f.tables_are ∙ sym tables;
  head_is = f.head_is ∙ sym r;
  none_begun = f.none_begun ∙ ap is_empty inside ∙ is_empty_push st.rules st.rule
      ∙ sym (ap is_empty now ∙ is_empty_push st.rules t.rule);
  in_order = omega (arith, ap (goals_after 0) now ∙ goals_after_push 0 st.rules t.rule);
}

-- two tests of a byte, in the state and in the spot
by_tests : (st : State) (c d : Bool) (x y : State) (p q : Spot) → Goes st x p → Goes st y q
    → After st (elim c [ true ↦ some x | false ↦ if_so d y ])
    (elim c [ true ↦ Some p | false ↦ elim d [ true ↦ Some q | false ↦ None ] ])
by_tests st true d x y p q a b = a
by_tests st false true x y p q a b = b
by_tests st false false x y p q a b = tt

added : (st : State) (l : book.Literal) (after : List Rule) → begun_rules st ≡ push st.rules st.rule
    → after ≡ push st.rules (grown st.rule l) → Adds l (begun_rules st) after
added st l after inside now = record { before = st.rules; rule = st.rule; was = inside; grown = now }

pub positive_ends : (s : Spot) (v b : ℕ) (r : found.Option Spot) → (s.place ≡ Number Positive (Some v)) × NoDigit b
    → r ≡ behind_spot s b (Some (ended.Positive v)) → Steps s b r
positive_ends s v b r h m st f =
    let l : book.Literal = book.Positive v any false in
    let inside = begun_in st s (Number Positive (Some v)) f h.0 refl in
    let x : State = rule_read (with_literal st l) in
    let y : State = at (with_literal st l) (comes (ascii " ") literal) in
    let e = Some (ended.Positive v) in
    by_place st s (Number Positive (Some v)) r b (behind_literal (with_literal st l) b) f h.0 (behind_as Positive (Some v) b h.1 st)
    (subst (After st (behind_literal (with_literal st l) b)) (sym m)
    (by_tests st (eqb b 0x2E) (eqb b 0x2C) x y (moved s (Fixed 11) e) (moved s (Fixed 14) e)
    (record {
      follows = grown_follows st x s (Fixed 11) e f inside (omega arith) refl refl refl refl;
      more_tables = λ h. h;
      happens = added st l (begun_rules x) inside refl;
    })
    (record {
      follows = grown_follows st y s (Fixed 14) e f inside (omega arith) refl refl refl refl;
      more_tables = λ h. h;
      happens = added st l (begun_rules y) inside refl;
    })))

pub behind_ends : (s : Spot) (b : ℕ) (r : found.Option Spot) → s.place ≡ Behind → r ≡ behind_spot s b None → Steps s b r
behind_ends s b r z m st f =
    let inside = begun_in st s Behind f z refl in
    let y : State = at st (comes (ascii " ") literal) in
    by_place st s Behind r b (behind_literal st b) f z refl
    (subst (After st (behind_literal st b)) (sym m)
    (by_tests st (eqb b 0x2E) (eqb b 0x2C) (rule_read st) y (moved s (Fixed 11) None) (moved s (Fixed 14) None)
    (record {
      follows = grown_follows st (rule_read st) s (Fixed 11) None f inside (omega arith) refl refl refl refl;
      more_tables = λ h. h;
      happens = sym inside;
    })
    (record {
      follows = grown_follows st y s (Fixed 14) None f inside (omega arith) refl refl refl refl;
      more_tables = λ h. h;
      happens = sym inside;
    })))

abbrev pub AtNegative : Spot → (v b : ℕ) → Type 0
AtNegative s v b = (s.place ≡ Number Negative (Some v)) × NoDigit b

negative_as : (v b : ℕ) → NoDigit b → (c : Bool) → eqb b 0x29 ≡ c → (st : State)
    → step_at st (place_seen (Number Negative (Some v))) b ≡ if_so c (at (with_literal st (book.Negative v false)) behind)
negative_as v b other c e st =
    behind_as Negative (Some v) b other st
    ∙ ap (λ (x : Bool). if_so x (at (with_literal st (book.Negative v false)) behind)) e

pub negative_other : (s : Spot) (v b : ℕ) → AtNegative s v b → (b ≡ 0x29 → ⊥) → Steps s b None
negative_other s v b h o = breaks s b (Number Negative (Some v)) h.0 (λ st f. negative_as v b h.1 false (ne_eqb b 0x29 o) st)

pub negative_ends : (s n : Spot) (v b : ℕ) → AtNegative s v b → b ≡ 0x29 → n ≡ moved s Behind (Some (ended.Negative v)) → Steps s b (Some n)
negative_ends s n v b h e m st f =
    let l : book.Literal = book.Negative v false in
    let inside = begun_in st s (Number Negative (Some v)) f h.0 refl in
    let t : State = at (with_literal st l) behind in
    by_place st s (Number Negative (Some v)) (Some n) b (some t) f h.0 (negative_as v b h.1 true (eq-eqb b 0x29 e) st)
    (subst (Goes st t) (sym m) (record {
      follows = grown_follows st t s Behind (Some (ended.Negative v)) f inside tt refl refl refl refl;
      more_tables = λ h. h;
      happens = added st l (begun_rules t) inside refl;
    }))

-- What a byte does in a number, and behind one.
use Rattle.std.specs.Prelude.{Some, None}
use Rattle.std.specs.declared.option.Option as found
use Prim.Native.Nat.{ℕ, suc, ◌-◌, ◌≤◌, ◌<◌}
use native.Mathlib.Omega.{arith}
use mathlib.Core.Path.{◌≡◌, refl, sym, ap, subst, ◌∙◌}
use mathlib.Core.Bool.{Bool, true, false, ◌&&◌}
use mathlib.Core.Option.{Option, none, some}
use mathlib.Core.List.{List}
use lib.Dec.{eqb}
use borrow.Author.Tests.{eq-eqb, ne_eqb}
use Rattle.definitions.specs.Lists.{is_empty}
use Rattle.papers.specs.Xsb.{Rule, table, number, State, if_so, counted, table_read, is_digit, more_digits, with_digit}
use Rattle.papers.specs.Xsb.{ends_if, step_at}
use Rattle.xsb_import.specs.declared.What.{What}
use Rattle.xsb_import.specs.declared.What.TheVariants.{Table}
use Rattle.xsb_import.specs.declared.Place.TheVariants.{Fixed, Number}
use Rattle.xsb_import.specs.declared.Spot.{Spot}
use Rattle.xsb_import.specs.Places.{value_seen, what_seen, place_seen}
use Rattle.xsb_import.specs.Keeping.{goals_after}
use Rattle.xsb_import.specs.Reading.{begun_rules, Follows, Goes, Steps, moved, NoDigit}
use Rattle.xsb_import.proofs.Begun.{begun_here, by_place, moves, breaks}

-- Digits.

digit_as : (w : What) (value : found.Option ℕ) (b : ℕ) (o : Option ℕ) → is_digit b ≡ true → o ≡ more_digits (value_seen value) (b - 48)
    → (st : State) → step_at st (place_seen (Number w value)) b ≡ with_digit st (what_seen w) o
digit_as w value b o h e st =
    ap (λ (c : Bool). elim c [
      | true ↦ with_digit st (what_seen w) (more_digits (value_seen value) (b - 48))
      | false ↦ ends_if st (what_seen w) (value_seen value) b
    ]) h ∙ ap (with_digit st (what_seen w)) (sym e)

pub digit_more : (s n : Spot) (w : What) (value : found.Option ℕ) (b v : ℕ) → s.place ≡ Number w value → is_digit b ≡ true
    → value_seen (Some v) ≡ more_digits (value_seen value) (b - 48) → n ≡ moved s (Number w (Some v)) None → Steps s b (Some n)
digit_more s n w value b v e h m k =
    moves s n b (Number w value) (Number w (Some v)) e tt refl (λ st f. digit_as w value b (some v) h m st) k

pub digit_none : (s : Spot) (w : What) (value : found.Option ℕ) (b : ℕ) → s.place ≡ Number w value → is_digit b ≡ true
    → value_seen None ≡ more_digits (value_seen value) (b - 48) → Steps s b None
digit_none s w value b e h m = breaks s b (Number w value) e (λ st f. digit_as w value b none h m st)

-- The byte behind a number.

pub behind_as : (w : What) (value : found.Option ℕ) (b : ℕ) → NoDigit b → (st : State)
    → step_at st (place_seen (Number w value)) b ≡ ends_if st (what_seen w) (value_seen value) b
behind_as w value b h st =
    ap (λ (c : Bool). elim c [
      | true ↦ with_digit st (what_seen w) (more_digits (value_seen value) (b - 48))
      | false ↦ ends_if st (what_seen w) (value_seen value) b
    ]) h

pub no_number : (s : Spot) (w : What) (b : ℕ) → s.place ≡ Number w None → NoDigit b → Steps s b None
no_number s w b e h = breaks s b (Number w None) e (λ st f. behind_as w None b h st)

-- Tables.

abbrev pub AtTable : Spot → (v b : ℕ) → Type 0
AtTable s v b = (s.place ≡ Number Table (Some v)) × NoDigit b

table_if : (st : State) (s : Spot) (v b : ℕ) → NoDigit b → Follows st s → (c d : Bool) → eqb b 0x2F ≡ c → eqb v s.tables ≡ d
    → step_at st (place_seen (Number Table (Some v))) b ≡ if_so (c && d) (table_read st)
table_if st s v b other f c d e h =
    behind_as Table (Some v) b other st
    ∙ ap (λ (t : ℕ). if_so (eqb b 0x2F && eqb v t) (table_read st)) (sym f.tables_are)
    ∙ ap (λ (x : Bool). if_so (x && eqb v s.tables) (table_read st)) e
    ∙ ap (λ (x : Bool). if_so (c && x) (table_read st)) h

both_or_none : (c : Bool) (st : State) → if_so (c && false) (table_read st) ≡ none
both_or_none true st = refl
both_or_none false st = refl

pub table_other : (s : Spot) (v b : ℕ) → AtTable s v b → (b ≡ 0x2F → ⊥) → Steps s b None
table_other s v b h o =
    breaks s b (Number Table (Some v)) h.0 (λ st f. table_if st s v b h.1 f false (eqb v s.tables) (ne_eqb b 0x2F o) refl)

pub table_wrong : (s : Spot) (v b : ℕ) → AtTable s v b → (v ≡ s.tables → ⊥) → Steps s b None
table_wrong s v b h o =
    breaks s b (Number Table (Some v)) h.0 (λ st f. table_if st s v b h.1 f (eqb b 0x2F) false refl (ne_eqb v s.tables o)
    ∙ both_or_none (eqb b 0x2F) st)

pub table_right : (s n : Spot) (v b t : ℕ) → AtTable s v b → b ≡ 0x2F → v ≡ s.tables → t ≡ counted (suc s.tables)
    → n ≡ record { place = Fixed 9; tables = t; head = s.head; begun = s.begun; ended = None } → Steps s b (Some n)
table_right s n v b t h e u g m st f =
    let was : st.place ≡ number table (some v) = sym f.place_is ∙ ap place_seen h.0 in
    let now : begun_rules (table_read st) ≡ begun_rules st = sym (begun_here st (number table (some v)) was) in
    let more : 64 < st.tables → 64 < counted (suc st.tables) = λ u. omega arith in
    by_place st s (Number Table (Some v)) (Some n) b (some (table_read st)) f h.0
    (table_if st s v b h.1 f true true (eq-eqb b 0x2F e) (eq-eqb v s.tables u))
    (subst (Goes st (table_read st)) (sym m) (record {
      follows = record {
        place_is = refl;
        known = omega arith;
        tables_are = g ∙ ap (λ (t : ℕ). counted (suc t)) f.tables_are;
        head_is = f.head_is;
        none_begun = f.none_begun ∙ ap is_empty (sym now);
        in_order = subst (λ (rs : List Rule). goals_after 0 rs ≤ suc st.rule.head) (sym now) f.in_order;
      };
      more_tables = more;
      happens = now;
    }))

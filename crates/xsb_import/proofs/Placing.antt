-- What a byte does where a line or a literal begins, behind a literal, and where one byte must come.
use Rattle.std.specs.Prelude.{Some, None}
use Prim.Native.Nat.{ℕ, ◌+◌, ◌≤◌, ◌<◌}
use native.Mathlib.Omega.{arith}
use mathlib.Core.Path.{◌≡◌, refl, sym, ap, subst, ◌∙◌}
use mathlib.Core.Bool.{Bool, true, false, not, ◌&&◌, false≢true}
use mathlib.Core.Option.{none}
use mathlib.Core.List.{List, [], ◌∷◌, map}
use lib.ListN.{get_or, replicate, get_or-replicate, get_or-map}
use lib.Dec.{eqb}
use borrow.Author.Tests.{eq-eqb, ne_eqb}
use Rattle.laws.specs.Spans.{span}
use Rattle.laws.proofs.Spans.{get_or_span}
use Rattle.definitions.specs.Text.{ascii}
use Rattle.definitions.specs.Lists.{is_empty}
use Rattle.papers.specs.Xsb as said
use Rattle.papers.specs.Xsb.{line, fixed, number, literal, behind, table, head, positive, negative, comes, State, at, if_so}
use Rattle.papers.specs.Xsb.{step_at, begins_line, begins_literal}
use Rattle.xsb_import.specs.declared.What.TheVariants.{Table, Head, Positive, Negative}
use Rattle.xsb_import.specs.declared.Place.{Place}
use Rattle.xsb_import.specs.declared.Place.TheVariants.{Line, Fixed, Number, Literal}
use Rattle.xsb_import.specs.declared.Spot.{Spot}
use Rattle.xsb_import.specs.Places.{fixed_places, place_seen, Known, form, byte_at, next_at}
use Rattle.xsb_import.specs.Reading.{in_rule, Follows, Steps, moved}
use Rattle.xsb_import.proofs.Begun.{begun_here, neither, moves, breaks}

-- Places at which one byte must come.

abbrev is_fixed : said.Place → Bool
is_fixed line = false
is_fixed (fixed b bs next) = true
is_fixed (number w value) = false
is_fixed literal = false
is_fixed behind = false

abbrev byte_in : said.Place → ℕ
byte_in line = 0
byte_in (fixed b bs next) = b
byte_in (number w value) = 0
byte_in literal = 0
byte_in behind = 0

abbrev next_in : said.Place → said.Place
next_in line = line
next_in (fixed b bs next) = comes bs next
next_in (number w value) = line
next_in literal = line
next_in behind = line

fixed_step : (st : State) (p : said.Place) (b : ℕ) → is_fixed p ≡ true → step_at st p b ≡ if_so (eqb b (byte_in p)) (at st (next_in p))
fixed_step st line b e = absurd (false≢true e)
fixed_step st (fixed c bs next) b e = refl
fixed_step st (number w value) b e = absurd (false≢true e)
fixed_step st literal b e = absurd (false≢true e)
fixed_step st behind b e = absurd (false≢true e)

comes_rule : (bs : List ℕ) (next : said.Place) → in_rule (comes bs next) ≡ in_rule next
comes_rule [] next = refl
comes_rule (b ∷ bs) next = refl

fixed_rule : (p : said.Place) → is_fixed p ≡ true → in_rule (next_in p) ≡ in_rule p
fixed_rule line e = absurd (false≢true e)
fixed_rule (fixed c bs next) e = comes_rule bs next
fixed_rule (number w value) e = absurd (false≢true e)
fixed_rule literal e = absurd (false≢true e)
fixed_rule behind e = absurd (false≢true e)

-- one of them, by its number among them
abbrev nth : ℕ → said.Place
nth k = get_or fixed_places k line

nth_fixed : (k : ℕ) → k < 20 → is_fixed (nth k) ≡ true
nth_fixed k h =
    let m : map is_fixed fixed_places ≡ replicate 20 true = refl in
    sym (get_or-map is_fixed fixed_places k line) ∙ ap (λ (l : List Bool). get_or l k false) m ∙ get_or-replicate 20 k true false h

nth_byte : (k : ℕ) → byte_in (nth k) ≡ get_or form k 0
nth_byte k = sym (get_or-map byte_in fixed_places k line)

nth_next : (k : ℕ) → k < 20 → next_in (nth k) ≡ place_seen (next_at k)
nth_next k h =
    let m : map next_in fixed_places ≡ span (λ (i : ℕ). place_seen (next_at i)) 0 20 = refl in
    let z : 0 + k ≡ k = omega arith in
    sym (get_or-map next_in fixed_places k line) ∙ ap (λ (l : List said.Place). get_or l k line) m
    ∙ get_or_span (λ (i : ℕ). place_seen (next_at i)) 0 20 k line h ∙ ap (λ (i : ℕ). place_seen (next_at i)) z

known_next : (k : ℕ) → k < 20 → Known (next_at k)
known_next k h = on (eqb k 8) (eqb k 11) (eqb k 14) (eqb k 19) refl
  where
    on : (a b c d : Bool) → eqb k 19 ≡ d
        → Known (elim a [
          | true ↦ Number Table None
          | false ↦ elim b [
            | true ↦ Line
            | false ↦ elim c [ true ↦ Literal | false ↦ elim d [ true ↦ Number Negative None | false ↦ Fixed (k + 1) ] ]
          ]
        ])
    on true b c d e = tt
    on false true c d e = tt
    on false false true d e = tt
    on false false false true e = tt
    on false false false false e = let ne : k ≡ 19 → ⊥ = λ q. false≢true (sym e ∙ eq-eqb k 19 q) in omega arith

fixed_as : (b k : ℕ) → k < 20 → (st : State)
    → step_at st (nth k) b ≡ if_so (eqb b (byte_at k)) (at st (place_seen (next_at k)))
fixed_as b k h st =
    fixed_step st (nth k) b (nth_fixed k h)
    ∙ ap (λ (c : ℕ). if_so (eqb b c) (at st (next_in (nth k)))) (nth_byte k)
    ∙ ap (λ (p : said.Place). if_so (eqb b (byte_at k)) (at st p)) (nth_next k h)

pub fixed_other : (s : Spot) (b k c : ℕ) → (s.place ≡ Fixed k) × (k < 20) → c ≡ byte_at k → (b ≡ c → ⊥) → Steps s b None
fixed_other s b k c h e o =
    breaks s b (Fixed k) h.0 (λ st f. fixed_as b k h.1 st
    ∙ ap (λ (t : Bool). if_so t (at st (place_seen (next_at k)))) (ne_eqb b (byte_at k) (λ x. o (x ∙ sym e))))

pub fixed_same : (s n : Spot) (b k c : ℕ) (p : Place) → (s.place ≡ Fixed k) × (k < 20) → c ≡ byte_at k → b ≡ c → p ≡ next_at k
    → n ≡ moved s p None → Steps s b (Some n)
fixed_same s n b k c p h e o g m =
    moves s n b (Fixed k) (next_at k) h.0 (known_next k h.1)
    (ap in_rule (sym (nth_next k h.1)) ∙ fixed_rule (nth k) (nth_fixed k h.1))
    (λ st f. fixed_as b k h.1 st
    ∙ ap (λ (t : Bool). if_so t (at st (place_seen (next_at k)))) (eq-eqb b (byte_at k) (o ∙ e)))
    (m ∙ ap (λ (q : Place). moved s q None) g)

pub fixed_past : (s : Spot) (b k : ℕ) → s.place ≡ Fixed k → 20 ≤ k → Steps s b None
fixed_past s b k e h st f = absurd (let x : k < 20 = subst Known e f.known in omega arith)

-- The start of a line.

pub line_head : (s n : Spot) (b : ℕ) → s.place ≡ Line → b ≡ 0x67 → n ≡ moved s (Number Head None) None → Steps s b (Some n)
line_head s n b z e m = moves s n b Line (Number Head None) z tt refl (λ st f. ap (begins_line st) e) m

-- at a line no rule is being read
empty_here : (st : State) (s : Spot) → s.place ≡ Line → Follows st s → is_empty st.rules ≡ not s.begun
empty_here st s z f = ap is_empty (sym (begun_here st line (sym f.place_is ∙ ap place_seen z))) ∙ sym f.none_begun

table_if : (st : State) (b : ℕ) → b ≡ 0x3A → (c : Bool) → is_empty st.rules ≡ c
    → begins_line st b ≡ if_so c (at st (comes (ascii "- table g") (number table none)))
table_if st b e c h =
    ap (begins_line st) e ∙ ap (λ (x : Bool). if_so x (at st (comes (ascii "- table g") (number table none)))) h

pub line_table : (s n : Spot) (b : ℕ) → s.place ≡ Line → b ≡ 0x3A → s.begun ≡ false → n ≡ moved s (Fixed 0) None → Steps s b (Some n)
line_table s n b z e u m =
    moves s n b Line (Fixed 0) z (omega arith) refl (λ st f. table_if st b e true (empty_here st s z f ∙ ap not u)) m

pub line_late : (s : Spot) (b : ℕ) → s.place ≡ Line → b ≡ 0x3A → s.begun ≡ true → Steps s b None
line_late s b z e u = breaks s b Line z (λ st f. table_if st b e false (empty_here st s z f ∙ ap not u))

pub line_other : (s : Spot) (b : ℕ) → s.place ≡ Line → (b ≡ 0x67 → ⊥) → (b ≡ 0x3A → ⊥) → Steps s b None
line_other s b z o p =
    breaks s b Line z (λ st f. neither (eqb b 0x67) (eqb b 0x3A && is_empty st.rules)
    (at st (number head none)) (at st (comes (ascii "- table g") (number table none))) (ne_eqb b 0x67 o)
    (ap (λ (c : Bool). c && is_empty st.rules) (ne_eqb b 0x3A p)))

-- The start of a literal.

pub literal_positive : (s n : Spot) (b : ℕ) → s.place ≡ Literal → b ≡ 0x67 → n ≡ moved s (Number Positive None) None
    → Steps s b (Some n)
literal_positive s n b z e m = moves s n b Literal (Number Positive None) z tt refl (λ st f. ap (begins_literal st) e) m

pub literal_negative : (s n : Spot) (b : ℕ) → s.place ≡ Literal → b ≡ 0x74 → n ≡ moved s (Fixed 15) None → Steps s b (Some n)
literal_negative s n b z e m = moves s n b Literal (Fixed 15) z (omega arith) refl (λ st f. ap (begins_literal st) e) m

pub literal_other : (s : Spot) (b : ℕ) → s.place ≡ Literal → (b ≡ 0x67 → ⊥) → (b ≡ 0x74 → ⊥) → Steps s b None
literal_other s b z o p =
    breaks s b Literal z (λ st f. neither (eqb b 0x67) (eqb b 0x74) (at st (number positive none))
    (at st (comes (ascii "not(g") (number negative none))) (ne_eqb b 0x67 o) (ne_eqb b 0x74 p))

-- The refusals of the command at a place, by what stands there. One lemma for each way out of `next_fault`.
use Prim.Native.Nat.{ℕ, suc, ◌+◌, ◌*◌, ◌-◌, ◌≤◌, ◌<◌}
use native.Mathlib.Numerals.{add-one}
use native.Mathlib.Omega.{arith}
use mathlib.Core.Path.{◌≡◌, refl, sym, ap, ◌∙◌}
use mathlib.Core.Bool.{Bool, true, false}
use mathlib.Core.List.{List}
use lib.ListN.{length, drop, length-drop, drop_of_length-le}
use lib.Seq.{drop-cons, get_or-drop}
use lib.Dec.{eqb, ltb}
use borrow.Author.Tests.{le-ltb, ne_eqb, eqb-true}
use Rattle.definitions.specs.Book.{Command, goal, clause, positive, ranged, negative, end, unknown, command, commands, command_in}
use Rattle.definitions.specs.Book.{width, byte, u16}
use Rattle.book.specs.Operands.{crossed_by}
use Rattle.book.specs.Faults.{marked, fault, literal_tests, Counts, command_tests, whole_tests, next_fault}

pub marked_unknown : (c : Command) → marked c ≡ 255 → c ≡ unknown
marked_unknown goal h = absurd (omega arith)
marked_unknown clause h = absurd (omega arith)
marked_unknown positive h = absurd (omega arith)
marked_unknown ranged h = absurd (omega arith)
marked_unknown negative h = absurd (omega arith)
marked_unknown end h = absurd (omega arith)
marked_unknown unknown h = refl

pub marked_known : (c : Command) → (marked c ≡ 255 → ⊥) → marked c ≡ width c
marked_known goal h = refl
marked_known clause h = refl
marked_known positive h = refl
marked_known ranged h = refl
marked_known negative h = refl
marked_known end h = refl
marked_known unknown h = absurd (h refl)

-- what is left where a byte is none of three commands
abbrev left_over_by : (p r q : Bool) → Command → Command
left_over_by p r q c = elim p [ true ↦ positive | false ↦ elim r [ true ↦ ranged | false ↦ elim q [ true ↦ negative | false ↦ c ] ] ]

others : (b : ℕ) → (b ≡ 0x47 → ⊥) → (b ≡ 0x43 → ⊥) → (b ≡ 0x45 → ⊥)
    → command b ≡ left_over_by (eqb b 0x50) (eqb b 0x52) (eqb b 0x4E) unknown
others b g c e =
    ap (λ (t : Bool). elim t [ true ↦ goal | false ↦ command_in (drop 1 commands) b ]) (ne_eqb b 0x47 g)
    ∙ ap (λ (t : Bool). elim t [ true ↦ clause | false ↦ command_in (drop 2 commands) b ]) (ne_eqb b 0x43 c)
    ∙ ap (λ (t : Bool). left_over_by (eqb b 0x50) (eqb b 0x52) (eqb b 0x4E) (elim t [ true ↦ end | false ↦ unknown ])) (ne_eqb b 0x45 e)

-- the byte of a literal command
pub data OfLiteral (b : ℕ) : Type 0 where
  of_positive : b ≡ 0x50 → OfLiteral b
  of_ranged : b ≡ 0x52 → OfLiteral b
  of_negative : b ≡ 0x4E → OfLiteral b

of_literal_by : (b : ℕ) (p r q : Bool) → eqb b 0x50 ≡ p → eqb b 0x52 ≡ r → eqb b 0x4E ≡ q → (left_over_by p r q unknown ≡ unknown → ⊥)
    → OfLiteral b
of_literal_by b true r q ep er eq h = of_positive (eqb-true b 0x50 ep)
of_literal_by b false true q ep er eq h = of_ranged (eqb-true b 0x52 er)
of_literal_by b false false true ep er eq h = of_negative (eqb-true b 0x4E eq)
of_literal_by b false false false ep er eq h = absurd (h refl)

pub of_literal : (b : ℕ) → (b ≡ 0x47 → ⊥) → (b ≡ 0x43 → ⊥) → (b ≡ 0x45 → ⊥) → (command b ≡ unknown → ⊥) → OfLiteral b
of_literal b g c e known =
    of_literal_by b (eqb b 0x50) (eqb b 0x52) (eqb b 0x4E) refl refl refl (λ x. known (others b g c e ∙ x))

-- two bytes as the number that they say
pub two_bytes : (bs : List ℕ) (i low high r : ℕ) → low ≡ byte bs i → high ≡ byte bs (i + 1) → r ≡ low + 256 * high → r ≡ u16 bs i
two_bytes bs i low high r l h e =
    let s : byte bs (i + 1) ≡ byte bs (suc i) = ap (byte bs) (add-one i) in
    omega arith

-- operands of the bytes behind a command are those of the bytes
pub byte_after : (bs : List ℕ) (at k i : ℕ) → suc at + k ≡ i → byte (drop (suc at) bs) k ≡ byte bs i
byte_after bs at k i e = get_or-drop (suc at) bs k 0 ∙ ap (byte bs) e

pub u16_after : (bs : List ℕ) (at k i : ℕ) → suc at + k ≡ i → u16 (drop (suc at) bs) k ≡ u16 bs i
u16_after bs at k i e =
    let low : byte (drop (suc at) bs) k ≡ byte bs i = byte_after bs at k i e in
    let high : byte (drop (suc at) bs) (suc k) ≡ byte bs (suc i) = byte_after bs at (suc k) (suc i) (omega arith) in
    omega arith

module _ (bs : List ℕ) (at : ℕ) (n : Counts) where
  pub fault_none : length bs ≤ at → 1 ≡ next_fault (drop at bs) n
  fault_none h = ap (λ (l : List ℕ). next_fault l n) (sym (drop_of_length-le bs {i = at} h))

  here : at < length bs → next_fault (drop at bs) n ≡ fault (whole_tests (command (byte bs at)) (drop (suc at) bs) n)
  here h = ap (λ (l : List ℕ). next_fault l n) (drop-cons bs at 0 h)

  module _ (h : at < length bs) (b w : ℕ) (eb : b ≡ byte bs at) (ew : w ≡ marked (command b)) where
    here_by : (c : Command) → command b ≡ c → next_fault (drop at bs) n ≡ fault (whole_tests c (drop (suc at) bs) n)
    here_by c e = here h ∙ ap (λ (x : Command). fault (whole_tests x (drop (suc at) bs) n)) (ap command (sym eb) ∙ e)

    whole : (c : Command) → command b ≡ c → marked c ≡ width c → w ≤ length bs - (at + 1)
        → next_fault (drop at bs) n ≡ fault (command_tests c (drop (suc at) bs) n)
    whole c e m l =
        let d : length (drop (suc at) bs) ≡ length bs - suc at = length-drop (suc at) bs in
        let v : w ≡ marked c = ew ∙ ap marked e in
        let s : fault (whole_tests c (drop (suc at) bs) n) ≡ fault (command_tests c (drop (suc at) bs) n) =
        ap (λ (t : Bool). elim t [ true ↦ 1 | false ↦ fault (command_tests c (drop (suc at) bs) n) ])
        (le-ltb (length (drop (suc at) bs)) (width c) (omega arith)) in
        here_by c e ∙ s

    -- a command's flags are the last of its operands
    last : (k : ℕ) → suc k ≡ w → byte (drop (suc at) bs) k ≡ byte bs (at + w)
    last k e = byte_after bs at k (at + w) (omega arith)

    module _ (l : w ≤ length bs - (at + 1)) (flags : ℕ) (ef : flags ≡ byte bs (at + w)) where
      flags_at : (k : ℕ) → suc k ≡ w → flags ≡ byte (drop (suc at) bs) k
      flags_at k e = ef ∙ sym (last k e)

      module _ (crossed : Bool) (ec : crossed ≡ crossed_by (eqb b 0x52) (u16 bs (at + 3)) (u16 bs (at + 5))) where
        -- a literal command whose flags are its operand k
        literal_with : (k : ℕ) (t : Bool) → suc k ≡ w → crossed ≡ t
            → next_fault (drop at bs) n ≡ fault (literal_tests (byte (drop (suc at) bs) k) t n.clauses n.literals)
            → fault (literal_tests flags crossed n.clauses n.literals) ≡ next_fault (drop at bs) n
        literal_with k t e x is =
            ap (λ (f : ℕ). fault (literal_tests f crossed n.clauses n.literals)) (flags_at k e)
            ∙ ap (λ (y : Bool). fault (literal_tests (byte (drop (suc at) bs) k) y n.clauses n.literals)) x
            ∙ sym is

        crossed_at : (c : ℕ) → b ≡ c → crossed ≡ crossed_by (eqb c 0x52) (u16 bs (at + 3)) (u16 bs (at + 5))
        crossed_at c e = ec ∙ ap (λ (y : ℕ). crossed_by (eqb y 0x52) (u16 bs (at + 3)) (u16 bs (at + 5))) e

        literal_by : OfLiteral b → fault (literal_tests flags crossed n.clauses n.literals) ≡ next_fault (drop at bs) n
        literal_by (of_positive e) =
            let v : w ≡ 5 = ew ∙ ap (λ (x : ℕ). marked (command x)) e in
            literal_with 4 false (omega arith) (crossed_at 0x50 e) (whole positive (ap command e) refl l)
        literal_by (of_ranged e) =
            let v : w ≡ 7 = ew ∙ ap (λ (x : ℕ). marked (command x)) e in
            let low : u16 bs (at + 3) ≡ u16 (drop (suc at) bs) 2 = sym (u16_after bs at 2 (at + 3) (omega arith)) in
            let high : u16 bs (at + 5) ≡ u16 (drop (suc at) bs) 4 = sym (u16_after bs at 4 (at + 5) (omega arith)) in
            literal_with 6 (ltb (u16 (drop (suc at) bs) 4) (u16 (drop (suc at) bs) 2)) (omega arith)
            (crossed_at 0x52 e ∙ ap (λ (x : ℕ). ltb x (u16 bs (at + 3))) high ∙ ap (ltb (u16 (drop (suc at) bs) 4)) low)
            (whole ranged (ap command e) refl l)
        literal_by (of_negative e) =
            let v : w ≡ 3 = ew ∙ ap (λ (x : ℕ). marked (command x)) e in
            literal_with 2 false (omega arith) (crossed_at 0x4E e) (whole negative (ap command e) refl l)

        pub fault_literal : (w ≡ 255 → ⊥) → (b ≡ 0x47 → ⊥) → (b ≡ 0x43 → ⊥) → (b ≡ 0x45 → ⊥)
            → fault (literal_tests flags crossed n.clauses n.literals) ≡ next_fault (drop at bs) n
        fault_literal k g c e = literal_by (of_literal b g c e (λ x. k (ew ∙ ap marked x)))

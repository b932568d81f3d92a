-- What is read from a text is in order: each head has a table line, none comes behind a larger one, and no literal has a flag or a want.
use Prim.Native.Nat.{ℕ, ◌-◌, ◌<◌, ◌≤◌}
use native.Mathlib.Omega.{arith}
use mathlib.Core.Path.{◌≡◌, refl, subst}
use mathlib.Core.Bool.{Bool, true, false, ◌&&◌, false≢true}
use mathlib.Core.Option.{Option, none, some}
use mathlib.Core.List.{List, [], ◌∷◌}
use lib.Dec.{eqb, ltb, leb}
use borrow.Author.Tests.{ltb-true, leb-true}
use Rattle.laws.proofs.Bools.{case_bool}
use Rattle.laws.proofs.Options.{no_such, same_some}
use Rattle.laws.specs.All.{All, end, more}
use Rattle.laws.proofs.All.{all_map}
use Rattle.definitions.specs.Lists.{push, is_empty, Each}
use Rattle.definitions.specs.Book.{any, Literal, Positive, Negative}
use Rattle.papers.specs.Model.{PlainLiteral}
use Rattle.definitions.specs.Text.{ascii}
use Rattle.papers.specs.Xsb.{Rule, What, table, head, positive, negative, Place, line, fixed, number, literal, behind, State, start}
use Rattle.papers.specs.Xsb.{comes, at, with_head, with_literal, rule_read, table_read, if_so, head_fits, is_digit, more_digits}
use Rattle.papers.specs.Xsb.{behind_literal, behind_head, ends, with_digit, ends_if, step_at, step, run, ended, at_line, parse}
use Rattle.definitions.proofs.Lists.{all_push}
use Rattle.definitions.proofs.Desk.{and_both}
use Rattle.papers.proofs.XsbShows.{When, when_so}
use Rattle.papers.specs.XsbForm.{Ordered, no_rule, and_rule, BareRule}
use Rattle.papers.proofs.XsbBooks.{HeadsAre}

ordered_push : {n : ℕ} (least : ℕ) (rs : List Rule) (r : Rule) → Ordered n least rs → HeadsAre (λ h. h ≤ r.head) rs → least ≤ r.head
    → r.head < n → Ordered n least (push rs r)
ordered_push least [] r o x le lt = and_rule {r = r} le lt no_rule
ordered_push least (q ∷ rs) r (and_rule a b o) (more p x) le lt = and_rule {r = q} a b (ordered_push q.head rs r o x p lt)

plain_push : (ls : List Literal) (l : Literal) → Each PlainLiteral ls → PlainLiteral l → Each PlainLiteral (push ls l)
plain_push [] l p q = (q, tt)
plain_push (m ∷ ls) l p q = (p.0, plain_push ls l p.1 q)

-- The rules so far, and the last head.

pub record RulesFit (s : State) : Type 0 where
  pub in_order : Ordered s.tables 0 s.rules
  pub up_to_last : HeadsAre (λ h. h ≤ s.rule.head) s.rules
  pub bare : All BareRule s.rules

-- and the rule that is being read
pub record RuleFits (s : State) : Type 0 where
  pub before : RulesFit s
  pub has_table : s.rule.head < s.tables
  pub plain : BareRule s.rule

abbrev pub FitsNumber : State → What → Type 0
FitsNumber s table = RulesFit s × (is_empty s.rules ≡ true)
FitsNumber s head = RulesFit s
FitsNumber s positive = RuleFits s
FitsNumber s negative = RuleFits s

abbrev pub FitsAt : State → Place → Type 0
FitsAt s line = RulesFit s
FitsAt s (fixed b bs next) = FitsAt s next
FitsAt s (number w value) = FitsNumber s w
FitsAt s literal = RuleFits s
FitsAt s behind = RuleFits s

-- of the state at any place
abbrev pub Fits : State → Type 0
Fits s = FitsAt s s.place

-- what is said of the rules says nothing of the place
rules_moved : (s : State) (p : Place) → RulesFit s → RulesFit (at s p)
rules_moved s p x = record { in_order = x.in_order; up_to_last = x.up_to_last; bare = x.bare }

rule_moved : (s : State) (p : Place) → RuleFits s → RuleFits (at s p)
rule_moved s p x = record { before = rules_moved s p x.before; has_table = x.has_table; plain = x.plain }

fits_read : (s : State) → RuleFits s → Fits (rule_read s)
fits_read s x = record {
  in_order = ordered_push 0 s.rules s.rule x.before.in_order x.before.up_to_last (omega arith) x.has_table;
  up_to_last = all_push x.before.up_to_last (omega arith);
  bare = all_push x.before.bare x.plain;
}

fits_behind : (s : State) → RuleFits s → (b : ℕ) → When Fits (behind_literal s b)
fits_behind s x b =
    case_bool (When Fits) (eqb b 0x2E) (λ e. fits_read s x) (λ e. when_so Fits (eqb b 0x2C) _ (λ f. rule_moved s _ x))

fits_head : (s : State) → RuleFits s → (b : ℕ) → When Fits (behind_head s b)
fits_head s x b = case_bool (When Fits) (eqb b 0x2E) (λ e. fits_read s x) (λ e. when_so Fits (eqb b 0x20) _ (λ f. rule_moved s _ x))

with_literal_fits : (s : State) (l : Literal) → PlainLiteral l → RuleFits s → RuleFits (with_literal s l)
with_literal_fits s l p x = record {
  before = record { in_order = x.before.in_order; up_to_last = x.before.up_to_last; bare = x.before.bare };
  has_table = x.has_table;
  plain = plain_push s.rule.body l x.plain p;
}

no_rules : (n : ℕ) (rs : List Rule) (h : ℕ) → is_empty rs ≡ true → Ordered n 0 rs × HeadsAre (λ k. k ≤ h) rs
no_rules n [] h e = (no_rule, end)
no_rules n (r ∷ rs) h e = absurd (false≢true e)

fits_ends : (s : State) (w : What) (v : ℕ) → FitsNumber s w → (b : ℕ) → When Fits (ends s w v b)
fits_ends s table v x b = when_so Fits (eqb b 0x2F && eqb v s.tables) (table_read s) (λ e.
    let z = no_rules (table_read s).tables s.rules s.rule.head x.1 in
    record { in_order = z.0; up_to_last = z.1; bare = x.0.bare })
fits_ends s head v x b = case_bool (When Fits) (head_fits s v) on (λ e. tt)
  where
    on : head_fits s v ≡ true → When Fits (behind_head (with_head s v) b)
    on e =
        let p = and_both (ltb v s.tables) (leb s.rule.head v) e in
        let lower = ltb-true v s.tables p.0 in
        let upper = leb-true s.rule.head v p.1 in
        fits_head (with_head s v) (record {
          before = record { in_order = x.in_order; up_to_last = all_map (λ r le. omega arith) x.up_to_last; bare = x.bare };
          has_table = lower;
          plain = tt;
        }) b
fits_ends s positive v x b = fits_behind (with_literal s (Positive v any false))
    (with_literal_fits s (Positive v any false) (refl, refl) x) b
fits_ends s negative v x b =
    when_so Fits (eqb b 0x29) (at (with_literal s (Negative v false)) behind)
    (λ e. rule_moved (with_literal s (Negative v false)) behind (with_literal_fits s (Negative v false) refl x))

number_moved : (s : State) (w : What) (p : Place) → FitsNumber s w → FitsNumber (at s p) w
number_moved s table p x = (rules_moved s p x.0, x.1)
number_moved s head p x = rules_moved s p x
number_moved s positive p x = rule_moved s p x
number_moved s negative p x = rule_moved s p x

place_moved : (s : State) (p q : Place) → FitsAt s p → FitsAt (at s q) p
place_moved s line q x = rules_moved s q x
place_moved s (fixed b bs next) q x = place_moved s next q x
place_moved s (number w value) q x = number_moved s w q x
place_moved s literal q x = rule_moved s q x
place_moved s behind q x = rule_moved s q x

fits_comes : (s : State) (bs : List ℕ) (next : Place) → FitsAt s next → Fits (at s (comes bs next))
fits_comes s [] next x = place_moved s next next x
fits_comes s (b ∷ bs) next x = place_moved s next (fixed b bs next) x

fits_digit : (s : State) (w : What) (value : Option ℕ) → FitsNumber s w → When Fits (with_digit s w value)
fits_digit s w none x = tt
fits_digit s w (some v) x = number_moved s w (number w (some v)) x

fits_number : (s : State) (w : What) (value : Option ℕ) → FitsNumber s w → (b : ℕ) → When Fits (ends_if s w value b)
fits_number s w none x b = tt
fits_number s w (some v) x b = fits_ends s w v x b

fits_step : (s : State) (p : Place) → FitsAt s p → (b : ℕ) → When Fits (step_at s p b)
fits_step s line x b =
    case_bool (When Fits) (eqb b 0x67) (λ e. rules_moved s _ x)
    (λ e. when_so Fits (eqb b 0x3A && is_empty s.rules) _ (λ f.
    fits_comes s (ascii "- table g") (number table none) (x, (and_both (eqb b 0x3A) (is_empty s.rules) f).1)))
fits_step s (fixed c bs next) x b = when_so Fits (eqb b c) _ (λ e. fits_comes s bs next x)
fits_step s (number w value) x b =
    case_bool (When Fits) (is_digit b) (λ e. fits_digit s w (more_digits value (b - 48)) x) (λ e. fits_number s w value x b)
fits_step s literal x b =
    case_bool (When Fits) (eqb b 0x67) (λ e. rule_moved s _ x)
    (λ e. when_so Fits (eqb b 0x74) _ (λ f. fits_comes s (ascii "not(g") (number negative none) x))
fits_step s behind x b = fits_behind s x b

fits_run : (bs : List ℕ) (s : State) → Fits s → When Fits (run bs s)
fits_run [] s x = x
fits_run (b ∷ bs) s x = on (fits_run bs) (step s b) (fits_step s s.place x b)
  where
    on : ((s : State) → Fits s → When Fits (run bs s)) → (o : Option State) → When Fits o
        → When Fits (elim o [ none ↦ none | some z ↦ run bs z ])
    on k none w = tt
    on k (some z) w = k z w

fits_line : (s : State) (p : Place) → at_line p ≡ true → FitsAt s p → RulesFit s
fits_line s line e x = x
fits_line s (fixed b bs next) e x = absurd (false≢true e)
fits_line s (number w value) e x = absurd (false≢true e)
fits_line s literal e x = absurd (false≢true e)
fits_line s behind e x = absurd (false≢true e)

pub parse_fits : (t : List ℕ) (s : State) → parse t ≡ some s → RulesFit s
parse_fits t s e =
    on (run t start) (fits_run t start (record { in_order = no_rule; up_to_last = end; bare = end })) e
  where
    at_end : (z : State) → Fits z → (c : Bool) → at_line z.place ≡ c → if_so c z ≡ some s → RulesFit s
    at_end z x true p e = subst RulesFit (same_some e) (fits_line z z.place p x)
    at_end z x false p e = absurd (no_such e)

    on : (o : Option State) → When Fits o → ended o ≡ some s → RulesFit s
    on none w e = absurd (no_such e)
    on (some z) w e = at_end z w (at_line z.place) refl e

-- The refusals of an import: of a text of the form the desk's number for its rules, or their book, whatever numbers its literals have
-- (`form_imported`); 39 of a text that is not of the form, and of no other (`import_39`).
-- They are of texts of at most `most_bytes` bytes. A longer one may have more table lines than are counted: there any larger number stands
-- for the next one, so that a text of another form gets 5. A table line has more than 14 bytes, and so none of these has as many.
use Prim.Native.Nat.{ℕ, zero, suc, ◌+◌, ◌*◌, ◌-◌, ◌<◌, ◌≤◌}
use native.Mathlib.Omega.{arith}
use mathlib.Core.Path.{◌≡◌, refl, sym, ap, ap₂, subst, ◌∙◌}
use mathlib.Core.Logic.{◌⊎◌, inl, inr}
use mathlib.Core.Bool.{Bool, true, false, not, ◌&&◌, ◌||◌, false≢true}
use mathlib.Core.Option.{Option, none, some}
use mathlib.Core.List.{List, [], ◌∷◌, ◌++◌}
use lib.ListN.{length, length-append}
use lib.Dec.{eqb, ltb}
use borrow.Author.Tests.{le-ltb, ne_eqb}
use Rattle.laws.proofs.Bools.{case_bool}
use Rattle.laws.proofs.Options.{no_such, same_some}
use Rattle.laws.specs.All.{All, end, more}
use Rattle.laws.proofs.All.{all_at}
use Rattle.definitions.specs.Refusal.{Refusable, refused, accepted, Test, ◌refuses◌, unless}
use Rattle.definitions.specs.Lists.{is_empty, any_passes, Each}
use Rattle.sizes.specs.Limits.{most_goals, most_clauses, most_literals}
use Rattle.definitions.specs.Book.{any, Positive, Book, goals_name}
use Rattle.definitions.specs.Desk.{at_desk, repeats}
use Rattle.definitions.specs.Text.{ascii, decimal}
use Rattle.papers.specs.Xsb.{Rule, rule_lines, table_line, table_lines, text_of, most_number}
use Rattle.papers.specs.Xsb.{What, table, head, positive, negative, Place, line, fixed, number, literal, behind, State, start}
use Rattle.papers.specs.Xsb.{if_so, head_fits, is_digit, more_digits, behind_literal, behind_head, with_head, with_literal}
use Rattle.papers.specs.Xsb.{ends, with_digit, ends_if, begins_line, step_at, step, run, at_line, ended, parse}
use Rattle.papers.specs.Xsb.{is_long, goals_for, book_of, parsed_book, import}
use Rattle.papers.specs.XsbForm.{BareRule, Ordered, Form, most_bytes, WithinLimits, Unknown, FormNumber, no_state, broken}
use Rattle.definitions.proofs.Refusal.{same_refused, not_accepted}
use Rattle.papers.proofs.XsbCapped.{book_capped, ordered_before, rules_bare_before}
use Rattle.papers.proofs.XsbShows.{When, when_so}
use Rattle.papers.proofs.XsbTold.{parse_shown}
use Rattle.papers.proofs.XsbReads.{text_counted}
use Rattle.papers.proofs.XsbBooks.{rules_back}
use Rattle.papers.proofs.XsbOrder.{parse_fits}
use Rattle.papers.proofs.Xsb.{BelowRule, goals_below}

-- How many table lines there are: of what is written.

tables_long : (n : ℕ) → 14 * n ≤ length (table_lines n)
tables_long zero = omega arith
tables_long (suc n) =
    let x = tables_long n in
    omega (arith, length-append (table_lines n) (table_line n), length-append (decimal n) (ascii "/0.\n"))

few_tables : (n : ℕ) (rs : List Rule) → length (text_of n rs) ≤ most_bytes → n < most_number
few_tables n rs h = let x = tables_long n in omega (arith, length-append (table_lines n) (rule_lines rs))

-- and of what is read: at most one for each byte, and none for the first
module _ (n : ℕ) where
  abbrev pub UpTo : State → Type 0
  UpTo s = s.tables ≤ n

  literal_up_to : (s : State) → UpTo s → (b : ℕ) → When UpTo (behind_literal s b)
  literal_up_to s h b = case_bool (When UpTo) (eqb b 0x2E) (λ e. h) (λ e. when_so UpTo (eqb b 0x2C) _ (λ f. h))

  head_up_to : (s : State) → UpTo s → (b : ℕ) → When UpTo (behind_head s b)
  head_up_to s h b = case_bool (When UpTo) (eqb b 0x2E) (λ e. h) (λ e. when_so UpTo (eqb b 0x20) _ (λ f. h))

  line_up_to : (s : State) → UpTo s → (b : ℕ) → When UpTo (begins_line s b)
  line_up_to s h b =
      case_bool (When UpTo) (eqb b 0x67) (λ e. h) (λ e. when_so UpTo (eqb b 0x3A && is_empty s.rules) _ (λ f. h))

  ends_up_to : (s : State) → suc s.tables ≤ n → (w : What) (v b : ℕ) → When UpTo (ends s w v b)
  ends_up_to s h table v b = when_so UpTo (eqb b 0x2F && eqb v s.tables) _ (λ e. omega arith)
  ends_up_to s h head v b =
      case_bool (When UpTo) (head_fits s v) (λ e. head_up_to (with_head s v) (omega arith) b) (λ e. tt)
  ends_up_to s h positive v b = literal_up_to (with_literal s (Positive v any false)) (omega arith) b
  ends_up_to s h negative v b = when_so UpTo (eqb b 0x29) _ (λ e. omega arith)

  digit_up_to : (s : State) → UpTo s → (w : What) (value : Option ℕ) → When UpTo (with_digit s w value)
  digit_up_to s h w none = tt
  digit_up_to s h w (some v) = h

  number_up_to : (s : State) → suc s.tables ≤ n → (w : What) (value : Option ℕ) (b : ℕ) → When UpTo (ends_if s w value b)
  number_up_to s h w none b = tt
  number_up_to s h w (some v) b = ends_up_to s h w v b

  step_up_to : (s : State) → suc s.tables ≤ n → (p : Place) (b : ℕ) → When UpTo (step_at s p b)
  step_up_to s h line b = line_up_to s (omega arith) b
  step_up_to s h (fixed c bs next) b = when_so UpTo (eqb b c) _ (λ e. omega arith)
  step_up_to s h (number w value) b =
      case_bool (When UpTo) (is_digit b) (λ e. digit_up_to s (omega arith) w (more_digits value (b - 48))) (λ e. number_up_to s h w value b)
  step_up_to s h literal b =
      case_bool (When UpTo) (eqb b 0x67) (λ e. omega arith) (λ e. when_so UpTo (eqb b 0x74) _ (λ f. omega arith))
  step_up_to s h behind b = literal_up_to s (omega arith) b

run_up_to : (bs : List ℕ) (s : State) → When (UpTo (length bs + s.tables)) (run bs s)
run_up_to [] s = omega arith
run_up_to (b ∷ bs) s = on (run_up_to bs) (step s b) (step_up_to (suc s.tables) s (omega arith) s.place b)
  where
    raised : (m n : ℕ) → m ≤ n → (o : Option State) → When (UpTo m) o → When (UpTo n) o
    raised m n h none x = tt
    raised m n h (some s) x = omega arith

    on : ((s : State) → When (UpTo (length bs + s.tables)) (run bs s)) → (o : Option State) → When (UpTo (suc s.tables)) o
        → When (UpTo (suc (length bs) + s.tables)) (elim o [ none ↦ none | some z ↦ run bs z ])
    on k none x = tt
    on k (some z) x = raised (length bs + z.tables) (suc (length bs) + s.tables) (omega arith) (run bs z) (k z)

read_few : (text : List ℕ) (s : State) → parse text ≡ some s → length text ≤ most_bytes → s.tables < most_number
read_few [] s e h = let x : s.tables ≡ 0 = sym (ap (λ (z : State). z.tables) (same_some e)) in omega arith
read_few (b ∷ bs) s e h = on (step start b) (line_up_to 0 start (omega arith) b) e
  where
    at_end : (z : State) → z.tables < most_number → (c : Bool) → if_so c z ≡ some s → s.tables < most_number
    at_end z lt true e = let x = ap (λ (y : State). y.tables) (same_some e) in omega arith
    at_end z lt false e = absurd (no_such e)

    last : (n : ℕ) → n < most_number → (o : Option State) → When (UpTo n) o → ended o ≡ some s → s.tables < most_number
    last n lt none x e = absurd (no_such e)
    last n lt (some z) x e = at_end z (omega arith) (at_line z.place) e

    on : (o : Option State) → When (UpTo 0) o → ended (elim o [ none ↦ none | some z ↦ run bs z ]) ≡ some s → s.tables < most_number
    on none x e = absurd (no_such e)
    on (some z) x e = last (length bs + z.tables) (omega arith) (run bs z) (run_up_to bs z) e

-- A text of the form.

each_bare : (rs : List Rule) → Each BareRule rs → All BareRule rs
each_bare [] x = end
each_bare (r ∷ rs) x = more x.0 (each_bare rs x.1)

-- of fewer table lines than can be counted
few_imported : (text : List ℕ) (f : Form text) → f.goals < most_number → import text ≡ at_desk (book_of f.goals f.rules)
few_imported text f lt =
    let k = text_counted f.goals f.rules lt f.in_order (each_bare f.rules f.bare) in
    ap import (sym f.written)
    ∙ ap parsed_book k.1
    ∙ ap at_desk (book_capped most_number f.goals f.rules (omega arith))

pub form_imported : (text : List ℕ) (f : Form text) → length text ≤ most_bytes → import text ≡ at_desk (book_of f.goals f.rules)
form_imported text f h =
    few_imported text f (few_tables f.goals f.rules (subst (λ (t : List ℕ). length t ≤ most_bytes) (sym f.written) h))

-- what is read is of the form
read_form : (text : List ℕ) (s : State) → parse text ≡ some s → length text ≤ most_bytes → Form text
read_form text s e h =
    let w = parse_shown text s e (read_few text s e h) in
    let fits = parse_fits text s e in
    record {
      goals = s.tables;
      rules = w.rules;
      written = w.text_is;
      in_order = ordered_before most_number 0 w.rules (subst (Ordered s.tables 0) (sym w.rules_are) fits.in_order);
      bare = rules_bare_before most_number w.rules (subst (All BareRule) (sym w.rules_are) fits.bare);
    }

pub form_or_39 : (text : List ℕ) → length text ≤ most_bytes → Form text ⊎ (import text ≡ refused 39)
form_or_39 text h = on (parse text) refl
  where
    on : (o : Option State) → parse text ≡ o → Form text ⊎ (import text ≡ refused 39)
    on none e = inr (ap parsed_book e)
    on (some s) e = inl (read_form text s e h)

-- The numbers.

-- what holds of the number of each test holds of that of the refusal
unless_number : (A : Type 0) (P : ℕ → Type 0) (ts : List Test) (a : A) (n : ℕ) → Each (λ (t : Test). P t.number) ts
    → unless ts a ≡ refused n → P n
unless_number A P [] a n x e = absurd (not_accepted (sym e))
unless_number A P (t ∷ ts) a n x e = on (unless_number A P ts a n x.1) t.fails e
  where
    on : (unless ts a ≡ refused n → P n) → (b : Bool)
        → ◌≡◌ {A = Refusable A} (elim b [ true ↦ refused t.number | false ↦ unless ts a ]) (refused n) → P n
    on k true e = subst P (same_refused e) x.0
    on k false e = k e

desk_number : (n : ℕ) (rs : List Rule) (r : Refusable Book) → book_of n rs ≡ r → (k : ℕ) → at_desk r ≡ refused k → FormNumber k
desk_number n rs (refused m) f k e =
    subst FormNumber (same_refused e)
    (unless_number Book FormNumber
    (ltb most_goals n refuses 5
    ∷ ltb most_clauses (length rs) refuses 5
    ∷ any_passes is_long rs refuses 5
    ∷ eqb n 0 refuses 8
    ∷ not (goals_name n (goals_for 0 n rs)) refuses 6
    ∷ [])
    (goals_for 0 n rs) m (inl refl, (inl refl, (inl refl, (inr (inl refl), (inr (inr (inl refl)), tt))))) f)
desk_number n rs (accepted book) f k e =
    unless_number Book FormNumber (repeats book refuses 36 ∷ []) book k (inr (inr (inr refl)), tt) e

pub form_refusals : (text : List ℕ) → Form text → length text ≤ most_bytes → (n : ℕ) → import text ≡ refused n → FormNumber n
form_refusals text f h n e =
    desk_number f.goals f.rules (book_of f.goals f.rules) refl n (sym (form_imported text f h) ∙ e)

not_39 : FormNumber 39 → ⊥
not_39 (inl e) = omega arith
not_39 (inr (inl e)) = omega arith
not_39 (inr (inr (inl e))) = omega arith
not_39 (inr (inr (inr e))) = omega arith

-- 39 is for texts that are not of the form, and for them alone
pub import_39 : (text : List ℕ) → length text ≤ most_bytes
    → (import text ≡ refused 39 → Form text → ⊥) × ((Form text → ⊥) → import text ≡ refused 39)
import_39 text h = (λ e f. not_39 (form_refusals text f h 39 e), λ none_is. on (form_or_39 text h) none_is)
  where
    on : Form text ⊎ (import text ≡ refused 39) → (Form text → ⊥) → import text ≡ refused 39
    on (inl f) none_is = absurd (none_is f)
    on (inr e) none_is = e

-- A literal that names no goal.

none_long : (rs : List Rule) → Each (λ (r : Rule). length r.body ≤ most_literals) rs → any_passes is_long rs ≡ false
none_long [] x = refl
none_long (r ∷ rs) x = ap₂ (λ (a b : Bool). a || b) (le-ltb 8 (length r.body) x.0) (none_long rs x.1)

not_named : (n : ℕ) (rs : List Rule) → Ordered n 0 rs → Unknown n rs → goals_name n (goals_for 0 n rs) ≡ false
not_named n rs o u = on (goals_name n (goals_for 0 n rs)) refl
  where
    on : (b : Bool) → goals_name n (goals_for 0 n rs) ≡ b → b ≡ false
    on true e =
        let below : All (BelowRule n) rs = subst (All (BelowRule n)) (rules_back n rs o) (goals_below n 0 (goals_for 0 n rs) e) in
        let x = all_at u.literal_at (all_at u.rule_at below u.of_text) u.of_rule in
        let y = u.no_goal in
        absurd (omega arith)
    on false e = refl

fifth_fails : {A : Type 0} (p q r s t : Bool) (k l m n o : ℕ) (a : A) → p ≡ false → q ≡ false → r ≡ false → s ≡ false → t ≡ true
    → unless (p refuses k ∷ q refuses l ∷ r refuses m ∷ s refuses n ∷ t refuses o ∷ []) a ≡ refused o
fifth_fails p q r s t k l m n o a e f g h i = rw (e, f, g, h, i)

-- however large its number is, and however long the text
pub unknown_6 : (text : List ℕ) (f : Form text) → WithinLimits f.goals f.rules → Unknown f.goals f.rules
    → import text ≡ refused 6
unknown_6 text f w u =
    let n = f.goals in
    let rs = f.rules in
    let few = w.few_goals in
    let some_goal = w.some_goal in
    few_imported text f (omega arith)
    ∙ ap at_desk (fifth_fails _ _ _ _ _ 5 5 5 8 6 (goals_for 0 n rs)
    (le-ltb 64 n few) (le-ltb 256 (length rs) w.few_rules) (none_long rs w.few_literals)
    (ne_eqb n 0 (λ e. omega arith)) (ap not (not_named n rs f.in_order u)))

-- Bytes behind which nothing is of the form.

run_broken : (text after : List ℕ) (s : State) → run text s ≡ none → run (text ++ after) s ≡ none
run_broken [] after s e = absurd (no_such (sym e))
run_broken (b ∷ bs) after s e = on (run_broken bs after) (step s b) e
  where
    on : ((s : State) → run bs s ≡ none → run (bs ++ after) s ≡ none) → (o : Option State)
        → ◌≡◌ {A = Option State} (elim o [ none ↦ none | some z ↦ run bs z ]) none
        → ◌≡◌ {A = Option State} (elim o [ none ↦ none | some z ↦ run (bs ++ after) z ]) none
    on k none e = refl
    on k (some z) e = k z e

-- whatever follows them, and however much
pub broken_39 : (text after : List ℕ) → broken text ≡ true → import (text ++ after) ≡ refused 39
broken_39 text after e = ap (λ (o : Option State). parsed_book (ended o)) (run_broken text after start (on (run text start) e))
  where
    on : (o : Option State) → no_state o ≡ true → o ≡ none
    on none e = refl
    on (some s) e = absurd (false≢true e)

-- What each byte of a text shows, and so the whole of it: where a text is read, it is that of rules that are read as these (`parse_shown`),
-- and of these themselves where no number is too large (`parse_text`).
use Prim.Native.Nat.{ℕ, zero, suc, ◌+◌, ◌*◌, ◌-◌, ◌<◌}
use native.Mathlib.Omega.{arith}
use mathlib.Core.Path.{◌≡◌, refl, sym, ap, subst, ◌∙◌}
use mathlib.Core.Bool.{Bool, true, false, ◌&&◌, false≢true}
use mathlib.Core.Option.{Option, none, some}
use mathlib.Core.List.{List, [], ◌∷◌, ◌++◌, append-nil, append_assoc}
use lib.Dec.{eqb, leb}
use borrow.Author.Tests.{eqb-true, leb-true}
use Rattle.laws.proofs.Bools.{case_bool}
use Rattle.laws.proofs.Options.{no_such, same_some}
use Rattle.laws.specs.All.{All}
use Rattle.definitions.specs.Lists.{push, is_empty}
use Rattle.definitions.specs.Text.{ascii, decimal}
use Rattle.papers.specs.Xsb.{Rule, name, text_of, most_number, counted, What, table, head, positive, negative}
use Rattle.papers.specs.Xsb.{Place, line, fixed, number, literal, behind, State, start, comes, at}
use Rattle.papers.specs.Xsb.{if_so, is_digit, more_digits, begins_line, begins_literal}
use Rattle.papers.specs.Xsb.{with_digit, ends_if, step_at, step, run, at_line, ended, parse}
use Rattle.papers.specs.XsbForm.{capped_rule}
use Rattle.papers.proofs.Digits.{decimal_one, decimal_more}
use Rattle.definitions.proofs.Desk.{and_both}
use Rattle.papers.proofs.XsbCapped.{rules_same, rules_were}
use Rattle.papers.proofs.XsbShows.{When, when_so, SmallRule, counted_rules, empty_map, opened, Shows, shows_comes}
use Rattle.papers.proofs.XsbShows.{shown_at, Told, ToldNext, told_behind, told_ends}

-- A digit.

-- what a number is counted as, with one digit more
next_counted : (x v d : ℕ) → counted x ≡ v → counted (10 * x + d) ≡ counted (10 * v + d)
next_counted x v d e = omega arith

told_digit : (s : State) (w : What) (value : Option ℕ) (t : List ℕ) → Told (at s (number w value)) t → (b : ℕ) → is_digit b ≡ true
    → When (ToldNext t b) (with_digit s w (more_digits value (b - 48)))
told_digit s w none t h b e =
    let p = and_both (leb 48 b) (leb b 57) e in
    let lo = leb-true 48 b p.0 in
    let hi = leb-true b 57 p.1 in
    λ lt.
    let k = h lt in
    shown_at s (number w none) (number w (some (b - 48))) t (push t b) k (record {
      written = b - 48;
      counted_as = omega arith;
      front = t;
      before = k.shows;
      digits = ap (λ (x : List ℕ). t ++ x) (decimal_one (b - 48) (omega arith)) ∙ ap (λ (x : ℕ). push t x) (omega arith);
    })
told_digit s w (some zero) t h b e = tt
told_digit s w (some (suc v)) t h b e =
    let p = and_both (leb 48 b) (leb b 57) e in
    let lo = leb-true 48 b p.0 in
    let hi = leb-true b 57 p.1 in
    let d : 48 + (b - 48) ≡ b = omega arith in
    λ lt.
    let k = h lt in
    let x = k.shows.written in
    let u = k.shows.front in
    let c = k.shows.counted_as in
    shown_at s (number w (some (suc v))) _ t (push t b) k (record {
      written = 10 * x + (b - 48);
      counted_as = next_counted x (suc v) (b - 48) c;
      front = u;
      before = k.shows.before;
      digits = ap (λ (y : List ℕ). u ++ y) (decimal_more x (b - 48) (omega arith) (omega arith))
          ∙ sym (append_assoc u (decimal x) ((48 + (b - 48)) ∷ []))
          ∙ ap (λ (y : List ℕ). push y (48 + (b - 48))) k.shows.digits
          ∙ ap (λ (y : ℕ). push t y) d;
    })

-- Any byte.

told_line : (s : State) (t : List ℕ) → Told (at s line) t → (b : ℕ) → When (ToldNext t b) (begins_line s b)
told_line s t h b = case_bool (When (ToldNext t b)) (eqb b 0x67) rule_begins other
  where
    rule_begins : eqb b 0x67 ≡ true → ToldNext t b (at s (number head none))
    rule_begins e lt =
        let k = h lt in
        shown_at s line _ t (push t b) k
        (ap (λ (x : List ℕ). x ++ ascii "g") k.shows ∙ ap (λ (c : ℕ). push t c) (sym (eqb-true b 0x67 e)))

    on : (eqb b 0x3A && is_empty s.rules) ≡ true → ToldNext t b (at s (comes (ascii "- table g") (number table none)))
    on e lt =
        let p = and_both (eqb b 0x3A) (is_empty s.rules) e in
        let k = h lt in
        let m : t ++ ascii ":- table g" ≡ push t 0x3A ++ ascii "- table g" = simp append_assoc in
        shown_at s line _ t (push t b) k (
          sym (empty_map (capped_rule most_number) k.before) ∙ ap is_empty k.rules_are ∙ p.1,
          ap (λ (x : List ℕ). x ++ ascii ":- table g") k.shows ∙ m
              ∙ ap (λ (c : ℕ). push t c ++ ascii "- table g") (sym (eqb-true b 0x3A p.0)),
        )

    other : eqb b 0x67 ≡ false
        → When (ToldNext t b) (if_so (eqb b 0x3A && is_empty s.rules) (at s (comes (ascii "- table g") (number table none))))
    other e = when_so (ToldNext t b) _ _ on

told_literal : (s : State) (t : List ℕ) → Told (at s literal) t → (b : ℕ) → When (ToldNext t b) (begins_literal s b)
told_literal s t h b = case_bool (When (ToldNext t b)) (eqb b 0x67) plain other
  where
    plain : eqb b 0x67 ≡ true → ToldNext t b (at s (number positive none))
    plain e lt =
        let k = h lt in
        let front = text_of s.tables k.before in
        let own = name k.last.head in
        let body = opened k.last.body in
        let m : front ++ (own ++ (body ++ ascii "g")) ≡ (front ++ (own ++ body)) ++ ascii "g" = simp append_assoc in
        shown_at s literal _ t (push t b) k
        (m ∙ ap (λ (x : List ℕ). x ++ ascii "g") k.shows ∙ ap (λ (c : ℕ). push t c) (sym (eqb-true b 0x67 e)))

    on : eqb b 0x74 ≡ true → ToldNext t b (at s (comes (ascii "not(g") (number negative none)))
    on e lt =
        let k = h lt in
        let front = text_of s.tables k.before in
        let own = name k.last.head in
        let body = opened k.last.body in
        let m : front ++ (own ++ (body ++ ascii "tnot(g")) ≡ push (front ++ (own ++ body)) 0x74 ++ ascii "not(g" = simp append_assoc in
        shown_at s literal _ t (push t b) k
        (m ∙ ap (λ (x : List ℕ). push x 0x74 ++ ascii "not(g") k.shows
        ∙ ap (λ (c : ℕ). push t c ++ ascii "not(g") (sym (eqb-true b 0x74 e)))

    other : eqb b 0x67 ≡ false → When (ToldNext t b) (if_so (eqb b 0x74) (at s (comes (ascii "not(g") (number negative none))))
    other e = when_so (ToldNext t b) (eqb b 0x74) _ on

told_fixed : (s : State) (c : ℕ) (bs : List ℕ) (next : Place) (t : List ℕ) → Told (at s (fixed c bs next)) t → (b : ℕ)
    → When (ToldNext t b) (if_so (eqb b c) (at s (comes bs next)))
told_fixed s c bs next t h b = when_so (ToldNext t b) (eqb b c) _ on
  where
    on : eqb b c ≡ true → ToldNext t b (at s (comes bs next))
    on e lt =
        let k = h lt in
        let m : t ++ (c ∷ bs) ≡ push t c ++ bs = sym (append_assoc t (c ∷ []) bs) in
        shown_at s (fixed c bs next) _ t (push t b) k
        (shows_comes s.tables k.before k.last bs next (push t b)
        (subst (Shows s.tables k.before k.last next) (m ∙ ap (λ (x : ℕ). push t x ++ bs) (sym (eqb-true b c e))) k.shows))

told_number : (s : State) (w : What) (value : Option ℕ) (t : List ℕ) → Told (at s (number w value)) t → (b : ℕ)
    → When (ToldNext t b) (ends_if s w value b)
told_number s w none t h b = tt
told_number s w (some v) t h b = told_ends s w v t h b

told_at : (s : State) (p : Place) (t : List ℕ) → Told (at s p) t → (b : ℕ) → When (ToldNext t b) (step_at s p b)
told_at s line t h b = told_line s t h b
told_at s (fixed c bs next) t h b = told_fixed s c bs next t h b
told_at s (number w value) t h b =
    case_bool (When (ToldNext t b)) (is_digit b) (told_digit s w value t h b) (λ e. told_number s w value t h b)
told_at s literal t h b = told_literal s t h b
told_at s behind t h b = told_behind s t h b

told_run : (bs : List ℕ) (s : State) (t : List ℕ) → Told s t → When (λ (z : State). Told z (t ++ bs)) (run bs s)
told_run [] s t h = subst (Told s) (sym (append-nil t)) h
told_run (b ∷ bs) s t h = on (told_run bs) (step s b) (told_at s s.place t h b)
  where
    on : ((s : State) (t : List ℕ) → Told s t → When (λ (z : State). Told z (t ++ bs)) (run bs s))
        → (o : Option State) → When (ToldNext t b) o
        → When (λ (z : State). Told z (t ++ (b ∷ bs))) (elim o [ none ↦ none | some z ↦ run bs z ])
    on k none w = tt
    on k (some z) w = subst (λ (u : List ℕ). When (λ (y : State). Told y u) (run bs z)) (append_assoc t (b ∷ []) bs) (k z (push t b) w)

-- at the end
shown_line : (n : ℕ) (rs : List Rule) (r : Rule) (p : Place) (t : List ℕ) → at_line p ≡ true → Shows n rs r p t → text_of n rs ≡ t
shown_line n rs r line t e h = h
shown_line n rs r (fixed b bs next) t e h = absurd (false≢true e)
shown_line n rs r (number w value) t e h = absurd (false≢true e)
shown_line n rs r literal t e h = absurd (false≢true e)
shown_line n rs r behind t e h = absurd (false≢true e)

-- the text of rules that are read as these
pub record Written (t : List ℕ) (s : State) : Type 0 where
  pub rules : List Rule
  pub rules_are : counted_rules rules ≡ s.rules
  pub text_is : text_of s.tables rules ≡ t

pub parse_shown : (t : List ℕ) (s : State) → parse t ≡ some s → s.tables < most_number → Written t s
parse_shown t s e lt = on (run t start) (told_run t start [] told_start) e
  where
    told_start : Told start []
    told_start lt = record { before = []; last = record { head = 0; body = [] }; rules_are = refl; rule_is = refl; shows = refl }

    at_end : (z : State) → Told z t → (c : Bool) → at_line z.place ≡ c → if_so c z ≡ some s → Written t s
    at_end z h true p e =
        let same : z ≡ s = same_some e in
        let k = subst (λ (y : State). Told y t) same h lt in
        record {
          rules = k.before;
          rules_are = k.rules_are;
          text_is = shown_line s.tables k.before k.last s.place t (ap (λ (y : State). at_line y.place) (sym same) ∙ p)
              k.shows;
        }
    at_end z h false p e = absurd (no_such e)

    on : (o : Option State) → When (λ (z : State). Told z t) o → ended o ≡ some s → Written t s
    on none w e = absurd (no_such e)
    on (some z) w e = at_end z w (at_line z.place) refl e

pub parse_text : (t : List ℕ) (s : State) → parse t ≡ some s → s.tables < most_number → All SmallRule s.rules
    → text_of s.tables s.rules ≡ t
parse_text t s e lt small =
    let w = parse_shown t s e lt in
    let were = rules_were most_number w.rules (subst (All SmallRule) (sym w.rules_are) small) in
    ap (text_of s.tables) (sym w.rules_are ∙ rules_same most_number w.rules were) ∙ w.text_is

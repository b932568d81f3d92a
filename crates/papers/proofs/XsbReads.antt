-- The text of rules is read as these rules, with their numbers as they are counted, where each head has a table line and none comes behind
-- a larger one.
use Prim.Native.Nat.{ℕ, zero, suc, ◌+◌, ◌*◌, ◌-◌, ◌/◌, ◌%◌, ◌<◌, ◌≤◌}
use native.Mathlib.Omega.{arith}
use mathlib.Core.Path.{◌≡◌, refl, sym, ap, ◌∙◌}
use mathlib.Core.Bool.{Bool, true, false}
use mathlib.Core.Option.{Option, none, some}
use mathlib.Core.List.{List, [], ◌∷◌, ◌++◌, map, append-nil, append_assoc}
use borrow.Author.Tests.{eq-eqb, lt-ltb, le-leb}
use Rattle.laws.specs.All.{All}
use Rattle.laws.proofs.All.{all_first, all_rest}
use Rattle.definitions.specs.Lists.{push, Each}
use Rattle.definitions.specs.Book.{Literal, Positive, Negative}
use Rattle.definitions.specs.Text.{ascii, decimal}
use Rattle.papers.specs.Model.{PlainLiteral}
use Rattle.papers.specs.Xsb.{Rule, literal_text, more_text, body_text, rule_line, rule_lines, table_line, table_lines}
use Rattle.papers.specs.Xsb.{text_of, most_number, counted, What, table, head, positive, negative}
use Rattle.papers.specs.Xsb.{Place, line, number, literal, behind, State, start, comes, at, with_literal, is_digit, step, run, parse}
use Rattle.papers.specs.Xsb.{ended, step_at, if_so, with_digit, more_digits, ends_if, table_read, with_head, behind_head}
use Rattle.papers.specs.XsbForm.{Ordered, and_rule, BareRule, capped_literal, capped_rule}
use Rattle.papers.proofs.Digits.{decimal_one, decimal_more}
use Rattle.definitions.proofs.Desk.{both_and}
use Rattle.papers.proofs.XsbCapped.{rules_same}
use Rattle.papers.proofs.XsbShows.{SmallRule, counted_rules}

-- One part of a text behind another.

run_on : (a b : List ℕ) (s t : State) → run a s ≡ some t → run (a ++ b) s ≡ run b t
run_on [] b s t e = ap (λ (o : Option State). elim o [ none ↦ none | some z ↦ run b z ]) e
run_on (x ∷ a) b s t e = on (run_on a b) (step s x) e
  where
    on : ((s t : State) → run a s ≡ some t → run (a ++ b) s ≡ run b t) → (o : Option State)
        → elim o [ none ↦ none | some z ↦ run a z ] ≡ some t → elim o [ none ↦ none | some z ↦ run (a ++ b) z ] ≡ run b t
    on h none e = ap (λ (o : Option State). elim o [ none ↦ none | some z ↦ run b z ]) e
    on h (some z) e = h z t e

both : (a b : List ℕ) (s t : State) {u : State} → run a s ≡ some t → run b t ≡ some u → run (a ++ b) s ≡ some u
both a b s t e f = run_on a b s t e ∙ f

-- one byte, and what follows
then_one : (b : ℕ) (bs : List ℕ) (s t : State) → step s b ≡ some t → run (b ∷ bs) s ≡ run bs t
then_one b bs s t e = ap (λ (o : Option State). elim o [ none ↦ none | some z ↦ run bs z ]) e

run_fixed : (bs : List ℕ) (next : Place) (s : State) → run bs (at s (comes bs next)) ≡ some (at s next)
run_fixed [] next s = refl
run_fixed (b ∷ bs) next s =
    then_one b bs (at s (comes (b ∷ bs) next)) (at s (comes bs next)) (ap (λ (c : Bool). if_so c (at s (comes bs next))) (eq-eqb b b refl))
    ∙ run_fixed bs next s

-- Numbers.

digit_is : (d : ℕ) → d < 10 → is_digit (48 + d) ≡ true
digit_is d h = rw (le-leb 48 (48 + d) (omega arith), le-leb (48 + d) 57 (omega arith)) refl

pub digit_step : (s : State) (w : What) (value : Option ℕ) (d : ℕ) → d < 10
    → step_at s (number w value) (48 + d) ≡ with_digit s w (more_digits value d)
digit_step s w value d h =
    let m : (48 + d) - 48 ≡ d = omega arith in
    ap (λ (c : Bool). elim c [ true ↦ with_digit s w (more_digits value ((48 + d) - 48)) | false ↦ ends_if s w value (48 + d) ])
    (digit_is d h)
    ∙ ap (λ (x : ℕ). with_digit s w (more_digits value x)) m

-- of a number as it is counted
more_counted : (v d : ℕ) → 0 < v → more_digits (some (counted v)) d ≡ some (counted (10 * v + d))
more_counted v d p = on (counted v) refl
  where
    on : (c : ℕ) → counted v ≡ c → more_digits (some c) d ≡ some (counted (10 * v + d))
    on zero e = absurd (omega arith)
    on (suc c) e = let same : counted (10 * suc c + d) ≡ counted (10 * v + d) = omega arith in ap (λ (x : ℕ). some x) same

next_digit : (s : State) (w : What) (v d : ℕ) → 0 < v → d < 10
    → step (at s (number w (some (counted v)))) (48 + d) ≡ some (at s (number w (some (counted (10 * v + d)))))
next_digit s w v d p h =
    digit_step (at s (number w (some (counted v)))) w (some (counted v)) d h
    ∙ ap (λ (o : Option ℕ). with_digit (at s (number w (some (counted v)))) w o) (more_counted v d p)

-- the first number bounds the second
run_digits : (k v : ℕ) → v < k → (s : State) (w : What)
    → run (decimal v) (at s (number w none)) ≡ some (at s (number w (some (counted v))))
run_digits zero v b s w = absurd (omega arith)
run_digits (suc k) v b s w = on (run_digits k) (v / 10) refl
  where
    on : ((v : ℕ) → v < k → (s : State) (w : What) → run (decimal v) (at s (number w none)) ≡ some (at s (number w (some (counted v)))))
        → (q : ℕ) → v / 10 ≡ q → run (decimal v) (at s (number w none)) ≡ some (at s (number w (some (counted v))))
    on h zero e =
        let same : v ≡ counted v = omega arith in
        ap (λ (t : List ℕ). run t (at s (number w none))) (decimal_one v (omega arith))
        ∙ then_one (48 + v) [] (at s (number w none)) (at s (number w (some v))) (digit_step (at s (number w none)) w none v (omega arith))
        ∙ ap (λ (x : ℕ). some (at s (number w (some x)))) same
    on h (suc q) e =
        let split : v ≡ 10 * suc q + v % 10 = omega arith in
        let shown : decimal v ≡ decimal (suc q) ++ ((48 + v % 10) ∷ [])
        = ap decimal split ∙ decimal_more (suc q) (v % 10) (omega arith) (omega arith) in
        let last = next_digit s w (suc q) (v % 10) (omega arith) (omega arith) in
        ap (λ (t : List ℕ). run t (at s (number w none))) shown
        ∙ run_on (decimal (suc q)) ((48 + v % 10) ∷ []) (at s (number w none)) (at s (number w (some (counted (suc q)))))
        (h (suc q) (omega arith) s w)
        ∙ then_one (48 + v % 10) [] (at s (number w (some (counted (suc q))))) _ last
        ∙ ap (λ (x : ℕ). some (at s (number w (some (counted x))))) (sym split)

run_number : (v : ℕ) (s : State) (w : What) → run (decimal v) (at s (number w none)) ≡ some (at s (number w (some (counted v))))
run_number v s w = run_digits (suc v) v (omega arith) s w

-- a small one stands for itself
run_small : (v : ℕ) → v < most_number → (s : State) (w : What) → run (decimal v) (at s (number w none)) ≡ some (at s (number w (some v)))
run_small v lt s w = let c : counted v ≡ v = omega arith in run_number v s w ∙ ap (λ (x : ℕ). some (at s (number w (some x)))) c

-- Table lines.

-- where a line begins
abbrev pub lines : (n : ℕ) → List Rule → Rule → State
lines n rs r = record { tables = n; rules = rs; rule = r; place = line }

run_table : (n : ℕ) (r : Rule) → suc n < most_number → run (table_line n) (lines n [] r) ≡ some (lines (suc n) [] r)
run_table n r lt =
    let s = lines n [] r in
    let c : counted (suc n) ≡ suc n = omega arith in
    let slash : run (ascii "/0.\n") (at s (number table (some n))) ≡ some (lines (suc n) [] r)
    = then_one 0x2F (ascii "0.\n") (at s (number table (some n))) (table_read s)
    (ap (λ (x : Bool). if_so x (table_read s)) (eq-eqb n n refl))
    ∙ ap (λ (x : ℕ). some (lines x [] r)) c in
    let named : run (decimal n ++ ascii "/0.\n") (at s (number table none)) ≡ some (lines (suc n) [] r)
    = both (decimal n) (ascii "/0.\n") (at s (number table none)) (at s (number table (some n)))
    (run_small n (omega arith) s table) slash in
    named

run_tables : (n : ℕ) (r : Rule) → n < most_number → run (table_lines n) (lines 0 [] r) ≡ some (lines n [] r)
run_tables zero r lt = refl
run_tables (suc n) r lt = both (table_lines n) (table_line n) (lines 0 [] r) (lines n [] r) (run_tables n r (omega arith))
    (run_table n r lt)

-- A rule.

literal_read : (s : State) (l : Literal) → PlainLiteral l → (ls : List Literal)
    → run (literal_text l ++ (more_text ls ++ ascii ".\n")) (at s literal)
    ≡ run (more_text ls ++ ascii ".\n") (at (with_literal s (capped_literal most_number l)) behind)
literal_read s (Positive g want outsized) p [] =
    rw (p.0, p.1) (run_on (decimal g) (ascii ".\n") (at s (number positive none)) _ (run_number g s positive))
literal_read s (Positive g want outsized) p (m ∷ ls) =
    rw (p.0, p.1) (run_on (decimal g) (more_text (m ∷ ls) ++ ascii ".\n") (at s (number positive none)) _ (run_number g s positive))
literal_read s (Negative g outsized) p ls =
    let rest = more_text ls ++ ascii ".\n" in
    let m : (ascii "tnot(g" ++ decimal g) ++ (ascii ")" ++ rest) ≡ literal_text (Negative g outsized) ++ rest = simp append_assoc in
    ap (λ (t : List ℕ). run t (at s literal)) (sym m)
    ∙ rw p (run_on (decimal g) (ascii ")" ++ rest) (at s (number negative none)) _ (run_number g s negative))

-- literals as they are counted
abbrev pub counted_literals : List Literal → List Literal
counted_literals ls = map (capped_literal most_number) ls

-- a rule behind which a line begins
abbrev ruled : State → List Literal → State
ruled s b = lines s.tables (push s.rules (record { head = s.rule.head; body = b })) (record { head = s.rule.head; body = b })

run_more : (s : State) (ls : List Literal) → Each PlainLiteral ls
    → run (more_text ls ++ ascii ".\n") (at s behind) ≡ some (ruled s (s.rule.body ++ counted_literals ls))
run_more s [] p = ap (λ (b : List Literal). some (ruled s b)) (sym (append-nil s.rule.body))
run_more s (l ∷ ls) p =
    let m : (ascii ", " ++ (literal_text l ++ more_text ls)) ++ ascii ".\n"
    ≡ ascii ", " ++ (literal_text l ++ (more_text ls ++ ascii ".\n"))
    = simp append_assoc in
    ap (λ (t : List ℕ). run t (at s behind)) m
    ∙ literal_read s l p.0 ls
    ∙ run_more (with_literal s (capped_literal most_number l)) ls p.1
    ∙ ap (λ (b : List Literal). some (ruled s b)) (append_assoc s.rule.body (capped_literal most_number l ∷ []) (counted_literals ls))

-- behind a head that fits
head_step : (s : State) (h b : ℕ) → h < s.tables → s.rule.head ≤ h → is_digit b ≡ false
    → step_at s (number head (some h)) b ≡ behind_head (with_head s h) b
head_step s h b lt le e =
    ap (λ (c : Bool). elim c [ true ↦ with_digit s head (more_digits (some h) (b - 48)) | false ↦ ends_if s head (some h) b ]) e
    ∙ ap (λ (c : Bool). elim c [ true ↦ behind_head (with_head s h) b | false ↦ none ])
    (both_and (lt-ltb h s.tables lt) (le-leb s.rule.head h le))

head_then : (n : ℕ) (rs : List Rule) (last : Rule) (h : ℕ) → h < n → last.head ≤ h → (b : ℕ) (bs : List ℕ) → is_digit b ≡ false
    → run (b ∷ bs) (at (lines n rs last) (number head (some h)))
    ≡ elim (behind_head (lines n rs (record { head = h; body = [] })) b) [ none ↦ none | some z ↦ run bs z ]
head_then n rs last h lt le b bs e =
    ap (λ (o : Option State). elim o [ none ↦ none | some z ↦ run bs z ])
    (head_step (at (lines n rs last) (number head (some h))) h b lt le e)

run_body : (n : ℕ) (rs : List Rule) (last : Rule) (h : ℕ) (ls : List Literal) → h < n → last.head ≤ h → Each PlainLiteral ls
    → run (body_text ls ++ ascii ".\n") (at (lines n rs last) (number head (some h)))
    ≡ some (lines n (push rs (record { head = h; body = counted_literals ls })) (record { head = h; body = counted_literals ls }))
run_body n rs last h [] lt le p = head_then n rs last h lt le 0x2E (ascii "\n") refl
run_body n rs last h (l ∷ ls) lt le p =
    let m : (ascii " :- " ++ (literal_text l ++ more_text ls)) ++ ascii ".\n"
    ≡ ascii " :- " ++ (literal_text l ++ (more_text ls ++ ascii ".\n"))
    = simp append_assoc in
    let s : State = lines n rs (record { head = h; body = [] }) in
    ap (λ (t : List ℕ). run t (at (lines n rs last) (number head (some h)))) m
    ∙ head_then n rs last h lt le 0x20 (ascii ":- " ++ (literal_text l ++ (more_text ls ++ ascii ".\n"))) refl
    ∙ literal_read s l p.0 ls
    ∙ run_more (with_literal s (capped_literal most_number l)) ls p.1

run_rule : (n : ℕ) (rs : List Rule) (last r : Rule) → n ≤ most_number → r.head < n → last.head ≤ r.head → BareRule r
    → run (rule_line r) (lines n rs last) ≡ some (lines n (push rs (capped_rule most_number r)) (capped_rule most_number r))
run_rule n rs last r few lt le p =
    both (decimal r.head) (body_text r.body ++ ascii ".\n")
    (at (lines n rs last) (number head none)) (at (lines n rs last) (number head (some r.head)))
    (run_small r.head (omega arith) (lines n rs last) head)
    (run_body n rs last r.head r.body lt le p)

-- Rules, one behind the other.

run_rules : (n : ℕ) (rs done : List Rule) (last : Rule) → n ≤ most_number → Ordered n last.head rs → All BareRule rs
    → (r : Rule) × (run (rule_lines rs) (lines n done last) ≡ some (lines n (done ++ counted_rules rs) r))
run_rules n [] done last few o p = (last, ap (λ (d : List Rule). some (lines n d last)) (sym (append-nil done)))
run_rules n (r ∷ rs) done last few (and_rule le lt o) p =
    let q = capped_rule most_number r in
    let k = run_rules n rs (push done q) q few o (all_rest p) in (
      k.0,
      both (rule_line r) (rule_lines rs) (lines n done last) (lines n (push done q) q)
          (run_rule n done last r few lt le (all_first p)) k.1
          ∙ ap (λ (d : List Rule). some (lines n d k.0)) (append_assoc done (q ∷ []) (counted_rules rs)),
    )

pub text_counted : (n : ℕ) (rs : List Rule) → n < most_number → Ordered n 0 rs → All BareRule rs
    → (r : Rule) × (parse (text_of n rs) ≡ some (lines n (counted_rules rs) r))
text_counted n rs lt o p =
    let k = run_rules n rs [] (record { head = 0; body = [] }) (omega arith) o p in (
      k.0,
      ap ended (both (table_lines n) (rule_lines rs) start (lines n [] (record { head = 0; body = [] }))
          (run_tables n (record { head = 0; body = [] }) lt) k.1),
    )

-- as these rules themselves, if their numbers are small
pub text_parsed : (n : ℕ) (rs : List Rule) → n < most_number → Ordered n 0 rs → All BareRule rs → All SmallRule rs
    → (r : Rule) × (parse (text_of n rs) ≡ some (lines n rs r))
text_parsed n rs lt o p small =
    let k = text_counted n rs lt o p in
    (k.0, k.1 ∙ ap (λ (qs : List Rule). some (lines n qs k.0)) (rules_same most_number rs small))

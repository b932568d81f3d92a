-- What the proofs of the export cite: texts put down one after the other are the book's lines, a lemma for each way out of each function
-- and each turn of a loop. Assumes nothing.
use Rattle.std.specs.Prelude.{Ok, Err}
use Rattle.std.specs.declared.option.Option as found
use Prim.Native.Nat.{ℕ, zero, suc, ◌+◌, ◌-◌, ◌<◌, ◌≤◌}
use native.Mathlib.Omega.{arith}
use mathlib.Core.Bool.{Bool, true, false}
use mathlib.Core.Path.{◌≡◌, refl, sym, ap, ap₂, ◌∙◌}
use mathlib.Core.Option.{Option}
use mathlib.Core.List.{List, [], ◌∷◌, ◌++◌, append_assoc}
use lib.ListN.{take}
use Rattle.laws.specs.Spans.{span}
use Rattle.laws.proofs.Spans.{length_span, span_left, span_done}
use Rattle.definitions.specs.Text.{ascii, decimal}
use Rattle.definitions.specs.Refusal.{Refusable}
use Rattle.definitions.specs.Book as said
use Rattle.sizes.specs.Limits.{read_ahead}
use Rattle.definitions.specs.Book.{bit0, bit1}
use Rattle.papers.specs.Xsb.{Rule, rules_of_goal, rules_from, literal_text, more_text, body_text, rule_line, rule_lines, table_line}
use Rattle.papers.specs.Xsb.{table_lines, export, export_at_desk, check_export}
use Rattle.papers.specs.NotPlain.{Place}
use Rattle.definitions.proofs.Desk.{desk_take}
use Rattle.pen.specs.Pen.{Pen, put_all}
use Rattle.pen.specs.Refusals.{refusal_lines}
use Rattle.places.specs.Words.{place_line}
use Rattle.pen.proofs.Putting.{put_all_append, put_two, put_nothing, put_left, put_ended}
use Rattle.book.specs.declared.Book.{Book}
use Rattle.book.specs.declared.Literal.{Literal}
use Rattle.book.specs.declared.refusal.Refusal.{Refusal}
use Rattle.book.specs.Refusals.{number}
use Rattle.book.specs.Access.{entry, literal_read}
use Rattle.book.specs.View.{meant, signed, wanted, bit2, goal_viewed, view, Sound, Gives}
use Rattle.book.specs.Repeats.{lent_by, clause_read}
use Rattle.book.proofs.TwiceInBook.{goal_shown}
use Rattle.paper_checks.specs.declared.NotPlain.{NotPlain}
use Rattle.paper_checks.specs.Paper.{plain_paper}
use Rattle.paper_checks.specs.Places.{numbers, place_seen}
use Rattle.paper_checks.proofs.Papers.{of_paper, export_in, export_of_paper}
use Rattle.paper_checks.proofs.Tested.{place_by}
use Rattle.xsb_export.specs.Exporting.{lines_of, exported, literal_said, rule_read}

-- The table lines.

pub table_said : (g : ℕ) (p q r : Pen) → q ≡ put_all (ascii ":- table g" ++ decimal g) p → r ≡ put_all (ascii "/0.\n") q
    → r ≡ put_all (table_line g) p
table_said g p q r e f = put_two (ascii ":- table g" ++ decimal g) (ascii "/0.\n") p q r e f

pub tables_next : (g : ℕ) (p : Pen) → put_all (table_lines (g + 1)) p ≡ put_all (table_line g) (put_all (table_lines g) p)
tables_next g p =
    let one : g + 1 ≡ suc g = omega arith in
    ap (λ (n : ℕ). put_all (table_lines n) p) one ∙ put_all_append (table_lines g) (table_line g) p

-- A literal.

module _ (l : Literal) where
  abbrev text_by : Bool → List ℕ
  text_by negative = literal_text (signed negative l.goal (wanted (bit2 l.kind) l.want l.high) (bit0 l.kind))

  pub not_said : (n : Bool) (p q r : Pen) → n ≡ bit1 l.kind → n ≡ true → q ≡ put_all (ascii "tnot(g" ++ decimal l.goal) p
      → r ≡ put_all (ascii ")") q → r ≡ put_all (literal_text (meant l)) p
  not_said n p q r e t f g =
      put_two (ascii "tnot(g" ++ decimal l.goal) (ascii ")") p q r f g ∙ ap (λ (b : Bool). put_all (text_by b) p) (sym t ∙ e)

  pub positive_said : (n : Bool) (p q : Pen) → n ≡ bit1 l.kind → n ≡ false → q ≡ put_all (ascii "g" ++ decimal l.goal) p
      → q ≡ put_all (literal_text (meant l)) p
  positive_said n p q e t f = f ∙ ap (λ (b : Bool). put_all (text_by b) p) (sym t ∙ e)

-- The literals of a clause.

module _ (b : Book) (c : ℕ) where
  -- what is left to say at place j of n, behind the first
  abbrev pub more_left : (n j : ℕ) → List ℕ
  more_left n j = more_text (span (literal_said b c) j (n - j))

  pub more_step : (n j : ℕ) (l : Literal) (p q r start : Pen) → j < n → put_all (more_left n j) p ≡ put_all (more_left n 1) start
      → q ≡ put_all (ascii ", ") p → l ≡ literal_read b.literal_kind b.literal_goal b.literal_want c j
      → r ≡ put_all (literal_text (meant l)) q
      → put_all (more_left n (j + 1)) r ≡ put_all (more_left n 1) start
  more_step n j l p q r start h i e m f =
      let here = literal_text (literal_said b c j) in
      let rest = more_left n (j + 1) in
      put_left here rest q r (f ∙ ap (λ (x : Literal). put_all (literal_text (meant x)) q) m) ∙ put_left (ascii ", ") (here ++ rest) p q e
      ∙ ap (λ (ls : List said.Literal). put_all (more_text ls) p) (sym (span_left (literal_said b c) j n j h)) ∙ i

  pub more_said : (n j : ℕ) (p q : Pen) → n ≤ j → put_all (more_left n j) q ≡ put_all (more_left n 1) p
      → q ≡ put_all (more_text (span (literal_said b c) 1 (n - 1))) p
  more_said n j p q h i =
      put_ended (more_left n j) (more_left n 1) p q (ap more_text (span_done (literal_said b c) j n j h)) i

module _ (b : Book) (c count : ℕ) (counted : count ≡ entry 256 b.clause_len c) where
  abbrev text_of_first : ℕ → List ℕ
  text_of_first n = body_text (span (literal_said b c) 0 n)

  pub fact_said : (p : Pen) → count ≡ 0 → p ≡ put_all (body_text (clause_read (lent_by b) c).literals) p
  fact_said p z = sym (put_nothing p) ∙ ap (λ (n : ℕ). put_all (text_of_first n) p) (sym z ∙ counted)

  pub body_said : (l : Literal) (p q r s : Pen) → (count ≡ 0 → ⊥) → q ≡ put_all (ascii " :- ") p
      → l ≡ literal_read b.literal_kind b.literal_goal b.literal_want c 0
      → r ≡ put_all (literal_text (meant l)) q → s ≡ put_all (more_text (span (literal_said b c) 1 (count - 1))) r
      → s ≡ put_all (body_text (clause_read (lent_by b) c).literals) p
  body_said l p q r s some e m f g =
      let first = literal_text (literal_said b c 0) in
      let rest = more_text (span (literal_said b c) 1 (count - 1)) in
      let all : suc (count - 1) ≡ count = omega arith in
      put_two (ascii " :- ") (first ++ rest) p q s e
      (put_two first rest q r s (f ∙ ap (λ (x : Literal). put_all (literal_text (meant x)) q) m) g)
      ∙ ap (λ (n : ℕ). put_all (text_of_first n) p) (all ∙ counted)

-- A rule's line, and those of a goal's clauses.

pub rule_said : (rule : Rule) (p q r s : Pen) → q ≡ put_all (ascii "g" ++ decimal rule.head) p
    → r ≡ put_all (body_text rule.body) q → s ≡ put_all (ascii ".\n") r → s ≡ put_all (rule_line rule) p
rule_said rule p q r s e f g =
    put_two (ascii "g" ++ decimal rule.head) (body_text rule.body ++ ascii ".\n") p q s e
    (put_two (body_text rule.body) (ascii ".\n") q r s f g)

-- what is left to say of n rules from s on, k of them in
abbrev pub rules_left : (ℕ → Rule) → (s n k : ℕ) → List ℕ
rules_left f s n k = rule_lines (span f (s + k) (n - k))

pub rules_step : (f : ℕ → Rule) (s n k : ℕ) (p q start : Pen) → k < n
    → put_all (rules_left f s n k) p ≡ put_all (rules_left f s n 0) start → q ≡ put_all (rule_line (f (s + k))) p
    → put_all (rules_left f s n (k + 1)) q ≡ put_all (rules_left f s n 0) start
rules_step f s n k p q start h i e =
    let next : s + (k + 1) ≡ s + k + 1 = omega arith in
    let rest = rule_lines (span f (s + k + 1) (n - (k + 1))) in
    ap (λ (m : ℕ). put_all (rule_lines (span f m (n - (k + 1)))) q) next
    ∙ put_left (rule_line (f (s + k))) rest p q e
    ∙ ap (λ (rs : List Rule). put_all (rule_lines rs) p) (sym (span_left f (s + k) n k h)) ∙ i

pub rules_said : (f : ℕ → Rule) (s n k : ℕ) (p q : Pen) → n ≤ k
    → put_all (rules_left f s n k) q ≡ put_all (rules_left f s n 0) p → q ≡ put_all (rule_lines (span f s n)) p
rules_said f s n k p q h i =
    let start : s + 0 ≡ s = omega arith in
    let whole : n - 0 ≡ n = omega arith in
    put_ended (rules_left f s n k) (rules_left f s n 0) p q (ap rule_lines (span_done f (s + k) n k h)) i
    ∙ ap₂ (λ (m t : ℕ). put_all (rule_lines (span f m t)) p) start whole

-- The goals.

lines_append : (a b : List Rule) → rule_lines (a ++ b) ≡ rule_lines a ++ rule_lines b
lines_append [] b = refl
lines_append (r ∷ a) b =
    ap (λ (l : List ℕ). rule_line r ++ l) (lines_append a b) ∙ sym (append_assoc (rule_line r) (rule_lines a) (rule_lines b))

-- the rules of a goal, by the arrays
read_rules : (b : Book) (g s n : ℕ) → rules_of_goal g (span (clause_read (lent_by b)) s n) ≡ span (rule_read b g) s n
read_rules b g s zero = refl
read_rules b g s (suc n) = ap (λ (rs : List Rule). rule_read b g s ∷ rs) (read_rules b g (suc s) n)

module _ (b : Book) where
  -- what is left to say at goal g
  abbrev pub goals_left : ℕ → List ℕ
  goals_left g = rule_lines (rules_from g (span (goal_viewed b) g (b.goals - g)))

  abbrev rules_at : (g s n : ℕ) → List Rule
  rules_at g s n = span (rule_read b g) s n

  goals_next : Sound b → (g first count : ℕ) → g < b.goals → first ≡ entry 64 b.goal_first g → count ≡ entry 64 b.goal_len g
      → goals_left g ≡ rule_lines (rules_at g first count) ++ goals_left (g + 1)
  goals_next s g first count h hf hc =
      let one : suc g ≡ g + 1 = omega arith in
      let rest = rules_from (suc g) (span (goal_viewed b) (g + 1) (b.goals - (g + 1))) in
      ap (λ (gs : List said.Goal). rule_lines (rules_from g gs)) (span_left (goal_viewed b) g b.goals g h)
      ∙ lines_append (rules_of_goal g (goal_viewed b g).clauses) rest
      ∙ ap (λ (cs : List said.Clause). rule_lines (rules_of_goal g cs) ++ rule_lines rest) (sym (goal_shown b s g first count h hf hc))
      ∙ ap (λ (rs : List Rule). rule_lines rs ++ rule_lines rest) (read_rules b g first count)
      ∙ ap (λ (m : ℕ). rule_lines (rules_at g first count) ++ rule_lines
      (rules_from m (span (goal_viewed b) (g + 1) (b.goals - (g + 1))))) one

  pub goals_step : Sound b → (g first count : ℕ) (p q start : Pen) → g < b.goals → first ≡ entry 64 b.goal_first g
      → count ≡ entry 64 b.goal_len g → put_all (goals_left g) p ≡ put_all (goals_left 0) start
      → q ≡ put_all (rule_lines (rules_at g first count)) p → put_all (goals_left (g + 1)) q ≡ put_all (goals_left 0) start
  goals_step s g first count p q start h hf hc i e =
      put_left (rule_lines (rules_at g first count)) (goals_left (g + 1)) p q e
      ∙ ap (λ (w : List ℕ). put_all w p) (sym (goals_next s g first count h hf hc)) ∙ i

  pub goals_said : (g : ℕ) (p q : Pen) → b.goals ≤ g → put_all (goals_left g) q ≡ put_all (goals_left 0) p
      → q ≡ put_all (rule_lines (rules_from 0 (view b))) p
  goals_said g p q h i =
      let whole : b.goals - 0 ≡ b.goals = omega arith in
      put_ended (goals_left g) (goals_left 0) p q
      (ap (λ (gs : List said.Goal). rule_lines (rules_from g gs)) (span_done (goal_viewed b) g b.goals g h)) i
      ∙ ap (λ (n : ℕ). put_all (rule_lines (rules_from 0 (span (goal_viewed b) 0 n))) p) whole

  pub text_said : (p q r : Pen) → q ≡ put_all (table_lines b.goals) p → r ≡ put_all (rule_lines (rules_from 0 (view b))) q
      → r ≡ put_all (export (view b)) p
  text_said p q r e f =
      put_two (table_lines b.goals) (rule_lines (rules_from 0 (view b))) p q r e f
      ∙ ap (λ (n : ℕ). put_all (table_lines n ++ rule_lines (rules_from 0 (view b))) p) (sym (length_span (goal_viewed b) 0 b.goals))

-- The lines of a refusal.

pub refusal_said : (n k : ℕ) (o : Option Place) (at : found.Option NotPlain) (p q r : Pen) → k ≡ n → q ≡ put_all (refusal_lines k) p
    → at ≡ numbers o → r ≡ put_all (place_line (place_seen at)) q → r ≡ put_all (lines_of n o) p
refusal_said n k o at p q r is e f g =
    put_two (refusal_lines k) (place_line o) p q r e (g ∙ ap (λ (x : Option Place). put_all (place_line x) q) (place_by o at f))
    ∙ ap (λ (m : ℕ). put_all (lines_of m o) p) is

-- The export.

module _ (bytes : List ℕ) (place : Option Place) (out told : Pen) where
  pub refused_exported : (e : Refusal) (q : Pen) → Gives (plain_paper bytes) (Err e) → q ≡ put_all (lines_of (number e) place) told
      → ◌≡◌ {A = ℕ × Pen × Pen} (number e, out, q) (exported (check_export bytes) place out told)
  refused_exported e q given f =
      ap (λ (x : Pen). (number e, out, x)) f
      ∙ ap (λ (x : Refusable (List ℕ)). exported x place out told)
      (sym (export_of_paper bytes ∙ ap (of_paper export_in) (sym given.means)))

  pub book_exported : (b : Book) (q : Pen) → Gives (plain_paper bytes) (Ok b) → q ≡ put_all (export (view b)) out
      → ◌≡◌ {A = ℕ × Pen × Pen} (0, q, told) (exported (check_export bytes) place out told)
  book_exported b q given e =
      ap (λ (x : Pen). (0, x, told)) e
      ∙ ap (λ (x : Refusable (List ℕ)). exported x place out told)
      (sym (export_of_paper bytes ∙ ap (of_paper export_in) (sym given.means)))

-- what an input comes to is settled by its first bytes
pub export_take : (bytes : List ℕ) → check_export (take read_ahead bytes) ≡ check_export bytes
export_take bytes = ap export_at_desk (desk_take bytes)

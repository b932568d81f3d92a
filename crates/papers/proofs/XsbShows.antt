-- A text of the form is the text of what is read from it, but for numbers that were too large to be counted: at each place what was read so
-- far shows which bytes came.
use Prim.Native.Nat.{ℕ, suc, ◌<◌}
use native.Mathlib.Omega.{arith}
use mathlib.Core.Path.{◌≡◌, refl, sym, ap, ap₂, subst, ◌∙◌}
use mathlib.Core.Bool.{Bool, true, false, ◌&&◌, true≢false, false≢true}
use mathlib.Core.Option.{Option, none, some}
use mathlib.Core.List.{List, [], ◌∷◌, ◌++◌, map, append-nil, append_assoc, map-append}
use lib.Dec.{eqb, ltb, leb}
use borrow.Author.Tests.{eqb-true, ltb-true}
use Rattle.laws.proofs.Bools.{case_bool}
use Rattle.laws.specs.All.{All}
use Rattle.definitions.specs.Lists.{push, is_empty}
use Rattle.definitions.specs.Book.{any, Literal, Positive, Negative, goal_of}
use Rattle.definitions.specs.Text.{ascii, decimal}
use Rattle.papers.specs.Xsb.{Rule, name, literal_text, more_text, body_text, rule_line, rule_lines, table_lines, text_of}
use Rattle.papers.specs.Xsb.{most_number, counted, What, table, head, positive, negative}
use Rattle.papers.specs.Xsb.{Place, line, fixed, number, literal, behind, State, comes, at, with_head, with_literal}
use Rattle.papers.specs.Xsb.{rule_read, table_read, if_so, head_fits, behind_literal, behind_head, ends}
use Rattle.papers.specs.XsbForm.{capped_literal, capped_rule}
use Rattle.definitions.proofs.Desk.{and_both}
use Rattle.papers.proofs.XsbCapped.{capped}

-- What is read, if anything.

module _ (Q : State → Type 0) where
  abbrev pub When : Option State → Type 0
  When none = Unit {0}
  When (some s) = Q s

  pub when_so : (c : Bool) (s : State) → (c ≡ true → Q s) → When (if_so c s)
  when_so true s h = h refl
  when_so false s h = tt

-- Small numbers: those that stand for themselves.

abbrev pub Small : Literal → Type 0
Small l = goal_of l < most_number

abbrev pub SmallRule : Rule → Type 0
SmallRule r = All Small r.body

-- rules as they are read
abbrev pub counted_rules : List Rule → List Rule
counted_rules rs = capped most_number rs

pub empty_map : {A B : Type 0} (f : A → B) (l : List A) → is_empty (map f l) ≡ is_empty l
empty_map f [] = refl
empty_map f (a ∷ l) = refl

-- Text, with one more at its end.

rules_push : (rs : List Rule) (r : Rule) → rule_lines (push rs r) ≡ rule_lines rs ++ rule_line r
rules_push [] r = append-nil (rule_line r)
rules_push (q ∷ rs) r =
    ap (λ (t : List ℕ). rule_line q ++ t) (rules_push rs r) ∙ sym (append_assoc (rule_line q) (rule_lines rs) (rule_line r))

text_push : (n : ℕ) (rs : List Rule) (r : Rule) → text_of n (push rs r) ≡ text_of n rs ++ rule_line r
text_push n rs r =
    ap (λ (t : List ℕ). table_lines n ++ t) (rules_push rs r) ∙ sym (append_assoc (table_lines n) (rule_lines rs) (rule_line r))

more_push : (ls : List Literal) (l : Literal) → more_text (push ls l) ≡ more_text ls ++ (ascii ", " ++ literal_text l)
more_push [] l = ap (λ (t : List ℕ). ascii ", " ++ t) (append-nil (literal_text l))
more_push (m ∷ ls) l =
    ap (λ (t : List ℕ). ascii ", " ++ (literal_text m ++ t)) (more_push ls l)
    ∙ ap (λ (t : List ℕ). ascii ", " ++ t) (sym (append_assoc (literal_text m) (more_text ls) (ascii ", " ++ literal_text l)))

-- up to where the next literal begins
abbrev pub opened : List Literal → List ℕ
opened [] = ascii " :- "
opened (l ∷ ls) = body_text (l ∷ ls) ++ ascii ", "

body_push : (ls : List Literal) (l : Literal) → body_text (push ls l) ≡ opened ls ++ literal_text l
body_push [] l = ap (λ (t : List ℕ). ascii " :- " ++ t) (append-nil (literal_text l))
body_push (m ∷ ls) l =
    let x : more_text (push ls l) ≡ more_text ls ++ (ascii ", " ++ literal_text l) = more_push ls l in
    let y : literal_text m ++ (more_text ls ++ (ascii ", " ++ literal_text l))
    ≡ ((literal_text m ++ more_text ls) ++ ascii ", ") ++ literal_text l
    = simp append_assoc in
    ap (λ (t : List ℕ). ascii " :- " ++ t) (ap (λ (t : List ℕ). literal_text m ++ t) x ∙ y)

opened_is : (ls : List Literal) → is_empty ls ≡ false → opened ls ≡ body_text ls ++ ascii ", "
opened_is [] e = absurd (true≢false e)
opened_is (l ∷ ls) e = refl

push_some : (ls : List Literal) (l : Literal) → is_empty (push ls l) ≡ false
push_some [] l = refl
push_some (m ∷ ls) l = refl

-- What came, by the place, where these rules are written: their numbers may be larger than those that are read.

module _ (n : ℕ) (rs : List Rule) (r : Rule) where
  -- before the digits of a number
  abbrev pub Before : What → List ℕ → Type 0
  Before table t = (is_empty rs ≡ true) × (text_of n rs ++ ascii ":- table g" ≡ t)
  Before head t = text_of n rs ++ ascii "g" ≡ t
  Before positive t = text_of n rs ++ (name r.head ++ (opened r.body ++ ascii "g")) ≡ t
  Before negative t = text_of n rs ++ (name r.head ++ (opened r.body ++ ascii "tnot(g")) ≡ t

  -- behind the digits, by what they are counted as
  pub record Number (w : What) (value : ℕ) (t : List ℕ) : Type 0 where
    pub written : ℕ
    pub counted_as : counted written ≡ value
    pub front : List ℕ
    pub before : Before w front
    pub digits : front ++ decimal written ≡ t

  abbrev pub Behind : List ℕ → Type 0
  Behind t = (is_empty r.body ≡ false) × (text_of n rs ++ (name r.head ++ body_text r.body) ≡ t)

  abbrev pub Shows : Place → List ℕ → Type 0
  Shows line t = text_of n rs ≡ t
  Shows (fixed b bs next) t = Shows next (t ++ (b ∷ bs))
  Shows (number w none) t = Before w t
  Shows (number w (some v)) t = Number w v t
  Shows literal t = text_of n rs ++ (name r.head ++ opened r.body) ≡ t
  Shows behind t = Behind t

  pub shows_comes : (bs : List ℕ) (next : Place) (t : List ℕ) → Shows next (t ++ bs) → Shows (comes bs next) t
  shows_comes [] next t h = subst (Shows next) (append-nil t) h
  shows_comes (b ∷ bs) next t h = h

-- these rules are written, and read as those of the state
pub record Shown (s : State) (t : List ℕ) : Type 0 where
  pub before : List Rule
  pub last : Rule
  pub rules_are : counted_rules before ≡ s.rules
  pub rule_is : capped_rule most_number last ≡ s.rule
  pub shows : Shows s.tables before last s.place t

-- of the same rules, at another place
pub shown_at : (s : State) (p q : Place) (t u : List ℕ) (k : Shown (at s p) t) → Shows s.tables k.before k.last q u
    → Shown (at s q) u
shown_at s p q t u k h =
    record { before = k.before; last = k.last; rules_are = k.rules_are; rule_is = k.rule_is; shows = h }

abbrev pub Told : State → List ℕ → Type 0
Told s t = s.tables < most_number → Shown s t

-- after one byte more
abbrev pub ToldNext : List ℕ → ℕ → State → Type 0
ToldNext t b s = Told s (push t b)

-- A byte that ends a rule, or goes on with it.

rule_shown : (n : ℕ) (rs : List Rule) (r : Rule) (t : List ℕ) → text_of n rs ++ (name r.head ++ body_text r.body) ≡ t
    → text_of n (push rs r) ≡ push t 0x2E ++ ascii "\n"
rule_shown n rs r t e =
    let front = text_of n rs in
    let m : front ++ (name r.head ++ (body_text r.body ++ ascii ".\n"))
    ≡ push (front ++ (name r.head ++ body_text r.body)) 0x2E ++ ascii "\n"
    = simp append_assoc in
    text_push n rs r ∙ m ∙ ap (λ (u : List ℕ). push u 0x2E ++ ascii "\n") e

rules_and : (rs qs : List Rule) (r q : Rule) → counted_rules rs ≡ qs → capped_rule most_number r ≡ q → counted_rules (push rs r) ≡ push qs q
rules_and rs qs r q e f = map-append (capped_rule most_number) rs (r ∷ []) ∙ ap₂ push e f

pub told_behind : (s : State) (t : List ℕ) → Told (at s behind) t → (b : ℕ) → When (ToldNext t b) (behind_literal s b)
told_behind s t h b = case_bool (When (ToldNext t b)) (eqb b 0x2E) dot other
  where
    dot : eqb b 0x2E ≡ true → ToldNext t b (rule_read s)
    dot e lt =
        let k = h lt in
        record {
          before = push k.before k.last;
          last = k.last;
          rules_are = rules_and k.before s.rules k.last s.rule k.rules_are k.rule_is;
          rule_is = k.rule_is;
          shows = rule_shown s.tables k.before k.last t k.shows.1
              ∙ ap (λ (c : ℕ). push t c ++ ascii "\n") (sym (eqb-true b 0x2E e));
        }

    on : eqb b 0x2C ≡ true → ToldNext t b (at s (comes (ascii " ") literal))
    on e lt =
        let k = h lt in
        let front = text_of s.tables k.before in
        let own = name k.last.head in
        let body = body_text k.last.body in
        let m : front ++ (own ++ (body ++ ascii ", ")) ≡ push (front ++ (own ++ body)) 0x2C ++ ascii " " = simp append_assoc in
        shown_at s behind _ t (push t b) k
        (ap (λ (u : List ℕ). front ++ (own ++ u)) (opened_is k.last.body k.shows.0)
        ∙ m
        ∙ ap (λ (u : List ℕ). push u 0x2C ++ ascii " ") k.shows.1
        ∙ ap (λ (c : ℕ). push t c ++ ascii " ") (sym (eqb-true b 0x2C e)))

    other : eqb b 0x2E ≡ false → When (ToldNext t b) (if_so (eqb b 0x2C) (at s (comes (ascii " ") literal)))
    other e = when_so (ToldNext t b) (eqb b 0x2C) _ on

-- up to the end of a head
pub record Headed (s : State) (v : ℕ) (t : List ℕ) : Type 0 where
  pub before : List Rule
  pub rules_are : counted_rules before ≡ s.rules
  pub shows : text_of s.tables before ++ name v ≡ t

told_head : (s : State) (v : ℕ) (t : List ℕ) → (s.tables < most_number → Headed s v t) → (b : ℕ)
    → When (ToldNext t b) (behind_head (with_head s v) b)
told_head s v t h b = case_bool (When (ToldNext t b)) (eqb b 0x2E) dot other
  where
    dot : eqb b 0x2E ≡ true → ToldNext t b (rule_read (with_head s v))
    dot e lt =
        let k = h lt in
        let fact : Rule = record { head = v; body = [] } in
        let m : text_of s.tables k.before ++ (name v ++ []) ≡ t
        = ap (λ (x : List ℕ). text_of s.tables k.before ++ x) (append-nil (name v)) ∙ k.shows in
        record {
          before = push k.before fact;
          last = fact;
          rules_are = rules_and k.before s.rules fact fact k.rules_are refl;
          rule_is = refl;
          shows = rule_shown s.tables k.before fact t m
              ∙ ap (λ (c : ℕ). push t c ++ ascii "\n") (sym (eqb-true b 0x2E e));
        }

    on : eqb b 0x20 ≡ true → ToldNext t b (at (with_head s v) (comes (ascii ":- ") literal))
    on e lt =
        let k = h lt in
        let m : text_of s.tables k.before ++ (name v ++ ascii " :- ")
        ≡ push (text_of s.tables k.before ++ name v) 0x20 ++ ascii ":- "
        = simp append_assoc in
        record {
          before = k.before;
          last = record { head = v; body = [] };
          rules_are = k.rules_are;
          rule_is = refl;
          shows = m ∙ ap (λ (x : List ℕ). push x 0x20 ++ ascii ":- ") k.shows
              ∙ ap (λ (c : ℕ). push t c ++ ascii ":- ") (sym (eqb-true b 0x20 e));
        }

    other : eqb b 0x2E ≡ false → When (ToldNext t b) (if_so (eqb b 0x20) (at (with_head s v) (comes (ascii ":- ") literal)))
    other e = when_so (ToldNext t b) (eqb b 0x20) _ on

-- The end of a number.

table_shown : (n : ℕ) (rs : List Rule) (u t : List ℕ) → is_empty rs ≡ true → text_of n rs ++ ascii ":- table g" ≡ u → u ++ decimal n ≡ t
    → text_of (suc n) rs ≡ push t 0x2F ++ ascii "0.\n"
table_shown n (r ∷ rs) u t e f g = absurd (false≢true e)
table_shown n [] u t e f g =
    let m : (table_lines n ++ (ascii ":- table " ++ ((ascii "g" ++ decimal n) ++ ascii "/0.\n"))) ++ []
    ≡ push (((table_lines n ++ []) ++ ascii ":- table g") ++ decimal n) 0x2F ++ ascii "0.\n"
    = simp (append_assoc, append-nil) in
    m ∙ ap (λ (x : List ℕ). push (x ++ decimal n) 0x2F ++ ascii "0.\n") f ∙ ap (λ (x : List ℕ). push x 0x2F ++ ascii "0.\n") g

counted_is : (n : ℕ) → counted n < most_number → counted n ≡ n
counted_is n h = omega arith

-- a rule with one literal more
body_and : (r q : Rule) (l : Literal) → capped_rule most_number r ≡ q
    → capped_rule most_number (record { head = r.head; body = push r.body l })
    ≡ record { head = q.head; body = push q.body (capped_literal most_number l) }
body_and r q l e =
    ap (λ (b : List Literal). record { head = r.head; body = b }) (map-append (capped_literal most_number) r.body (l ∷ []))
    ∙ ap (λ (x : Rule). record { head = x.head; body = push x.body (capped_literal most_number l) }) e

-- what the literal is counted as is read
literal_and : (r q : Rule) (l k : Literal) → capped_rule most_number r ≡ q → capped_literal most_number l ≡ k
    → capped_rule most_number (record { head = r.head; body = push r.body l }) ≡ record { head = q.head; body = push q.body k }
literal_and r q l k e f = body_and r q l e ∙ ap (λ (x : Literal). record { head = q.head; body = push q.body x }) f

pub told_ends : (s : State) (w : What) (v : ℕ) (t : List ℕ) → Told (at s (number w (some v))) t → (b : ℕ)
    → When (ToldNext t b) (ends s w v b)
told_ends s table v t h b = when_so (ToldNext t b) (eqb b 0x2F && eqb v s.tables) (table_read s) on
  where
    on : (eqb b 0x2F && eqb v s.tables) ≡ true → ToldNext t b (table_read s)
    on e lt =
        let p = and_both (eqb b 0x2F) (eqb v s.tables) e in
        let same : v ≡ s.tables = eqb-true v s.tables p.1 in
        let c = counted_is (suc s.tables) lt in
        let k = h (omega arith) in
        let d = k.shows.counted_as in
        let own : k.shows.written ≡ s.tables = omega arith in
        record {
          before = k.before;
          last = k.last;
          rules_are = k.rules_are;
          rule_is = k.rule_is;
          shows = ap (λ (m : ℕ). text_of m k.before) c
              ∙ table_shown s.tables k.before k.shows.front t k.shows.before.0 k.shows.before.1
              (subst (λ (x : ℕ). k.shows.front ++ decimal x ≡ t) own k.shows.digits)
              ∙ ap (λ (x : ℕ). push t x ++ ascii "0.\n") (sym (eqb-true b 0x2F p.0));
        }
told_ends s head v t h b = case_bool (When (ToldNext t b)) (head_fits s v) on (λ e. tt)
  where
    on : head_fits s v ≡ true → When (ToldNext t b) (behind_head (with_head s v) b)
    on e =
        let p = and_both (ltb v s.tables) (leb s.rule.head v) e in
        let lower : v < s.tables = ltb-true v s.tables p.0 in
        told_head s v t (λ lt.
        let k = h lt in
        let d = k.shows.counted_as in
        let own : k.shows.written ≡ v = omega arith in
        let m : text_of s.tables k.before ++ (ascii "g" ++ decimal v) ≡ (text_of s.tables k.before ++ ascii "g") ++ decimal v
        = simp append_assoc in
        record {
          before = k.before;
          rules_are = k.rules_are;
          shows = m ∙ ap (λ (x : List ℕ). x ++ decimal v) k.shows.before
              ∙ subst (λ (x : ℕ). k.shows.front ++ decimal x ≡ t) own k.shows.digits;
        }) b
told_ends s positive v t h b = told_behind (with_literal s (Positive v any false)) t on b
  where
    on : Told (at (with_literal s (Positive v any false)) behind) t
    on lt =
        let k = h lt in
        let x = k.shows.written in
        let front = text_of s.tables k.before in
        let own = name k.last.head in
        let body = k.last.body in
        let m : front ++ (own ++ (opened body ++ (ascii "g" ++ decimal x))) ≡ (front ++ (own ++ (opened body ++ ascii "g"))) ++ decimal x
        = simp append_assoc in
        record {
          before = k.before;
          last = record { head = k.last.head; body = push body (Positive x any false) };
          rules_are = k.rules_are;
          rule_is = literal_and k.last s.rule (Positive x any false) (Positive v any false) k.rule_is
              (ap (λ (g : ℕ). Positive g any false) k.shows.counted_as);
          shows = (
            push_some body (Positive x any false),
            ap (λ (u : List ℕ). front ++ (own ++ u)) (body_push body (Positive x any false))
                ∙ m ∙ ap (λ (u : List ℕ). u ++ decimal x) k.shows.before ∙ k.shows.digits,
          );
        }
told_ends s negative v t h b = when_so (ToldNext t b) (eqb b 0x29) _ on
  where
    on : eqb b 0x29 ≡ true → ToldNext t b (at (with_literal s (Negative v false)) behind)
    on e lt =
        let k = h lt in
        let x = k.shows.written in
        let front = text_of s.tables k.before in
        let own = name k.last.head in
        let body = k.last.body in
        let m : front ++ (own ++ (opened body ++ (ascii "tnot(" ++ ((ascii "g" ++ decimal x) ++ ascii ")"))))
        ≡ push ((front ++ (own ++ (opened body ++ ascii "tnot(g"))) ++ decimal x) 0x29
        = simp append_assoc in
        record {
          before = k.before;
          last = record { head = k.last.head; body = push body (Negative x false) };
          rules_are = k.rules_are;
          rule_is = literal_and k.last s.rule (Negative x false) (Negative v false) k.rule_is
              (ap (λ (g : ℕ). Negative g false) k.shows.counted_as);
          shows = (
            push_some body (Negative x false),
            ap (λ (u : List ℕ). front ++ (own ++ u)) (body_push body (Negative x false))
                ∙ m ∙ ap (λ (u : List ℕ). push (u ++ decimal x) 0x29) k.shows.before
                ∙ ap (λ (u : List ℕ). push u 0x29) k.shows.digits
                ∙ ap (λ (c : ℕ). push t c) (sym (eqb-true b 0x29 e)),
          );
        }

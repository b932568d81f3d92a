-- The first place that is not plain: there is one just where the book is not plain (`none_plain`, `plain_none`), and of a paper just where
-- the check says 37; it is not plain there, and plain everywhere before it (`place_first`).
use Prim.Native.Nat.{ℕ, zero, suc, ◌+◌}
use native.Mathlib.Omega.{arith}
use mathlib.Core.Path.{◌≡◌, refl, sym, ap, ap₂, subst, ◌∙◌}
use mathlib.Core.Bool.{Bool, true, false, not, ◌&&◌, true≢false}
use mathlib.Core.Option.{Option, none, some}
use mathlib.Core.List.{List, [], ◌∷◌}
use lib.Dec.{eqb}
use borrow.Author.Tests.{ne_eqb}
use Rattle.laws.proofs.Options.{no_such, same_some}
use Rattle.definitions.specs.Refusal.{Refusable, refused, accepted}
use Rattle.definitions.specs.Book.{Want, any, exactly, between, Literal, Positive, Negative, Clause, Goal, Book}
use Rattle.definitions.specs.Desk.{desk}
use Rattle.papers.specs.Levels.{each_passes, wants_any, plain_literal, plain_clause, plain_goal, is_plain}
use Rattle.papers.specs.Levels.{levels, levels_or_38, levels_at_desk, check_levels}
use Rattle.papers.specs.NotPlain.{Fault, Place, in_goal, in_clause, in_literal, or_else, flag_fault, want_fault, literal_fault}
use Rattle.papers.specs.NotPlain.{variant_fault, head_fault, goal_fault, placed, first_from, literal_place, clause_place}
use Rattle.papers.specs.NotPlain.{goal_place, first_not_plain, place_at_desk, not_plain_place, FirstOf, FirstAt}
use Rattle.definitions.proofs.Refusal.{same_refused, not_accepted}
use Rattle.papers.proofs.DeskNumbers.{Below, by_number, taken, desk_below}

module _ {A : Type 0} where
  abbrev pub is_none : Option A → Bool
  is_none none = true
  is_none (some a) = false

  none_or : (a b : Option A) → is_none (or_else a b) ≡ (is_none a && is_none b)
  none_or none b = refl
  none_or (some a) b = refl

  was_none : (o : Option A) → is_none o ≡ true → o ≡ none
  was_none none e = refl
  was_none (some a) e = absurd (true≢false (sym e))

  was_some : (o : Option A) → is_none o ≡ false → (a : A) × (o ≡ some a)
  was_some none e = absurd (true≢false e)
  was_some (some a) e = (a, refl)

-- one test, and then another
both : {a b c d : Bool} → a ≡ b → c ≡ d → (a && c) ≡ (b && d)
both e f = ap₂ ◌&&◌ e f

placed_none : (at : Fault → Place) (o : Option Fault) → is_none (placed at o) ≡ is_none o
placed_none at none = refl
placed_none at (some f) = refl

flag_none : (b : Bool) → is_none (flag_fault b) ≡ not b
flag_none true = refl
flag_none false = refl

want_none : (w : Want) → is_none (want_fault w) ≡ wants_any w
want_none any = refl
want_none (exactly v) = refl
want_none (between l m) = refl

literal_none : (l : Literal) → is_none (literal_fault l) ≡ plain_literal l
literal_none (Positive g w o) = none_or (want_fault w) (flag_fault o) ∙ both (want_none w) (flag_none o)
literal_none (Negative g o) = flag_none o

module _ {A : Type 0} (test : A → Bool) (place : ℕ → A → Option Place) (agrees : (i : ℕ) (a : A) → is_none (place i a) ≡ test a) where
  first_none : (i : ℕ) (l : List A) → is_none (first_from place i l) ≡ each_passes test l
  first_none i [] = refl
  first_none i (a ∷ l) = none_or (place i a) _ ∙ both (agrees i a) (first_none _ l)

  -- the first is somewhere in the list
  pub record Found (i : ℕ) (l : List A) (p : Place) : Type 0 where
    pub number : ℕ
    pub member : A
    pub first : FirstOf test l number member
    pub there : place (i + number) member ≡ some p

  first_found : (i : ℕ) (l : List A) (p : Place) → first_from place i l ≡ some p → Found i l p
  first_found i [] p e = absurd (no_such e)
  first_found i (a ∷ l) p e = on (place i a) refl e (λ f. first_found (suc i) l p f)
    where
      z : i + 0 ≡ i
      z = omega arith

      next : (n : ℕ) → i + suc n ≡ suc i + n
      next n = omega arith

      on : (o : Option Place) → place i a ≡ o → or_else o (first_from place (suc i) l) ≡ some p
          → (first_from place (suc i) l ≡ some p → Found (suc i) l p) → Found i (a ∷ l) p
      on (some q) h e ih = record {
        number = 0;
        member = a;
        first = record { stands = refl; pass_before = refl };
        there = ap (λ (n : ℕ). place n a) z ∙ h ∙ e;
      }
      on none h e ih =
          let f = ih e in
          record {
            number = suc f.number;
            member = f.member;
            first = record {
              stands = f.first.stands;
              pass_before = both (sym (agrees i a) ∙ ap is_none h) f.first.pass_before;
            };
            there = ap (λ (n : ℕ). place n f.member) (next f.number) ∙ f.there;
          }

  there_from_0 : (l : List A) (p : Place) (f : Found 0 l p) → place f.number f.member ≡ some p
  there_from_0 l p f =
      let z : f.number ≡ 0 + f.number = omega arith in ap (λ (n : ℕ). place n f.member) z ∙ f.there

literal_place_none : (g k j : ℕ) (l : Literal) → is_none (literal_place g k j l) ≡ plain_literal l
literal_place_none g k j l = placed_none (in_literal g k j) (literal_fault l) ∙ literal_none l

-- 38 is not 37
not_37 : (o : Option (List ℕ)) → levels_or_38 o ≡ refused 37 → ⊥
not_37 none e = omega (arith, same_refused e)
not_37 (some ls) e = not_accepted (sym e)

variant_none : (v : ℕ) → is_none (variant_fault v) ≡ eqb v 0
variant_none zero = refl
variant_none (suc v) = sym (ne_eqb (suc v) 0 (λ e. omega arith))

head_none : (c : Clause)
    → is_none (head_fault c) ≡ (eqb c.variant 0 && (not c.cannot_prove && not c.outsized))
head_none c =
    none_or (variant_fault c.variant) (or_else (flag_fault c.cannot_prove) (flag_fault c.outsized))
    ∙ both (variant_none c.variant)
    (none_or (flag_fault c.cannot_prove) (flag_fault c.outsized) ∙ both (flag_none c.cannot_prove) (flag_none c.outsized))

three_and : (a b c d : Bool) → ((a && (b && c)) && d) ≡ (a && (b && (c && d)))
three_and true true c d = refl
three_and true false c d = refl
three_and false b c d = refl

two_and : (a b c : Bool) → ((a && b) && c) ≡ (a && (b && c))
two_and true b c = refl
two_and false b c = refl

clause_none : (g k : ℕ) (c : Clause) → is_none (clause_place g k c) ≡ plain_clause c
clause_none g k c =
    none_or (placed (in_clause g k) (head_fault c)) (first_from (literal_place g k) 0 c.literals)
    ∙ both (placed_none (in_clause g k) (head_fault c) ∙ head_none c)
    (first_none plain_literal (literal_place g k) (literal_place_none g k) 0 c.literals)
    ∙ three_and (eqb c.variant 0) (not c.cannot_prove) (not c.outsized) (each_passes plain_literal c.literals)

goal_none : (g : ℕ) (h : Goal) → is_none (goal_place g h) ≡ plain_goal h
goal_none g h =
    none_or (placed (in_goal g) (goal_fault h)) (first_from (clause_place g) 0 h.clauses)
    ∙ both (placed_none (in_goal g) (goal_fault h) ∙ none_or (flag_fault h.coinductive) (flag_fault h.floundered)
    ∙ both (flag_none h.coinductive) (flag_none h.floundered))
    (first_none plain_clause (clause_place g) (clause_none g) 0 h.clauses)
    ∙ two_and (not h.coinductive) (not h.floundered) (each_passes plain_clause h.clauses)

-- THE THEOREMS

pub none_is : (book : Book) → is_none (first_not_plain book) ≡ is_plain book
none_is book = first_none plain_goal goal_place goal_none 0 book

pub none_plain : (book : Book) → first_not_plain book ≡ none → is_plain book ≡ true
none_plain book e = sym (none_is book) ∙ ap is_none e

pub plain_none : (book : Book) → is_plain book ≡ true → first_not_plain book ≡ none
plain_none book e = was_none (first_not_plain book) (none_is book ∙ e)

-- the place that is told is the first
pub place_first : (book : Book) (p : Place) → first_not_plain book ≡ some p → FirstAt book p
place_first book p e =
    let f = first_found plain_goal goal_place goal_none 0 book p e in
    in_the_goal f.number f.member f.first (goal_fault f.member) refl
    (there_from_0 plain_goal goal_place goal_none book p f)
  where
    in_the_clause : (g k : ℕ) (h : Goal) (c : Clause) → FirstOf plain_goal book g h → goal_fault h ≡ none
        → FirstOf plain_clause h.clauses k c → (o : Option Fault) → head_fault c ≡ o
        → or_else (placed (in_clause g k) o) (first_from (literal_place g k) 0 c.literals) ≡ some p → FirstAt book p
    in_the_clause g k h c x y u (some f) z e = subst (FirstAt book) (same_some e) (h, c, x, y, u, z)
    in_the_clause g k h c x y u none z e =
        let m = first_found plain_literal (literal_place g k) (literal_place_none g k) 0 c.literals p e in
        in_the_literal m.number m.member m.first (literal_fault m.member) refl
        (there_from_0 plain_literal (literal_place g k) (literal_place_none g k) c.literals p m)
      where
        in_the_literal : (j : ℕ) (l : Literal) → FirstOf plain_literal c.literals j l → (o : Option Fault) → literal_fault l ≡ o
            → placed (in_literal g k j) o ≡ some p → FirstAt book p
        in_the_literal j l v none w e = absurd (no_such e)
        in_the_literal j l v (some f) w e = subst (FirstAt book) (same_some e) (h, c, l, x, y, u, z, v, w)

    in_the_goal : (g : ℕ) (h : Goal) → FirstOf plain_goal book g h → (o : Option Fault) → goal_fault h ≡ o
        → or_else (placed (in_goal g) o) (first_from (clause_place g) 0 h.clauses) ≡ some p → FirstAt book p
    in_the_goal g h x (some f) y e = subst (FirstAt book) (same_some e) (h, x, y)
    in_the_goal g h x none y e =
        let k = first_found plain_clause (clause_place g) (clause_none g) 0 h.clauses p e in
        in_the_clause g k.number h k.member x y k.first (head_fault k.member) refl
        (there_from_0 plain_clause (clause_place g) (clause_none g) h.clauses p k)

abbrev by_test : Book → Bool → Refusable (List ℕ)
by_test book t = elim t [ false ↦ refused 37 | true ↦ levels_or_38 (levels book) ]

-- a paper has such a place just where it is refused with 37
pub place_of_37 : (bytes : List ℕ) → check_levels bytes ≡ refused 37 → (p : Place) × (not_plain_place bytes ≡ some p)
place_of_37 bytes e = on (desk bytes) (desk_below bytes) e
  where
    plain : (book : Book) (t : Bool) → is_plain book ≡ t
        → by_test book t ≡ refused 37
        → (p : Place) × (first_not_plain book ≡ some p)
    plain book false p e = was_some (first_not_plain book) (none_is book ∙ p)
    plain book true p e = absurd (not_37 (levels book) e)

    on : (d : Refusable Book) → Below d → levels_at_desk d ≡ refused 37 → (p : Place) × (place_at_desk d ≡ some p)
    on (refused n) (by_number p h) e = absurd (omega (arith, same_refused e))
    on (accepted book) taken e = plain book (is_plain book) refl e

pub no_place_but_37 : (bytes : List ℕ) → (check_levels bytes ≡ refused 37 → ⊥) → not_plain_place bytes ≡ none
no_place_but_37 bytes o = on (desk bytes) o
  where
    plain : (book : Book) (t : Bool) → is_plain book ≡ t
        → (by_test book t ≡ refused 37 → ⊥) → first_not_plain book ≡ none
    plain book false p o = absurd (o refl)
    plain book true p o = plain_none book p

    on : (d : Refusable Book) → (levels_at_desk d ≡ refused 37 → ⊥) → place_at_desk d ≡ none
    on (refused n) o = refl
    on (accepted book) o = plain book (is_plain book) refl o

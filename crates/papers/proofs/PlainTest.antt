-- `is_plain` decides `Plain`.
use mathlib.Core.Path.{◌≡◌, refl, ap}
use mathlib.Core.Bool.{Bool, true, not, false≢true}
use mathlib.Core.List.{List, [], ◌∷◌}
use lib.Dec.{eqb}
use borrow.Author.Tests.{eqb-true, eq-eqb}
use Rattle.laws.proofs.Bools.{was_false}
use Rattle.definitions.specs.Book.{Want, any, exactly, between, Literal, Positive, Negative, Clause, Goal, Book}
use Rattle.definitions.specs.Lists.{Each}
use Rattle.papers.specs.Model.{PlainLiteral, PlainClause, PlainGoal, Plain}
use Rattle.papers.specs.Levels.{each_passes, wants_any, plain_literal, plain_clause, plain_goal, is_plain}
use Rattle.definitions.proofs.Desk.{and_both, both_and}

module _ {A : Type 0} (test : A → Bool) (P : A → Type 0) where
  pub each_of : ((a : A) → test a ≡ true → P a) → (l : List A) → each_passes test l ≡ true → Each P l
  each_of f [] e = tt
  each_of f (a ∷ l) e = let x = and_both (test a) (each_passes test l) e in (f a x.0, each_of f l x.1)

  pub each_passed : ((a : A) → P a → test a ≡ true) → (l : List A) → Each P l → each_passes test l ≡ true
  each_passed f [] e = refl
  each_passed f (a ∷ l) e = both_and (f a e.0) (each_passed f l e.1)

is_any : (w : Want) → wants_any w ≡ true → w ≡ any
is_any any e = refl
is_any (exactly v) e = absurd (false≢true e)
is_any (between l m) e = absurd (false≢true e)

literal_is_plain : (l : Literal) → plain_literal l ≡ true → PlainLiteral l
literal_is_plain (Positive g w o) e = let x = and_both (wants_any w) (not o) e in (is_any w x.0, was_false o x.1)
literal_is_plain (Negative g o) e = was_false o e

literal_passes : (l : Literal) → PlainLiteral l → plain_literal l ≡ true
literal_passes (Positive g w o) p = both_and (ap wants_any p.0) (ap not p.1)
literal_passes (Negative g o) p = ap not p

clause_is_plain : (c : Clause) → plain_clause c ≡ true → PlainClause c
clause_is_plain c e =
    let x = and_both (eqb c.variant 0) _ e in
    let y = and_both (not c.cannot_prove) _ x.1 in
    let z = and_both (not c.outsized) _ y.1 in
    record {
      as_a_whole = eqb-true c.variant 0 x.0;
      provable = was_false c.cannot_prove y.0;
      small = was_false c.outsized z.0;
      literals_plain = each_of plain_literal PlainLiteral literal_is_plain c.literals z.1;
    }

clause_passes : (c : Clause) → PlainClause c → plain_clause c ≡ true
clause_passes c p =
    both_and (eq-eqb c.variant 0 p.as_a_whole) (both_and (ap not p.provable) (both_and (ap not p.small)
    (each_passed plain_literal PlainLiteral literal_passes c.literals p.literals_plain)))

goal_is_plain : (g : Goal) → plain_goal g ≡ true → PlainGoal g
goal_is_plain g e =
    let x = and_both (not g.coinductive) _ e in
    let y = and_both (not g.floundered) _ x.1 in
    record {
      inductive = was_false g.coinductive x.0;
      unfloundered = was_false g.floundered y.0;
      clauses_plain = each_of plain_clause PlainClause clause_is_plain g.clauses y.1;
    }

goal_passes : (g : Goal) → PlainGoal g → plain_goal g ≡ true
goal_passes g p =
    both_and (ap not p.inductive) (both_and (ap not p.unfloundered)
    (each_passed plain_clause PlainClause clause_passes g.clauses p.clauses_plain))

pub plain_is : (book : Book) → is_plain book ≡ true → Plain book
plain_is book e = each_of plain_goal PlainGoal goal_is_plain book e

pub is_plain_of : (book : Book) → Plain book → is_plain book ≡ true
is_plain_of book p = each_passed plain_goal PlainGoal goal_passes book p

-- A plain book that is read is sound: its literals name goals of it.
use Prim.Native.Nat.{ℕ, zero, suc, ◌<◌}
use native.Mathlib.Omega.{arith}
use borrow.Author.Tests.{leb-true}
use mathlib.Core.Path.{◌≡◌, refl, subst}
use mathlib.Core.Bool.{true}
use mathlib.Core.Option.{some}
use mathlib.Core.List.{List, [], ◌∷◌, ◌++◌}
use lib.ListN.{length, get_elem?}
use lib.Dec.{ltb}
use Rattle.definitions.specs.Book.{Book, Goal, Clause, Literal, Positive, Negative, goal_of, literals_name, clauses_name, goals_name}
use Rattle.definitions.specs.Lists.{Each}
use Rattle.papers.specs.Model.{Plain, PlainGoal}
use Rattle.laws.proofs.Options.{no_such, same_some}
use Rattle.laws.proofs.Bools.{both_true}
use Rattle.definitions.proofs.ReadLimits.{Good}
use Rattle.promises.proofs.Plain.Model.{Lit, Body, literal_goal}
use Rattle.promises.proofs.Link.View.{Names, names, names_end}
use Rattle.promises.proofs.Link.Tables.{lit, body_of}
use Rattle.promises.proofs.Link.Making.{Sound}

names_last : (n : ℕ) (b : Body) (l : Lit) → Names n b → literal_goal l < n → Names n (b ++ (l ∷ []))
names_last n b l names_end x = names x names_end
names_last n b l (names {b = b'} y ys) x = names y (names_last n b' l ys x)

goal_lit : (l : Literal) → literal_goal (lit l) ≡ goal_of l
goal_lit (Positive g w o) = refl
goal_lit (Negative g o) = refl

body_names : (n : ℕ) (ls : List Literal) → literals_name n ls ≡ true → Names n (body_of ls)
body_names n [] e = names_end
body_names n (l ∷ ls) e =
    let x = both_true (ltb (goal_of l) n) (literals_name n ls) e in
    let y = leb-true (suc (goal_of l)) n x.0 in
    let z = goal_lit l in
    names_last n (body_of ls) (lit l) (body_names n ls x.1) (omega arith)

clauses_names : (n : ℕ) (cs : List Clause) → clauses_name n cs ≡ true → Each (λ c. Names n (body_of c.literals)) cs
clauses_names n [] e = tt
clauses_names n (c ∷ cs) e = let x = both_true (literals_name n c.literals) (clauses_name n cs) e in
    (body_names n c.literals x.0, clauses_names n cs x.1)

goals_names : (n : ℕ) (gs : List Goal) → goals_name n gs ≡ true → (g : ℕ) (G : Goal) → get_elem? gs g ≡ some G
    → Each (λ c. Names n (body_of c.literals)) G.clauses
goals_names n [] e g G k = absurd (no_such k)
goals_names n (H ∷ gs) e zero G k = subst (λ (z : Goal). Each (λ c. Names n (body_of c.literals)) z.clauses) (same_some k)
    (clauses_names n H.clauses (both_true (clauses_name n H.clauses) (goals_name n gs) e).0)
goals_names n (H ∷ gs) e (suc g) G k = goals_names n gs (both_true (clauses_name n H.clauses) (goals_name n gs) e).1 g G k

pub plain_at : (book : Book) → Plain book → (g : ℕ) (G : Goal) → get_elem? book g ≡ some G → PlainGoal G
plain_at [] p g G k = absurd (no_such k)
plain_at (H ∷ book) p zero G k = subst PlainGoal (same_some k) p.0
plain_at (H ∷ book) p (suc g) G k = plain_at book p.1 g G k

pub good_sound : (book : Book) → Good book → Plain book → Sound book
good_sound book g p = record { plain = plain_at book p; names = goals_names (length book) book g.named; few_goals = g.small.few_goals }

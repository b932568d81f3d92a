-- A forest that is made is sound: the literals of a book that is read name goals of it, and the clock's limit is in range. So is one with a
-- book without goals.
use Prim.Native.Nat.{ℕ, suc, ◌≤◌, ◌<◌}
use native.Mathlib.Omega.{arith}
use borrow.Author.Tests.{leb-true, leb-false}
use mathlib.Core.Path.{◌≡◌, refl, subst}
use mathlib.Core.Bool.{true, ◌||◌}
use mathlib.Core.List.{List, [], ◌∷◌}
use lib.ListN.{length}
use lib.Dec.{eqb, leb, ltb}
use Rattle.definitions.specs.{MAX}
use Rattle.definitions.specs.Refusal.{Refusable, refused, accepted, ◌refuses◌, unless}
use Rattle.definitions.specs.Book.{Book, Goal, Clause, Literal, goal_of, literals_name, clauses_name, goals_name, read}
use Rattle.definitions.specs.Tables.{Forest}
use Rattle.definitions.specs.Forest.{make}
use Rattle.definitions.proofs.Refusal.{not_accepted, all_pass}
use Rattle.laws.proofs.Options.{no_such}
use Rattle.definitions.proofs.ReadLimits.{book_good, Few, FewLiterals, book_few}
use Rattle.laws.proofs.Bools.{both_true, both_false}
use Rattle.laws.specs.All.{All, end, more}
use Rattle.laws.proofs.All.{all_first, all_rest}
use Rattle.asserts.specs.Sound.{Named, SoundBook, SoundForest}

literals_named : (n : ℕ) (ls : List Literal) → literals_name n ls ≡ true → All (Named n) ls
literals_named n [] e = end
literals_named n (l ∷ ls) e = let x = both_true (ltb (goal_of l) n) (literals_name n ls) e in
    more (leb-true (suc (goal_of l)) n x.0) (literals_named n ls x.1)

clauses_named : (n : ℕ) (cs : List Clause) → clauses_name n cs ≡ true → Few cs
    → All (λ c. All (Named n) c.literals × (length c.literals ≤ 8)) cs
clauses_named n [] e w = end
clauses_named n (c ∷ cs) e w = let x = both_true (literals_name n c.literals) (clauses_name n cs) e in
    more (literals_named n c.literals x.0, all_first w) (clauses_named n cs x.1 (all_rest w))

goals_named : (n : ℕ) (gs : List Goal) → goals_name n gs ≡ true → FewLiterals gs → SoundBook n gs
goals_named n [] e w = end
goals_named n (g ∷ gs) e w = let x = both_true (clauses_name n g.clauses) (goals_name n gs) e in
    more (clauses_named n g.clauses x.0 (all_first w)) (goals_named n gs x.1 (all_rest w))

-- a forest with a book and nothing else
abbrev pub bare : Book → (limit mark : ℕ) → Forest
bare book limit mark = record { book = book; clock_limit = limit; mark = mark; tables = []; clock = 0 }

pub bare_sound : (book : Book) (limit mark : ℕ) → length book ≤ 64 → SoundBook (length book) book → limit < MAX
    → SoundForest (length book) (bare book limit mark)
bare_sound book limit mark few named low = record {
  goals = refl;
  few_goals = few;
  as_goals = end;
  tables_apart = λ i j t u e. absurd (no_such e);
  sound_book = named;
  sound_tables = end;
  few_answers = omega arith;
  few_strands = omega arith;
  clock_within = omega arith;
  limit_within = low;
}

pub made_sound : (bytes : List ℕ) (limit : ℕ) (f : Forest) → make bytes limit ≡ accepted f → SoundForest (length f.book) f
made_sound bytes limit f e = on (read bytes) refl e
  where
    on : (r : Refusable Book) → read bytes ≡ r → elim r [
      | refused n ↦ refused n
      | accepted book ↦ unless ((eqb limit 0 || leb MAX limit) refuses 13 ∷ []) (bare book limit 0)
    ] ≡ accepted f → SoundForest (length f.book) f
    on (refused n) k e = absurd (not_accepted e)
    on (accepted book) k e =
        let g = book_good bytes book k in
        let a = all_pass ((eqb limit 0 || leb MAX limit) refuses 13 ∷ []) (bare book limit 0) f e in
        subst (λ z. SoundForest (length z.book) z) a.1 (bare_sound book limit 0 g.small.few_goals
        (goals_named (length book) book g.named (book_few bytes book k))
        (leb-false MAX limit (both_false (eqb limit 0) (leb MAX limit) a.0.0).1))

-- A book of capped numbers is within what the bytes can say.
use Prim.Native.Nat.{ℕ, zero, suc, ◌<◌, min}
use native.Mathlib.Omega.{arith}
use mathlib.Core.Path.{◌≡◌, sym, subst}
use mathlib.Core.Bool.{Bool, true, false}
use mathlib.Core.List.{List, [], ◌∷◌, map}
use lib.Dec.{eqb}
use lib.ListN.{length, length-map}
use borrow.Author.Tests.{ltb-false}
use Rattle.laws.proofs.Bools.{both_false}
use Rattle.laws.specs.All.{All, more}
use Rattle.definitions.specs.Lists.{any_passes, Each}
use Rattle.definitions.specs.Book.{Literal, Positive, Negative}
use Rattle.definitions.specs.Book.{WantWithin, LiteralsWithin, ClauseWithin, ClausesWithin, GoalsWithin}
use Rattle.papers.specs.Model.{PlainLiteral}
use Rattle.papers.specs.Xsb.{Rule, clause_of, clauses_for, goals_for, is_long}
use Rattle.papers.specs.XsbForm.{BareRule}
use Rattle.xsb_import.specs.Keeping.{capped_literal, capped_rule}

literals_within : (ls : List Literal) → Each PlainLiteral ls → LiteralsWithin 65536 (map capped_literal ls)
literals_within [] p = tt
literals_within (Positive g want o ∷ ls) p =
    let x : min g 65535 < 65536 = omega arith in
    ((x, subst WantWithin (sym p.0.0) tt), literals_within ls p.1)
literals_within (Negative g o ∷ ls) p = let x : min g 65535 < 65536 = omega arith in (x, literals_within ls p.1)

clauses_within : (g : ℕ) (rs : List Rule) → All BareRule rs → any_passes is_long rs ≡ false
    → ClausesWithin 65536 (clauses_for g (map capped_rule rs))
clauses_within g [] p e = tt
clauses_within g (r ∷ rs) (more x p) e =
    let q = both_false (is_long r) (any_passes is_long rs) e in
    let few = ltb-false 8 (length r.body) q.0 in
    let same = length-map r.body capped_literal in
    let one : ClauseWithin 65536 (clause_of (capped_rule r))
    = record { variant_fits = omega arith; few_literals = omega arith; literals_fit = literals_within r.body x } in
    on (eqb r.head g) one (clauses_within g rs p q.1)
  where
    on : (b : Bool) → ClauseWithin 65536 (clause_of (capped_rule r)) → ClausesWithin 65536 (clauses_for g (map capped_rule rs))
        → ClausesWithin 65536 (elim b [
          | true ↦ clause_of (capped_rule r) ∷ clauses_for g (map capped_rule rs)
          | false ↦ clauses_for g (map capped_rule rs)
        ])
    on true one rest = (one, rest)
    on false one rest = rest

pub goals_within : (g k : ℕ) (rs : List Rule) → All BareRule rs → any_passes is_long rs ≡ false
    → GoalsWithin 65536 (goals_for g k (map capped_rule rs))
goals_within g zero rs p e = tt
goals_within g (suc k) rs p e = (clauses_within g rs p e, goals_within (suc g) k rs p e)

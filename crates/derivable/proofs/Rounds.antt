-- Rounds compute what can be derived: what they derive can be derived (`rounds_sound`), and what a round does not change has all of it
-- (`rounds_whole`).
use Prim.Native.Nat.{ℕ, zero, suc, ◌+◌}
use native.Mathlib.Omega.{arith}
use borrow.Author.Tests.{eqb-true, eq-eqb}
use mathlib.Core.Path.{◌≡◌, refl, sym, ap, subst, ◌∙◌}
use mathlib.Core.Bool.{Bool, true, false, not, false≢true}
use mathlib.Core.Option.{some}
use mathlib.Core.List.Memᴰ
use mathlib.Core.List.{List, [], ◌∷◌, Memᴰ}
use lib.ListN.{get_elem?}
use lib.Dec.{eqb}
use Rattle.laws.specs.All.{All, end, more}
use Rattle.laws.proofs.All.{all_append}
use Rattle.laws.proofs.Bools.{was_false}
use Rattle.laws.proofs.Options.{no_such, same_some}
use Rattle.definitions.specs.Book.{Literal, Positive, Negative, Clause, Goal, Book}
use Rattle.definitions.specs.Fitting.{answer_fits}
use Rattle.papers.specs.Levels.{each_passes}
use Rattle.definitions.specs.Lists.{Each}
use Rattle.papers.specs.Derive.{Usable, Derives, derives_end, derives, Derivable}
use Rattle.definitions.proofs.Desk.{and_both, both_and}
use Rattle.definitions.proofs.Members.{each_at, all_each, passing, some_passes}
use Rattle.derivable.specs.Rounds.{literal_derived, clause_derived, clauses_derived, goal_derived, goals_derived, round, after}
use Rattle.derivable.specs.Rounds.{Pairs, Has, pair_fits, RoundsCompute}

-- SOUND. A round derives nothing that can't be derived.

abbrev DerivablePair : Book → ℕ × ℕ → Type 0
DerivablePair book p = Derivable book p.0 p.1

module _ (book : Book) where
  module _ (d : Pairs) (before : Each (DerivablePair book) d) where
    literals_sound : (ls : List Literal) → each_passes (literal_derived d) ls ≡ true → Derives book ls
    literals_sound [] e = derives_end
    literals_sound (Positive goal want true ∷ ls) e = absurd (false≢true e)
    literals_sound (Positive goal want false ∷ ls) e =
        let x = and_both _ (each_passes (literal_derived d) ls) e in
        let y = passing (pair_fits goal want) d x.0 in
        let p = y.0 in
        let z = and_both (eqb p.0 goal) _ y.2 in
        let k : Derivable book goal p.1 = subst (λ (g : ℕ). Derivable book g p.1) (eqb-true p.0 goal z.0)
        (each_at (DerivablePair book) d before p y.1) in
        derives k.0 k.1 (ap (answer_fits (Positive goal want false)) k.2 ∙ z.1) k.3 (literals_sound ls x.1)
    literals_sound (Negative goal outsized ∷ ls) e = absurd (false≢true e)

    module _ (goal : ℕ) (own : Goal) (at : get_elem? book goal ≡ some own) (fl : own.floundered ≡ false) where
      clauses_sound : (cs : List Clause) → ((c : Clause) → Memᴰ c cs → Memᴰ c own.clauses)
          → All (DerivablePair book) (clauses_derived d goal cs)
      clauses_sound [] within = end
      clauses_sound (c ∷ cs) within = on (clause_derived d c) refl (clauses_sound cs (λ k m. within k (Memᴰ.tail m)))
        where
          on : (b : Bool) → clause_derived d c ≡ b → All (DerivablePair book) (clauses_derived d goal cs)
              → All (DerivablePair book)
              (elim b [ true ↦ (goal, c.variant) ∷ clauses_derived d goal cs | false ↦ clauses_derived d goal cs ])
          on true e rest =
              let x = and_both (not c.cannot_prove) _ e in
              let y = and_both (not c.outsized) _ x.1 in
              let usable : Usable book goal c = record {
                own = own;
                is_own = at;
                unfloundered = fl;
                of_own = within c (Memᴰ.head refl);
                provable = was_false c.cannot_prove x.0;
                small = was_false c.outsized y.0;
              } in
              more (c, usable, refl, literals_sound c.literals y.1) rest
          on false e rest = rest

    goal_sound : (goal : ℕ) (own : Goal) → get_elem? book goal ≡ some own → All (DerivablePair book) (goal_derived d goal own)
    goal_sound goal own at = on own.floundered refl
      where
        on : (b : Bool) → own.floundered ≡ b
            → All (DerivablePair book) (elim b [ true ↦ [] | false ↦ clauses_derived d goal own.clauses ])
        on true e = end
        on false e = clauses_sound goal own at e own.clauses (λ c m. m)

    goals_sound : (goal : ℕ) (gs : List Goal) → ((i : ℕ) (g : Goal) → get_elem? gs i ≡ some g → get_elem? book (goal + i) ≡ some g)
        → All (DerivablePair book) (goals_derived d goal gs)
    goals_sound goal [] at = end
    goals_sound goal (g ∷ gs) at =
        let here : goal + 0 ≡ goal = omega arith in
        all_append (goal_sound goal g (subst (λ (i : ℕ). get_elem? book i ≡ some g) here (at 0 g refl)))
        (goals_sound (suc goal) gs (λ i h e.
        let there : goal + suc i ≡ suc goal + i = omega arith in
        subst (λ (k : ℕ). get_elem? book k ≡ some h) there (at (suc i) h e)))

    round_sound : All (DerivablePair book) (round book d)
    round_sound = goals_sound 0 book (λ i g e.
        let same : i ≡ 0 + i = omega arith in
        subst (λ (k : ℕ). get_elem? book k ≡ some g) same e)

  after_sound : (n : ℕ) → All (DerivablePair book) (after n book)
  after_sound zero = end
  after_sound (suc n) = round_sound (after n book) (all_each (after_sound n))

pub rounds_sound : (book : Book) (rounds goal variant : ℕ) → Has (after rounds book) goal variant → Derivable book goal variant
rounds_sound book n goal variant m = each_at (DerivablePair book) (after n book) (all_each (after_sound book n)) (goal, variant) m

-- WHOLE. What a round derives is in d, so that d has whatever can be derived.

module _ (d : Pairs) where
  clause_there : (goal : ℕ) (c : Clause) → clause_derived d c ≡ true → (cs : List Clause) → Memᴰ c cs
      → Has (clauses_derived d goal cs) goal c.variant
  clause_there goal c e [] m = elim m [ ]
  clause_there goal c e (k ∷ cs) (Memᴰ.head q) =
      subst (λ (b : Bool). Has (elim b [ true ↦ (goal, k.variant) ∷ clauses_derived d goal cs | false ↦ clauses_derived d goal cs ]) goal
      c.variant)
      (sym (ap (clause_derived d) (sym q) ∙ e)) (Memᴰ.head (ap (λ (z : Clause). (goal, z.variant)) q))
  clause_there goal c e (k ∷ cs) (Memᴰ.tail m) = on (clause_derived d k) (clause_there goal c e cs m)
    where
      on : (b : Bool) → Has (clauses_derived d goal cs) goal c.variant
          → Has (elim b [ true ↦ (goal, k.variant) ∷ clauses_derived d goal cs | false ↦ clauses_derived d goal cs ]) goal c.variant
      on true x = Memᴰ.tail x
      on false x = x

  goal_there : (goal : ℕ) (own : Goal) (c : Clause) → own.floundered ≡ false → Memᴰ c own.clauses → clause_derived d c ≡ true
      → Has (goal_derived d goal own) goal c.variant
  goal_there goal own c fl m e =
      subst (λ (b : Bool). Has (elim b [ true ↦ [] | false ↦ clauses_derived d goal own.clauses ]) goal c.variant)
      (sym fl) (clause_there goal c e own.clauses m)

  goals_there : (v first : ℕ) (gs : List Goal) (i : ℕ) (own : Goal) → get_elem? gs i ≡ some own
      → Has (goal_derived d (first + i) own) (first + i) v → Has (goals_derived d first gs) (first + i) v
  goals_there v first [] i own e m = absurd (no_such e)
  goals_there v first (g ∷ gs) zero own e m =
      let z : first + 0 ≡ first = omega arith in
      Memᴰ.append_left (goals_derived d (suc first) gs)
      (Memᴰ.cast (ap (λ (n : ℕ). (n, v)) z)
      (subst (λ (n : ℕ). Has (goal_derived d n g) n v) z
      (subst (λ (h : Goal). Has (goal_derived d (first + 0) h) (first + 0) v) (sym (same_some e)) m)))
  goals_there v first (g ∷ gs) (suc i) own e m =
      let z : first + suc i ≡ suc first + i = omega arith in
      Memᴰ.append_right (goal_derived d first g)
      (Memᴰ.cast (ap (λ (n : ℕ). (n, v)) z)
      (goals_there v (suc first) gs i own e (subst (λ (n : ℕ). Has (goal_derived d n own) n v) z m)))

  round_there : (book : Book) (goal : ℕ) (c : Clause) → Usable book goal c → each_passes (literal_derived d) c.literals ≡ true
      → Has (round book d) goal c.variant
  round_there book goal c u e =
      let z : 0 + goal ≡ goal = omega arith in
      let here = goal_there goal u.own c u.unfloundered u.of_own
      (both_and (ap not u.provable) (both_and (ap not u.small) e)) in
      Memᴰ.cast (ap (λ (n : ℕ). (n, c.variant)) (sym z))
      (goals_there c.variant 0 book goal u.own u.is_own
      (subst (λ (n : ℕ). Has (goal_derived d n u.own) n c.variant) (sym z) here))

  module _ (book : Book) (unchanged : round book d ≡ d) where
    there : (goal : ℕ) (c : Clause) → Usable book goal c → each_passes (literal_derived d) c.literals ≡ true
        → Has d goal c.variant
    there goal c u e = subst (λ (z : Pairs). Has z goal c.variant) unchanged (round_there book goal c u e)

    literals_whole : (ls : List Literal) → Derives book ls → each_passes (literal_derived d) ls ≡ true
    literals_whole ls derives_end = refl
    literals_whole ls (derives {goal = goal} {want = want} {ls = rest} c u fits x y) =
        both_and (some_passes (pair_fits goal want) (goal, c.variant) (both_and (eq-eqb goal goal refl) fits) d
        (there goal c u (literals_whole c.literals x))) (literals_whole rest y)

    pub rounds_whole : (goal variant : ℕ) → Derivable book goal variant → Has d goal variant
    rounds_whole goal variant x =
        Memᴰ.cast (ap (λ (v : ℕ). (goal, v)) (sym x.2)) (there goal x.0 x.1 (literals_whole x.0.literals x.3))

pub rounds_compute : RoundsCompute
rounds_compute book n unchanged = record {
  each_derivable = rounds_sound book n;
  all_there = rounds_whole (after n book) book unchanged;
}

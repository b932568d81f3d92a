-- The model of the definitions is the model of the machine: bodies stand the other way round, nothing else differs. And what the
-- machine's theorem asks of a book: levels, and how many clauses there are.
use Prim.Native.Nat.{ℕ, zero, suc, ◌+◌}
use native.Mathlib.Omega.{arith}
use mathlib.Core.Path.{◌≡◌, refl, sym, ap, subst, ◌∙◌}
use mathlib.Core.Bool.{false}
use mathlib.Core.Logic.{inl, inr}
use mathlib.Core.Option.{Option, none, some}
use mathlib.Core.List.Memᴰ
use mathlib.Core.List.{List, [], ◌∷◌, ◌++◌, Memᴰ}
use lib.ListN.{length, get_elem?}
use Rattle.definitions.specs.Book.{any, Book, Goal, Clause, Literal, Positive, Negative, clause_count}
use Rattle.papers.specs.Model as D
use Rattle.definitions.specs.Lists.{Each}
use Rattle.papers.specs.Model.{PlainClause, PlainGoal, clauses_of, LevelLiteral, Holds, holds_end, holds_below, holds_here, holds_not}
use Rattle.laws.proofs.Sums.{sum, sum_shift}
use Rattle.definitions.proofs.Members.{each_at}
use Rattle.papers.proofs.Passes.{clause_inside}
use Rattle.promises.proofs.Plain.Model as P
use Rattle.promises.proofs.Plain.Model.{Lit, pos, neg, Body, LevelLit, LevelBody, levels, levels_end, Derived, done, lower, here}
use Rattle.promises.proofs.Plain.Model.{absent, either}
use Rattle.promises.proofs.Plain.Claim.{Inside}
use Rattle.promises.proofs.Plain.Machine as M
use Rattle.promises.proofs.Link.View.{literals}
use Rattle.promises.proofs.Link.Tables.{lit, body_of, bodies, book_of}
use Rattle.promises.proofs.Link.Making.{literals_back}

-- Clauses and bodies.

mem_bodies : (cs : List Clause) (c : Clause) → Memᴰ c cs → Memᴰ (body_of c.literals) (bodies cs)
mem_bodies [] c m = elim m [ ]
mem_bodies (x ∷ xs) c (Memᴰ.head e) = Memᴰ.head (ap (λ (z : Clause). body_of z.literals) e)
mem_bodies (x ∷ xs) c (Memᴰ.tail m) = Memᴰ.tail (mem_bodies xs c m)

bodies_mem : (cs : List Clause) (b : Body) → Memᴰ b (bodies cs) → (c : Clause) × Memᴰ c cs × (b ≡ body_of c.literals)
bodies_mem [] b m = absurd (Memᴰ.not-nil m)
bodies_mem (c ∷ cs) b m = either (λ e. (c, Memᴰ.head refl, e)) (λ x. let r = bodies_mem cs b x in (r.0, Memᴰ.tail r.1, r.2))
    (Memᴰ.cases_cons m)

-- every goal of the book is plain
abbrev pub PlainAt : Book → Type 0
PlainAt book = (g : ℕ) (G : Goal) → get_elem? book g ≡ some G → PlainGoal G

pub plain_clause : (book : Book) → PlainAt book → (g : ℕ) (c : Clause) → Memᴰ c (clauses_of book g) → PlainClause c
plain_clause book plain g c m = go (get_elem? book g) refl m
  where
    go : (o : Option Goal) → get_elem? book g ≡ o → Memᴰ c (elim o [ none ↦ [] | some G ↦ G.clauses ]) → PlainClause c
    go none e x = absurd (Memᴰ.not-nil x)
    go (some G) e x = each_at PlainClause G.clauses (plain g G e).clauses_plain c x

-- Levels.

level_last : (level : ℕ → ℕ) (n : ℕ) (b : Body) (l : Lit) → LevelBody level n b → LevelLit level n l → LevelBody level n (b ++ (l ∷ []))
level_last level n b l levels_end x = levels x levels_end
level_last level n b l (levels {b = b'} y ys) x = levels y (level_last level n b' l ys x)

level_lit : (level : ℕ → ℕ) (n : ℕ) (l : Literal) → LevelLiteral level n l → LevelLit level n (lit l)
level_lit level n (Positive g w o) x = x
level_lit level n (Negative g o) x = x

level_body : (level : ℕ → ℕ) (n : ℕ) (ls : List Literal) → Each (LevelLiteral level n) ls → LevelBody level n (body_of ls)
level_body level n [] x = levels_end
level_body level n (l ∷ ls) x = level_last level n (body_of ls) (lit l) (level_body level n ls x.1) (level_lit level n l x.0)

pub levelled_is : (book : Book) (level : ℕ → ℕ) → D.Levelled book level → P.Levelled (book_of book) level
levelled_is book level l g b m =
    let r = bodies_mem (clauses_of book g) b m in
    subst (LevelBody level (level g)) (sym r.2) (level_body level (level g) r.0.literals (l g r.0 r.1))

-- every clause belongs to a goal of the book
pub inside_is : (book : Book) → Inside (book_of book) (length book)
inside_is book g b m = let r = bodies_mem (clauses_of book g) b m in clause_inside book g r.0 r.1

-- How many clauses.

bodies_length : (cs : List Clause) → length (bodies cs) ≡ length cs
bodies_length [] = refl
bodies_length (c ∷ cs) = ap suc (bodies_length cs)

pub clauses_total : (book : Book) → sum (length book) (λ g. length (book_of book g)) ≡ clause_count book
clauses_total [] = refl
clauses_total (G ∷ book) = sum_shift (length book) (λ g. length (book_of (G ∷ book) g))
    ∙ (let x = clauses_total book in let y = bodies_length G.clauses in omega arith)

-- The models.

module _ (book : Book) (level : ℕ → ℕ) (n : ℕ) where
  derived_append : (Q : ℕ → Type 0) (b d : Body) → Derived (book_of book) level n Q b → Derived (book_of book) level n Q d
      → Derived (book_of book) level n Q (b ++ d)
  derived_append Q b d done y = y
  derived_append Q b d (lower {b = b'} x r) y = lower x (derived_append Q b' d r y)
  derived_append Q b d (here {b = b'} c e m x r) y = here c e m x (derived_append Q b' d r y)
  derived_append Q b d (absent {b = b'} x r) y = absent x (derived_append Q b' d r y)

  holds_append : (Q : ℕ → Type 0) (l k : List Literal) → Holds book level n Q l → Holds book level n Q k → Holds book level n Q (l ++ k)
  holds_append Q l k holds_end y = y
  holds_append Q l k (holds_below {ls = ls} x r) y = holds_below x (holds_append Q ls k r y)
  holds_append Q l k (holds_here {ls = ls} c e m x r) y = holds_here c e m x (holds_append Q ls k r y)
  holds_append Q l k (holds_not {ls = ls} x r) y = holds_not x (holds_append Q ls k r y)

  module _ (plain : PlainAt book) (Q R : ℕ → Type 0) (to : (h : ℕ) → Q h → R h) (from : (h : ℕ) → R h → Q h) where
    holds_derived : {ls : List Literal} → Holds book level n Q ls → Derived (book_of book) level n R (body_of ls)
    holds_derived holds_end = done
    holds_derived (holds_below {goal = g} {ls = ls} x r) =
        derived_append R (body_of ls) (pos g ∷ []) (holds_derived r) (lower (to g x) done)
    holds_derived (holds_here {goal = g} {ls = ls} c e m x r) =
        derived_append R (body_of ls) (pos g ∷ []) (holds_derived r)
        (here (body_of c.literals) e (mem_bodies (clauses_of book g) c m) (holds_derived x) done)
    holds_derived (holds_not {goal = g} {ls = ls} x r) =
        derived_append R (body_of ls) (neg g ∷ []) (holds_derived r) (absent (λ y. x (from g y)) done)

    clause_holds : (g : ℕ) (b : Body) → Memᴰ b (book_of book g) → Holds book level n Q (literals b)
        → (c : Clause) × Memᴰ c (clauses_of book g) × Holds book level n Q c.literals
    clause_holds g b m x =
        let r = bodies_mem (clauses_of book g) b m in
        let e : literals b ≡ r.0.literals = ap literals r.2
        ∙ literals_back r.0.literals (plain_clause book plain g r.0 r.1).literals_plain in
        (r.0, r.1, subst (Holds book level n Q) e x)

    derived_holds : {b : Body} → Derived (book_of book) level n R b → Holds book level n Q (literals b)
    derived_holds done = holds_end
    derived_holds (lower {h = g} {b = b} x r) = holds_append Q (literals b) (Positive g any false ∷ []) (derived_holds r)
        (holds_below (from g x) holds_end)
    derived_holds (here {h = g} {b = b} c e m x r) =
        let k = clause_holds g c m (derived_holds x) in
        holds_append Q (literals b) (Positive g any false ∷ []) (derived_holds r) (holds_here k.0 e k.1 k.2 holds_end)
    derived_holds (absent {h = g} {b = b} x r) = holds_append Q (literals b) (Negative g false ∷ []) (derived_holds r)
        (holds_not (λ y. x (to g y)) holds_end)

module _ (book : Book) (level : ℕ → ℕ) (plain : PlainAt book) where
  abbrev Both : ℕ → Type 0
  Both n = (h : ℕ) → (D.Below book level n h → P.Below (book_of book) level n h)
      × (P.Below (book_of book) level n h → D.Below book level n h)

  below_next : (n : ℕ) → Both n → Both (suc n)
  below_next n both h = (to, from)
    where
      to : D.Below book level (suc n) h → P.Below (book_of book) level (suc n) h
      to (inl x) = inl ((both h).0 x)
      to (inr (e, x)) = inr (
        e,
        holds_derived book level n plain (D.Below book level n) (P.Below (book_of book) level n) (λ g. (both g).0)
            (λ g. (both g).1) x,
      )

      from : P.Below (book_of book) level (suc n) h → D.Below book level (suc n) h
      from (inl x) = inl ((both h).1 x)
      from (inr (e, x)) = inr (
        e,
        derived_holds book level n plain (D.Below book level n) (P.Below (book_of book) level n) (λ g. (both g).0)
            (λ g. (both g).1) x,
      )

  below_both : (n : ℕ) → Both n
  below_both zero = λ h. ((λ x. x), (λ x. x))
  below_both (suc n) = below_next n (below_both n)

  pub in_to : (h : ℕ) → D.In book level h → P.In (book_of book) level h
  in_to h x = let both = below_both (level h) in holds_derived book level (level h) plain (D.Below book level (level h))
      (P.Below (book_of book) level (level h)) (λ g. (both g).0) (λ g. (both g).1) x

  pub in_from : (h : ℕ) → P.In (book_of book) level h → D.In book level h
  in_from h x = let both = below_both (level h) in
      derived_holds book level (level h) plain (D.Below book level (level h)) (P.Below (book_of book) level (level h)) (λ g. (both g).0)
      (λ g. (both g).1) x

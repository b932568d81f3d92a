-- Passes of `levels`: what a pass gives to a goal; that it never gives more than a numbering that satisfies the rule; and that levels which
-- a pass doesn't change satisfy it.
use Prim.Native.Nat.{ℕ, zero, suc, ◌+◌, ◌≤◌, ◌<◌}
use native.Mathlib.Omega.{arith}
use mathlib.Core.Path.{◌≡◌, refl, ap}
use mathlib.Core.Option.{Option, none, some}
use mathlib.Core.Bool.{Bool, true, false}
use mathlib.Core.Logic.{◌⊎◌, inl, inr}
use mathlib.Core.List.Memᴰ
use mathlib.Core.List.{List, [], ◌∷◌, map, Memᴰ}
use lib.ListN.{length, get_or, get_elem?, length-map}
use lib.Dec.{ltb}
use borrow.Author.Tests.{ltb-true, ltb-false}
use Rattle.definitions.specs.Book.{Literal, Positive, Negative, Clause, Goal, Book, goal_of}
use Rattle.papers.specs.Model.{clauses_of, LevelLiteral, Levelled}
use Rattle.papers.specs.Levels.{level_in, larger, literal_asks, literals_ask, clauses_ask, pass, passes, is_not}
use Rattle.definitions.proofs.Members.{each_at, each_by}
use Rattle.laws.proofs.Lists.{place_under}

-- a clause of a goal is one of the book's
pub clause_inside : (book : Book) (g : ℕ) (c : Clause) → Memᴰ c (clauses_of book g) → g < length book
clause_inside book g c m = on (get_elem? book g) refl m
  where
    on : (o : Option Goal) → get_elem? book g ≡ o → Memᴰ c (elim o [ none ↦ [] | some h ↦ h.clauses ]) → g < length book
    on none e x = absurd (Memᴰ.not-nil x)
    on (some h) e x = place_under book g h e

-- The larger of two.

module _ (a b : ℕ) where
  pub larger_left : a ≤ larger a b
  larger_left = on (ltb a b) refl
    where
      on : (t : Bool) → ltb a b ≡ t → a ≤ elim t [ true ↦ b | false ↦ a ]
      on true k = let h = ltb-true a b k in omega arith
      on false k = omega arith

  pub larger_right : b ≤ larger a b
  larger_right = on (ltb a b) refl
    where
      on : (t : Bool) → ltb a b ≡ t → b ≤ elim t [ true ↦ b | false ↦ a ]
      on true k = omega arith
      on false k = let h = ltb-false a b k in omega arith

  pub larger_one : (larger a b ≡ a) ⊎ (larger a b ≡ b)
  larger_one = on (ltb a b)
    where
      on : (t : Bool) → (elim t [ true ↦ b | false ↦ a ] ≡ a) ⊎ (elim t [ true ↦ b | false ↦ a ] ≡ b)
      on true = inr refl
      on false = inl refl

  pub larger_most : (m : ℕ) → a ≤ m → b ≤ m → larger a b ≤ m
  larger_most m p q = on larger_one
    where
      on : (larger a b ≡ a) ⊎ (larger a b ≡ b) → larger a b ≤ m
      on (inl e) = omega arith
      on (inr e) = omega arith

-- What is asked of a goal: no less than each literal of each of its clauses asks, and no more than all of them.

pub asks : (ls : List ℕ) (l : Literal) → literal_asks ls l ≡ is_not l + level_in ls (goal_of l)
asks ls (Positive g w o) = omega arith
asks ls (Negative g o) = omega arith

module _ (ls : List ℕ) where
  pub literal_asks_less : (rest : List Literal) (l : Literal) → Memᴰ l rest → literal_asks ls l ≤ literals_ask ls rest
  literal_asks_less [] l m = absurd (Memᴰ.not-nil m)
  literal_asks_less (y ∷ xs) l (Memᴰ.head e) =
      let x = larger_left (literal_asks ls y) (literals_ask ls xs) in
      let z = ap (literal_asks ls) e in
      omega arith
  literal_asks_less (y ∷ xs) l (Memᴰ.tail m) =
      let x = larger_right (literal_asks ls y) (literals_ask ls xs) in
      let z = literal_asks_less xs l m in
      omega arith

  pub clause_asks_less : (cs : List Clause) (c : Clause) → Memᴰ c cs → literals_ask ls c.literals ≤ clauses_ask ls cs
  clause_asks_less [] c m = absurd (Memᴰ.not-nil m)
  clause_asks_less (y ∷ xs) c (Memᴰ.head e) =
      let x = larger_left (literals_ask ls y.literals) (clauses_ask ls xs) in
      let z = ap (λ (d : Clause). literals_ask ls d.literals) e in
      omega arith
  clause_asks_less (y ∷ xs) c (Memᴰ.tail m) =
      let x = larger_right (literals_ask ls y.literals) (clauses_ask ls xs) in
      let z = clause_asks_less xs c m in
      omega arith

  pub asked_by : (cs : List Clause) (c : Clause) (l : Literal) → Memᴰ c cs → Memᴰ l c.literals
      → literal_asks ls l ≤ clauses_ask ls cs
  asked_by cs c l mc ml =
      let x = literal_asks_less c.literals l ml in
      let y = clause_asks_less cs c mc in
      omega arith

  -- a bound of what each literal asks bounds what is asked
  pub literals_ask_most : (m : ℕ) (rest : List Literal) → ((l : Literal) → Memᴰ l rest → literal_asks ls l ≤ m)
      → literals_ask ls rest ≤ m
  literals_ask_most m [] h = omega arith
  literals_ask_most m (l ∷ rest) h =
      larger_most (literal_asks ls l) (literals_ask ls rest) m (h l (Memᴰ.head refl))
      (literals_ask_most m rest (λ k x. h k (Memᴰ.tail x)))

  pub clauses_ask_most : (m : ℕ) (cs : List Clause)
      → ((c : Clause) → Memᴰ c cs → (l : Literal) → Memᴰ l c.literals → literal_asks ls l ≤ m) → clauses_ask ls cs ≤ m
  clauses_ask_most m [] h = omega arith
  clauses_ask_most m (c ∷ cs) h =
      larger_most (literals_ask ls c.literals) (clauses_ask ls cs) m (literals_ask_most m c.literals (h c (Memᴰ.head refl)))
      (clauses_ask_most m cs (λ d x. h d (Memᴰ.tail x)))

-- A pass, at a goal.

pub pass_at : (book : Book) (ls : List ℕ) (g : ℕ) → level_in (pass book ls) g ≡ clauses_ask ls (clauses_of book g)
pass_at book ls g = at book g
  where
    at : (rest : List Goal) (g : ℕ) → get_or (map (λ (h : Goal). clauses_ask ls h.clauses) rest) g 0 ≡ clauses_ask ls (clauses_of rest g)
    at [] g = refl
    at (h ∷ rest) zero = refl
    at (h ∷ rest) (suc g) = at rest g

pub start_at : (book : Book) (g : ℕ) → level_in (passes 0 book) g ≡ 0
start_at [] g = refl
start_at (h ∷ book) zero = refl
start_at (h ∷ book) (suc g) = start_at book g

pub length_passes : (n : ℕ) (book : Book) → length (passes n book) ≡ length book
length_passes zero book = length-map book _
length_passes (suc n) book = length-map book _

-- Levels and the rule.

-- a literal by the rule, as a sum
pub by_rule : (level : ℕ → ℕ) (n : ℕ) (l : Literal) → LevelLiteral level n l → is_not l + level (goal_of l) ≤ n
by_rule level n (Positive g w o) x = omega arith
by_rule level n (Negative g o) x = omega arith

pub to_rule : (level : ℕ → ℕ) (n : ℕ) (l : Literal) → is_not l + level (goal_of l) ≤ n → LevelLiteral level n l
to_rule level n (Positive g w o) x = omega arith
to_rule level n (Negative g o) x = omega arith

module _ (book : Book) (level : ℕ → ℕ) (levelled : Levelled book level) where
  -- a step goes down by as many as it has "not"
  pub step_down : (g : ℕ) (c : Clause) (l : Literal) → Memᴰ c (clauses_of book g) → Memᴰ l c.literals
      → is_not l + level (goal_of l) ≤ level g
  step_down g c l mc ml =
      by_rule level (level g) l (each_at (LevelLiteral level (level g)) c.literals (levelled g c mc) l ml)

  -- no pass goes above a numbering that satisfies the rule
  pub passes_below : (n g : ℕ) → level_in (passes n book) g ≤ level g
  passes_below zero g = let x = start_at book g in omega arith
  passes_below (suc n) g =
      let x = pass_at book (passes n book) g in
      let y = clauses_ask_most (passes n book) (level g) (clauses_of book g) (λ c mc l ml.
      let u = asks (passes n book) l in
      let v = passes_below n (goal_of l) in
      let w = step_down g c l mc ml in
      omega arith) in
      omega arith

-- levels that no pass changes satisfy the rule
pub unchanged_levelled : (book : Book) (ls : List ℕ) → pass book ls ≡ ls → Levelled book (level_in ls)
unchanged_levelled book ls e g c mc =
    each_by (LevelLiteral (level_in ls) (level_in ls g)) c.literals (λ l ml. to_rule (level_in ls) (level_in ls g) l (
    let x = asked_by ls (clauses_of book g) c l mc ml in
    let y = asks ls l in
    let z = pass_at book ls g in
    let w = ap (λ (r : List ℕ). level_in r g) e in
    omega arith
    ))

-- each pass gives no less than the one before, and at most one more than there were passes
pub passes_rise : (book : Book) (n g : ℕ) → level_in (passes n book) g ≤ level_in (passes (suc n) book) g
passes_rise book zero g = let x = start_at book g in omega arith
passes_rise book (suc n) g =
    let x = pass_at book (passes n book) g in
    let y = pass_at book (passes (suc n) book) g in
    let z = clauses_ask_most (passes n book) (clauses_ask (passes (suc n) book) (clauses_of book g)) (clauses_of book g) (λ c mc l ml.
    let u = asks (passes n book) l in
    let v = asks (passes (suc n) book) l in
    let r = passes_rise book n (goal_of l) in
    let w = asked_by (passes (suc n) book) (clauses_of book g) c l mc ml in
    omega arith) in
    omega arith

pub is_not_small : (l : Literal) → is_not l < 2
is_not_small (Positive g w o) = omega arith
is_not_small (Negative g o) = omega arith

pub passes_small : (book : Book) (n g : ℕ) → level_in (passes n book) g ≤ n
passes_small book zero g = let x = start_at book g in omega arith
passes_small book (suc n) g =
    let x = pass_at book (passes n book) g in
    let y = clauses_ask_most (passes n book) (suc n) (clauses_of book g) (λ c mc l ml.
    let u = asks (passes n book) l in
    let v = passes_small book n (goal_of l) in
    let w = is_not_small l in
    omega arith) in
    omega arith

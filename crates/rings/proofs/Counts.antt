-- Laws of how often a number stands in a list, and of what holds of all of a list, with `filter`, `++` and `set`: distinct is "at most
-- once".
use Prim.Native.Nat.{ℕ, zero, suc, ◌+◌, ◌≤◌, ◌<◌}
use native.Mathlib.Omega.{arith}
use mathlib.Core.Path.{◌≡◌, refl, sym, ap, ap₂, subst, ◌∙◌}
use mathlib.Core.Bool.{Bool, true, false, not}
use mathlib.Core.List.{List, [], ◌∷◌, ◌++◌, map}
use lib.ListN.{length, take, drop, get_or, set}
use lib.Seq.{get_or-set_other, split_at}
use lib.Dec.{eqb}
use borrow.Author.Tests.{eq-eqb, ne_eqb, eqb-true, eqb-false}
use Rattle.laws.specs.All.{All, end, more}
use Rattle.laws.proofs.All.{all_first, all_rest, all_map}
use Rattle.rings.specs.Lists.{stop, first_index, one, times}
use Rattle.rings.proofs.Laws.{keep, filter, filter_count}

pub true_false : {X : Type 0} (b : Bool) → b ≡ true → b ≡ false → X
true_false true p q = absurd (eqb-false 0 0 q refl)
true_false false p q = absurd (eqb-false 0 0 (sym p) refl)

-- what holds of t and of every other number holds of all
pub is_or_not : (t : ℕ) (P : ℕ → Type 0) → P t → ((u : ℕ) → (u ≡ t → ⊥) → P u) → (u : ℕ) → P u
is_or_not t P here there u = go (eqb u t) refl
  where
    go : (b : Bool) → eqb u t ≡ b → P u
    go true e = subst P (sym (eqb-true u t e)) here
    go false e = there u (eqb-false u t e)

module _ {A : Type 0} where
  all_keep : (P : A → Type 0) (b : Bool) (x : A) (l : List A) → (b ≡ true → P x) → All P l → All P (keep b x l)
  all_keep P true x l h a = more (h refl) a
  all_keep P false x l h a = a

  pub all_filter : (f : A → Bool) (l : List A) → All (λ x. f x ≡ true) (filter f l)
  all_filter f [] = end
  all_filter f (x ∷ l) = all_keep (λ y. f y ≡ true) (f x) x (filter f l) (λ e. e) (all_filter f l)

  -- a test that all pass keeps all; one that none passes keeps none; two that agree keep the same
  pub filter_all : (f : A → Bool) (l : List A) → All (λ x. f x ≡ true) l → filter f l ≡ l
  filter_all f [] a = refl
  filter_all f (x ∷ l) a = ap₂ (λ (b : Bool) (m : List A). keep b x m) (all_first a) (filter_all f l (all_rest a))

  pub filter_none : (f : A → Bool) (l : List A) → All (λ x. f x ≡ false) l → filter f l ≡ []
  filter_none f [] a = refl
  filter_none f (x ∷ l) a = ap₂ (λ (b : Bool) (m : List A). keep b x m) (all_first a) (filter_none f l (all_rest a))

  pub filter_cong : (f g : A → Bool) (l : List A) → All (λ x. f x ≡ g x) l → filter f l ≡ filter g l
  filter_cong f g [] a = refl
  filter_cong f g (x ∷ l) a = ap₂ (λ (b : Bool) (m : List A). keep b x m) (all_first a) (filter_cong f g l (all_rest a))

  within_keep : (f g : A → Bool) (b c : Bool) (x : A) (l m : List A) → g x ≡ b → f x ≡ c → (f x ≡ true → g x ≡ true)
      → filter f l ≡ m → filter f (keep b x l) ≡ keep c x m
  within_keep f g true c x l m p q h e = ap₂ (λ (b : Bool) (k : List A). keep b x k) q e
  within_keep f g false true x l m p q h e = true_false (g x) (h q) p
  within_keep f g false false x l m p q h e = e

  -- a filter behind a weaker one
  pub filter_within : (f g : A → Bool) (l : List A) → ((x : A) → f x ≡ true → g x ≡ true) → filter f (filter g l) ≡ filter f l
  filter_within f g [] h = refl
  filter_within f g (x ∷ l) h = within_keep f g (g x) (f x) x (filter g l) (filter f l) refl refl (h x) (filter_within f g l h)

  pub map_cong : {B : Type 0} (f g : A → B) (l : List A) → All (λ x. f x ≡ g x) l → map f l ≡ map g l
  map_cong {B} f g [] a = refl
  map_cong {B} f g (x ∷ l) a = ap₂ (λ (y : B) (m : List B). y ∷ m) (all_first a) (map_cong f g l (all_rest a))

pub times_append : (p : ℕ) (l m : List ℕ) → times p (l ++ m) ≡ times p l + times p m
times_append p [] m = omega arith
times_append p (x ∷ l) m =
    let h : times p (l ++ m) ≡ times p l + times p m = times_append p l m in
    omega arith

pub times_self : (p : ℕ) → one (eqb p p) ≡ 1
times_self p = ap one (eq-eqb p p refl)

pub times_first : (p : ℕ) (l : List ℕ) → 1 ≤ times p (p ∷ l)
times_first p l = omega (arith, times_self p)

times_keep : (p : ℕ) (b : Bool) (x : ℕ) (l m : List ℕ) (n : ℕ) → times p l + times p m ≡ n
    → times p (keep b x l) + times p (keep (not b) x m) ≡ one (eqb p x) + n
times_keep p true x l m n e = omega arith
times_keep p false x l m n e = omega arith

-- those that pass and those that don't are all, each as often as before
pub times_parts : (p : ℕ) (f : ℕ → Bool) (l : List ℕ) → times p (filter f l) + times p (filter (λ x. not (f x)) l) ≡ times p l
times_parts p f [] = refl
times_parts p f (x ∷ l) = times_keep p (f x) x (filter f l) (filter (λ y. not (f y)) l) (times p l) (times_parts p f l)

pub times_filter : (p : ℕ) (f : ℕ → Bool) (l : List ℕ) → times p (filter f l) ≤ times p l
times_filter p f l = omega (arith, times_parts p f l)

-- absent, as "all others"
pub absent_all : (p : ℕ) (l : List ℕ) → times p l ≡ 0 → All (λ x. x ≡ p → ⊥) l
absent_all p [] e = end
absent_all p (x ∷ l) e =
    more (λ q. let h : one (eqb p x) ≡ 1 = ap one (eq-eqb p x (sym q)) in omega arith) (absent_all p l (omega arith))

pub all_absent : (p : ℕ) (l : List ℕ) → All (λ x. x ≡ p → ⊥) l → times p l ≡ 0
all_absent p [] a = refl
all_absent p (x ∷ l) a =
    let h : one (eqb p x) ≡ 0 = ap one (ne_eqb p x (λ e. all_first a (sym e))) in
    let i : times p l ≡ 0 = all_absent p l (all_rest a) in
    omega arith

pub times_none : (p : ℕ) (f : ℕ → Bool) (l : List ℕ) → f p ≡ false → times p (filter f l) ≡ 0
times_none p f l e = all_absent p (filter f l) (all_map (λ x t q. true_false (f x) t (ap f q ∙ e)) (all_filter f l))

-- a write to a place that is not in a list of places leaves what stands at the places of the list
pub map_away : {A : Type 0} (st : List A) (p : ℕ) (s d : A) (l : List ℕ) → times p l ≡ 0
    → map (λ x. get_or (set st p s) x d) l ≡ map (λ x. get_or st x d) l
map_away st p s d l e =
    map_cong (λ x. get_or (set st p s) x d) (λ x. get_or st x d) l (all_map (λ x n. get_or-set_other st p x s d n) (absent_all p l e))

-- taken out at j
pub times_out : (p : ℕ) (l : List ℕ) (j : ℕ) → j < length l → times p (drop (suc j) l ++ take j l) + one (eqb p (get_or l j 0)) ≡ times p l
times_out p l j h =
    let a : times p (drop (suc j) l ++ take j l) ≡ times p (drop (suc j) l) + times p (take j l) = times_append p (drop (suc j) l)
    (take j l) in
    let b : times p l ≡ times p (take j l) + (one (eqb p (get_or l j 0)) + times p (drop (suc j) l)) =
    ap (times p) (split_at l j 0 h) ∙ times_append p (take j l) (get_or l j 0 ∷ drop (suc j) l) in
    omega arith

-- distinct numbers below m are at most m
pub pigeons : (m : ℕ) (l : List ℕ) → ((p : ℕ) → times p l ≤ 1) → ((p : ℕ) → m ≤ p → times p l ≡ 0) → length l ≤ m
pigeons zero [] once none = omega arith
pigeons zero (x ∷ l) once none = omega (arith, none x (omega arith), times_self x)
pigeons (suc m) l once none =
    let f : ℕ → Bool = λ y. not (eqb m y) in
    let r : length (filter f l) ≤ m = pigeons m (filter f l) (λ p. omega (arith, once p, times_filter p f l))
    (λ p h. gone p h (eqb p m) refl) in
    let c : length (filter (eqb m) l) + length (filter f l) ≡ length l = filter_count (eqb m) l in
    let t : length (filter (eqb m) l) ≡ times m l = counted l in
    omega (arith, once m)
  where
    keep_counted : (b : Bool) (x : ℕ) (k : List ℕ) (n : ℕ) → length k ≡ n → length (keep b x k) ≡ one b + n
    keep_counted true x k n e = omega arith
    keep_counted false x k n e = omega arith

    counted : (k : List ℕ) → length (filter (eqb m) k) ≡ times m k
    counted [] = refl
    counted (x ∷ k) = keep_counted (eqb m x) x (filter (eqb m) k) (times m k) (counted k)

    gone : (p : ℕ) → m ≤ p → (b : Bool) → eqb p m ≡ b → times p (filter (λ y. not (eqb m y)) l) ≡ 0
    gone p h true e = times_none p (λ y. not (eqb m y)) l (ap not (eq-eqb m p (sym (eqb-true p m e))))
    gone p h false e =
        let n : p ≡ m → ⊥ = eqb-false p m e in
        omega (arith, times_filter p (λ y. not (eqb m y)) l, none p (omega arith))

-- what `first_index` finds: none before it passes the test, and the one at it does
module _ {A : Type 0} where
  abbrev First : (A → Bool) → List A → ℕ → A → Type 0
  First f l j d = All (λ x. f x ≡ false) (take j l) × (j < length l → f (get_or l j d) ≡ true)

  first_step : (f : A → Bool) (d x : A) (l : List A) (b : Bool) → f x ≡ b → First f l (first_index f l) d
      → First f (x ∷ l) (stop b (first_index f l)) d
  first_step f d x l true e h = (end, λ k. e)
  first_step f d x l false e h = (more e h.0, λ k. h.1 (omega arith))

  pub first : (f : A → Bool) (l : List A) (d : A) → First f l (first_index f l) d
  first f [] d = (end, λ k. absurd (omega arith))
  first f (x ∷ l) d = first_step f d x l (f x) refl (first f l d)

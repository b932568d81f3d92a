-- THE LEVELLED PROFILE: the levels satisfy the rule (`levels_levelled`); they are the least, for every goal, among all numberings that do
-- (`levels_least`); there are none only where every numbering fails (`levels_none`), and then a goal is on a cycle through "not". Then
-- what the check of a byte string says.
use Prim.Native.Nat.{ℕ, zero, suc, ◌+◌, ◌≤◌, ◌<◌}
use native.Mathlib.Omega.{arith}
use native.Mathlib.Decide.{dec_lt}
use mathlib.Core.Path.{◌≡◌, refl, sym, ap, subst, ◌∙◌}
use mathlib.Core.Bool.{Bool, true, false, false≢true}
use mathlib.Core.Logic.{◌⊎◌, inl, inr}
use mathlib.Core.Option.{Option, none, some}
use mathlib.Core.List.{List, [], ◌∷◌}
use lib.ListN.{length, take}
use lib.Seq.{ext_get_or}
use lib.Dec.{eqb}
use borrow.Author.Tests.{eqb-true, eq-eqb}
use Rattle.laws.proofs.Options.{no_such, same_some}
use Rattle.definitions.specs.Refusal.{Refusable, refused, accepted}
use Rattle.definitions.specs.Lists.{same}
use Rattle.sizes.specs.Limits.{read_ahead}
use Rattle.definitions.specs.Book.{Book}
use Rattle.definitions.specs.Desk.{desk}
use Rattle.papers.specs.Model.{Plain, Levelled}
use Rattle.papers.specs.Levels.{level_in, pass, passes, levels, is_plain, levels_or_38, plain_levels}
use Rattle.papers.specs.Levels.{levels_at_desk, check_levels, Walk, stays, goes}
use Rattle.definitions.proofs.Refusal.{same_accepted, same_refused, not_accepted}
use Rattle.definitions.proofs.Desk.{and_both, both_and, desk_take}
use Rattle.papers.proofs.DeskNumbers.{Below, by_number, taken, desk_below}
use Rattle.papers.proofs.PlainTest.{plain_is, is_plain_of}
use Rattle.papers.proofs.Passes.{step_down, passes_below, unchanged_levelled, passes_rise, length_passes}
use Rattle.papers.proofs.Trails.{SomeCycle, no_more}

-- Lists of numbers that pass for the same.

pub same_are : (xs ys : List ℕ) → same xs ys ≡ true → xs ≡ ys
same_are [] [] e = refl
same_are [] (y ∷ ys) e = absurd (false≢true e)
same_are (x ∷ xs) [] e = absurd (false≢true e)
same_are (x ∷ xs) (y ∷ ys) e =
    let p = and_both (eqb x y) (same xs ys) e in
    let a = eqb-true x y p.0 in
    let b = same_are xs ys p.1 in
    λ i. a i ∷ b i

pub same_self : (xs : List ℕ) → same xs xs ≡ true
same_self [] = refl
same_self (x ∷ xs) = both_and (eq-eqb x x refl) (same_self xs)

-- A walk goes down by as many levels as it meets "not"s: so no cycle through "not" can be numbered.

pub walk_down : (book : Book) (level : ℕ → ℕ) → Levelled book level → {g h n : ℕ} → Walk book g h n → n + level h ≤ level g
walk_down book level levelled stays = omega arith
walk_down book level levelled (goes {g = g} c l mc ml w) =
    let x = walk_down book level levelled w in
    let y = step_down book level levelled g c l mc ml in
    omega arith

pub cycle_unlevelled : (book : Book) → SomeCycle book → (level : ℕ → ℕ) → Levelled book level → ⊥
cycle_unlevelled book (g, (n, w)) level levelled = let x = walk_down book level levelled w in omega arith

-- After as many passes as there are goals, one more changes nothing, or there is a cycle.

module _ (book : Book) where
  abbrev pub last : List ℕ
  last = passes (length book) book

  abbrev UnchangedTo : ℕ → Type 0
  UnchangedTo m = (g : ℕ) → g < m → level_in (pass book last) g ≡ level_in last g

  unchanged_next : (m : ℕ) → UnchangedTo m → level_in (pass book last) m ≤ level_in last m → UnchangedTo (suc m)
  unchanged_next m u h g k = on (dec_lt g m)
    where
      on : Dec (g < m) → level_in (pass book last) g ≡ level_in last g
      on (yes l) = u g l
      on (no o) =
          let e : m ≡ g = omega arith in
          let x = passes_rise book (length book) m in
          let y : level_in (pass book last) m ≡ level_in last m = omega arith in
          subst (λ (z : ℕ). level_in (pass book last) z ≡ level_in last z) e y

  unchanged_to : (m : ℕ) → UnchangedTo m ⊎ SomeCycle book
  unchanged_to zero = inl (λ g k. absurd (omega arith))
  unchanged_to (suc m) = on (unchanged_to m) (no_more book m)
    where
      on : UnchangedTo m ⊎ SomeCycle book → (level_in (pass book last) m ≤ level_in last m) ⊎ SomeCycle book
          → UnchangedTo (suc m) ⊎ SomeCycle book
      on (inr c) r = inr c
      on (inl u) (inr c) = inr c
      on (inl u) (inl h) = inl (unchanged_next m u h)

  pub unchanged : (pass book last ≡ last) ⊎ SomeCycle book
  unchanged = on (unchanged_to (length book))
    where
      long : length (pass book last) ≡ length book
      long = length_passes (suc (length book)) book

      on : UnchangedTo (length book) ⊎ SomeCycle book → (pass book last ≡ last) ⊎ SomeCycle book
      on (inr c) = inr c
      on (inl u) = inl (ext_get_or 0 (pass book last) last (long ∙ sym (length_passes (length book) book)) (λ g h. u g (omega (arith, long))))

  -- what `levels` gives, by its test
  pub levels_stand : (ls : List ℕ) → levels book ≡ some ls → (last ≡ ls) × (pass book ls ≡ ls)
  levels_stand ls e = on (same (pass book last) last) refl e
    where
      on : (t : Bool) → same (pass book last) last ≡ t → ◌≡◌ {A = Option (List ℕ)} (elim t [ true ↦ some last | false ↦ none ]) (some ls)
          → (last ≡ ls) × (pass book ls ≡ ls)
      on true k x =
          let q : last ≡ ls = same_some x in
          (q, subst (λ (l : List ℕ). pass book l ≡ l) q (same_are (pass book last) last k))
      on false k x = absurd (no_such x)

  pub levels_of_unchanged : pass book last ≡ last → levels book ≡ some last
  levels_of_unchanged e =
      let t : same (pass book last) last ≡ true = ap (λ (l : List ℕ). same l last) e ∙ same_self last in
      ap (λ (b : Bool). elim b [ true ↦ some last | false ↦ none ]) t

-- THE THEOREMS.

-- the levels satisfy the rule
pub levels_levelled : (book : Book) (ls : List ℕ) → levels book ≡ some ls → Levelled book (level_in ls)
levels_levelled book ls e = unchanged_levelled book ls (levels_stand book ls e).1

-- they are the least, for every goal, among all numberings that do
pub levels_least : (book : Book) (ls : List ℕ) → levels book ≡ some ls
    → (level : ℕ → ℕ) → Levelled book level → (g : ℕ) → level_in ls g ≤ level g
levels_least book ls e level levelled g =
    subst (λ (l : List ℕ). level_in l g ≤ level g) (levels_stand book ls e).0 (passes_below book level levelled (length book) g)

-- without levels there is a cycle through "not"
pub levels_none_cycle : (book : Book) → levels book ≡ none → SomeCycle book
levels_none_cycle book e = on (unchanged book)
  where
    on : (pass book (last book) ≡ last book) ⊎ SomeCycle book → SomeCycle book
    on (inl u) = absurd (no_such (sym e ∙ levels_of_unchanged book u))
    on (inr c) = c

-- there are none only where every numbering fails
pub levels_none : (book : Book) → levels book ≡ none → (level : ℕ → ℕ) → Levelled book level → ⊥
levels_none book e = cycle_unlevelled book (levels_none_cycle book e)

-- so a book that can be numbered gets levels
pub levels_some : (book : Book) (level : ℕ → ℕ) → Levelled book level → (ls : List ℕ) × (levels book ≡ some ls)
levels_some book level levelled = on (levels book) refl
  where
    on : (o : Option (List ℕ)) → levels book ≡ o → (ls : List ℕ) × (levels book ≡ some ls)
    on none e = absurd (levels_none book e level levelled)
    on (some ls) e = (ls, e)

-- The check of a byte string.

-- what the desk refuses it refuses, with the same number
pub check_unread : (bytes : List ℕ) (n : ℕ) → desk bytes ≡ refused n → check_levels bytes ≡ refused n
check_unread bytes n e = ap levels_at_desk e

-- what is accepted: the book is plain, and these are its least levels
pub record Accepted (book : Book) (ls : List ℕ) : Type 0 where
  pub plain : Plain book
  pub levelled : Levelled book (level_in ls)
  pub least : (level : ℕ → ℕ) → Levelled book level → (g : ℕ) → level_in ls g ≤ level g
  pub one_each : length ls ≡ length book

pub check_accepted : (book : Book) (ls : List ℕ) → plain_levels book ≡ accepted ls → Accepted book ls
check_accepted book ls e = on (is_plain book) refl (levels book) refl e
  where
    on : (p : Bool) → is_plain book ≡ p → (o : Option (List ℕ)) → levels book ≡ o
        → ◌≡◌ {A = Refusable (List ℕ)} (elim p [ false ↦ refused 37 | true ↦ levels_or_38 o ]) (accepted ls) → Accepted book ls
    on false k o l x = absurd (not_accepted x)
    on true k none l x = absurd (not_accepted x)
    on true k (some ms) l x =
        let is : levels book ≡ some ls = l ∙ ap some (same_accepted x) in
        record {
          plain = plain_is book k;
          levelled = levels_levelled book ls is;
          least = levels_least book ls is;
          one_each = ap length (sym (levels_stand book ls is).0) ∙ length_passes (length book) book;
        }

-- every plain book that can be numbered is accepted
pub check_takes : (book : Book) (level : ℕ → ℕ) → Plain book → Levelled book level → (ls : List ℕ) × (plain_levels book ≡ accepted ls)
check_takes book level plain levelled =
    let r = levels_some book level levelled in (
      r.0,
      ap (λ (b : Bool). elim b [ false ↦ refused 37 | true ↦ levels_or_38 (levels book) ]) (is_plain_of book plain)
          ∙ ap levels_or_38 r.1,
    )

not_37 : {ls : List ℕ} → ◌≡◌ {A = Refusable (List ℕ)} (accepted ls) (refused 37) → ⊥
not_37 e = not_accepted (sym e)

-- 37 says that the book is not plain
pub check_unplain : (book : Book) → plain_levels book ≡ refused 37 → Plain book → ⊥
check_unplain book e plain = on (levels book) (ap (λ (b : Bool). elim b [ false ↦ refused 37 | true ↦ levels_or_38 (levels book) ])
    (sym (is_plain_of book plain)) ∙ e)
  where
    on : (o : Option (List ℕ)) → levels_or_38 o ≡ refused 37 → ⊥
    on none x = let z : ◌≡◌ {A = ℕ} 38 37 = cc in omega arith
    on (some ls) x = not_37 x

-- 38 that it is plain and that every numbering fails, since a goal is on a cycle through "not"
pub check_unlevelled : (book : Book) → plain_levels book ≡ refused 38
    → Plain book × ((level : ℕ → ℕ) → Levelled book level → ⊥) × SomeCycle book
check_unlevelled book e = on (is_plain book) refl (levels book) refl e
  where
    on : (p : Bool) → is_plain book ≡ p → (o : Option (List ℕ)) → levels book ≡ o
        → ◌≡◌ {A = Refusable (List ℕ)} (elim p [ false ↦ refused 37 | true ↦ levels_or_38 o ]) (refused 38)
        → Plain book × ((level : ℕ → ℕ) → Levelled book level → ⊥) × SomeCycle book
    on false k o l x = absurd (let z : ◌≡◌ {A = ℕ} 37 38 = cc in omega arith)
    on true k none l x = (plain_is book k, levels_none book l, levels_none_cycle book l)
    on true k (some ms) l x = absurd (not_accepted (sym x))

-- So of a byte string: 37 and 38 are said of a book that the desk takes, whose own numbers are below them.

own_number : (bytes : List ℕ) (n : ℕ) → check_levels bytes ≡ refused n → 37 ≤ n
    → (book : Book) × (desk bytes ≡ accepted book) × (plain_levels book ≡ refused n)
own_number bytes n e h = on (desk bytes) refl (desk_below bytes) e
  where
    on : (r : Refusable Book) → desk bytes ≡ r → Below r → levels_at_desk r ≡ refused n
        → (book : Book) × (desk bytes ≡ accepted book) × (plain_levels book ≡ refused n)
    on (refused m) k (by_number p l) x = absurd (omega (arith, same_refused x))
    on (accepted book) k taken x = (book, k, x)

-- 37 only of a book that isn't plain
pub check_37 : (bytes : List ℕ) → check_levels bytes ≡ refused 37 → (book : Book) × (desk bytes ≡ accepted book) × (Plain book → ⊥)
check_37 bytes e = let r = own_number bytes 37 e (omega arith) in (r.0, r.1, check_unplain r.0 r.2)

-- 38 only where every numbering fails
pub check_38 : (bytes : List ℕ) → check_levels bytes ≡ refused 38
    → (book : Book) × (desk bytes ≡ accepted book) × Plain book × ((level : ℕ → ℕ) → Levelled book level → ⊥) × SomeCycle book
check_38 bytes e =
    let r = own_number bytes 38 e (omega arith) in
    let x = check_unlevelled r.0 r.2 in
    (r.0, r.1, x.0, x.1, x.2)

-- how it takes a byte string is settled by as many bytes as how that is read
pub levels_take : (bytes : List ℕ) → check_levels (take read_ahead bytes) ≡ check_levels bytes
levels_take bytes = ap levels_at_desk (desk_take bytes)

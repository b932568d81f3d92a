-- Members of a list: what holds of each holds of one, and back; and one that passes a test.
use mathlib.Core.Path.{◌≡◌, refl, sym, ap, subst, ◌∙◌}
use mathlib.Core.Bool.{Bool, true, false, ◌||◌, false≢true}
use mathlib.Core.List.{List, [], ◌∷◌, ◌++◌, Memᴰ}
use Rattle.laws.specs.All.{All, end, more}
use Rattle.definitions.specs.Lists.{any_passes, Each}

module _ {A : Type 0} (P : A → Type 0) where
  at_one : (a : A) (l : List A) → Each P l → Memᴰ a l → P a
  at_one a l e (Memᴰ.head k) = subst P (sym k) e.0
  at_one a l e (Memᴰ.tail {xs = xs} m) = at_one a xs e.1 m

  pub each_at : (l : List A) → Each P l → (a : A) → Memᴰ a l → P a
  each_at l e a m = at_one a l e m

  pub each_by : (l : List A) → ((a : A) → Memᴰ a l → P a) → Each P l
  each_by [] h = tt
  each_by (a ∷ l) h = (h a (Memᴰ.head refl), each_by l (λ b m. h b (Memᴰ.tail m)))

  pub each_append : (l m : List A) → Each P l → Each P m → Each P (l ++ m)
  each_append [] m x y = y
  each_append (a ∷ l) m x y = (x.0, each_append l m x.1 y)

module _ {A : Type 0} {P Q : A → Type 0} where
  pub each_map : ((a : A) → P a → Q a) → (l : List A) → Each P l → Each Q l
  each_map f [] x = tt
  each_map f (a ∷ l) x = (f a x.0, each_map f l x.1)

-- the same, as a type of its own
module _ {A : Type 0} {P : A → Type 0} where
  pub each_all : (l : List A) → Each P l → All P l
  each_all [] x = end
  each_all (a ∷ l) x = more x.0 (each_all l x.1)

  pub all_each : {l : List A} → All P l → Each P l
  all_each end = tt
  all_each (more p x) = (p, all_each x)

-- Some one of a list passes a test.

module _ {A : Type 0} (test : A → Bool) where
  pub passing : (l : List A) → any_passes test l ≡ true → (a : A) × Memᴰ a l × (test a ≡ true)
  passing [] e = absurd (false≢true e)
  passing (b ∷ l) e = on (test b) refl (λ z. let x = passing l z in (x.0, Memᴰ.tail x.1, x.2)) e
    where
      on : (t : Bool) → test b ≡ t → (any_passes test l ≡ true → (a : A) × Memᴰ a (b ∷ l) × (test a ≡ true))
          → (t || any_passes test l) ≡ true → (a : A) × Memᴰ a (b ∷ l) × (test a ≡ true)
      on true h rest e = (b, Memᴰ.head refl, h)
      on false h rest e = rest e

  pub some_passes : (a : A) → test a ≡ true → (l : List A) → Memᴰ a l → any_passes test l ≡ true
  some_passes a e [] m = elim m [ ]
  some_passes a e (b ∷ l) (Memᴰ.head k) = ap (λ (t : Bool). t || any_passes test l) (ap test (sym k) ∙ e)
  some_passes a e (b ∷ l) (Memᴰ.tail m) = or_after (test b) (some_passes a e l m)
    where
      or_after : (s : Bool) {t : Bool} → t ≡ true → (s || t) ≡ true
      or_after true z = refl
      or_after false z = z

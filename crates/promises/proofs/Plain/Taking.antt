-- Taking a strand from a queue: the first that may be taken; those passed over stand behind the others.
use Prim.Native.Nat.{ℕ, suc, ◌+◌, ◌≤◌, ◌<◌}
use native.Mathlib.Omega.{arith}
use native.Mathlib.Decide.{dec_lt, ℕ_discrete}
use mathlib.Core.Path.{◌≡◌, refl, sym, ap, subst}
use mathlib.Core.Logic.{◌⊎◌, inl, inr}
use mathlib.Core.Option.{none, some}
use mathlib.Core.List.Memᴰ
use mathlib.Core.List.{List, [], ◌∷◌, ◌++◌, Memᴰ}
use lib.ListN.{length, length-append}
use Rattle.laws.proofs.Options.{no_such, same_some}
use Rattle.promises.proofs.Plain.Model.{either}
use Rattle.promises.proofs.Plain.Machine.{Strand, Queues, pick, put, take_at, take_from}

-- what taking a strand from a queue does; pre has been passed over
pub record Taken (pre q : List Strand) (s : Strand) (r : List Strand) : Type 0 where
  pub less : (t : Strand) → Memᴰ t r → Memᴰ t pre ⊎ Memᴰ t q
  pub mem : Memᴰ s q
  pub behind : (t : Strand) → Memᴰ t pre → Memᴰ t r
  pub most : (t : Strand) → Memᴰ t q → (s ≡ t) ⊎ Memᴰ t r
  pub number : suc (length r) ≡ length pre + length q

taken_here : (pre xs : List Strand) (x : Strand) → Taken pre (x ∷ xs) x (xs ++ pre)
taken_here pre xs x = record {
  less = λ t m. either (λ y. inr (Memᴰ.tail y)) inl (Memᴰ.append_cases xs m);
  mem = Memᴰ.head refl;
  behind = λ t m. Memᴰ.append_right xs m;
  most = λ t m. either (λ y. inl (sym y)) (λ y. inr (Memᴰ.append_left pre y)) (Memᴰ.cases_cons m);
  number = let a : length (xs ++ pre) ≡ length xs + length pre = length-append xs pre in omega arith;
}

taken_later : (pre xs : List Strand) (x s : Strand) (r : List Strand) → Taken (pre ++ (x ∷ [])) xs s r → Taken pre (x ∷ xs) s r
taken_later pre xs x s r k = record {
  less = λ t m. either (λ y. either inl (λ z. inr (Memᴰ.head (Memᴰ.eq_of_singleton z))) (Memᴰ.append_cases pre y))
      (λ y. inr (Memᴰ.tail y)) (k.less t m);
  mem = Memᴰ.tail k.mem;
  behind = λ t m. k.behind t (Memᴰ.append_left (x ∷ []) m);
  most = λ t m. either (λ y. inr (k.behind t (Memᴰ.append_right pre (Memᴰ.head y)))) (k.most t) (Memᴰ.cases_cons m);
  number = let a : length (pre ++ (x ∷ [])) ≡ length pre + 1 = length-append pre (x ∷ []) in let b = k.number in omega arith;
}

pub taken : (c : ℕ) (pre q : List Strand) (s : Strand) (r : List Strand) → take_from c pre q ≡ some (s, r) → Taken pre q s r
taken c pre [] s r p = absurd (no_such p)
taken c pre (x ∷ xs) s r p = go (dec_lt x.time c) p (taken c (pre ++ (x ∷ [])) xs s r)
  where
    go : (d : Dec (x.time < c)) → take_at d x (xs ++ pre) (take_from c (pre ++ (x ∷ [])) xs) ≡ some (s, r)
        → (take_from c (pre ++ (x ∷ [])) xs ≡ some (s, r) → Taken (pre ++ (x ∷ [])) xs s r) → Taken pre (x ∷ xs) s r
    go (yes o) e k = subst (λ (z : Strand × List Strand). Taken pre (x ∷ xs) z.0 z.1) (same_some e) (taken_here pre xs x)
    go (no o) e k = taken_later pre xs x s r (k e)

pub none_taken : (c : ℕ) (pre q : List Strand) → take_from c pre q ≡ none → (t : Strand) → Memᴰ t q → t.time < c → ⊥
none_taken c pre [] p t m o = Memᴰ.not-nil m
none_taken c pre (x ∷ xs) p t m o = go (dec_lt x.time c) p (none_taken c (pre ++ (x ∷ [])) xs) (Memᴰ.cases_cons m)
  where
    go : (d : Dec (x.time < c)) → take_at d x (xs ++ pre) (take_from c (pre ++ (x ∷ [])) xs) ≡ none
        → (take_from c (pre ++ (x ∷ [])) xs ≡ none → (t : Strand) → Memᴰ t xs → t.time < c → ⊥) → (t ≡ x) ⊎ Memᴰ t xs → ⊥
    go (yes l) e k i = no_such (sym e)
    go (no l) e k (inl i) = l (subst (λ z. z.time < c) i o)
    go (no l) e k (inr i) = k e t i o

pub put_length : (q : Queues) (g u : ℕ) (r : List Strand) → suc (length r) ≡ length (q g)
    → length (put q g r u) + pick (ℕ_discrete g u) 1 0 ≤ length (q u)
put_length q g u r n = go (ℕ_discrete g u)
  where
    go : (d : Dec (g ≡ u)) → length (pick d r (q u)) + pick d 1 0 ≤ length (q u)
    go (yes p) = let a : length (q g) ≡ length (q u) = ap (λ v. length (q v)) p in omega arith
    go (no o) = omega arith

-- Between two calls: the forest beside the machine's. A table names one goal and no other, as opens tell it.
use Prim.Native.Nat.{ℕ, ◌<◌}
use native.Mathlib.Omega.{arith}
use borrow.Author.Tests.{lt-leb, leb-false}
use mathlib.Core.Path.{◌≡◌, refl, sym, ap, subst, ◌∙◌}
use mathlib.Core.Bool.{Bool, true, false}
use mathlib.Core.Logic.{◌⊎◌, inl, inr}
use mathlib.Core.Option.{some}
use mathlib.Core.List.{List, [], ◌∷◌}
use lib.ListN.{length, get_elem?}
use lib.Dec.{leb}
use Rattle.definitions.specs.Refusal.{Refusable, refused, accepted, Test, ◌refuses◌, unless}
use Rattle.definitions.specs.Stop.{go}
use Rattle.definitions.specs.Tables.{Tables, Forest}
use Rattle.definitions.specs.Forest.{Opened, opened}
use Rattle.papers.specs.Claim.{Names, Named}
use Rattle.definitions.specs.Lists.{Each}
use Rattle.definitions.proofs.Refusal.{all_pass}
use Rattle.asserts.proofs.Safe.{same_go}
use Rattle.laws.proofs.Options.{same_some}
use Rattle.promises.proofs.Plain.Machine as M
use Rattle.promises.proofs.Plain.Whole.{Ready, ready_strands}
use Rattle.promises.proofs.Link.Tables.{Agree}
use Rattle.promises.proofs.Link.Making.{Made, make_table}
use Rattle.promises.proofs.Link.Premises.{Premises, setting_of, forest_in}

-- How the tests of a call come out: the first that fails refuses it, or all pass.

abbrev pub Failed : ℕ → List Test → Type 0
Failed n [] = ⊥
Failed n (t ∷ ts) = ((t.fails ≡ true) × (t.number ≡ n)) ⊎ Failed n ts

pub data Comes {A : Type 0} (ts : List Test) (a : A) : Refusable A → Type 0 where
  turned_down : {n : ℕ} → Failed n ts → Comes ts a (refused n)
  let_through : Each (λ t. t.fails ≡ false) ts → Comes ts a (accepted a)

module _ {A : Type 0} where
  comes_next : (t : Test) (ts : List Test) (a : A) (o : Refusable A) → t.fails ≡ false → Comes ts a o → Comes (t ∷ ts) a o
  comes_next t ts a (refused n) e (turned_down x) = turned_down (inr x)
  comes_next t ts a (accepted b) e (let_through x) = let_through (e, x)

  pub unless_stop : (t : Test) (ts : List Test) (a : A) → t.fails ≡ true → unless (t ∷ ts) a ≡ refused t.number
  unless_stop t ts a e = rw (e, unless)

  unless_next : (t : Test) (ts : List Test) (a : A) → t.fails ≡ false → unless (t ∷ ts) a ≡ unless ts a
  unless_next t ts a e = rw (e, unless)

  pub comes : (ts : List Test) (a : A) → Comes ts a (unless ts a)
  comes [] a = let_through tt
  comes (t ∷ ts) a = at t.fails refl (comes ts a)
    where
      at : (b : Bool) → t.fails ≡ b → Comes ts a (unless ts a) → Comes (t ∷ ts) a (unless (t ∷ ts) a)
      at true e r = subst (Comes (t ∷ ts) a) (sym (unless_stop t ts a e)) (turned_down (inl (e, refl)))
      at false e r = subst (Comes (t ∷ ts) a) (sym (unless_next t ts a e)) (comes_next t ts a (unless ts a) e r)

module _ (G : Premises) where
  -- the forest between two calls
  pub record Between (f : Forest) (p : M.Forest) : Type 0 where
    pub goals : List ℕ
    pub tables : Tables
    pub is : f ≡ forest_in G 0 tables p.clock
    pub agree : Agree G.book goals tables p
    pub ready : Ready (setting_of G) p

  pub open_made : {gs : List ℕ} {ts : Tables} {p : M.Forest} → Agree G.book gs ts p → Ready (setting_of G) p → (h : ℕ)
      → h < length G.book → Made G.book G.limit 0 gs ts p p.clock 0 h
  open_made {p = p} a ready h lt = make_table G.sound G.limit 0 a p.clock 0 h lt
      (let x = ready_strands (setting_of G) p ready in omega arith)

  pub opened_is : {gs : List ℕ} {ts : Tables} {p : M.Forest} (a : Agree G.book gs ts p) (ready : Ready (setting_of G) p) (h : ℕ)
      (lt : h < length G.book)
      → opened 0 (forest_in G 0 ts p.clock) h ≡ record {
        table = go (open_made a ready h lt).place;
        forest = forest_in G 0 (open_made a ready h lt).after p.clock;
      }
  opened_is a ready h lt = rw ((open_made a ready h lt).is, opened)

  -- a table names its goal
  pub named : {gs : List ℕ} {ts : Tables} {p : M.Forest} → Agree G.book gs ts p → Ready (setting_of G) p → (t g : ℕ)
      → get_elem? gs t ≡ some g → (Is : ℕ → Type 0) → Is g → Named (forest_in G 0 ts p.clock) t Is
  named {gs} {ts} {p} a ready t g at Is yes-g = ((g, first), other)
    where
      F : Forest
      F = forest_in G 0 ts p.clock

      first : Names (forest_in G 0 ts p.clock) t g
      first =
          let lt = a.within t g at in
          let m = open_made a ready g lt in
          let same : m.place ≡ t = m.agree.distinct m.place t g m.at (m.more t g at) in (
            opened 0 (forest_in G 0 ts p.clock) g,
            rw (lt-leb (length G.book) g lt),
            ap (λ (z : Opened). z.table)
                (opened_is a ready g lt) ∙ ap go same,
          )

      other : (h : ℕ) → Names (forest_in G 0 ts p.clock) t h → Is h
      other h (r, e, k) =
          let x = all_pass (false refuses 20 ∷ leb (length G.book) h refuses 9 ∷ []) (opened 0 (forest_in G 0 ts p.clock) h) r e in
          let lt = leb-false (length G.book) h x.0.1.0 in
          let m = open_made a ready h lt in
          let q : go m.place ≡ go t = sym (ap (λ (z : Opened). z.table) (opened_is a ready h lt)) ∙ ap (λ (z : Opened). z.table) x.1
          ∙ k in
          let same : m.place ≡ t = same_go q in
          let g-h : g ≡ h = same_some (sym (m.more t g at) ∙ sym (ap (get_elem? m.goals) same) ∙ m.at) in
          subst Is g-h yes-g

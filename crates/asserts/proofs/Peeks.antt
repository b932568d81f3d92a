-- A peek: the passes that are allowed are enough to come past the stored answers with delayed goals.
use Prim.Native.Nat.{ℕ, zero, suc, ◌+◌, ◌≤◌, ◌<◌}
use native.Mathlib.Omega.{arith}
use mathlib.Core.Path.{◌≡◌, refl}
use mathlib.Core.Bool.{Bool, true, false}
use mathlib.Core.Logic.{inr}
use lib.ListN.{length}
use Rattle.definitions.specs.Tables.{Forest}
use Rattle.definitions.specs.Turn.{Searched, root_answer}
use Rattle.definitions.specs.Forest.{Peeked, is_invalid, is_exceeded, peeked, skip_invalid, peek_rounds}
use Rattle.laws.proofs.Totals.{total_one}
use Rattle.laws.proofs.Bools.{case_bool}
use Rattle.asserts.proofs.Unwinding.{Ended}
use Rattle.asserts.proofs.Searches.{Fine, Well, root_answers}

pub record PeekWell (n root : ℕ) (p : Peeked) : Type 0 where
  pub ended : Ended n root p.index p.forest
  pub fine : Fine p.ending
  pub valid : is_invalid p.ending ≡ false

module _ (n root limit : ℕ) where
  -- an invalid answer is a stored one
  pub invalid_under : (index : ℕ) (r : Searched) → Well n root index r → is_invalid r.ending ≡ true → index < 256
  invalid_under index r w e =
      let x = w.when_invalid e in
      let a = x.enough in
      let b = total_one (λ t. length t.answers) r.forest.tables root x.own x.is_made in
      let c = w.ended.sound.few_answers in
      omega arith

  by_invalid : (b : Bool) (index k : ℕ) (r : Searched) → is_invalid r.ending ≡ b → 256 ≤ index → Well n root index r
      → PeekWell n root (peeked index k r)
  by_invalid true index k r e o w = let x = invalid_under index r w e in absurd (omega arith)
  by_invalid false index k r e o w = record { ended = w.ended; fine = w.fine; valid = e }

  skips : (more k index : ℕ) (f : Forest) → 256 ≤ index + more → Ended n root index f
      → PeekWell n root (skip_invalid more limit k root index f)
  skips zero k index f o x = let w = root_answers n root index limit f x in
      by_invalid (is_invalid (root_answer limit root index f).ending) index k (root_answer limit root index f) refl (omega arith) w
  skips (suc more) k index f o x =
      let w = root_answers n root index limit f x in
      case_bool (PeekWell n root) (is_invalid (root_answer limit root index f).ending)
      (λ e. let y = w.when_invalid e in skips more k (suc index) (root_answer limit root index f).forest (omega arith) (record {
        sound = w.ended.sound;
        own = y.own;
        is_made = y.is_made;
        reached = inr y.enough;
      }))
      (λ e. record { ended = w.ended; fine = w.fine; valid = e })

  pub peeks_well : (more k index : ℕ) (f : Forest) → Ended n root index f → PeekWell n root (peek_rounds more limit k root index f)
  peeks_well zero k index f x =
      let p = skips 256 k index f (omega arith) x in
      case_bool (PeekWell n root) (is_exceeded (skip_invalid 256 limit k root index f).ending)
      (λ e. record { ended = p.ended; fine = p.fine; valid = p.valid })
      (λ e. p)
  peeks_well (suc more) k index f x =
      let p = skips 256 k index f (omega arith) x in
      case_bool (PeekWell n root) (is_exceeded (skip_invalid 256 limit k root index f).ending)
      (λ e. peeks_well more (suc k) (skip_invalid 256 limit k root index f).index (skip_invalid 256 limit k root index f).forest
      p.ended)
      (λ e. p)

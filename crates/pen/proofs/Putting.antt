-- What the proofs of the pen's functions cite: where a byte goes, and that bytes put down one after the other are put down as one list.
-- And that a text that fits stands in the buffer as it is (`put_fits`, at the end). Assumes nothing.
use Prim.Native.Nat.{ℕ, zero, suc, ◌+◌, ◌<◌, ◌≤◌}
use native.Mathlib.Omega.{arith}
use mathlib.Core.Path.{◌≡◌, refl, sym, ap, subst, ◌∙◌}
use mathlib.Core.List.{List, [], ◌∷◌, ◌++◌, append-nil, append_assoc}
use native.Mathlib.Numerals.{add-one}
use lib.ListN.{length, length-set, set, take, get_or}
use lib.Seq.{take-suc, take-suc-set, length-take-le}
use borrow.Author.Tests.{lt-ltb, le-ltb}
use Rattle.definitions.specs.Text.{blanks}
use Rattle.pen.specs.Pen.{Pen, pen, anew, put, put_all}

pub put_room : (l : List ℕ) (at b : ℕ) → at < length l → pen (set l at b) (at + 1) ≡ put b (pen l at)
unfolding put
put_room l at b h = rw (lt-ltb at (length l) h, put)

pub put_full : (l : List ℕ) (at b : ℕ) → length l ≤ at → 0 < length l → pen (set l 0 b) 1 ≡ put b (pen l at)
unfolding put anew
put_full l at b h k = rw (le-ltb at (length l) h, put, lt-ltb 0 (length l) k, anew)

pub put_none : (l : List ℕ) (at b : ℕ) → length l ≤ at → length l ≤ 0 → pen l 0 ≡ put b (pen l at)
unfolding put anew
put_none l at b h k = rw (le-ltb at (length l) h, put, le-ltb 0 (length l) k, anew)

pub put_all_append : (a b : List ℕ) (p : Pen) → put_all (a ++ b) p ≡ put_all b (put_all a p)
unfolding put_all
put_all_append [] b p = refl
put_all_append (x ∷ a) b p = put_all_append a b (put x p)

pub put_next : (l : List ℕ) (i : ℕ) (p : Pen) → i < length l → put_all (take (i + 1) l) p ≡ put (get_or l i 0) (put_all (take i l) p)
unfolding put_all
put_next l i p h = rw (add-one i, take-suc l i 0 h) (put_all_append (take i l) (get_or l i 0 ∷ []) p)

blanks_more : (n : ℕ) (p : Pen) → put_all (blanks (suc n)) p ≡ put 32 (put_all (blanks n) p)
unfolding put_all
blanks_more zero p = refl
blanks_more (suc n) p = blanks_more n (put 32 p)

pub put_all_blanks : (n : ℕ) (p : Pen) → put_all (blanks (n + 1)) p ≡ put 32 (put_all (blanks n) p)
put_all_blanks n p = rw (add-one n) (blanks_more n p)

-- texts put down one after the other
pub put_two : (a b : List ℕ) (p q r : Pen) → q ≡ put_all a p → r ≡ put_all b q → r ≡ put_all (a ++ b) p
put_two a b p q r e f = f ∙ ap (put_all b) e ∙ sym (put_all_append a b p)

pub put_nothing : (p : Pen) → put_all [] p ≡ p
unfolding put_all
put_nothing p = refl

pub put_one : (b : ℕ) (p q : Pen) → q ≡ put b p → q ≡ put_all (b ∷ []) p
unfolding put_all
put_one b p q e = e

-- a text, and what is left to say; and nothing left
pub put_left : (a d : List ℕ) (p q : Pen) → q ≡ put_all a p → put_all d q ≡ put_all (a ++ d) p
put_left a d p q e = ap (put_all d) e ∙ sym (put_all_append a d p)

pub put_ended : (a d : List ℕ) (p q : Pen) → a ≡ [] → put_all a q ≡ put_all d p → q ≡ put_all d p
put_ended a d p q e f = sym (put_nothing q) ∙ ap (λ (w : List ℕ). put_all w q) (sym e) ∙ f

-- A text put down from `at` on, with room for all of it, stands behind what was there.

pub record Stands (l buffer : List ℕ) (at : ℕ) (p : Pen) : Type 0 where
  pub same_length : length p.buffer ≡ length buffer
  pub ends : p.used ≡ at + length l
  pub holds : take (at + length l) p.buffer ≡ take at buffer ++ l

pub put_fits : (l buffer : List ℕ) (at : ℕ) → at + length l ≤ length buffer → Stands l buffer at (put_all l (pen buffer at))
unfolding put_all
put_fits [] buffer at h =
    let none_more : at + 0 ≡ at = omega arith in
    record {
      same_length = refl;
      ends = sym none_more;
      holds = ap (λ (n : ℕ). take n buffer) none_more ∙ sym (append-nil (take at buffer));
    }
put_fits (b ∷ l) buffer at h =
    let one : at + 1 ≡ suc at = omega arith in
    let sum : at + suc (length l) ≡ at + 1 + length l = omega arith in
    let f = put_fits l (set buffer at b) (at + 1) (omega (arith, length-set buffer at b)) in
    subst (λ (p : Pen). Stands (b ∷ l) buffer at (put_all l p)) (put_room buffer at b (omega arith)) (record {
      same_length = f.same_length ∙ length-set buffer at b;
      ends = f.ends ∙ sym sum;
      holds = ap (λ (n : ℕ). take n (put_all l (pen (set buffer at b) (at + 1))).buffer) sum
          ∙ f.holds
          ∙ ap (λ (n : ℕ). take n (set buffer at b) ++ l) one
          ∙ ap (λ (x : List ℕ). x ++ l) (take-suc-set buffer at b (omega arith))
          ∙ append_assoc (take at buffer) (b ∷ []) l;
    })

-- and none of its bytes finds the buffer full, so that nothing is written out early
pub put_finds_room : (l buffer : List ℕ) (at i : ℕ) → at + length l ≤ length buffer → i < length l
    → (put_all (take i l) (pen buffer at)).used < length (put_all (take i l) (pen buffer at)).buffer
put_finds_room l buffer at i h k =
    let few : length (take i l) ≡ i = length-take-le i l (omega arith) in
    let f = put_fits (take i l) buffer at (omega arith) in
    omega (arith, f.same_length, f.ends)

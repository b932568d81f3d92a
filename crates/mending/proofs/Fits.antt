-- THE THEOREM of the program: with a buffer of 20,480 bytes for the book and one of 4,096 for the lines, `mend_to` puts down exactly the
-- book and exactly the lines. Neither buffer is ever full before its last byte is put down, so that nothing is written out early, and what
-- is in use at the end is all that is to be said (`mend_put_down`, at the end). Assumes nothing.
use Prim.Native.Nat.{ℕ, ◌+◌, ◌<◌, ◌≤◌}
use native.Mathlib.Omega.{arith}
use mathlib.Core.Path.{◌≡◌, ap, ap₂, ◌∙◌}
use mathlib.Core.List.{List, [], ◌∷◌, ◌++◌}
use lib.ListN.{length, length-append, take}
use Rattle.definitions.specs.Refusal.{Refusable, refused, accepted}
use Rattle.definitions.specs.Text.{ascii, decimal}
use Rattle.papers.specs.Mend.{Mended, mend}
use Rattle.papers.proofs.Digits.{decimal_short}
use Rattle.papers.proofs.MendFits.{mend_fits, mend_number}
use Rattle.pen.specs.Pen.{Pen, pen, put_all}
use Rattle.pen.specs.Refusals.{refusal_line}
use Rattle.pen.proofs.Putting.{put_fits, put_finds_room}
use Rattle.mending.specs.Mending.{mends}

-- A text was put down whole: it is what is in use of the buffer, and each byte of it found room.

pub record Whole (text before after : List ℕ) (used : ℕ) : Type 0 where
  pub in_use : used ≡ length text
  pub holds : take used after ≡ text
  pub finds_room : (i : ℕ) → i < length text
      → (put_all (take i text) (pen before 0)).used < length (put_all (take i text) (pen before 0)).buffer

put_whole : (text before after : List ℕ) (used : ℕ) → length text ≤ length before → pen after used ≡ put_all text (pen before 0)
    → Whole text before after used
put_whole text before after used h e =
    let f = put_fits text before 0 (omega arith) in
    let ends : used ≡ 0 + length text = ap (λ (p : Pen). p.used) e ∙ f.ends in
    record {
      in_use = omega arith;
      holds = ap₂ take ends (ap (λ (p : Pen). p.buffer) e) ∙ f.holds;
      finds_room = λ i k. put_finds_room text before 0 i (omega arith) k;
    }

refusal_short : (n : ℕ) → n < 100 → length (refusal_line n) ≤ 11
unfolding refusal_line
refusal_short n h =
    omega (
      arith,
      decimal_short 1 n h,
      length-append (ascii "refused ") (decimal n),
      length-append (ascii "refused " ++ decimal n) (10 ∷ []),
    )

-- What is in the buffers behind a call of `mend_to`, whose answer has the number n, and which says how much is in use of each (`used`,
-- `said`): the book and the lines, with number 0; or no book, and the line of a refusal, with its number. So it is of two pens that begin
-- at their buffers' starts, behind a call of `mend`.

pub record PutDown (bytes out told out' told' : List ℕ) (n used said : ℕ) : Type 0 where
  pub mended : (m : Mended) → mend bytes ≡ accepted m → (n ≡ 0) × Whole m.bytes out out' used × Whole m.lines told told' said
  pub not_mended : (k : ℕ) → mend bytes ≡ refused k → (n ≡ k) × (used ≡ 0) × Whole (refusal_line k) told told' said

-- from what is promised of `mend_to`
pub mend_put_down : (bytes out told out' told' : List ℕ) (n used said : ℕ)
    → ◌≡◌ {A = ℕ × Pen × Pen} (n, pen out' used, pen told' said) (mends (mend bytes) (pen out 0) (pen told 0))
    → 20480 ≤ length out → 4096 ≤ length told → PutDown bytes out told out' told' n used said
mend_put_down bytes out told out' told' n used said e h k = record {
  mended = λ m x.
      let f = mend_fits bytes m x in
      let c = e ∙ ap (λ (r : Refusable Mended). mends r (pen out 0) (pen told 0)) x in
      let lines-whole = put_whole m.lines told told' said (omega arith) (ap lines c) in
      (ap number c, put_whole m.bytes out out' used (omega arith) (ap book c), lines-whole);
  not_mended = λ j x.
      let short = refusal_short j (omega (arith, mend_number bytes j x)) in
      let c = e ∙ ap (λ (r : Refusable Mended). mends r (pen out 0) (pen told 0)) x in
      (ap number c, ap (λ (t : ℕ × Pen × Pen). (book t).used) c, put_whole (refusal_line j) told told' said (omega arith) (ap lines c));
}
  where
    number : ℕ × Pen × Pen → ℕ
    number t = t.0

    book : ℕ × Pen × Pen → Pen
    book t = t.1

    lines : ℕ × Pen × Pen → Pen
    lines t = t.2

-- What is put down with a pen: bytes into a buffer, from its start again whenever it is full. What a full buffer holds is written out
-- first, so that nothing is lost; no contract can speak of that.
use base.Fml.{GName}
use Rattle.std.specs.Prelude.{ℕ, ◌+◌, true, false, List, [], ◌∷◌, length, set, ltb}
use Rattle.pen.specs.declared.Pen as lent

-- a buffer, and how much of it is in use
pub record Pen : Type 0 where
  pub buffer : List ℕ
  pub used : ℕ

abbrev pub pen : List ℕ → ℕ → Pen
pen l n = record { buffer = l; used = n }

-- what a pen holds: the buffer that it was lent, and how much of it is in use
abbrev pub content : lent.Pen → Pen
content p = pen p.buffer.now p.used

-- the loan of that buffer
abbrev pub lender : lent.Pen → GName
lender p = p.buffer.ghost_name

-- a buffer of no length takes nothing
unfoldable pub anew : ℕ → List ℕ → Pen
anew b l = elim (ltb 0 (length l)) [ true ↦ pen (set l 0 b) 1 | false ↦ pen l 0 ]

unfoldable pub put : ℕ → Pen → Pen
put b p = elim (ltb p.used (length p.buffer)) [
  | true ↦ pen (set p.buffer p.used b) (p.used + 1)
  | false ↦ anew b p.buffer
]

unfoldable pub put_all : List ℕ → Pen → Pen
put_all [] p = p
put_all (b ∷ bs) p = put_all bs (put b p)

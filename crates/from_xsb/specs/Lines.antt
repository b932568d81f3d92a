-- What `from_xsb` says on standard error of a text.
use Rattle.std.specs.Prelude.{ℕ, Bool, true, false, eqb}
use Rattle.pen.specs.Pen.{Pen, put_all}
use Rattle.pen.specs.Refusals.{refusal_lines}

abbrev pub said_by : (taken : Bool) → ℕ → Pen → Pen
said_by true n p = p
said_by false n p = put_all (refusal_lines n) p

-- of a text that is taken, which has the number 0, nothing; of another the lines of its refusal
abbrev pub said : (number : ℕ) → Pen → Pen
said n p = said_by (eqb n 0) n p

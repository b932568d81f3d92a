-- What the proof of a refusal's line cites: the word and the number, and the line's end behind them. Assumes nothing.
use Prim.Native.Nat.{ℕ}
use mathlib.Core.Path.{◌≡◌}
use mathlib.Core.List.{◌++◌}
use Rattle.definitions.specs.Text.{ascii, decimal}
use Rattle.pen.specs.Pen.{Pen, put_all}
use Rattle.pen.specs.Refusals.{refusal_line}
use Rattle.pen.proofs.Putting.{put_two}

pub line_said : (n : ℕ) (p q r : Pen) → q ≡ put_all (ascii "refused " ++ decimal n) p → r ≡ put_all (ascii "\n") q
    → r ≡ put_all (refusal_line n) p
unfolding refusal_line
line_said n p q r e f = put_two (ascii "refused " ++ decimal n) (ascii "\n") p q r e f

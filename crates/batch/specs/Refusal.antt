-- What refuses a search or a peek before its limits are looked at: 20, 10 and 11, or 0 where none of them does.
use Rattle.std.specs.Prelude.{ℕ, ◌%◌, Bool, true, false, List, leb, ltb, get_or}
use Rattle.stores.specs.Numbers.{flag_at}

abbrev pub refusal_by : (marked missing floundered above : Bool) → ℕ
refusal_by true missing floundered above = 20
refusal_by false true floundered above = 10
refusal_by false false true above = 0
refusal_by false false false true = 11
refusal_by false false false false = 0

abbrev pub refusal_in : (mark count : ℕ) → (floundered answer_len : List ℕ) → (table index : ℕ) → ℕ
refusal_in mark count floundered answer_len table index =
    let t = table % 256 in
    refusal_by (ltb 0 mark) (leb count table) (flag_at t floundered) (ltb (get_or answer_len t 0) index)

-- The operands of a command at a place of the bytes, as the reader takes them.
use Rattle.std.specs.Prelude.{ℕ, ◌+◌, ◌*◌, ◌%◌, ◌<◌, ◌≡◌, Bool, true, false, List, eqb, ltb}
use Rattle.definitions.specs.Book.{command, byte, u16}
use Rattle.book.specs.declared.decode.Operands.{Operands}
use Rattle.book.specs.Faults.{marked}

-- a literal's kind from its flags: bit 0 as it is, bit 1 for a "not", and bit 2 for a range
abbrev pub kind_by : (negative ranged : Bool) → ℕ → ℕ
kind_by true ranged flags = flags % 2 + 2
kind_by false true flags = flags % 2 + 4
kind_by false false flags = flags % 2

-- a want, or the low end of a range, and a range's high end
abbrev pub want_by : (positive ranged : Bool) → ℕ → ℕ
want_by true ranged want = want
want_by false true want = want
want_by false false want = 0

abbrev pub high_by : (ranged : Bool) → ℕ → ℕ
high_by true high = high
high_by false high = 0

abbrev pub want_at : List ℕ → (at command : ℕ) → ℕ
want_at bytes at command = want_by (eqb command 0x50) (eqb command 0x52) (u16 bytes (at + 3))

abbrev pub high_at : List ℕ → (at command : ℕ) → ℕ
high_at bytes at command = high_by (eqb command 0x52) (u16 bytes (at + 5))

abbrev pub crossed_by : (ranged : Bool) → (low high : ℕ) → Bool
crossed_by true low high = ltb high low
crossed_by false low high = false

-- the flags are the last of the operands
pub record OperandsAt (bytes : List ℕ) (at : ℕ) (r : Operands) : Type 0 where
  pub command_is : r.command ≡ byte bytes at
  pub flags_are : r.flags ≡ byte bytes (at + marked (command r.command))
  pub kind_is : r.kind ≡ kind_by (eqb r.command 0x4E) (eqb r.command 0x52) (byte bytes (at + marked (command r.command)))
  pub number_fits : r.number < 65536
  pub number_is : r.number ≡ u16 bytes (at + 1)
  pub low_fits : want_at bytes at r.command < 65536
  pub high_fits : high_at bytes at r.command < 65536
  pub want_is : r.want ≡ want_at bytes at r.command + 65536 * high_at bytes at r.command
  pub next_is : r.next ≡ at + marked (command r.command) + 1

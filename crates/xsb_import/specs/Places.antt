-- The places in a text as the definitions have them; a place at which one byte must come is told by its number in the form.
use Rattle.std.specs.Prelude.{ℕ, ◌+◌, ◌<◌, true, false, List, [], ◌∷◌, ◌++◌, get_or, eqb, Some, None}
use Rattle.std.specs.declared.option.Option as found
use Rattle.std.proofs.Math.Option.{Option, none, some}
use Rattle.definitions.specs.Text.{ascii}
use Rattle.papers.specs.Xsb as said
use Rattle.papers.specs.Xsb.{line, fixed, number, literal, behind, table, head, positive, negative}
use Rattle.xsb_import.specs.declared.What.{What}
use Rattle.xsb_import.specs.declared.What.TheVariants.{Table, Head, Positive, Negative}
use Rattle.xsb_import.specs.declared.Place.{Place}
use Rattle.xsb_import.specs.declared.Place.TheVariants.{Line, Fixed, Number, Literal, Behind}

-- a place for each of these bytes
abbrev pub places_of : List ℕ → (next : said.Place) → List said.Place
places_of [] next = []
places_of (b ∷ bs) next = fixed b bs next ∷ places_of bs next

abbrev pub fixed_places : List said.Place
fixed_places =
    places_of (ascii "- table g") (number table none)
    ++ (places_of (ascii "0.\n") line
    ++ (places_of (ascii ":- ") literal
    ++ places_of (ascii "not(g") (number negative none)))

-- a number of which a digit was read, or none
abbrev pub value_seen : found.Option ℕ → Option ℕ
value_seen None = none
value_seen (Some v) = some v

abbrev pub what_seen : What → said.What
what_seen Table = table
what_seen Head = head
what_seen Positive = positive
what_seen Negative = negative

abbrev pub place_seen : Place → said.Place
place_seen Line = line
place_seen (Fixed k) = get_or fixed_places k line
place_seen (Number w v) = number (what_seen w) (value_seen v)
place_seen Literal = literal
place_seen Behind = behind

-- its number is one of the form's
abbrev pub Known : Place → Type 0
Known Line = Unit {0}
Known (Fixed k) = k < 20
Known (Number w v) = Unit {0}
Known Literal = Unit {0}
Known Behind = Unit {0}

-- the bytes that must come
abbrev pub form : List ℕ
form = ascii "- table g0.\n:- not(g"

abbrev pub byte_at : (k : ℕ) → ℕ
byte_at k = get_or form k 0

-- the place behind each of them
abbrev pub next_at : (k : ℕ) → Place
next_at k = elim (eqb k 8) [
  | true ↦ Number Table None
  | false ↦ elim (eqb k 11) [
    | true ↦ Line
    | false ↦ elim (eqb k 14) [
      | true ↦ Literal
      | false ↦ elim (eqb k 19) [ true ↦ Number Negative None | false ↦ Fixed (k + 1) ]
    ]
  ]
]

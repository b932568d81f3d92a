-- The listing program (document 01 and change requests 3 and 5), in two halves: from a book's bytes to the lines, and from the lines to the
-- bytes that are printed. The second half knows the lines alone; it renders them twice, in the fields of document 01 and as pages.
use Rattle.std.specs.Prelude.{ℕ, zero, suc, ◌+◌, ◌-◌, ◌%◌, Bool, true, false, ◌||◌, List, [], ◌∷◌, ◌++◌, length, ltb}
use Rattle.definitions.specs.Text.{ascii, decimal, Side, at_left, at_right, blanks, in_column}
use Rattle.definitions.specs.Refusal.{Refusable, refused, accepted}
use Rattle.definitions.specs.Stop.{stop, go}
use Rattle.definitions.specs.Tables.{Forest}
use Rattle.definitions.specs.Logic.{RootSearchFail, NoMoreSolutions, Floundered, QuantumExceeded, NegativeCycle, InvalidAnswer}
use Rattle.definitions.specs.Turn.{Ending, found, fail, cut, stopped}
use Rattle.definitions.specs.Forest.{Opened, opened, peek_rounds}
use Rattle.definitions.specs.Desk.{make_at_desk}

-- The lines.

abbrev pub listing_rounds : ℕ
listing_rounds = 1000

abbrev pub listing_turns : ℕ
listing_turns = 10000

abbrev pub listing_clock : ℕ
listing_clock = 1000000

-- a line: a goal, the index at which the peek ended, and how; the index is 0 if the open stopped. `skipped` (change request 5): an answer
-- of the goal was skipped as invalid, "in this peek or an earlier one"
pub record Line : Type 0 where
  pub goal : ℕ
  pub index : ℕ
  pub ending : Ending
  pub skipped : Bool

abbrev pub line : (goal index : ℕ) → Ending → (skipped : Bool) → Line
line goal index ending skipped = record { goal = goal; index = index; ending = ending; skipped = skipped }

-- what follows a line: the next index, the next goal, or the end
pub data Next : Type 0 where
  next_index : Next
  next_goal : Next
  the_end : Next

abbrev pub next : Ending → Next
next (found a) = next_index
next (fail e) = next_goal
next cut = next_goal
next (stopped n) = the_end

-- what one goal comes to: its lines, whether a stop ended them, and the forest left
pub record Listed : Type 0 where
  pub lines : List Line
  pub stops : Bool
  pub forest : Forest

-- The lines of a goal from an index on; `skipped`: an earlier peek skipped an answer. A peek ends at a later index than it was asked for
-- just where it skipped one. The first number bounds the lines: each index but the last has an answer, and at most 256 are held together.
-- Where it ran out the line would say stop 0.
abbrev pub list_from : ℕ → (goal table index : ℕ) → (skipped : Bool) → Forest → Listed
list_from zero goal t i skipped f = record { lines = line goal i (stopped 0) skipped ∷ []; stops = true; forest = f }
list_from (suc more) goal t i skipped f =
    let p = peek_rounds (listing_rounds - 1) listing_turns 0 t i f in
    let skips = skipped || ltb i p.index in
    let here = line goal p.index p.ending skips in
    elim (next p.ending) [
      | next_index ↦
          let rest = list_from more goal t (suc p.index) skips p.forest in
          record { lines = here ∷ rest.lines; stops = rest.stops; forest = rest.forest }
      | next_goal ↦ record { lines = here ∷ []; stops = false; forest = p.forest }
      | the_end ↦ record { lines = here ∷ []; stops = true; forest = p.forest }
    ]

-- one goal: it is opened, then peeked at
abbrev pub list_opened : (goal : ℕ) → Opened → Listed
list_opened goal o = elim o.table [
  | stop n ↦ record { lines = line goal 0 (stopped n) false ∷ []; stops = true; forest = o.forest }
  | go t ↦ list_from 257 goal t 0 false o.forest
]

abbrev pub list_goal : (goal : ℕ) → Forest → Listed
list_goal goal f = list_opened goal (opened 0 f goal)

-- the last `left` goals of a book, the first of them `goal`
abbrev pub list_goals : (left goal : ℕ) → Forest → List Line
list_goals zero goal f = []
list_goals (suc left) goal f =
    let here = list_goal goal f in
    elim here.stops [
      | true ↦ here.lines
      | false ↦ here.lines ++ list_goals left (suc goal) here.forest
    ]

-- a book is taken as the desk takes it
abbrev pub lines : (bytes : List ℕ) → Refusable (List Line)
lines bytes = elim (make_at_desk bytes listing_clock) [
  | refused n ↦ refused n
  | accepted f ↦ accepted (list_goals (length f.book) 0 f)
]

-- The bytes.

-- The word of an ending; change request 5: "`unsettled` where NoMoreSolutions comes after a skipped answer of that goal".

abbrev pub fail_word : RootSearchFail → (skipped : Bool) → List ℕ
fail_word NoMoreSolutions true = ascii "unsettled"
fail_word NoMoreSolutions false = ascii "none"
fail_word Floundered skipped = ascii "floundered"
fail_word QuantumExceeded skipped = ascii "again"
fail_word NegativeCycle skipped = ascii "negcycle"
fail_word InvalidAnswer skipped = ascii "invalid"

abbrev pub word : Ending → (skipped : Bool) → List ℕ
word (found a) skipped = elim a.ambiguous [ true ↦ ascii "maybe" | false ↦ ascii "yes" ]
word (fail e) skipped = fail_word e skipped
word cut skipped = ascii "cut"
word (stopped n) skipped = ascii "stop"

-- the variant of an answer, the number of a stop, or nothing
abbrev pub number : Ending → List ℕ
number (found a) = decimal a.variant
number (fail e) = []
number cut = []
number (stopped n) = decimal n

-- The fields of document 01: one space apart, a line each.

abbrev pub behind : List ℕ → List ℕ
behind [] = []
behind (b ∷ bs) = ascii " " ++ (b ∷ bs)

abbrev pub line_bytes : Line → List ℕ
line_bytes l =
    decimal l.goal ++ ascii " " ++ decimal l.index ++ ascii " " ++ word l.ending l.skipped
    ++ behind (number l.ending) ++ ascii "\n"

abbrev pub lines_bytes : List Line → List ℕ
lines_bytes [] = []
lines_bytes (l ∷ ls) = line_bytes l ++ lines_bytes ls

abbrev pub refusal_bytes : (number : ℕ) → List ℕ
refusal_bytes n = ascii "refused" ++ ascii " " ++ decimal n ++ ascii "\n"

abbrev pub fields : (bytes : List ℕ) → List ℕ
fields bytes = elim (lines bytes) [ refused n ↦ refusal_bytes n | accepted ls ↦ lines_bytes ls ]

-- The pages of change request 3: "Columns: goal 3 wide right-aligned, index 5 right, word 10 left, variant or stop number 5 right, a space
-- between columns, blanks where there is no number".

pub record Column : Type 0 where
  pub width : ℕ
  pub side : Side
  pub shows : Line → List ℕ

abbrev pub columns : List Column
columns =
    record { width = 3; side = at_right; shows = λ l. decimal l.goal }
    ∷ record { width = 5; side = at_right; shows = λ l. decimal l.index }
    ∷ record { width = 10; side = at_left; shows = λ l. word l.ending l.skipped }
    ∷ record { width = 5; side = at_right; shows = λ l. number l.ending }
    ∷ []

abbrev pub across : List Column → Line → List ℕ
across [] l = []
across (c ∷ []) l = in_column c.side c.width (c.shows l)
across (c ∷ d ∷ cs) l = in_column c.side c.width (c.shows l) ++ ascii " " ++ across (d ∷ cs) l

abbrev pub width_of : List Column → ℕ
width_of [] = 0
width_of (c ∷ []) = c.width
width_of (c ∷ d ∷ cs) = c.width + 1 + width_of (d ∷ cs)

-- "each line 26 bytes and a newline"
abbrev pub page_line : Line → List ℕ
page_line l = across columns l ++ ascii "\n"

abbrev pub blank_line : List ℕ
blank_line = blanks (width_of columns) ++ ascii "\n"

abbrev pub blank_lines : ℕ → List ℕ
blank_lines zero = []
blank_lines (suc n) = blank_line ++ blank_lines n

abbrev pub page_lines : List Line → List ℕ
page_lines [] = []
page_lines (l ∷ ls) = page_line l ++ page_lines ls

-- "pages of 60 lines"
abbrev pub lines_a_page : ℕ
lines_a_page = 60

-- how many lines are left of the page that n lines end on; none where they fill it, and none where there are none
abbrev pub lines_left : ℕ → ℕ
lines_left n = (lines_a_page - n % lines_a_page) % lines_a_page

-- "The last page is filled up with blank lines. An empty page is never written."
abbrev pub pages : List Line → List ℕ
pages ls = page_lines ls ++ blank_lines (lines_left (length ls))

-- what the program prints: "Only accepted books are paged"
abbrev pub listing : (bytes : List ℕ) → List ℕ
listing bytes = elim (lines bytes) [ refused n ↦ refusal_bytes n | accepted ls ↦ pages ls ]

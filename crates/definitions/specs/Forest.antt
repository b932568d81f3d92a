-- forest.rs: what can be called. A forest is made from a book's bytes; goals are opened, tables searched and peeked at. Each call
-- is refused by the first test that fails and then changes nothing, or gives its result and the forest that it leaves.
use Rattle.std.specs.Prelude.{ℕ, zero, suc, ◌-◌, ◌*◌, Bool, true, false, not, ◌&&◌, ◌||◌, List, [], ◌∷◌, length, drop, eqb, leb, ltb}
use Rattle.std.proofs.Math.Option.{none, some}
use Rattle.std.proofs.Math.ListN.{get_elem?}
use Rattle.definitions.specs.{TableIndex, MAX}
use Rattle.definitions.specs.Book.{Book, read}
use Rattle.definitions.specs.Refusal.{Refusable, refused, accepted, ◌refuses◌, unless}
use Rattle.definitions.specs.Stop.{Stops, stop, go}
use Rattle.definitions.specs.Lists.{any_passes}
use Rattle.sizes.specs.Limits.{most_answers}
use Rattle.definitions.specs.Tables.{Forest, with_mark}
use Rattle.definitions.specs.Logic.{NoMoreSolutions, Floundered, QuantumExceeded, NegativeCycle, InvalidAnswer}
use Rattle.definitions.specs.Logic.{get_or_create_table_for_ucanonical_goal}
use Rattle.definitions.specs.Turn.{Ending, found, fail, cut, stopped, Searched, root_answer}

-- Making. `Forest::new` over a book that was read. The clock's limit is a number below 2 ^ 64, so that the second test of 13 is met by
-- 2 ^ 64 - 1 alone.
abbrev pub make_of : Refusable Book → (clock_limit : ℕ) → Refusable Forest
make_of r limit = elim r [
  | refused n ↦ refused n
  | accepted book ↦ unless
      ((eqb limit 0 || leb MAX limit) refuses 13
      ∷ [])
      (record { book = book; clock_limit = limit; mark = 0; tables = []; clock = 0 })
]

abbrev pub make : (bytes : List ℕ) → (clock_limit : ℕ) → Refusable Forest
make bytes limit = make_of (read bytes) limit

abbrev pub is_marked : Forest → Bool
is_marked f = not (eqb f.mark 0)

-- `iter_answers`, its first statement: the goal's table, or stop 22, which marks. `others` are the live strands that are in no queue.
pub record Opened : Type 0 where
  pub table : Stops TableIndex
  pub forest : Forest

abbrev pub opened : (others : ℕ) → Forest → (goal : ℕ) → Opened
opened others f goal = elim (get_or_create_table_for_ucanonical_goal others f goal) [
  | stop n ↦ record { table = stop n; forest = with_mark f n }
  | go r ↦ record { table = go r.0; forest = r.1 }
]

-- between calls every live strand is in a queue
abbrev pub open_goal : Forest → (goal : ℕ) → Refusable Opened
open_goal f goal =
    unless
    (is_marked f refuses 20
    ∷ leb (length f.book) goal refuses 9
    ∷ [])
    (opened 0 f goal)

-- no table with this index is made
abbrev pub not_made : Forest → ℕ → Bool
not_made f t = leb (length f.tables) t

-- the index is above the answers stored, and the table is not floundered
abbrev pub index_above : Forest → TableIndex → ℕ → Bool
index_above f t i = elim (get_elem? f.tables t) [
  | none ↦ false
  | some table ↦ ltb (length table.answers) i && not table.floundered
]

-- `root_answer` with a turn limit
abbrev pub search : Forest → (table index limit : ℕ) → Refusable Searched
search f t i limit =
    unless
    (is_marked f refuses 20
    ∷ not_made f t refuses 10
    ∷ index_above f t i refuses 11
    ∷ eqb limit 0 refuses 12
    ∷ [])
    (root_answer limit t i f)

-- Peeking.

-- What a peek leaves: its last search, the index of that, and how many of its searches ended in QuantumExceeded.
pub record Peeked : Type 0 where
  pub ending : Ending
  pub index : ℕ
  pub turns : ℕ
  pub exceeded : ℕ
  pub forest : Forest

abbrev pub is_invalid : Ending → Bool
is_invalid (found a) = false
is_invalid (fail NoMoreSolutions) = false
is_invalid (fail Floundered) = false
is_invalid (fail QuantumExceeded) = false
is_invalid (fail NegativeCycle) = false
is_invalid (fail InvalidAnswer) = true
is_invalid cut = false
is_invalid (stopped n) = false

abbrev pub is_exceeded : Ending → Bool
is_exceeded (found a) = false
is_exceeded (fail NoMoreSolutions) = false
is_exceeded (fail Floundered) = false
is_exceeded (fail QuantumExceeded) = true
is_exceeded (fail NegativeCycle) = false
is_exceeded (fail InvalidAnswer) = false
is_exceeded cut = false
is_exceeded (stopped n) = false

abbrev pub peeked : (index exceeded : ℕ) → Searched → Peeked
peeked i k r = record {
  ending = r.ending;
  index = i;
  turns = r.turns;
  exceeded = k;
  forest = r.forest;
}

abbrev pub with_exceeded : Peeked → ℕ → Peeked
with_exceeded p k = record {
  ending = p.ending;
  index = p.index;
  turns = p.turns;
  exceeded = k;
  forest = p.forest;
}

-- Passes of the loop of `peek_answer` as long as the answer is invalid: the next index is tried. The first number bounds them: an
-- invalid answer is a stored one, and at most 256 are held together. Where it ran out the peek would end in InvalidAnswer.
abbrev pub skip_invalid : ℕ → (limit exceeded : ℕ) → TableIndex → (index : ℕ) → Forest → Peeked
skip_invalid zero limit k t i f = peeked i k (root_answer limit t i f)
skip_invalid (suc more) limit k t i f =
    let r = root_answer limit t i f in
    elim (is_invalid r.ending) [
      | true ↦ skip_invalid more limit k t (suc i) r.forest
      | false ↦ peeked i k r
    ]

-- The other passes: QuantumExceeded is counted, and answered only when as many came as there are rounds; `more` are those after
-- this one. Any other result ends the peek, a cut and a stop too.
abbrev pub peek_rounds : (more limit exceeded : ℕ) → TableIndex → (index : ℕ) → Forest → Peeked
peek_rounds zero limit k t i f =
    let p = skip_invalid 256 limit k t i f in
    elim (is_exceeded p.ending) [
      | true ↦ with_exceeded p (suc k)
      | false ↦ p
    ]
peek_rounds (suc more) limit k t i f =
    let p = skip_invalid 256 limit k t i f in
    elim (is_exceeded p.ending) [
      | true ↦ peek_rounds more limit (suc k) t p.index p.forest
      | false ↦ p
    ]

-- `peek_answer` with a round limit and a turn limit for each search
abbrev pub peek : Forest → (table index rounds limit : ℕ) → Refusable Peeked
peek f t i rounds limit =
    unless
    (is_marked f refuses 20
    ∷ not_made f t refuses 10
    ∷ index_above f t i refuses 11
    ∷ (eqb rounds 0 || eqb limit 0) refuses 12
    ∷ [])
    (peek_rounds (rounds - 1) limit 0 t i f)

-- A search that was made: the index asked for, and what came of it.
pub record SearchMade : Type 0 where
  pub index : ℕ
  pub result : Searched

-- The searches that `peek_answer` makes, one in each pass of its loop; what follows one is told by the Rust's `match`. `more` are the
-- rounds after this one. The first number bounds the passes.
abbrev pub peek_searches : ℕ → (more limit : ℕ) → TableIndex → (index : ℕ) → Forest → List SearchMade
peek_searches zero more limit t i f = []
peek_searches (suc passes) more limit t i f =
    let r = root_answer limit t i f in
    record { index = i; result = r } ∷ elim r.ending [
      | found a ↦ []
      | fail e ↦ elim e [
        | InvalidAnswer ↦ peek_searches passes more limit t (suc i) r.forest
        | Floundered ↦ []
        | NoMoreSolutions ↦ []
        | QuantumExceeded ↦ elim more [ zero ↦ [] | suc fewer ↦ peek_searches passes fewer limit t i r.forest ]
        | NegativeCycle ↦ []
      ]
      | cut ↦ []
      | stopped n ↦ []
    ]

-- how many passes a peek has at most: a round ends with the first answer that is not invalid, and at most 256 are held together
abbrev pub most_passes : (rounds : ℕ) → ℕ
most_passes rounds = rounds * suc most_answers

-- `any_future_answer`: the answers stored from the index on, then the queue, tested for one variant
abbrev pub future : Forest → (table index variant : ℕ) → Bool
future f t i v = elim (get_elem? f.tables t) [
  | none ↦ false
  | some table ↦
      any_passes (λ a. eqb a.variant v) (drop i table.answers)
      || any_passes (λ s. eqb s.ex_clause.subst.variant v) table.strands
]

abbrev pub any_future_answer : Forest → (table index variant : ℕ) → Refusable Bool
any_future_answer f t i v =
    unless
    (not_made f t refuses 10
    ∷ [])
    (future f t i v)

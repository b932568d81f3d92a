-- A search as steps (logic.rs `root_answer`, `ensure_root_answer`): it is started, stands between two turns, goes on by one turn at each
-- step, and may be cut short. A step that uses up the limit ends the search in Cut at once, so that a search that stands has a turn left.
use Rattle.std.specs.Prelude.{ℕ, zero, suc, true, false, ◌≡◌, [], eqb, leb}
use Rattle.std.proofs.Math.Option.{none, some}
use Rattle.definitions.specs.{TableIndex, TimeStamp, minimums_MAX}
use Rattle.definitions.specs.Stop.{stop, go}
use Rattle.definitions.specs.Table.{answer, next_answer_index}
use Rattle.definitions.specs.Tables.{Forest, with_mark, table_at, increment_clock}
use Rattle.definitions.specs.Stack.{push_entry}
use Rattle.definitions.specs.Logic.{Floundered, SolveState, with_forest, Flow, continue, return_ok, return_err}
use Rattle.definitions.specs.Turn.{turn, Searched, fail, cut, stopped, put_back, ok_ending}
use Rattle.definitions.specs.Forest.{Peeked, is_invalid, is_exceeded, peeked}

-- A search between two turns: which answer of which table it is for, how many turns it may do and has done, and the clock of its
-- first push, which no other search has.
pub record Standing : Type 0 where
  pub state : SolveState
  pub table : TableIndex
  pub index : ℕ
  pub limit : ℕ
  pub done : ℕ
  pub first : TimeStamp

pub data Progress : Type 0 where
  ended : Searched → Progress
  stands : Standing → Progress

-- the search is put back as `Drop` does, and says Cut
abbrev pub cut_short : Standing → Searched
cut_short w = put_back cut w.done w.state

-- it stands, unless its turns are used up
abbrev pub standing : Standing → Progress
standing w = elim (leb w.limit w.done) [ true ↦ ended (cut_short w) | false ↦ stands w ]

-- one turn more was done, and the state is this
abbrev pub gone_on : Standing → SolveState → Standing
gone_on w s = record {
  state = s;
  table = w.table;
  index = w.index;
  limit = w.limit;
  done = suc w.done;
  first = w.first;
}

abbrev pub after_turn : Standing → Flow → Progress
after_turn w (continue s) = standing (gone_on w s)
after_turn w (return_ok s) = ended (put_back (ok_ending s w.table w.index) (suc w.done) s)
after_turn w (return_err e s) = ended (put_back (fail e) (suc w.done) s)

-- a stop undoes its turn, puts the search back and marks the forest
abbrev pub stop_short : Standing → (number : ℕ) → Searched
stop_short w n = put_back (stopped n) w.done (with_forest w.state (with_mark w.state.forest n))

-- one pass of the loop in `ensure_root_answer`
abbrev pub step : Standing → Progress
step w = elim (turn w.state) [ stop n ↦ ended (stop_short w n) | go flow ↦ after_turn w flow ]

-- the first push
abbrev pub pushes_root : (limit : ℕ) → TableIndex → (index : ℕ) → Forest → Progress
pushes_root limit t i f = elim (increment_clock f) [
  | stop n ↦ ended (record { ending = stopped n; turns = 0; forest = with_mark f n })
  | go f' ↦ standing (record {
    state = record { forest = f'; stack = push_entry t minimums_MAX f'.clock [] };
    table = t;
    index = i;
    limit = limit;
    done = 0;
    first = f'.clock;
  })
]

-- all that is done before the first turn: a floundered table or a stored answer ends the search
abbrev pub start : (limit : ℕ) → TableIndex → (index : ℕ) → Forest → Progress
start limit t i f = elim (table_at f t) [
  | stop n ↦ ended (record { ending = stopped n; turns = 0; forest = f })
  | go table ↦ elim table.floundered [
    | true ↦ ended (record { ending = fail Floundered; turns = 0; forest = f })
    | false ↦ elim (answer table i) [
      | some a ↦ ended (record { ending = ok_ending (record { forest = f; stack = [] }) t i; turns = 0; forest = f })
      | none ↦ elim (eqb (next_answer_index table) i) [
        | true ↦ pushes_root limit t i f
        | false ↦ ended (record { ending = stopped 0; turns = 0; forest = f })
      ]
    ]
  ]
]

-- step after step, until one ends the search
pub data Ends : Progress → Searched → Type 0 where
  at_once : {r : Searched} → Ends (ended r) r
  after_step : {w : Standing} {r : Searched} → Ends (step w) r → Ends (stands w) r

-- A PEEK AS STEPS (forest.rs `peek_answer`): search after search for an answer of table t, step after step. `more` are the rounds after
-- this one, `exceeded` the searches so far that ended in QuantumExceeded, and the search that goes on is for the answer at this index.
pub data Peeks (limit : ℕ) (t : TableIndex) : (more exceeded index : ℕ) → Progress → Peeked → Type 0 where
  goes_on : {m k i : ℕ} {w : Standing} {p : Peeked} → Peeks limit t m k i (step w) p → Peeks limit t m k i (stands w) p
  skips : {m k i : ℕ} {r : Searched} {p : Peeked} → is_invalid r.ending ≡ true
      → Peeks limit t m k (suc i) (start limit t (suc i) r.forest) p → Peeks limit t m k i (ended r) p
  next_round : {m k i : ℕ} {r : Searched} {p : Peeked} → is_exceeded r.ending ≡ true
      → Peeks limit t m (suc k) i (start limit t i r.forest) p → Peeks limit t (suc m) k i (ended r) p
  no_round : {k i : ℕ} {r : Searched} → is_exceeded r.ending ≡ true → Peeks limit t zero k i (ended r) (peeked i (suc k) r)
  ends : {m k i : ℕ} {r : Searched} → is_invalid r.ending ≡ false → is_exceeded r.ending ≡ false
      → Peeks limit t m k i (ended r) (peeked i k r)

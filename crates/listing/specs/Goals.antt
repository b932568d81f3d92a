-- What the listing is known to do, call by call: the line that is written, and where the listing is then.
use Rattle.std.specs.Prelude.{ℕ, ◌-◌, ◌≤◌, Bool, true, false, ◌||◌, List, [], ◌∷◌, ◌≡◌, length, get_or, set, ltb}
use Rattle.std.proofs.Math.Option.{some}
use Rattle.std.proofs.Math.ListN.{get_elem?}
use Rattle.papers.specs.Listing.{listing_rounds, listing_turns, Line, Next, next_index, next_goal, the_end, list_goals}
use Rattle.definitions.specs.Table.{Table}
use Rattle.asserts.specs.Sound.{Reached}
use Rattle.pen.specs.Pen.{Pen, put_all}
use Rattle.search.specs.RootAnswer.{one_more}
use Rattle.forest.specs.declared.Forest.{Forest}
use Rattle.forest.specs.declared.open.Opening.{Opening}
use Rattle.forest.specs.declared.open.Opening.TheVariants as openings
use Rattle.forest.specs.View.{view, Sound}
use Rattle.listing.specs.declared.goals.Place.{Place}
use Rattle.listing.specs.Lines.{reply_line, settled_word, next_line}

-- a forest that may be asked: sound, and not marked by a stop
pub record Ready (f : Forest) : Type 0 where
  pub sound : Sound f
  pub unmarked : f.mark ≡ 0

-- its table that may be peeked at this index
pub record Stands (f : Forest) (table index : ℕ) : Type 0 where
  pub ready : Ready f
  pub own : Table
  pub is_made : get_elem? (view f).tables table ≡ some own
  pub reached : Reached own index
  pub few : index ≤ 256

abbrev pub goal_count : Forest → ℕ
goal_count f = length (view f).book

-- the lines of the goals from this one on
abbrev pub rest_lines : (goal : ℕ) → Forest → List Line
rest_lines goal f = list_goals (goal_count f - goal) goal (view f)

-- at first goal 0 is to be opened
abbrev pub first_place : Place
first_place = record { lines = 0; skipped = false; over = false; opens = true; goal = 0; table = 0; index = 0 }

-- nothing is listed any more
abbrev pub ended_place : (lines : ℕ) → Place → Place
ended_place lines p = record {
  lines = lines;
  skipped = p.skipped;
  over = true;
  opens = p.opens;
  goal = p.goal;
  table = p.table;
  index = p.index;
}

-- AN OPEN: where it leads, and the bytes of its line
abbrev pub opened_place : Opening → Place → Place
opened_place (openings.Refused n) p = ended_place p.lines p
opened_place (openings.Table t) p = record {
  lines = p.lines;
  skipped = false;
  over = p.over;
  opens = false;
  goal = p.goal;
  table = t;
  index = 0;
}
opened_place (openings.Stopped n) p = ended_place (next_line p.lines) p

abbrev pub opened_bytes : Opening → (goal : ℕ) → List ℕ
opened_bytes (openings.Refused n) goal = []
opened_bytes (openings.Table t) goal = []
opened_bytes (openings.Stopped n) goal = reply_line goal 0 2 n

-- from the place p and its pen to the place r and its pen
pub record OpenedTo (opening : Opening) (p : Place) (before : Pen) (r : Place) (after : Pen) : Type 0 where
  pub place : r ≡ opened_place opening p
  pub bytes : after ≡ put_all (opened_bytes opening p.goal) before

-- A PEEK, as the first call of a batch
abbrev pub peek_put : (table index : ℕ) → List ℕ → List ℕ
peek_put table index l = set (set (set (set (set l 0 2) 1 table) 2 index) 3 listing_rounds) 4 listing_turns

-- what follows a reply, by its word: nothing behind stop, the next index behind yes and maybe
abbrev pub next_of : (word : ℕ) → Next
next_of word = get_or (next_goal ∷ next_goal ∷ the_end ∷ next_index ∷ next_index ∷ []) word next_goal

-- whether an answer of the goal was skipped, in this peek, which ended at this index, or in an earlier one
abbrev pub skips : Place → (index : ℕ) → Bool
skips p index = p.skipped || ltb p.index index

abbrev pub next_place : Next → (index : ℕ) → Place → Place
next_place next_index index p = record {
  lines = next_line p.lines;
  skipped = skips p index;
  over = p.over;
  opens = p.opens;
  goal = p.goal;
  table = p.table;
  index = one_more index;
}
next_place next_goal index p = record {
  lines = next_line p.lines;
  skipped = p.skipped;
  over = p.over;
  opens = true;
  goal = one_more p.goal;
  table = p.table;
  index = p.index;
}
next_place the_end index p = ended_place (next_line p.lines) p

-- by a reply's word, its value and the index at which the peek ended
pub record PeekedTo (word value index : ℕ) (p : Place) (before : Pen) (r : Place) (after : Pen) : Type 0 where
  pub place : r ≡ next_place (next_of word) index p
  pub bytes : after ≡ put_all (reply_line p.goal index (settled_word word (skips p index)) value) before

-- by the numbers of all replies, of which the first is this one
abbrev pub ToldTo : List ℕ → Place → Pen → Place → Pen → Type 0
ToldTo replies p before r after = PeekedTo (get_or replies 0 0) (get_or replies 1 0) (get_or replies 2 0) p before r after

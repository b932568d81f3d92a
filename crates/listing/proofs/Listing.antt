-- What the definitions' listing asks of its forest is accepted: the peeks and opens that the code's functions make are those of the
-- listing. And each line with what is behind it.
use Prim.Native.Nat.{ℕ, suc, ◌+◌, ◌-◌, ◌≤◌, ◌<◌}
use native.Mathlib.Omega.{arith}
use mathlib.Core.Bool.{Bool, true, false, not, ◌&&◌, ◌||◌, and-false}
use mathlib.Core.List.{List, [], ◌∷◌, ◌++◌}
use mathlib.Core.Logic.{inl, inr}
use mathlib.Core.Option.{Option, none, some}
use mathlib.Core.Path.{◌≡◌, refl, sym, ap, ◌∙◌}
use lib.Dec.{eqb, leb, ltb}
use lib.ListN.{length, get_elem?}
use borrow.Author.Tests.{lt-leb, le-leb, le-ltb}
use Rattle.definitions.specs.Refusal.{refused, accepted, ◌refuses◌, unless}
use Rattle.definitions.specs.{TableIndex}
use Rattle.definitions.specs.Stop.{Stops, stop, go, ◌>>=◌, ◌>>◌, stop_if}
use Rattle.definitions.specs.Table.{Table}
use Rattle.definitions.specs.Tables.{Forest, with_mark, with_tables, insert_table, index_of, queued}
use Rattle.sizes.specs.Limits.{most_strands}
use Rattle.definitions.specs.Logic.{build_table, get_or_create_table_for_ucanonical_goal}
use Rattle.definitions.specs.Turn.{stopped}
use Rattle.definitions.specs.Forest.{is_marked, not_made, index_above, Opened, opened, open_goal, Peeked, peek, peek_rounds}
use Rattle.papers.specs.Listing.{listing_rounds, listing_turns, Line, line, Next, next_index, next_goal, the_end, next}
use Rattle.papers.specs.Listing.{Listed, list_from, list_opened, list_goal, list_goals}
use Rattle.laws.proofs.Lists.{place_under}
use Rattle.laws.proofs.Options.{case_option}
use Rattle.asserts.proofs.Safe.{Safe, stops, goes, stop_go}
use Rattle.asserts.proofs.Making.{MadeAt, makes}
use Rattle.asserts.specs.Sound.{Reached, SoundForest}
use Rattle.asserts.proofs.Unwinding.{Ended}

-- WHAT IS ASKED

unmarked_is : (f : Forest) → f.mark ≡ 0 → is_marked f ≡ false
unmarked_is f e = ap (λ (n : ℕ). not (eqb n 0)) e

module _ {A : Type 0} where
  four_pass : (a b c d : Bool) (v : A) → a ≡ false → b ≡ false → c ≡ false → d ≡ false
      → unless (a refuses 20 ∷ b refuses 10 ∷ c refuses 11 ∷ d refuses 12 ∷ []) v ≡ accepted v
  four_pass a b c d v e g h k = rw (e, g, h, k)

  two_pass : (a b : Bool) (v : A) → a ≡ false → b ≡ false → unless (a refuses 20 ∷ b refuses 9 ∷ []) v ≡ accepted v
  two_pass a b v e g = rw (e, g)

  second_fails : (a b : Bool) (v : A) → a ≡ false → b ≡ true → unless (a refuses 20 ∷ b refuses 9 ∷ []) v ≡ refused 9
  second_fails a b v e g = rw (e, g)

not_above : (t : Table) (i : ℕ) → Reached t i → (ltb (length t.answers) i && not t.floundered) ≡ false
not_above t i (inl e) = rw e (and-false (ltb (length t.answers) i))
not_above t i (inr o) = rw (le-ltb (length t.answers) i o)

module _ (n t i : ℕ) (f : Forest) (x : Ended n t i f) (unmarked : f.mark ≡ 0) where
  is_there : not_made f t ≡ false
  is_there = lt-leb (length f.tables) t (place_under f.tables t x.own x.is_made)

  reaches : index_above f t i ≡ false
  reaches =
      ap (λ (o : Option Table). elim o as (λ _. Bool) [
        | none ↦ false
        | some table ↦ ltb (length table.answers) i && not table.floundered
      ]) x.is_made
      ∙ not_above x.own i x.reached

  pub peek_asked : (rounds limit : ℕ) → (eqb rounds 0 || eqb limit 0) ≡ false
      → peek f t i rounds limit ≡ accepted (peek_rounds (rounds - 1) limit 0 t i f)
  peek_asked rounds limit e =
      four_pass (is_marked f) (not_made f t) (index_above f t i) (eqb rounds 0 || eqb limit 0) (peek_rounds (rounds - 1) limit 0 t i f)
      (unmarked_is f unmarked) is_there reaches e

module _ (f : Forest) (unmarked : f.mark ≡ 0) (goal : ℕ) where
  pub open_asked : goal < length f.book → open_goal f goal ≡ accepted (opened 0 f goal)
  open_asked h =
      two_pass (is_marked f) (leb (length f.book) goal) (opened 0 f goal) (unmarked_is f unmarked) (lt-leb (length f.book) goal h)

  pub open_past : length f.book ≤ goal → open_goal f goal ≡ refused 9
  open_past h =
      second_fails (is_marked f) (leb (length f.book) goal) (opened 0 f goal) (unmarked_is f unmarked)
      (le-leb (length f.book) goal h)

-- LINE BY LINE

-- the lines of a goal that comes to this, and of as many goals behind it
abbrev pub goals_on : (left goal : ℕ) → Listed → List Line
goals_on left goal l = elim l.stops [ true ↦ l.lines | false ↦ l.lines ++ list_goals left (suc goal) l.forest ]

-- one line more
abbrev with_line : Line → Listed → Listed
with_line here l = record { lines = here ∷ l.lines; stops = l.stops; forest = l.forest }

line_first : (left goal : ℕ) (here : Line) (l : Listed) → goals_on left goal (with_line here l) ≡ here ∷ goals_on left goal l
line_first left goal here l = by l.stops
  where
    by : (b : Bool) → elim b as (λ _. List Line) [
      | true ↦ here ∷ l.lines
      | false ↦ here ∷ (l.lines ++ list_goals left (suc goal) l.forest)
    ] ≡ here ∷ elim b [ true ↦ l.lines | false ↦ l.lines ++ list_goals left (suc goal) l.forest ]
    by true = refl
    by false = refl

-- a peek that was asked for at an index; `skipped`: an earlier one skipped an answer
module _ (left more goal t i : ℕ) (skipped : Bool) (p : Peeked) where
  abbrev skips : Bool
  skips = skipped || ltb i p.index

  abbrev peek_line : Line
  peek_line = line goal p.index p.ending skips

  -- what is listed from a peek on, by what follows its line
  abbrev listed_by : Next → Listed
  listed_by next_index = with_line peek_line (list_from more goal t (suc p.index) skips p.forest)
  listed_by next_goal = record { lines = peek_line ∷ []; stops = false; forest = p.forest }
  listed_by the_end = record { lines = peek_line ∷ []; stops = true; forest = p.forest }

  -- the lines behind that of a peek
  abbrev pub lines_behind : Next → List Line
  lines_behind next_index = goals_on left goal (list_from more goal t (suc p.index) skips p.forest)
  lines_behind next_goal = list_goals left (suc goal) p.forest
  lines_behind the_end = []

  peek_first : (n : Next) → goals_on left goal (listed_by n) ≡ peek_line ∷ lines_behind n
  peek_first next_index = line_first left goal peek_line (list_from more goal t (suc p.index) skips p.forest)
  peek_first next_goal = refl
  peek_first the_end = refl

  pub peeked_lines : (f : Forest) → peek_rounds (listing_rounds - 1) listing_turns 0 t i f ≡ p
      → goals_on left goal (list_from (suc more) goal t i skipped f) ≡ peek_line ∷ lines_behind (next p.ending)
  peeked_lines f made = ap (λ (z : Peeked). goals_on left goal (from z)) made ∙ peek_first (next p.ending)
    where
      from : Peeked → Listed
      from z =
          let here = line goal z.index z.ending (skipped || ltb i z.index) in
          elim (next z.ending) [
            | next_index ↦ with_line here (list_from more goal t (suc z.index) (skipped || ltb i z.index) z.forest)
            | next_goal ↦ record { lines = here ∷ []; stops = false; forest = z.forest }
            | the_end ↦ record { lines = here ∷ []; stops = true; forest = z.forest }
          ]

-- GOAL BY GOAL

-- an open that gave a table: it is made, and the forest is sound and has the mark that it had
pub record OpensTable (n mark t : ℕ) (f : Forest) : Type 0 where
  pub sound : SoundForest n f
  pub same_mark : f.mark ≡ mark
  pub own : Table
  pub is_made : get_elem? f.tables t ≡ some own

abbrev TableMarks : ℕ → Stops (TableIndex × Forest) → Type 0
TableMarks m (stop n) = Unit {0}
TableMarks m (go r) = r.1.mark ≡ m

table_marks : (others : ℕ) (f : Forest) (goal : ℕ) → TableMarks f.mark (get_or_create_table_for_ucanonical_goal others f goal)
table_marks others f goal =
    case_option (TableMarks f.mark) (index_of goal f.tables) (λ e. built (build_table f.book goal)) (λ t e. refl)
  where
    kept : (b : Bool) (r : TableIndex × Forest) → r.1.mark ≡ f.mark → TableMarks f.mark (stop_if b 22 >> go r)
    kept true r h = tt
    kept false r h = h

    built : (o : Stops Table) → TableMarks f.mark (o >>= λ table. stop_if
        (ltb most_strands (others + queued (with_tables f (insert_table table f.tables)))) 22
        >> go (length f.tables, with_tables f (insert_table table f.tables)))
    built (stop n) = tt
    built (go table) = kept (ltb most_strands (others + queued (with_tables f (insert_table table f.tables)))) _ refl

module _ (n : ℕ) (f : Forest) (s : SoundForest n f) (goal : ℕ) (named : goal < n) where
  abbrev Opens : Opened → Type 0
  Opens o = (t : ℕ) → o.table ≡ go t → OpensTable n f.mark t o.forest

  both : {r : Stops (TableIndex × Forest)} → Safe (λ r. MadeAt n 0 f r.0 r.1) r → TableMarks f.mark r
      → Opens (elim r as (λ _. Opened) [
        | stop m ↦ record { table = stop m; forest = with_mark f m }
        | go r ↦ record { table = go r.0; forest = r.1 }
      ])
  both (stops z) x t e = stop_go e
  both (goes {a = r} m) x t e =
      let same : r.0 ≡ t = cc in
      record { sound = m.kept.sound; same_mark = x; own = m.own; is_made = ap (get_elem? r.1.tables) (sym same) ∙ m.is_made }

  pub opens_table : Opens (opened 0 f goal)
  opens_table = both (makes s 0 goal (let o = s.few_strands in omega arith) named) (table_marks 0 f goal)

module _ (goal : ℕ) (f g : Forest) where
  pub goal_stopped : (n : ℕ) → opened 0 f goal ≡ record { table = stop n; forest = g }
      → list_goal goal f ≡ record { lines = line goal 0 (stopped n) false ∷ []; stops = true; forest = g }
  goal_stopped n e = ap (list_opened goal) e

  pub goal_opened : (t : ℕ) → opened 0 f goal ≡ record { table = go t; forest = g } → list_goal goal f ≡ list_from 257 goal t 0 false g
  goal_opened t e = ap (list_opened goal) e

pub goals_here : (n goal : ℕ) (f : Forest) → goal < n → list_goals (n - goal) goal f ≡ goals_on (n - (goal + 1)) goal (list_goal goal f)
goals_here n goal f h = ap (λ (left : ℕ). list_goals left goal f) (one_less n goal h)
  where
    one_less : (n goal : ℕ) → goal < n → n - goal ≡ suc (n - (goal + 1))
    one_less n goal h = omega arith

pub goals_past : (n goal : ℕ) (f : Forest) → n ≤ goal → list_goals (n - goal) goal f ≡ []
goals_past n goal f h = ap (λ (left : ℕ). list_goals left goal f) (none_left n goal h)
  where
    none_left : (n goal : ℕ) → n ≤ goal → n - goal ≡ 0
    none_left n goal h = omega arith

-- What the operations on the tables' own numbers do to the view, and that `SoundTables` is kept: a new table, the answer mode, and what is
-- read of a table. From the laws of `set` and of spans.
use Prim.Native.Nat.{ℕ, suc, ◌≤◌, ◌<◌}
use native.Mathlib.Omega.{arith}
use native.Mathlib.Numerals.{add-one}
use mathlib.Core.Path.{◌≡◌, refl, sym, ap, ap₂, subst, ◌∙◌}
use mathlib.Core.Bool.{Bool, true, false}
use mathlib.Core.Option.{none, some}
use mathlib.Core.List.{List, [], map}
use lib.ListN.{get_or, set, length-set, get_elem?, length-replicate}
use lib.Seq.{get_or-set_same, get_or-set_other}
use borrow.Author.Tests.{lt-ltb}
use Rattle.definitions.specs as said
use Rattle.definitions.specs.Strand as said_strand
use Rattle.definitions.specs.Table.{Table, new, with_mode, mark_floundered}
use Rattle.definitions.specs.Stop.{Stops, go, ◌>>=◌, unwrap}
use Rattle.definitions.specs.Tables.{insert_table, Forest, with_tables, table_at, change_table}
use Rattle.stores.specs.declared.queue.Strands.{Strands}
use Rattle.stores.specs.declared.table.Answers.{Answers}
use Rattle.stores.specs.declared.tables.Tables.{Tables}
use Rattle.stores.specs.Places.{ring}
use Rattle.stores.specs.Numbers.{flag, flag_number, set_if, add_if, flag_at}
use Rattle.stores.specs.View.{FirstStrands, mode, held_table, tables, strand_at, answer_at}
use Rattle.stores.specs.Sound.{SoundTables}
use Rattle.stores.specs.Tables.{table_goal_at, inserted, moded, blank_tables}
use Rattle.stores.proofs.NumbersCases.{flag_of, flag_near}
use Rattle.stores.proofs.TablesCases.{goal_near}
use Rattle.stores.proofs.ListsSpans.{span_at, span_past, span_same, span_set, span_push}

-- the tables that are made, and no other
pub table_there : (fresh : FirstStrands) (ts : Tables) (s : Strands) (a : Answers) (t : ℕ) → t < ts.count
    → get_elem? (tables fresh ts s a) t ≡ some (held_table fresh ts s a t)
table_there fresh ts s a t h = span_at (held_table fresh ts s a) ts.count t h

pub table_past : (fresh : FirstStrands) (ts : Tables) (s : Strands) (a : Answers) (t : ℕ) → ts.count ≤ t
    → get_elem? (tables fresh ts s a) t ≡ none
table_past fresh ts s a t h = span_past (held_table fresh ts s a) ts.count t h

-- a forest with these tables: `tables[t]`, and the table changed
module _ (fresh : FirstStrands) (ts : Tables) (s : Strands) (a : Answers) (f : Forest) (is : f.tables ≡ tables fresh ts s a) (t : ℕ)
    (h : t < ts.count) where
  pub table_at_is : table_at f t ≡ go (held_table fresh ts s a t)
  table_at_is = ap (λ (l : List Table). unwrap (get_elem? l t)) is ∙ ap unwrap (table_there fresh ts s a t h)

  pub change_is : (change : Table → Table) (after : List Table) → after ≡ set (tables fresh ts s a) t (change (held_table fresh ts s a t))
      → change_table f t change ≡ go (with_tables f after)
  change_is change after e =
      ap (λ (r : Stops Table). r >>= λ x. go (with_tables f (set f.tables t (change x)))) table_at_is
      ∙ ap (λ (l : List Table). go (with_tables f (set l t (change (held_table fresh ts s a t))))) is
      ∙ ap (λ (l : List Table). go (with_tables f l)) (sym e)

-- READ: what `flag_at` and `goal_at` say of a table that is made
module _ (fresh : FirstStrands) (ts : Tables) (s : Strands) (a : Answers) (sound : SoundTables ts) (t : ℕ) (h : t < ts.count) where
  near : t < 64
  near = omega (arith, sound.few)

  pub flag_at_is : (l : List ℕ) → flag_at t l ≡ flag (get_or l t 0)
  flag_at_is l = sym (flag_near t l near)

  pub floundered_view : flag_at t ts.floundered ≡ (held_table fresh ts s a t).floundered
  floundered_view = flag_at_is ts.floundered

  pub coinductive_view : flag_at t ts.coinductive ≡ (held_table fresh ts s a t).coinductive_goal
  coinductive_view = flag_at_is ts.coinductive

  pub mode_view : flag_at t ts.complete ≡ said.is_complete (held_table fresh ts s a t).answer_mode
  mode_view = flag_at_is ts.complete ∙ by_flag (flag (get_or ts.complete t 0))
    where
      by_flag : (b : Bool) → b ≡ said.is_complete (elim b [ true ↦ said.Complete | false ↦ said.Ambiguous ])
      by_flag true = refl
      by_flag false = refl

  pub goal_view : table_goal_at t ts.goal ≡ (held_table fresh ts s a t).table_goal
  goal_view = sym (goal_near t ts.goal near)

abbrev table_of : (goal coinductive floundered complete : ℕ) → List said.Answer → List said_strand.Strand → Table
table_of g c f m rs ss = record {
  table_goal = g;
  coinductive_goal = flag c;
  floundered = flag f;
  answers = rs;
  strands = ss;
  answer_mode = mode m;
}

table_is : (g g' c c' f f' m m' : ℕ) (rs rs' : List said.Answer) (ss ss' : List said_strand.Strand) → g ≡ g' → c ≡ c' → f ≡ f' → m ≡ m'
    → rs ≡ rs' → ss ≡ ss'
    → table_of g c f m rs ss ≡ table_of g' c' f' m' rs' ss'
table_is g g' c c' f f' m m' rs rs' ss ss' a b d e r q = cc

-- the definitions' new table, floundered or not
abbrev pub new_table : (goal : ℕ) → (coinductive floundered : Bool) → Table
new_table g co true = mark_floundered (new g co)
new_table g co false = new g co

new_is : (g : ℕ) (co fl : Bool) → table_of g (flag_number co) (flag_number fl) 1 [] [] ≡ new_table g co fl
new_is g true true = refl
new_is g true false = refl
new_is g false true = refl
new_is g false false = refl

-- INSERT, where there is room
module _ (fresh : FirstStrands) (ts : Tables) (s : Strands) (a : Answers) (g : ℕ) (co fl : Bool) (sound : SoundTables ts)
    (room : ts.count < 64) where
  abbrev n : ℕ
  n = ts.count

  abbrev ts' : Tables
  ts' = record {
    count = suc n;
    goal = set ts.goal n g;
    coinductive = set ts.coinductive n (flag_number co);
    floundered = set ts.floundered n (flag_number fl);
    complete = set ts.complete n 1;
  }

  inserted_is : inserted g co fl ts ≡ ts'
  inserted_is =
      ap (λ (b : Bool). record {
        count = add_if b n;
        goal = set_if b n g ts.goal;
        coinductive = set_if b n (flag_number co) ts.coinductive;
        floundered = set_if b n (flag_number fl) ts.floundered;
        complete = set_if b n 1 ts.complete;
      })
      (lt-ltb n 64 room)
      ∙ ap (λ (m : ℕ). record {
        count = m;
        goal = set ts.goal n g;
        coinductive = set ts.coinductive n (flag_number co);
        floundered = set ts.floundered n (flag_number fl);
        complete = set ts.complete n 1;
      }) (add-one n)

  pub inserted_count : (inserted g co fl ts).count ≡ suc ts.count
  inserted_count = ap (λ (r : Tables). r.count) inserted_is

  pub inserted_sound : SoundTables (inserted g co fl ts)
  inserted_sound = subst SoundTables (sym inserted_is) (record {
    few = omega arith;
    long_goal = length-set ts.goal n g ∙ sound.long_goal;
    long_coinductive = length-set ts.coinductive n (flag_number co) ∙ sound.long_coinductive;
    long_floundered = length-set ts.floundered n (flag_number fl) ∙ sound.long_floundered;
    long_complete = length-set ts.complete n 1 ∙ sound.long_complete;
  })

  old_table : (u : ℕ) → u < n → held_table fresh ts' s a u ≡ held_table fresh ts s a u
  old_table u h =
      let d : u ≡ n → ⊥ = λ e. omega arith in
      table_is (get_or ts'.goal u 0) (get_or ts.goal u 0) (get_or ts'.coinductive u 0) (get_or ts.coinductive u 0)
      (get_or ts'.floundered u 0) (get_or ts.floundered u 0) (get_or ts'.complete u 0) (get_or ts.complete u 0)
      (map (answer_at a) (ring a.places u)) (map (answer_at a) (ring a.places u)) (map (strand_at fresh s) (ring s.places u))
      (map (strand_at fresh s) (ring s.places u))
      (get_or-set_other ts.goal n u g 0 d) (get_or-set_other ts.coinductive n u (flag_number co) 0 d)
      (get_or-set_other ts.floundered n u (flag_number fl) 0 d) (get_or-set_other ts.complete n u 1 0 d) refl refl

  module _ (no_answers : ring a.places n ≡ []) (no_strands : ring s.places n ≡ []) where
    new_at : held_table fresh ts' s a n ≡ new_table g co fl
    new_at =
        table_is (get_or ts'.goal n 0) g (get_or ts'.coinductive n 0) (flag_number co) (get_or ts'.floundered n 0) (flag_number fl)
        (get_or ts'.complete n 0) 1
        (map (answer_at a) (ring a.places n)) [] (map (strand_at fresh s) (ring s.places n)) []
        (get_or-set_same ts.goal n g 0 (omega (arith, sound.long_goal)))
        (get_or-set_same ts.coinductive n (flag_number co) 0 (omega (arith, sound.long_coinductive)))
        (get_or-set_same ts.floundered n (flag_number fl) 0 (omega (arith, sound.long_floundered)))
        (get_or-set_same ts.complete n 1 0 (omega (arith, sound.long_complete)))
        (ap (map (answer_at a)) no_answers) (ap (map (strand_at fresh s)) no_strands)
        ∙ new_is g co fl

    pub inserted_new : held_table fresh (inserted g co fl ts) s a ts.count ≡ new_table g co fl
    inserted_new = ap (λ (r : Tables). held_table fresh r s a n) inserted_is ∙ new_at

    -- the definitions' `insert` of a new table, which has neither answers nor strands yet
    pub inserted_view : tables fresh (inserted g co fl ts) s a ≡ insert_table (new_table g co fl) (tables fresh ts s a)
    inserted_view =
        ap (λ (r : Tables). tables fresh r s a) inserted_is ∙ span_push (held_table fresh ts' s a) n
        ∙ ap₂ (λ (l : List Table) (t : Table). insert_table t l)
        (span_same (held_table fresh ts s a) (held_table fresh ts' s a) n old_table) new_at

-- THE ANSWER MODE
module _ (fresh : FirstStrands) (ts : Tables) (s : Strands) (a : Answers) (t : ℕ) (b : Bool) (sound : SoundTables ts)
    (h : t < ts.count) where
  moded_is : moded t b ts ≡ record {
    count = ts.count;
    goal = ts.goal;
    coinductive = ts.coinductive;
    floundered = ts.floundered;
    complete = set ts.complete t (flag_number b);
  }
  moded_is =
      ap (λ (c : Bool). record {
        count = ts.count;
        goal = ts.goal;
        coinductive = ts.coinductive;
        floundered = ts.floundered;
        complete = set_if c t (flag_number b) ts.complete;
      })
      (lt-ltb t 64 (omega (arith, sound.few)))

  pub moded_sound : SoundTables (moded t b ts)
  moded_sound = subst SoundTables (sym moded_is) (record {
    few = sound.few;
    long_goal = sound.long_goal;
    long_coinductive = sound.long_coinductive;
    long_floundered = sound.long_floundered;
    long_complete = length-set ts.complete t (flag_number b) ∙ sound.long_complete;
  })

  abbrev mode_of : Bool → said.AnswerMode
  mode_of c = elim c [ true ↦ said.Complete | false ↦ said.Ambiguous ]

  pub moded_view : tables fresh (moded t b ts) s a ≡ set (tables fresh ts s a) t
      (with_mode (held_table fresh ts s a t) (elim b [ true ↦ said.Complete | false ↦ said.Ambiguous ]))
  moded_view =
      ap (λ (r : Tables). tables fresh r s a) moded_is
      ∙ span_set (held_table fresh ts s a) (held_table fresh
      (record {
        count = ts.count;
        goal = ts.goal;
        coinductive = ts.coinductive;
        floundered = ts.floundered;
        complete = set ts.complete t (flag_number b);
      }) s a) ts.count t h
      (λ u k d. ap (λ (m : ℕ). with_mode (held_table fresh ts s a u) (mode m)) (get_or-set_other ts.complete t u (flag_number b) 0 d))
      ∙ ap (λ (m : said.AnswerMode). set (tables fresh ts s a) t (with_mode (held_table fresh ts s a t) m))
      (ap mode (get_or-set_same ts.complete t (flag_number b) 0 (omega (arith, sound.few, sound.long_complete)))
      ∙ ap mode_of (flag_of b))

-- BLANK
pub blank_tables_sound : SoundTables blank_tables
blank_tables_sound = record {
  few = omega arith;
  long_goal = length-replicate {A = ℕ} 64 0;
  long_coinductive = length-replicate {A = ℕ} 64 0;
  long_floundered = length-replicate {A = ℕ} 64 0;
  long_complete = length-replicate {A = ℕ} 64 0;
}

pub blank_tables_view : (fresh : FirstStrands) (s : Strands) (a : Answers) → tables fresh blank_tables s a ≡ []
blank_tables_view fresh s a = refl

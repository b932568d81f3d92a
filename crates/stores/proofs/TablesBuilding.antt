-- `build_table` and `insert` together: a new table with fresh places for the first strands of its clauses, and a floundered one, which has
-- none. From TablesViews and QueueStores.
use Prim.Native.Nat.{ℕ, suc, ◌+◌, ◌≤◌, ◌<◌}
use native.Mathlib.Omega.{arith}
use mathlib.Core.Path.{◌≡◌, refl, sym, ap, ap₂, ◌∙◌}
use mathlib.Core.Bool.{Bool, true, false}
use mathlib.Core.List.{List, [], ◌++◌, map}
use lib.ListN.{length, get_or, set}
use lib.Seq.{set-append_seam}
use Rattle.definitions.specs.Lists.{push}
use Rattle.definitions.specs.Strand as said_strand
use Rattle.definitions.specs.Table.{Table, new, with_strands}
use Rattle.definitions.specs.Tables.{insert_table}
use Rattle.sizes.specs.Limits.{most_places}
use Rattle.laws.specs.Spans.{span}
use Rattle.stores.specs.declared.queue.Strands.{Strands}
use Rattle.stores.specs.declared.table.Answers.{Answers}
use Rattle.stores.specs.declared.tables.Tables.{Tables}
use Rattle.stores.specs.Places.{ring}
use Rattle.stores.specs.View.{FirstStrands, strand_at, held_table, tables}
use Rattle.stores.specs.Sound.{waiting, FirstOf, SoundStrands, SoundAnswers, SoundTables}
use Rattle.stores.specs.Queue.{fresh_each}
use Rattle.stores.specs.Tables.{inserted}
use Rattle.laws.proofs.Spans.{length_span}
use Rattle.stores.proofs.QueueSound.{strands_grown}
use Rattle.stores.proofs.QueueStores.{HeldStill, Grown, grown_view, fresh_all}
use Rattle.stores.proofs.TableViews.{answers_grown}
use Rattle.stores.proofs.TablesViews.{new_table, inserted_count, inserted_sound, inserted_view, inserted_new}

-- what is built: the stores are sound for one table more, the view has the table at its end, and what the held places show is as it was
pub record Built (fresh : FirstStrands) (ts ts' : Tables) (s s'' : Strands) (a : Answers) (held : List ℕ) (table : Table) : Type 0 where
  pub count : ts'.count ≡ suc ts.count
  pub tables_sound : SoundTables ts'
  pub strands_sound : SoundStrands fresh s'' (suc ts.count) held
  pub answers_sound : SoundAnswers a (suc ts.count)
  pub means : tables fresh ts' s'' a ≡ insert_table table (tables fresh ts s a)
  pub holds : HeldStill fresh s s'' held

module _ (fresh : FirstStrands) (ts : Tables) (s : Strands) (a : Answers) (held : List ℕ) (g : ℕ) (co : Bool)
    (sound : SoundTables ts) (ss : SoundStrands fresh s ts.count held) (rs : SoundAnswers a ts.count) (room : ts.count < 64) where
  abbrev n : ℕ
  n = ts.count

  no_answers : ring a.places n ≡ []
  no_answers = rs.places.empty n (omega arith) (λ e. omega arith)

  no_strands : ring s.places n ≡ []
  no_strands = ss.places.empty n (omega arith) (λ e. omega arith)

  -- a floundered goal's table has no strands
  pub built_floundered : Built fresh ts (inserted g co true ts) s s a held (new_table g co true)
  built_floundered = record {
    count = inserted_count fresh ts s a g co true sound room;
    tables_sound = inserted_sound fresh ts s a g co true sound room;
    strands_sound = strands_grown fresh s n held room ss;
    answers_sound = answers_grown a n room rs;
    means = inserted_view fresh ts s a g co true sound room no_answers no_strands;
    holds = λ q k. refl;
  }

  -- the places for the first strands of `count` clauses from `first` on
  module _ (variants flags : List ℕ) (first count : ℕ)
      (clauses : (c : ℕ) → first ≤ c → c < first + count → FirstOf (fresh c) (get_or variants c 0) (get_or flags c 0))
      (fits : waiting s.places n + length held + count ≤ most_places) where
    abbrev ts' : Tables
    ts' = inserted g co false ts

    abbrev s'' : Strands
    s'' = fresh_each variants flags n count first s

    abbrev queue : List said_strand.Strand
    queue = span fresh first count

    -- the new table's ring is empty
    waiting_more : waiting s.places (suc n) ≡ waiting s.places n
    waiting_more = omega (arith, ap length no_strands)

    grown : Grown fresh s s'' (suc n) held n queue
    grown =
        fresh_all fresh variants flags (suc n) held n (omega arith) count first s (strands_grown fresh s n held room ss) clauses
        (omega (arith, waiting_more))

    pub built : Built fresh ts (inserted g co false ts) s (fresh_each variants flags ts.count count first s) a held
        (with_strands (new g co) (span fresh first count))
    built = record {
      count = inserted_count fresh ts s a g co false sound room;
      tables_sound = inserted_sound fresh ts s a g co false sound room;
      strands_sound = grown.sound;
      answers_sound = answers_grown a n room rs;
      means =
          grown_view fresh s s'' (suc n) held n queue (omega arith) grown ts' a (inserted_count fresh ts s a g co false sound room)
          ∙ ap₂ (λ (l : List Table) (t : Table). set l n t) (inserted_view fresh ts s a g co false sound room no_answers no_strands)
          (ap₂ (λ (t : Table) (l : List said_strand.Strand). with_strands t (l ++ queue))
          (inserted_new fresh ts s a g co false sound room no_answers no_strands) (ap (map (strand_at fresh s)) no_strands))
          ∙ ap (λ (k : ℕ). set (push (tables fresh ts s a) (new g co)) k (with_strands (new g co) queue))
          (sym (length_span (held_table fresh ts s a) 0 n))
          ∙ set-append_seam (tables fresh ts s a) (new g co) [] (with_strands (new g co) queue);
      holds = grown.holds;
    }

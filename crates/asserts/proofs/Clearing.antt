-- Clearing after a cycle: every table that a strand waits on is made, and the depth that is allowed is enough.
use Prim.Native.Nat.{ℕ, zero, suc, ◌+◌, ◌≤◌, min}
use native.Mathlib.Omega.{arith}
use mathlib.Core.Path.{refl, subst}
use mathlib.Core.List.{List, [], ◌∷◌}
use lib.ListN.{length, set}
use Rattle.definitions.specs.Stop.{Stops}
use Rattle.definitions.specs.Strand.{Strand}
use Rattle.definitions.specs.Table.{take_strands}
use Rattle.definitions.specs.Tables.{Forest, with_tables, queued}
use Rattle.definitions.specs.Turn.{clear_each, clear_strands_after_cycle}
use Rattle.laws.specs.All.{All, end}
use Rattle.laws.proofs.All.{all_first, all_rest, all_map}
use Rattle.laws.proofs.Totals.{total_set}
use Rattle.asserts.proofs.Safe.{Safe, stops, goes, after, weaker, known, by_option}
use Rattle.asserts.specs.Sound.{Awaits, Selects, SoundStrand, SoundForest}
use Rattle.asserts.proofs.Keeping.{grows_above, strand_grows, Kept, kept_same, kept_trans, strands_kept, table_is}
use Rattle.asserts.proofs.Keeping.{change_is, table_sound}

pub record Cleared (n : ℕ) (f f' : Forest) : Type 0 where
  pub kept : Kept n f f'
  pub fewer : queued f' ≤ queued f

abbrev Clears : (n d : ℕ) → (List Strand → Forest → Stops Forest) → Type 0
Clears n d clear = (ss : List Strand) (f : Forest) → All (SoundStrand n f.tables) ss → SoundForest n f → min 1 (length ss) + queued f ≤ d
    → Safe (Cleared n f) (clear ss f)

each_clears : (n d : ℕ) (clear : List Strand → Forest → Stops Forest) → Clears n d clear → Clears n (suc d) (clear_each clear)
each_clears n d clear h [] f x s room = goes (record { kept = kept_same s; fewer = omega arith })
each_clears n d clear h (z ∷ ss) f x s room = by_option z.selected_subgoal
    (λ e. stops tt)
    (λ sel e.
    let w : Awaits f.tables (length z.ex_clause.subgoals) sel =
    subst (Selects f.tables (length z.ex_clause.subgoals)) e (all_first x).1 in
    let t = w.table in
    let i = sel.subgoal_table in
    let f' = with_tables f (set f.tables i (take_strands t)) in
    let k = strands_kept s i w.is_made [] (λ q. refl) (let o = s.few_strands in omega arith) end in
    let less = total_set (λ u. length u.strands) f.tables i t (take_strands t) w.is_made in
    let grow = strand_grows {n = n} (grows_above k.grows) in
    known _ (table_is f i t w.is_made)
    (known _ (change_is f i t take_strands w.is_made)
    (after (h t.strands f' (all_map grow (table_sound s i w.is_made).sound_strands) k.sound (omega arith)) (λ f'' c.
    let lt = c.fewer in
    let both = kept_trans k c.kept in
    weaker (each_clears n d clear h ss f'' (all_map (strand_grows {n = n} (grows_above both.grows)) (all_rest x)) c.kept.sound
    (omega arith))
    (λ g y. record { kept = kept_trans both y.kept; fewer = let lt' = y.fewer in omega arith })))))

pub clears : (n d : ℕ) → Clears n d (clear_strands_after_cycle d)
clears n zero [] f x s room = goes (record { kept = kept_same s; fewer = omega arith })
clears n zero (z ∷ ss) f x s room = absurd (omega arith)
clears n (suc d) ss f x s room = each_clears n d (clear_strands_after_cycle d) (clears n d) ss f x s room

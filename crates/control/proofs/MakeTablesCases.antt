-- `make_table` by what its calls leave, and the laws of the loop in `make_tables`. From the definitions alone.
use Prim.Native.Nat.{ℕ, zero, suc, ◌+◌, ◌-◌, ◌≤◌, ◌<◌}
use native.Mathlib.Numerals.{add-one}
use native.Mathlib.Omega.{arith}
use mathlib.Core.Bool.{Bool}
use mathlib.Core.List.{List}
use mathlib.Core.Path.{◌≡◌, refl, sym, ap, ap₂, ◌∙◌}
use lib.ListN.{get_or}
use Rattle.definitions.specs.Book.{bit0, bit1}
use Rattle.book.specs.Access.{entry}
use Rattle.stores.specs.declared.queue.Strands.{Strands}
use Rattle.stores.specs.Numbers.{within, count_after, written_at, flag_number}
use Rattle.stores.specs.Queue.{clauses_from, fresh_each}
use Rattle.stores.specs.Tables.{inserted}
use Rattle.control.specs.SelectSubgoal.{strands_by}
use Rattle.control.specs.MakeTables.{tables_of, Tabling, tabling, table_made, tables_from}

module _ (goal_flags goal_first goal_len clause_variant clause_flags : List ℕ) where
  -- `make_table`
  module _ (g count : ℕ) (goal co fl cm : List ℕ) (flounders coinduces : Bool) (is_fl : flounders ≡ bit1 (entry 64 goal_flags g))
      (is_co : coinduces ≡ bit0 (entry 64 goal_flags g)) where
    inserted_is : (r : ℕ) (goal' co' fl' cm' : List ℕ) → r ≡ count_after count → goal' ≡ written_at count g goal
        → co' ≡ written_at count (flag_number coinduces) co → fl' ≡ written_at count (flag_number flounders) fl
        → cm' ≡ written_at count 1 cm
        → tables_of r goal' co' fl' cm'
        ≡ inserted g (bit0 (entry 64 goal_flags g)) (bit1 (entry 64 goal_flags g)) (tables_of count goal co fl cm)
    inserted_is r goal' co' fl' cm' er eg ec ef em =
        let ec' : co' ≡ written_at count (flag_number (bit0 (entry 64 goal_flags g))) co =
        ec ∙ ap (λ (b : Bool). written_at count (flag_number b) co) is_co in
        let ef' : fl' ≡ written_at count (flag_number (bit1 (entry 64 goal_flags g))) fl =
        ef ∙ ap (λ (b : Bool). written_at count (flag_number b) fl) is_fl in
        cc

    -- its fresh places, by the number of the table and by its clauses
    abbrev fresh_by : Strands → (t first n : ℕ) → Strands
    fresh_by s t first n = fresh_each clause_variant clause_flags t (clauses_from first n) first s

    fresh_is : (s : Strands) (t first n clauses : ℕ) → t ≡ within count → first ≡ entry 64 goal_first g → clauses ≡ entry 64 goal_len g
        → n ≡ strands_by flounders clauses
        → fresh_by s t first n
        ≡ fresh_by s (within count) (entry 64 goal_first g) (strands_by (bit1 (entry 64 goal_flags g)) (entry 64 goal_len g))
    fresh_is s t first n clauses et ef ec en =
        ap (λ (u : ℕ). fresh_by s u first n) et ∙ ap (λ (f : ℕ). fresh_by s (within count) f n) ef
        ∙ ap (fresh_by s (within count) (entry 64 goal_first g)) (en ∙ ap₂ strands_by is_fl ec)

    pub made_is : (r : ℕ) (goal' co' fl' cm' : List ℕ) → r ≡ count_after count → goal' ≡ written_at count g goal
        → co' ≡ written_at count (flag_number coinduces) co → fl' ≡ written_at count (flag_number flounders) fl
        → cm' ≡ written_at count 1 cm
        → (t first n clauses : ℕ) → t ≡ within count → first ≡ entry 64 goal_first g → clauses ≡ entry 64 goal_len g
        → n ≡ strands_by flounders clauses → (s s'' : Strands) → s'' ≡ fresh_by s t first n
        → tabling (tables_of r goal' co' fl' cm') s''
        ≡ table_made goal_flags goal_first goal_len clause_variant clause_flags g (tabling (tables_of count goal co fl cm) s)
    made_is r goal' co' fl' cm' er eg ec ef em t first n clauses et e1 e2 en s s'' es =
        ap₂ tabling (inserted_is r goal' co' fl' cm' er eg ec ef em) (es ∙ fresh_is s t first n clauses et e1 e2 en)

  -- the loop, at index i
  module _ (goals : List ℕ) where
    pub tables_step : (left rest i : ℕ) (m : Tabling) → 0 < left → rest ≡ left - 1
        → tables_from goal_flags goal_first goal_len clause_variant clause_flags goals left i m
        ≡ tables_from goal_flags goal_first goal_len clause_variant clause_flags goals rest (i + 1)
        (table_made goal_flags goal_first goal_len clause_variant clause_flags (get_or goals i 0) m)
    tables_step zero rest i m h on = absurd (omega arith)
    tables_step (suc left) rest i m h on =
        let e : rest ≡ left = omega arith in
        ap₂ (λ (l j : ℕ). tables_from goal_flags goal_first goal_len clause_variant clause_flags goals l j
        (table_made goal_flags goal_first goal_len clause_variant clause_flags (get_or goals i 0) m)) (sym e) (sym (add-one i))

    pub tables_over : (left i : ℕ) (m : Tabling) → left ≤ 0
        → tables_from goal_flags goal_first goal_len clause_variant clause_flags goals left i m ≡ m
    tables_over zero i m h = refl
    tables_over (suc left) i m h = absurd (omega arith)

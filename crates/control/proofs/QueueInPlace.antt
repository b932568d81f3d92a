-- ORDER 6 of what control calls, for sound stores: looking and then unlinking is taking, so that what is proved of `take_strand` is so of a
-- turn.
use Prim.Native.Nat.{ℕ, suc}
use native.Mathlib.Omega.{arith}
use mathlib.Core.Bool.{Bool, true, false}
use mathlib.Core.List.{List}
use mathlib.Core.Path.{◌≡◌, refl, sym, ap, subst}
use lib.ListN.{get_or}
use borrow.Author.Tests.{le-ltb}
use Rattle.std.specs.Prelude as code
use Rattle.std.specs.Option.{is_some, unwrap_or}
use Rattle.definitions.specs.Turn as turns
use Rattle.rings.specs.Rings.{place_if}
use Rattle.stores.specs.declared.places.Places.{Places}
use Rattle.stores.specs.declared.queue.Spot.{Spot}
use Rattle.stores.specs.declared.queue.Strands.{Strands}
use Rattle.stores.specs.Numbers.{flag}
use Rattle.stores.specs.Places.{ring}
use Rattle.stores.specs.Queue.{with_places, test_at, taken_strand, strand_place, spot_from, is_found, place_found}
use Rattle.stores.specs.QueueInPlace.{InPlace}
use Rattle.stores.specs.View.{mode}
use Rattle.stores.proofs.QueueCases.{looked_none, looked_unlinked}
use Rattle.stores.proofs.QueueInPlace.{in_place}
use Rattle.control.specs.declared.decision.Decision.{Decision}
use Rattle.control.specs.declared.ensure_root_answer.Next.{Next}
use Rattle.control.specs.declared.ensure_root_answer.Top.{Top}
use Rattle.control.specs.declared.select_subgoal.Made.{Made}
use Rattle.control.specs.EnsureRootAnswer.{next_by, next_strand}
use Rattle.control.specs.MakeTables.{tabling, tables_from}
use Rattle.control.specs.PerformStrand.{Lent, begun}
use Rattle.control.specs.QueueInPlace.{taken_out, TakesInPlace}
use Rattle.control.specs.SelectSubgoal.{noted_count}
use Rattle.control.specs.Stores.{Stores, first_strands, held_places, SoundStores}
use Rattle.control.specs.TurnReads.{top, next}
use Rattle.control.proofs.EffectBack.{strand_found}
use Rattle.control.proofs.EnsureRootAnswer.{top_is}
use Rattle.control.proofs.Stores.{table_made}

module _ (root index first : ℕ) (z : Stores) (o : SoundStores root index first z) (n : ℕ) (d : z.stack.depth ≡ suc n)
    (no_active : get_or z.stack.active n 0 ≡ 256) where
  abbrev t : ℕ
  t = get_or z.stack.table n 0

  abbrev clock : ℕ
  clock = get_or z.stack.clock n 0

  abbrev complete : Bool
  complete = flag (get_or z.tables.complete t 0)

  abbrev p : Places
  p = z.strands.places

  abbrev Says : Strands → ℕ → Type 0
  Says s'' q =
      InPlace (first_strands z.book) z.tables.count (held_places z)
      (turns.eligible clock (mode (get_or z.tables.complete t 0))) t z.strands s'' q

  abbrev SaysOf : Next → (table : ℕ) → Type 0
  SaysOf x table = Says (taken_out x.found x table z.strands) (place_if x.found x.place)

  abbrev spot : Spot
  spot = spot_from (test_at clock complete z.strands) (get_or p.tail t 0) (ring p t)

  -- what was found is taken, by what `take_strand` gives and leaves
  taken_by_spot : Says (taken_out (is_found spot) (next_by false 256 spot) t z.strands) (place_if (is_found spot) (place_found spot))
  taken_by_spot = let (is, left) = two spot.place refl in rw (is, left) whole
    where
      whole : Says (taken_strand clock complete t z.strands) (strand_place clock complete t z.strands)
      whole = in_place (first_strands z.book) z.tables z.answers z.strands (held_places z) t clock
          (table_made root index first z o n d) o.strands

      two : (o : code.Option ℕ) → spot.place ≡ o → (place_if (is_some o) (unwrap_or o 0) ≡ strand_place clock complete t z.strands)
          × (taken_out (is_some o) (next_by false 256 spot) t z.strands ≡ taken_strand clock complete t z.strands)
      two (code.Some q) f = let l = looked_unlinked (test_at clock complete z.strands) t p q f in (l.0, ap (with_places z.strands) l.1)
      two code.None f = let l = looked_none (test_at clock complete z.strands) t p f in (l.0, ap (with_places z.strands) l.1)

  -- by the numbers of any top
  abbrev next_under : Top → Next
  next_under x = next_strand p.next p.tail p.len z.strands.time z.strands.ambiguous x

  found_in_place : SaysOf (next z) (top z).table
  found_in_place =
      subst (λ (x : Top). SaysOf (next_under x) x.table) (sym (top_is root index first z o n d))
      (subst (λ (b : Bool). SaysOf (next_by b (get_or z.stack.active n 0) spot) t)
      (sym (le-ltb (get_or z.stack.active n 0) 256 (omega arith))) taken_by_spot)

  pub control_in_place : TakesInPlace z n
  control_in_place =
      subst (λ (has : Bool). Says (taken_out has (next z) (top z).table z.strands) (place_if has (next z).place))
      (sym (strand_found z)) found_in_place

-- a turn that has a strand begins from the strands that this leaves
pub begins_in_place : (goal_flags goal_first goal_len clause_variant clause_flags : List ℕ) (p : Next) (x : Top) (made : Made)
    (d : Decision) (seen : ℕ) (w : Lent)
    → begun goal_flags goal_first goal_len clause_variant clause_flags p x made d seen w
    ≡ tables_from goal_flags goal_first goal_len clause_variant clause_flags made.goals (noted_count made) 0
    (tabling w.tables (taken_out true p x.table w.strands))
begins_in_place goal_flags goal_first goal_len clause_variant clause_flags p x made d seen w = refl

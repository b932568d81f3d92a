-- One open of the code, on a forest that may be asked: by what it gave, the lines that are left.
use Prim.Native.Nat.{ℕ, ◌+◌, ◌-◌, ◌≤◌, ◌<◌}
use native.Mathlib.Omega.{arith}
use mathlib.Core.Bool.{false}
use mathlib.Core.List.{[], ◌∷◌}
use mathlib.Core.Logic.{inr}
use mathlib.Core.Path.{◌≡◌, refl, sym, ap, subst, ◌∙◌}
use native.Mathlib.Decide.{dec_le, dec_lt}
use Rattle.definitions.specs.Forest as said
use Rattle.papers.specs.Listing.{line, Listed, list_from, list_goal}
use Rattle.definitions.specs.Refusal.{accepted}
use Rattle.definitions.specs.Stop.{Stops, stop, go}
use Rattle.definitions.specs.Tables as tables
use Rattle.definitions.specs.Turn.{stopped}
use Rattle.definitions.proofs.Refusal.{same_accepted, not_accepted}
use Rattle.forest.specs.declared.Forest.{Forest}
use Rattle.forest.specs.declared.open.Opened.{Opened}
use Rattle.forest.specs.declared.open.Opening.{Opening}
use Rattle.forest.specs.declared.open.Opening.TheVariants as openings
use Rattle.forest.specs.Open.{OpenSays, opened_by, opened_means}
use Rattle.forest.specs.View.{view}
use Rattle.listing.specs.Goals.{Ready, Stands, goal_count, rest_lines}
use Rattle.listing.proofs.Listing.{open_asked, open_past, OpensTable, opens_table, goal_stopped, goal_opened}
use Rattle.listing.proofs.Listing.{goals_on, goals_here, goals_past}

module _ (f : Forest) (x : Ready f) (goal : ℕ) (o : Opened) (says : OpenSays f goal o) where
  abbrev F : tables.Forest
  F = view f

  abbrev G : tables.Forest
  G = view o.forest

  told : opened_means o ≡ said.open_goal F goal
  told = says.says x.sound

  -- a goal that is not in the book
  pub goal_past : (n : ℕ) → o.opening ≡ openings.Refused n → rest_lines goal f ≡ []
  goal_past n e = goals_past (goal_count f) goal F (on (dec_le (goal_count f) goal))
    where
      on : Dec (goal_count f ≤ goal) → goal_count f ≤ goal
      on (yes h) = h
      on (no h) = absurd (not_accepted
          (sym (ap (λ (z : Opening). opened_by z G) e) ∙ told ∙ open_asked F x.unmarked goal (omega arith)))

  named : (t : Stops ℕ) → opened_means o ≡ accepted (record { table = t; forest = G }) → goal < goal_count f
  named t e = on (dec_lt goal (goal_count f))
    where
      on : Dec (goal < goal_count f) → goal < goal_count f
      on (yes h) = h
      on (no h) = absurd (not_accepted (sym (open_past F x.unmarked goal (omega arith)) ∙ sym told ∙ e))

  is_opened : (t : Stops ℕ) → opened_means o ≡ accepted (record { table = t; forest = G })
      → said.opened 0 F goal ≡ record { table = t; forest = G }
  is_opened t e = same_accepted (sym (open_asked F x.unmarked goal (named t e)) ∙ sym told ∙ e)

  rest_is : (t : Stops ℕ) → opened_means o ≡ accepted (record { table = t; forest = G }) → (l : Listed) → list_goal goal F ≡ l
      → rest_lines goal f ≡ goals_on (goal_count f - (goal + 1)) goal l
  rest_is t e l is =
      goals_here (goal_count f) goal F (named t e) ∙ ap (λ (z : Listed). goals_on (goal_count f - (goal + 1)) goal z) is

  -- the open stopped
  pub goal_stops : (n : ℕ) → o.opening ≡ openings.Stopped n → rest_lines goal f ≡ line goal 0 (stopped n) false ∷ []
  goal_stops n e =
      let m = ap (λ (z : Opening). opened_by z G) e in
      rest_is (stop n) m _ (goal_stopped goal F G n (is_opened (stop n) m))

  -- the table of the goal
  module _ (t : ℕ) (e : o.opening ≡ openings.Table t) where
    m : opened_means o ≡ accepted (record { table = go t; forest = G })
    m = ap (λ (z : Opening). opened_by z G) e

    is_table : OpensTable f.book.goals 0 t G
    is_table =
        let y = opens_table f.book.goals F x.sound.forest goal (subst (λ (n : ℕ). goal < n) x.sound.forest.goals (named (go t) m)) in
        let z = subst (λ (r : said.Opened). (u : ℕ) → r.table ≡ go u → OpensTable f.book.goals f.mark u r.forest)
        (is_opened (go t) m) y t refl in
        subst (λ (k : ℕ). OpensTable f.book.goals k t G) x.unmarked z

    pub goal_stands : Stands o.forest t 0
    goal_stands = record {
      ready = record { sound = says.sound x.sound; unmarked = is_table.same_mark };
      own = is_table.own;
      is_made = is_table.is_made;
      reached = inr (omega arith);
      few = omega arith;
    }

    pub goal_named : goal < goal_count f
    goal_named = named (go t) m

    pub same_count : goal_count o.forest ≡ goal_count f
    same_count = is_table.sound.goals ∙ sym x.sound.forest.goals

    pub goal_lists : rest_lines goal f ≡ goals_on (goal_count f - (goal + 1)) goal (list_from 257 goal t 0 false G)
    goal_lists = rest_is (go t) m _ (goal_opened goal F G t (is_opened (go t) m))

-- A paper that the check accepts is within demand 3 of the code, by the levels that the check gives.
use Prim.Native.Nat.{ℕ, ◌<◌}
use native.Mathlib.Omega.{arith}
use native.Mathlib.Decide.{dec_lt}
use mathlib.Core.List.{List}
use mathlib.Core.Logic.{inr}
use mathlib.Core.Path.{◌≡◌, sym, ap, subst, ◌∙◌}
use lib.ListN.{take, length-take}
use lib.Seq.{get_or-take}
use Rattle.std.proofs.Common.{Ok}
use Rattle.laws.proofs.Lists.{get_d_past}
use Rattle.papers.specs.Levels.{level_in, levels_at_desk}
use Rattle.papers.specs.Model.{Plain, Levelled}
use Rattle.definitions.specs.Book.{Book}
use Rattle.definitions.specs.Desk.{desk}
use Rattle.definitions.specs.Refusal.{accepted}
use Rattle.definitions.proofs.Desk.{desk_reads}
use Rattle.papers.proofs.Levels.{check_accepted}
use Rattle.paper_checks.specs.declared.LeastLevels.{LeastLevels}
use Rattle.paper_checks.specs.Profile.{Whole, Profiles}
use Rattle.theorems.specs.Promises.{AcceptedTells}
use Rattle.theorems.specs.Before as before
use Rattle.theorems.proofs.Before.{demand_3}
use Rattle.theorems.proofs.Right.{steps_right}

-- the levels are as many as there are goals, and behind them the array has zeros
level_there : (p : LeastLevels) → Whole p → (g : ℕ) → level_in (take p.goals p.levels) g ≡ level_in p.levels g
level_there p whole g = on (dec_lt g p.goals)
  where
    on : Dec (g < p.goals) → level_in (take p.goals p.levels) g ≡ level_in p.levels g
    on (yes h) = get_or-take p.goals p.levels g 0 h
    on (no o) =
        let x = length-take p.goals p.levels in
        get_d_past (take p.goals p.levels) g (omega (arith, whole.filled.whole, whole.few)) ∙ sym (whole.filled.past g (omega arith))

-- it is plain, and levelled by these levels
accepted_levelled : (bytes : List ℕ) (p : LeastLevels) → Profiles bytes (Ok p) → (book : Book) → desk bytes ≡ accepted book
    → Plain book × Levelled book (level_in p.levels)
accepted_levelled bytes p says book took =
    let a = check_accepted book (take p.goals p.levels) (sym (ap levels_at_desk took) ∙ sym says.means) in
    (a.plain, subst (Levelled book) (λ i g. level_there p says.levels g i) a.levelled)

pub accepted_right : AcceptedTells
accepted_right bytes p says limit m made is book took =
    let fits = accepted_levelled bytes p says book took in
    steps_right bytes limit m (inr made) is book (desk_reads bytes book took).0 (level_in p.levels) fits.0 fits.1

-- the same with the allowance
pub accepted_tells_before : before.AcceptedTells
accepted_tells_before bytes p says limit m made is book took =
    let fits = accepted_levelled bytes p says book took in
    demand_3 bytes limit m (inr made) is book (desk_reads bytes book took).0 (level_in p.levels) fits.0 fits.1

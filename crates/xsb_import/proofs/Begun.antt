-- The rules that were begun, and what a byte that ends nothing does to a spot.
use Rattle.std.specs.Prelude.{Some, None}
use Rattle.std.specs.declared.option.Option as found
use Prim.Native.Nat.{ℕ, suc, ◌≤◌}
use mathlib.Core.Path.{◌≡◌, refl, sym, ap, subst, ◌∙◌}
use mathlib.Core.Bool.{Bool, true, false}
use mathlib.Core.Option.{Option, none, some}
use mathlib.Core.List.{List, [], ◌∷◌}
use Rattle.definitions.specs.Lists.{push, is_empty}
use Rattle.papers.specs.Xsb as said
use Rattle.papers.specs.Xsb.{Rule, State, at, if_so, step_at, step}
use Rattle.xsb_import.specs.declared.Place.{Place}
use Rattle.xsb_import.specs.declared.Spot.{Spot}
use Rattle.xsb_import.specs.Places.{place_seen, Known}
use Rattle.xsb_import.specs.Keeping.{goals_after}
use Rattle.xsb_import.specs.Reading.{in_rule, begun_by, begun_rules, Follows, Goes, After, Steps, moved}

pub goals_after_push : (g : ℕ) (rs : List Rule) (r : Rule) → goals_after g (push rs r) ≡ suc r.head
goals_after_push g [] r = refl
goals_after_push g (q ∷ rs) r = goals_after_push (suc q.head) rs r

pub begun_at : (st : State) (q : said.Place) → in_rule q ≡ in_rule st.place → begun_rules (at st q) ≡ begun_rules st
begun_at st q e = ap (λ (c : Bool). begun_by c st.rules st.rule) e

-- the rules of a state whose place is known
pub begun_here : (st : State) (p : said.Place) → st.place ≡ p → begun_rules st ≡ begun_by (in_rule p) st.rules st.rule
begun_here st p e = ap (λ (q : said.Place). begun_by (in_rule q) st.rules st.rule) e

-- two tests, neither of which a byte passes
pub neither : (a b : Bool) (x y : State) → a ≡ false → b ≡ false
    → ◌≡◌ {A = Option State} (elim a [ true ↦ some x | false ↦ if_so b y ]) none
neither a b x y e f = ap (λ (c : Bool). elim c [ true ↦ some x | false ↦ if_so b y ]) e ∙ ap (λ (c : Bool). if_so c y) f

pub goes_on : (st : State) (s : Spot) → Follows st s → (p : Place) → Known p → in_rule (place_seen p) ≡ in_rule st.place
    → Goes st (at st (place_seen p)) (moved s p None)
goes_on st s f p h k =
    let q = place_seen p in
    record {
      follows = record {
        place_is = refl;
        known = h;
        tables_are = f.tables_are;
        head_is = f.head_is;
        none_begun = f.none_begun ∙ ap is_empty (sym (begun_at st q k));
        in_order = subst (λ (rs : List Rule). goals_after 0 rs ≤ suc st.rule.head) (sym (begun_at st q k)) f.in_order;
      };
      more_tables = λ h. h;
      happens = begun_at st q k;
    }

-- what comes of a byte, by the place of the spot
pub by_place : (st : State) (s : Spot) (from : Place) (r : found.Option Spot) (b : ℕ) (o : Option State) → Follows st s → s.place ≡ from
    → step_at st (place_seen from) b ≡ o → After st o r → After st (step st b) r
by_place st s from r b o f p e a =
    subst (λ (x : Option State). After st x r)
    (sym (ap (λ (q : said.Place). step_at st q b) (sym f.place_is ∙ ap place_seen p) ∙ e)) a

pub moves : (s n : Spot) (b : ℕ) (from p : Place) → s.place ≡ from → Known p → in_rule (place_seen p) ≡ in_rule (place_seen from)
    → ((st : State) → Follows st s → step_at st (place_seen from) b ≡ some (at st (place_seen p))) → n ≡ moved s p None
    → Steps s b (Some n)
moves s n b from p e h k steps m st f =
    by_place st s from (Some n) b (some (at st (place_seen p))) f e (steps st f)
    (subst (Goes st (at st (place_seen p))) (sym m)
    (goes_on st s f p h (k ∙ ap in_rule (sym (ap place_seen e) ∙ f.place_is))))

pub breaks : (s : Spot) (b : ℕ) (from : Place) → s.place ≡ from
    → ((st : State) → Follows st s → step_at st (place_seen from) b ≡ none) → Steps s b None
breaks s b from e steps st f = by_place st s from None b none f e (steps st f) tt

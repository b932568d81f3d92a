-- A reader of a text, fed with more of it.
use Rattle.std.specs.Prelude.{Some, None}
use Rattle.std.specs.declared.option.Option as found
use Prim.Native.Nat.{ℕ, ◌+◌, ◌≤◌, ◌<◌}
use native.Mathlib.Omega.{arith}
use mathlib.Core.Path.{◌≡◌, refl, sym, ap, subst, ◌∙◌}
use mathlib.Core.Bool.{false}
use mathlib.Core.Option.{Option, none, some}
use mathlib.Core.List.{List, [], ◌∷◌, ◌++◌, append-nil, append_assoc}
use lib.ListN.{length, take, set, get_or, replicate, length-replicate}
use lib.Seq.{take_all}
use Rattle.laws.proofs.Takes.{take_next, take_set_next}
use Rattle.papers.specs.Xsb.{State, start, step, run}
use Rattle.xsb_import.specs.declared.Place.TheVariants.{Line}
use Rattle.xsb_import.specs.declared.Ended.{Ended}
use Rattle.xsb_import.specs.declared.Spot.{Spot}
use Rattle.xsb_import.specs.declared.Kept.{Kept}
use Rattle.xsb_import.specs.Keeping.{KeepsOn}
use Rattle.xsb_import.specs.Reading.{begun_rules, After, StepsFrom}
use Rattle.xsb_import.specs.Importing.{Held, HoldsState, Holds, Reads, ended_by}

-- One byte more.

abbrev stepped : Option State → ℕ → Option State
stepped none b = none
stepped (some s) b = step s b

run_push : (l : List ℕ) (b : ℕ) (s : State) → run (l ++ (b ∷ [])) s ≡ stepped (run l s) b
run_push [] b s = as_it_is (step s b)
  where
    as_it_is : (o : Option State) → ◌≡◌ {A = Option State} (elim o [ none ↦ none | some t ↦ some t ]) o
    as_it_is none = refl
    as_it_is (some t) = refl
run_push (a ∷ l) b s = on (step s a) (run_push l b)
  where
    on : (o : Option State) → ((t : State) → run (l ++ (b ∷ [])) t ≡ stepped (run l t) b)
        → ◌≡◌ {A = Option State} (elim o [ none ↦ none | some t ↦ run (l ++ (b ∷ [])) t ])
        (stepped (elim o [ none ↦ none | some t ↦ run l t ]) b)
    on none f = refl
    on (some t) f = f t

holds_step : (o : Option State) (b : ℕ) (s n : found.Option Spot) (k j : found.Option Kept) (bytes out : List ℕ)
    → StepsFrom s b n → KeepsOn (ended_by n) k bytes j out → HoldsState o s k bytes → HoldsState (stepped o b) n j out
holds_step none b None n k j bytes out f g h = subst (λ (x : found.Option Spot). HoldsState none x j out) (sym f) tt
holds_step none b (Some s) n k j bytes out f g h = absurd h
holds_step (some st) b None n k j bytes out f g h = absurd h
holds_step (some st) b (Some s) n k j bytes out f g h = on (step st b) n (f st h.follows) g
  where
    on : (o : Option State) (x : found.Option Spot) → After st o x → KeepsOn (ended_by x) k bytes j out → HoldsState o x j out
    on none None a g = tt
    on none (Some x) a g = absurd a
    on (some t) None a g = absurd a
    on (some t) (Some x) a g = record {
      follows = a.follows;
      keeps = g st.tables t.tables (begun_rules st) (begun_rules t) a.more_tables a.happens h.keeps;
    }

pub holds_next : (text piece : List ℕ) (i : ℕ) (s n : found.Option Spot) (k j : found.Option Kept) (bytes out : List ℕ) → i < length piece
    → StepsFrom s (get_or piece i 0) n → KeepsOn (ended_by n) k bytes j out
    → Holds (text ++ take i piece) s k bytes → Holds (text ++ take (i + 1) piece) n j out
holds_next text piece i s n k j bytes out lt f g h =
    let b = get_or piece i 0 in
    let more : text ++ take (i + 1) piece ≡ (text ++ take i piece) ++ (b ∷ [])
    = ap (λ (t : List ℕ). text ++ t) (take_next i piece 0 lt) ∙ sym (append_assoc text (take i piece) (b ∷ [])) in
    subst (λ (o : Option State). HoldsState o n j out)
    (sym (ap (λ (t : List ℕ). run t start) more ∙ run_push (text ++ take i piece) b start))
    (holds_step (run (text ++ take i piece) start) b s n k j bytes out f g h)

pub holds_first : (text piece : List ℕ) (s : found.Option Spot) (k : found.Option Kept) (bytes : List ℕ) → Holds text s k bytes
    → Holds (text ++ take 0 piece) s k bytes
holds_first text piece s k bytes h = subst (λ (t : List ℕ). Holds t s k bytes) (sym (append-nil text)) h

pub holds_all : (text piece : List ℕ) (i : ℕ) (s : found.Option Spot) (k : found.Option Kept) (bytes : List ℕ) → length piece ≤ i
    → Holds (text ++ take i piece) s k bytes → Holds (text ++ piece) s k bytes
holds_all text piece i s k bytes h x = subst (λ (t : List ℕ). Holds (text ++ t) s k bytes) (take_all i piece h) x

-- Of a text, the bytes are as many as they should be.

room_of : (o : Option State) (s : found.Option Spot) (k : found.Option Kept) (bytes own : List ℕ) → (length bytes ≡ 13441 → own ≡ bytes)
    → HoldsState o s k bytes → HoldsState o s k own
room_of none None k bytes own e h = tt
room_of none (Some s) k bytes own e h = h
room_of (some st) None k bytes own e h = h
room_of (some st) (Some s) k bytes own e h = subst (Held st s k) (sym (e h.keeps.room)) h

pub own_holds : (text : List ℕ) (s : found.Option Spot) (k : found.Option Kept) (bytes own : List ℕ)
    → (length own ≡ 13441) × (length bytes ≡ 13441 → own ≡ bytes) → Holds text s k bytes → Holds text s k own
own_holds text s k bytes own e h = room_of (run text start) s k bytes own e.1 h

-- For every text.

pub fed_next : (s₀ s n : found.Option Spot) (e : found.Option Ended) (k₀ k j : found.Option Kept) (bytes₀ bytes out piece : List ℕ)
    (i b : ℕ) → i < length piece → StepsFrom s b n → b ≡ get_or piece i 0 → e ≡ ended_by n → KeepsOn e k bytes j out
    → ((text : List ℕ) → Holds text s₀ k₀ bytes₀ → Holds (text ++ take i piece) s k bytes)
    → (text : List ℕ) → Holds text s₀ k₀ bytes₀ → Holds (text ++ take (i + 1) piece) n j out
fed_next s₀ s n e k₀ k j bytes₀ bytes out piece i b lt f at is g so_far text h =
    holds_next text piece i s n k j bytes out lt (subst (λ (x : ℕ). StepsFrom s x n) at f)
    (subst (λ (x : found.Option Ended). KeepsOn x k bytes j out) is g) (so_far text h)

pub fed : (s₀ s : found.Option Spot) (k₀ k : found.Option Kept) (held own bytes piece : List ℕ) (i : ℕ) → length piece ≤ i
    → (length own ≡ 13441) × (length held ≡ 13441 → own ≡ held)
    → ((text : List ℕ) → Holds text s₀ k₀ own → Holds (text ++ take i piece) s k bytes)
    → (text : List ℕ) → Holds text s₀ k₀ held → Holds (text ++ piece) s k bytes
fed s₀ s k₀ k held own bytes piece i le e so_far text h =
    holds_all text piece i s k bytes le (so_far text (own_holds text s₀ k₀ held own e h))

-- A copy, byte by byte.

pub copy_next : (bytes r : List ℕ) (i : ℕ) → length r ≡ 13441 → i < 13441 → (length bytes ≡ 13441 → take i r ≡ take i bytes)
    → length bytes ≡ 13441 → take (i + 1) (set r i (get_or bytes i 0)) ≡ take (i + 1) bytes
copy_next bytes r i e h f m =
    take_set_next i r (get_or bytes i 0) (omega arith) ∙ ap (λ (t : List ℕ). t ++ (get_or bytes i 0 ∷ [])) (f m)
    ∙ sym (take_next i bytes 0 (omega arith))

pub copied : (bytes r : List ℕ) (i : ℕ) → length r ≡ 13441 → 13441 ≤ i → (length bytes ≡ 13441 → take i r ≡ take i bytes)
    → length bytes ≡ 13441 → r ≡ bytes
copied bytes r i e h f m = sym (take_all i r (omega arith)) ∙ f m ∙ take_all i bytes (omega arith)

-- The start.

abbrev first_spot : Spot
first_spot = record { place = Line; tables = 0; head = 0; begun = false; ended = None }

abbrev first_kept : Kept
first_kept = record { goals = 0; clauses = 0; literals = 8; used = 0 }

pub started : Reads [] (record { spot = Some first_spot; kept = Some first_kept; bytes = replicate 13441 0 })
started = record {
  follows = record {
    place_is = refl;
    known = tt;
    tables_are = refl;
    head_is = refl;
    none_begun = refl;
    in_order = omega arith;
  };
  keeps = record {
    room = length-replicate {A = ℕ} 13441 0;
    within = record {
      held = refl;
      goals_are = refl;
      clauses_are = refl;
      literals_are = refl;
      few_goals = omega arith;
      few_clauses = omega arith;
      few_literals = omega arith;
      inside = omega arith;
      short = refl;
    };
  };
}

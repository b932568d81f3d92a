-- The spoilers of a book, by its arrays: what each goal spoils by itself, a pass over all goals, all passes, and a paper's. The array is
-- filled goal by goal, and then it is the definitions' list, filled up.
use Prim.Native.Nat.{ℕ, zero, suc, ◌+◌, ◌≤◌, ◌<◌}
use native.Mathlib.Omega.{arith}
use native.Mathlib.Decide.{dec_lt}
use mathlib.Core.Path.{◌≡◌, refl, sym, ap, ap₂, subst, ◌∙◌}
use mathlib.Core.Option.{Option, none, some}
use mathlib.Core.List.{List, [], ◌∷◌}
use lib.ListN.{length, get_or, set, replicate, get_or-eq_default}
use Rattle.std.specs.declared.option.Option as found
use Rattle.std.proofs.Common.{Ok, Err}
use Rattle.laws.specs.Spans.{span}
use Rattle.laws.proofs.Spans.{length_span, get_or_span}
use Rattle.definitions.specs.Refusal.{accepted}
use Rattle.definitions.specs.Book as said
use Rattle.definitions.specs.Book.{bit0, goal_of}
use Rattle.definitions.specs.Desk.{desk}
use Rattle.papers.specs.NotPlain.{or_else, first_from}
use Rattle.papers.specs.Spoilt.{Spoil, spoil_by_flag, not_in_clause, spoil, spoiler_in, literals_spoilt, clauses_spoilt, by_itself}
use Rattle.papers.specs.Spoilt.{by_themselves, pass_from, spoilers_after}
use Rattle.book.specs.declared.Book.{Book}
use Rattle.book.specs.declared.refusal.Refusal.{Refusal}
use Rattle.book.specs.View.{goal_viewed, view, Sound, Taken}
use Rattle.book.specs.Access.{entry}
use Rattle.book.proofs.Looks.{entry_in}
use Rattle.book.proofs.TwiceInBook.{goal_shown}
use Rattle.paper_checks.specs.declared.OwnSpoil.{OwnSpoil}
use Rattle.paper_checks.specs.declared.Spoiler.{Spoiler}
use Rattle.paper_checks.specs.Spoilers.{own_told, by_told, by_seen, told, nothing, each_told, itself, filled, spoilers_seen, spoilers_told}
use Rattle.paper_checks.specs.Spoilers.{known, Fills, spoil_read, passed_read, pass_told, Passes, Stands}
use Rattle.paper_checks.proofs.Firsts.{get_or_filled, length_filled, fills_start, fills_next, fills_is}
use Rattle.paper_checks.proofs.Spreading.{spoiler_get_or, known_at, seen_back}

-- The definitions' lists, as spans.

module _ (f : ℕ → said.Goal) where
  themselves_span : (s n : ℕ) → by_themselves s (span f s n) ≡ span (λ g. by_itself g (spoil (f g))) s n
  themselves_span s zero = refl
  themselves_span s (suc n) = ap (λ (l : List (Option ℕ)). by_itself s (spoil (f s)) ∷ l) (themselves_span (suc s) n)

  pass_span : (ss : List (Option ℕ)) (s n : ℕ)
      → pass_from ss s (span f s n) ≡ span (λ g. or_else (spoiler_in ss g) (clauses_spoilt ss (f g).clauses)) s n
  pass_span ss s zero = refl
  pass_span ss s (suc n) =
      ap (λ (l : List (Option ℕ)). or_else (spoiler_in ss s) (clauses_spoilt ss (f s).clauses) ∷ l) (pass_span ss (suc s) n)

  told_span : (o : ℕ → Option ℕ) (s n : ℕ) → each_told (span o s n) (span f s n) ≡ span (λ g. told (o g) (spoil (f g))) s n
  told_span o s zero = refl
  told_span o s (suc n) = ap (λ (l : List Spoiler). told (o s) (spoil (f s)) ∷ l) (told_span o (suc s) n)

-- What is known of the same goals spoils the same.

module _ (a b : List (Option ℕ)) (alike : (g : ℕ) → spoiler_in a g ≡ spoiler_in b g) where
  literals_alike : (ls : List said.Literal) → literals_spoilt a ls ≡ literals_spoilt b ls
  literals_alike [] = refl
  literals_alike (l ∷ ls) = ap₂ or_else (alike (goal_of l)) (literals_alike ls)

  clauses_alike : (cs : List said.Clause) → clauses_spoilt a cs ≡ clauses_spoilt b cs
  clauses_alike [] = refl
  clauses_alike (c ∷ cs) = ap₂ or_else (literals_alike c.literals) (clauses_alike cs)

itself_of : (g : ℕ) (o : Option Spoil) → itself (own_told o) g ≡ by_told (by_itself g o)
itself_of g none = refl
itself_of g (some s) = refl

module _ (b : Book) where
  abbrev pub spoil_at : ℕ → Option Spoil
  spoil_at g = spoil (goal_viewed b g)

  -- by which goal after so many passes
  abbrev pub after : (n : ℕ) → ℕ → Option ℕ
  after zero g = by_itself g (spoil_at g)
  after (suc n) g =
      or_else (spoiler_in (spoilers_after n (view b)) g) (clauses_spoilt (spoilers_after n (view b)) (goal_viewed b g).clauses)

  abbrev pub told_at : (n : ℕ) → ℕ → Spoiler
  told_at n g = told (after n g) (spoil_at g)

  after_span : (n : ℕ) → spoilers_after n (view b) ≡ span (after n) 0 b.goals
  after_span zero = themselves_span (goal_viewed b) 0 b.goals
  after_span (suc n) = pass_span (goal_viewed b) (spoilers_after n (view b)) 0 b.goals

  list_is : (n : ℕ) → each_told (spoilers_after n (view b)) (view b) ≡ span (told_at n) 0 b.goals
  list_is n = ap (λ (l : List (Option ℕ)). each_told l (view b)) (after_span n) ∙ told_span (goal_viewed b) (after n) 0 b.goals

  pub many : length (view b) ≡ b.goals
  many = length_span (goal_viewed b) 0 b.goals

  pub stands_as : (n : ℕ) (l : List Spoiler) → b.goals ≤ 64 → Fills nothing (told_at n) b.goals l → Stands b n l
  stands_as n l few so = fills_is nothing (told_at n) b.goals l few so ∙ ap (filled nothing) (sym (list_is n))

  -- An array that is filled up to goal g.
  pub record FillsTo (f : ℕ → Spoiler) (g : ℕ) (l : List Spoiler) : Type 0 where
    pub within : g ≤ b.goals
    pub fills : Fills nothing f g l

  module _ (f : ℕ → Spoiler) where
    pub fills_to_start : FillsTo f 0 (replicate 64 nothing)
    fills_to_start = record { within = omega arith; fills = fills_start nothing f (replicate 64 nothing) refl }

    module _ (g : ℕ) (l : List Spoiler) (so : FillsTo f g l) where
      pub fills_to_next : b.goals ≤ 64 → g < b.goals → (x : Spoiler) → x ≡ f g → FillsTo f (g + 1) (set l g x)
      fills_to_next few h x e = record { within = omega arith; fills = fills_next nothing f g l x so.fills (omega arith) e }

      pub fills_to_over : b.goals ≤ g → Fills nothing f b.goals l
      fills_to_over h = let z : g ≡ b.goals = omega (arith, so.within) in subst (λ (n : ℕ). Fills nothing f n l) z so.fills

  module _ (s : Sound b) where
    -- a goal by the arrays
    module _ (g first count : ℕ) (h : g < b.goals) (hf : first ≡ entry 64 b.goal_first g) (hc : count ≡ entry 64 b.goal_len g)
      where
        flags_there : entry 64 b.goal_flags g ≡ get_or b.goal_flags g 0
        flags_there = entry_in 64 b.goal_flags g (omega (arith, s.few_goals))

        spoil_shown : spoil_read b g first count ≡ spoil_at g
        spoil_shown =
            ap₂ (λ (n : ℕ) (cs : List said.Clause). or_else (spoil_by_flag (bit0 n)) (first_from not_in_clause 0 cs)) flags_there
            (goal_shown b s g first count h hf hc)

        pub own_told_at : (own : found.Option OwnSpoil) (by : found.Option ℕ) → own ≡ own_told (spoil_read b g first count)
            → by ≡ itself own g → record { by = by; own = own } ≡ told_at 0 g
        own_told_at own by e m =
            let is : own ≡ own_told (spoil_at g) = e ∙ ap own_told spoil_shown in
            ap₂ (λ (x : found.Option ℕ) (y : found.Option OwnSpoil). made x y)
            (m ∙ ap (λ (x : found.Option OwnSpoil). itself x g) is ∙ itself_of g (spoil_at g)) is
          where
            made : found.Option ℕ → found.Option OwnSpoil → Spoiler
            made x y = record { by = x; own = y }

        passed_shown : (ss : List (Option ℕ))
            → passed_read b ss g first count ≡ or_else (spoiler_in ss g) (clauses_spoilt ss (goal_viewed b g).clauses)
        passed_shown ss =
            ap (λ (cs : List said.Clause). or_else (spoiler_in ss g) (clauses_spoilt ss cs)) (goal_shown b s g first count h hf hc)

    -- what a pass gives
    pub pass_at : (l : List Spoiler) (g first count : ℕ) (by : found.Option ℕ) → first ≡ entry 64 b.goal_first g
        → count ≡ entry 64 b.goal_len g → by ≡ by_told (passed_read b (known l) g first count)
        → record { by = by; own = (get_or l g nothing).own } ≡ pass_told b l g
    pass_at l g first count by hf hc e =
        ap (λ (x : found.Option ℕ). made x) (e ∙ ap₂ (λ (x y : ℕ). by_told (passed_read b (known l) g x y)) hf hc)
      where
        made : found.Option ℕ → Spoiler
        made x = record { by = x; own = (get_or l g nothing).own }

    few_goals : length (view b) ≤ 64
    few_goals = omega (arith, many, s.few_goals)

    module _ (n : ℕ) (l : List Spoiler) (so : Stands b n l) where
      abbrev ss : List (Option ℕ)
      ss = spoilers_after n (view b)

      as_span : l ≡ filled nothing (span (told_at n) 0 b.goals)
      as_span = so ∙ ap (filled nothing) (list_is n)

      pub stands_whole : length l ≡ 64
      stands_whole =
          ap length as_span
          ∙ length_filled nothing (span (told_at n) 0 b.goals) (omega (arith, length_span (told_at n) 0 b.goals, s.few_goals))

      there : (g : ℕ) → get_or l g nothing ≡ get_or (span (told_at n) 0 b.goals) g nothing
      there g = ap (λ (x : List Spoiler). get_or x g nothing) as_span ∙ get_or_filled nothing (span (told_at n) 0 b.goals) g

      inside : (g : ℕ) → g < b.goals → get_or l g nothing ≡ told_at n g
      inside g h =
          let z : 0 + g ≡ g = omega arith in
          there g ∙ get_or_span (told_at n) 0 b.goals g nothing h ∙ ap (told_at n) z

      behind : (g : ℕ) → b.goals ≤ g → get_or l g nothing ≡ nothing
      behind g h =
          there g ∙ get_or-eq_default (span (told_at n) 0 b.goals) nothing {n = g} (omega (arith, length_span (told_at n) 0 b.goals))

      known_alike : (g : ℕ) → spoiler_in (known l) g ≡ spoiler_in ss g
      known_alike g =
          known_at l g ∙ on (dec_lt g b.goals)
          ∙ sym (spoiler_get_or ss g ∙ ap (λ (x : List (Option ℕ)). get_or x g none) (after_span n))
        where
          on : Dec (g < b.goals) → by_seen (get_or l g nothing).by ≡ get_or (span (after n) 0 b.goals) g none
          on (yes h) =
              let z : 0 + g ≡ g = omega arith in
              ap (λ (x : Spoiler). by_seen x.by) (inside g h) ∙ seen_back (after n g)
              ∙ sym (get_or_span (after n) 0 b.goals g none h ∙ ap (after n) z)
          on (no o) =
              ap (λ (x : Spoiler). by_seen x.by) (behind g (omega arith))
              ∙ sym (get_or-eq_default (span (after n) 0 b.goals) none {n = g} (omega (arith, length_span (after n) 0 b.goals)))

      pub stands_next : (next : List Spoiler) → Passes b l next → Stands b (n + 1) next
      stands_next next gives =
          let one : suc n ≡ n + 1 = omega arith in
          subst (λ (m : ℕ). Stands b m next) one
          (stands_as (suc n) next s.few_goals (record {
            whole = gives.whole;
            there = λ g h. gives.there g h ∙ at g h;
            past = gives.past;
          }))
        where
          at : (g : ℕ) → g < b.goals → pass_told b l g ≡ told_at (suc n) g
          at g h =
              ap₂ (λ (x : Option ℕ) (y : found.Option OwnSpoil). made x y)
              (passed_shown g (entry 64 b.goal_first g) (entry 64 b.goal_len g) h refl refl (known l)
              ∙ ap₂ or_else (known_alike g) (clauses_alike (known l) ss known_alike (goal_viewed b g).clauses))
              (ap (λ (x : Spoiler). x.own) (inside g h))
            where
              made : Option ℕ → found.Option OwnSpoil → Spoiler
              made x y = record { by = by_told x; own = y }

pub stands_over : (b : Book) (n : ℕ) (l : List Spoiler) → Stands b n l → n ≤ b.goals → b.goals ≤ n → Stands b (length (view b)) l
stands_over b n l so few past =
    let all : n ≡ length (view b) = omega (arith, many b) in
    subst (λ (m : ℕ). Stands b m l) all so

-- A paper's, from what the desk gave.

module _ (bytes : List ℕ) where
  pub refused_told : (e : Refusal) → Taken bytes (Err e) → spoilers_seen (Err e) ≡ spoilers_told (desk bytes)
  refused_told e read = ap spoilers_told read.means

  pub paper_told : (b : Book) (l : List Spoiler) → Taken bytes (Ok b) → Stands b (length (view b)) l
      → spoilers_seen (Ok (record { goals = b.goals; told = l })) ≡ spoilers_told (desk bytes)
  paper_told b l read so =
      ap₂ (λ (n : ℕ) (m : List Spoiler). accepted (record { goals = n; told = m })) (sym (many b)) so ∙ ap spoilers_told read.means

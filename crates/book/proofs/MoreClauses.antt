-- A clause more: the arrays stay in order, and their view has the clause at the end of its last goal.
use Prim.Native.Nat.{ℕ, suc, ◌+◌, ◌≤◌, ◌<◌}
use native.Mathlib.Numerals.{add-one}
use native.Mathlib.Omega.{arith}
use mathlib.Core.Path.{◌≡◌, refl, sym, ap, subst, ◌∙◌}
use mathlib.Core.List.{List, [], ◌∷◌, ◌++◌}
use lib.ListN.{get_or, set, length-set}
use lib.Seq.{get_or-set_same}
use Rattle.definitions.specs.Book as said
use Rattle.definitions.specs.Book.{Clause, Goal, goals_name, add_clause, with_clauses, bit0, bit1}
use Rattle.definitions.proofs.Book.{add_clause_last}
use Rattle.laws.proofs.Lists.{get_or_set_below, every_set}
use Rattle.laws.proofs.Spans.{span_snoc, span_ext}
use Rattle.laws.specs.Spans.{span}
use Rattle.book.specs.declared.Book.{Book}
use Rattle.book.specs.View.{literal_viewed, clause_made, clause_viewed, goal_made, goal_viewed, view, Tiles, Full}
use Rattle.book.proofs.Names.{names_clause}
use Rattle.book.proofs.Tilings.{tiles_last}
use Rattle.book.proofs.Held.{tiles_clause, Held, goal_within}

abbrev pub with_clause : Book → (g variant flags : ℕ) → Book
with_clause b g variant flags = record {
  goals = b.goals;
  clauses = b.clauses + 1;
  goal_flags = b.goal_flags;
  goal_first = b.goal_first;
  goal_len = set b.goal_len g (get_or b.goal_len g 0 + 1);
  clause_variant = set b.clause_variant b.clauses variant;
  clause_flags = set b.clause_flags b.clauses flags;
  clause_len = set b.clause_len b.clauses 0;
  literal_kind = b.literal_kind;
  literal_goal = b.literal_goal;
  literal_want = b.literal_want;
}

abbrev pub bare_clause : (variant flags : ℕ) → Clause
bare_clause variant flags = record { variant = variant; cannot_prove = bit0 flags; outsized = bit1 flags; literals = [] }

module _ (b : Book) (g variant flags literals named : ℕ) (h : Held b literals named) (last : b.goals ≡ suc g) (room : b.clauses < 256)
    (fits : variant < 65536) (known : flags ≤ 3) where
  abbrev next : Book
  next = with_clause b g variant flags

  abbrev grown : List ℕ
  grown = set b.goal_len g (get_or b.goal_len g 0 + 1)

  grown_here : get_or grown g 0 ≡ get_or b.goal_len g 0 + 1
  grown_here = get_or-set_same b.goal_len g (get_or b.goal_len g 0 + 1) 0 (omega (arith, h.full.goal_len, h.few_goals))

  clause_before : (c : ℕ) → c < b.clauses → clause_viewed next c ≡ clause_viewed b c
  clause_before c l =
      ap (λ (x : ℕ). clause_made (literal_viewed b) c x (get_or (set b.clause_flags b.clauses flags) c 0)
      (get_or (set b.clause_len b.clauses 0) c 0))
      (get_or_set_below b.clause_variant b.clauses c variant 0 l)
      ∙ ap (λ (x : ℕ). clause_made (literal_viewed b) c (get_or b.clause_variant c 0) x
      (get_or (set b.clause_len b.clauses 0) c 0))
      (get_or_set_below b.clause_flags b.clauses c flags 0 l)
      ∙ ap (λ (x : ℕ). clause_made (literal_viewed b) c (get_or b.clause_variant c 0) (get_or b.clause_flags c 0) x)
      (get_or_set_below b.clause_len b.clauses c 0 0 l)

  clause_new : clause_viewed next b.clauses ≡ bare_clause variant flags
  clause_new =
      let s = h.full in
      let c = b.clauses in
      ap (λ (x : ℕ). clause_made (literal_viewed b) c x (get_or (set b.clause_flags c flags) c 0) (get_or (set b.clause_len c 0) c 0))
      (get_or-set_same b.clause_variant c variant 0 (omega (arith, s.clause_variant)))
      ∙ ap (λ (x : ℕ). clause_made (literal_viewed b) c variant x (get_or (set b.clause_len c 0) c 0))
      (get_or-set_same b.clause_flags c flags 0 (omega (arith, s.clause_flags)))
      ∙ ap (λ (x : ℕ). clause_made (literal_viewed b) c variant flags x)
      (get_or-set_same b.clause_len c 0 0 (omega (arith, s.clause_len)))

  -- clauses before the new one are as they were
  old : (first len : ℕ) → first + len ≤ b.clauses → span (clause_viewed next) first len ≡ span (clause_viewed b) first len
  old first len l = span_ext (clause_viewed next) (clause_viewed b) first len (λ i x y. clause_before i (omega arith))

  tiles : Tiles b.goal_first b.goal_len 0 (suc g) 0 b.clauses
  tiles = subst (λ (n : ℕ). Tiles b.goal_first b.goal_len 0 n 0 b.clauses) last h.tiles

  -- the last goal's clauses end where all end
  pub ends : get_or b.goal_first g 0 + get_or b.goal_len g 0 ≡ b.clauses
  ends =
      let z : 0 + g ≡ g = omega arith in
      subst (λ (k : ℕ). get_or b.goal_first k 0 + get_or b.goal_len k 0 ≡ b.clauses) z
      (tiles_last (clause_viewed b) b.goal_flags b.goal_first b.goal_len g 0 0 b.clauses tiles)

  goal_before : (i : ℕ) → i < g → goal_viewed next i ≡ goal_viewed b i
  goal_before i l =
      ap (λ (x : ℕ). goal_made (clause_viewed next) (get_or b.goal_flags i 0) (get_or b.goal_first i 0) x)
      (get_or_set_below b.goal_len g i (get_or b.goal_len g 0 + 1) 0 l)
      ∙ ap (λ (cs : List Clause). with_clauses (goal_viewed b i) cs)
      (old (get_or b.goal_first i 0) (get_or b.goal_len i 0) (goal_within b (suc g) i tiles (omega arith)))

  goal_grown : goal_viewed next g ≡ with_clauses (goal_viewed b g) ((goal_viewed b g).clauses ++ (bare_clause variant flags ∷ []))
  goal_grown =
      let first = get_or b.goal_first g 0 in
      let len = get_or b.goal_len g 0 in
      ap (λ (x : ℕ). goal_made (clause_viewed next) (get_or b.goal_flags g 0) first x) (grown_here ∙ add-one len)
      ∙ ap (λ (cs : List Clause). with_clauses (goal_viewed b g) cs)
      (span_snoc (clause_viewed next) first len
      ∙ ap (λ (i : ℕ). span (clause_viewed next) first len ++ (clause_viewed next i ∷ [])) ends
      ∙ ap (λ (x : Clause). span (clause_viewed next) first len ++ (x ∷ [])) clause_new
      ∙ ap (λ (cs : List Clause). cs ++ (bare_clause variant flags ∷ [])) (old first len (goal_within b (suc g) g tiles (omega arith))))

  pub clause_view : view next ≡ add_clause (bare_clause variant flags) (view b)
  clause_view =
      let z : 0 + g ≡ g = omega arith in
      let before : view b ≡ span (goal_viewed b) 0 g ++ (goal_viewed b g ∷ []) =
      ap (span (goal_viewed b) 0) last ∙ span_snoc (goal_viewed b) 0 g
      ∙ ap (λ (i : ℕ). span (goal_viewed b) 0 g ++ (goal_viewed b i ∷ [])) z in
      ap (span (goal_viewed next) 0) last
      ∙ span_snoc (goal_viewed next) 0 g
      ∙ ap (λ (i : ℕ). span (goal_viewed next) 0 g ++ (goal_viewed next i ∷ [])) z
      ∙ ap (λ (x : Goal). span (goal_viewed next) 0 g ++ (x ∷ [])) goal_grown
      ∙ ap (λ (gs : said.Book). gs ++ (with_clauses (goal_viewed b g) ((goal_viewed b g).clauses ++ (bare_clause variant flags ∷ [])) ∷ []))
      (span_ext (goal_viewed next) (goal_viewed b) 0 g (λ i x y. goal_before i (omega arith)))
      ∙ sym (ap (add_clause (bare_clause variant flags)) before ∙ add_clause_last (bare_clause variant flags) (span (goal_viewed b) 0 g)
      (goal_viewed b g))

  clause_full : Full next
  clause_full =
      let s = h.full in
      record {
        goal_flags = s.goal_flags;
        goal_first = s.goal_first;
        goal_len = length-set b.goal_len g (get_or b.goal_len g 0 + 1) ∙ s.goal_len;
        clause_variant = length-set b.clause_variant b.clauses variant ∙ s.clause_variant;
        clause_flags = length-set b.clause_flags b.clauses flags ∙ s.clause_flags;
        clause_len = length-set b.clause_len b.clauses 0 ∙ s.clause_len;
        literal_kind = s.literal_kind;
        literal_goal = s.literal_goal;
        literal_want = s.literal_want;
      }

  clause_tiles : Tiles b.goal_first grown 0 b.goals 0 (b.clauses + 1)
  clause_tiles =
      let z : g ≡ 0 + g = omega arith in
      subst (λ (n : ℕ). Tiles b.goal_first grown 0 n 0 (b.clauses + 1)) (sym last)
      (tiles_clause b.goal_first b.goal_len b.goal_first grown g 0 0 b.clauses tiles
      (λ i l. get_or_set_below b.goal_len g i (get_or b.goal_len g 0 + 1) 0 (omega arith))
      (subst (λ (i : ℕ). get_or grown i 0 ≡ get_or b.goal_len i 0 + 1) z grown_here))

  pub clause_held : Held next 0 named
  clause_held = record {
    full = clause_full;
    ranged =
        let r = h.ranged in
        record {
          goal_flags = r.goal_flags;
          clause_flags = every_set (λ (n : ℕ). n ≤ 3) b.clause_flags b.clauses flags 0 known r.clause_flags;
          variants = every_set (λ (n : ℕ). n < 65536) b.clause_variant b.clauses variant 0 fits r.variants;
          kinds = r.kinds;
          wants = r.wants;
          straight = r.straight;
        };
    few_goals = h.few_goals;
    few_clauses = omega arith;
    few_literals = every_set (λ (n : ℕ). n ≤ 8) b.clause_len b.clauses 0 0 (omega arith) h.few_literals;
    tiles = clause_tiles;
    last = λ c e.
        let p : b.clauses ≡ c = omega arith in
        subst (λ (i : ℕ). get_or (set b.clause_len b.clauses 0) i 0 ≡ 0) p
        (get_or-set_same b.clause_len b.clauses 0 0 (omega (arith, h.full.clause_len)));
    none = λ e. refl;
    naming = λ n. ap (goals_name n) clause_view ∙ names_clause n (bare_clause variant flags) (view b) refl ∙ h.naming n;
  }

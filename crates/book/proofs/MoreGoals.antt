-- A goal more: the arrays stay in order, and their view has the goal at its end.
use Prim.Native.Nat.{ℕ, ◌+◌, ◌≤◌, ◌<◌}
use native.Mathlib.Numerals.{add-one}
use native.Mathlib.Omega.{arith}
use mathlib.Core.Path.{◌≡◌, refl, sym, ap, subst, ◌∙◌}
use mathlib.Core.List.{[], ◌∷◌, ◌++◌}
use lib.ListN.{get_or, set, length-set}
use lib.Seq.{get_or-set_same}
use Rattle.definitions.specs.Book as said
use Rattle.definitions.specs.Book.{Goal, goals_name, bit0, bit1}
use Rattle.laws.proofs.Lists.{get_or_set_below, every_set}
use Rattle.laws.proofs.Spans.{span_snoc, span_ext}
use Rattle.laws.specs.Spans.{span}
use Rattle.book.specs.declared.Book.{Book}
use Rattle.book.specs.View.{clause_viewed, goal_made, goal_viewed, view, Tiles, Full}
use Rattle.book.proofs.Names.{names_goal}
use Rattle.book.proofs.Held.{tiles_goal, Held}

abbrev pub with_goal : Book → (flags : ℕ) → Book
with_goal b flags = record {
  goals = b.goals + 1;
  clauses = b.clauses;
  goal_flags = set b.goal_flags b.goals flags;
  goal_first = set b.goal_first b.goals b.clauses;
  goal_len = set b.goal_len b.goals 0;
  clause_variant = b.clause_variant;
  clause_flags = b.clause_flags;
  clause_len = b.clause_len;
  literal_kind = b.literal_kind;
  literal_goal = b.literal_goal;
  literal_want = b.literal_want;
}

abbrev pub bare_goal : (flags : ℕ) → Goal
bare_goal flags = record { coinductive = bit0 flags; floundered = bit1 flags; clauses = [] }

module _ (b : Book) (flags literals named : ℕ) (h : Held b literals named) (room : b.goals < 64) (known : flags ≤ 3) where
  goal_before : (i : ℕ) → i < b.goals → goal_viewed (with_goal b flags) i ≡ goal_viewed b i
  goal_before i l =
      ap (λ (x : ℕ). goal_made (clause_viewed b) x (get_or (set b.goal_first b.goals b.clauses) i 0)
      (get_or (set b.goal_len b.goals 0) i 0))
      (get_or_set_below b.goal_flags b.goals i flags 0 l)
      ∙ ap (λ (x : ℕ). goal_made (clause_viewed b) (get_or b.goal_flags i 0) x (get_or (set b.goal_len b.goals 0) i 0))
      (get_or_set_below b.goal_first b.goals i b.clauses 0 l)
      ∙ ap (λ (x : ℕ). goal_made (clause_viewed b) (get_or b.goal_flags i 0) (get_or b.goal_first i 0) x)
      (get_or_set_below b.goal_len b.goals i 0 0 l)

  goal_new : goal_viewed (with_goal b flags) b.goals ≡ bare_goal flags
  goal_new =
      let s = h.full in
      ap (λ (x : ℕ). goal_made (clause_viewed b) x (get_or (set b.goal_first b.goals b.clauses) b.goals 0)
      (get_or (set b.goal_len b.goals 0) b.goals 0))
      (get_or-set_same b.goal_flags b.goals flags 0 (omega (arith, s.goal_flags)))
      ∙ ap (λ (x : ℕ). goal_made (clause_viewed b) flags (get_or (set b.goal_first b.goals b.clauses) b.goals 0) x)
      (get_or-set_same b.goal_len b.goals 0 0 (omega (arith, s.goal_len)))

  pub goal_view : view (with_goal b flags) ≡ view b ++ (bare_goal flags ∷ [])
  goal_view =
      let z : 0 + b.goals ≡ b.goals = omega arith in
      ap (span (goal_viewed (with_goal b flags)) 0) (add-one b.goals)
      ∙ span_snoc (goal_viewed (with_goal b flags)) 0 b.goals
      ∙ ap (λ (i : ℕ). span (goal_viewed (with_goal b flags)) 0 b.goals ++ (goal_viewed (with_goal b flags) i ∷ [])) z
      ∙ ap (λ (x : Goal). span (goal_viewed (with_goal b flags)) 0 b.goals ++ (x ∷ [])) goal_new
      ∙ ap (λ (l : said.Book). l ++ (bare_goal flags ∷ []))
      (span_ext (goal_viewed (with_goal b flags)) (goal_viewed b) 0 b.goals (λ i x y. goal_before i (omega arith)))

  goal_full : Full (with_goal b flags)
  goal_full =
      let s = h.full in
      record {
        goal_flags = length-set b.goal_flags b.goals flags ∙ s.goal_flags;
        goal_first = length-set b.goal_first b.goals b.clauses ∙ s.goal_first;
        goal_len = length-set b.goal_len b.goals 0 ∙ s.goal_len;
        clause_variant = s.clause_variant;
        clause_flags = s.clause_flags;
        clause_len = s.clause_len;
        literal_kind = s.literal_kind;
        literal_goal = s.literal_goal;
        literal_want = s.literal_want;
      }

  goal_tiles : Tiles (set b.goal_first b.goals b.clauses) (set b.goal_len b.goals 0) 0 (b.goals + 1) 0 b.clauses
  goal_tiles =
      let s = h.full in
      let z : b.goals ≡ 0 + b.goals = omega arith in
      subst (λ (n : ℕ). Tiles (set b.goal_first b.goals b.clauses) (set b.goal_len b.goals 0) 0 n 0 b.clauses)
      (sym (add-one b.goals))
      (tiles_goal b.goal_first b.goal_len (set b.goal_first b.goals b.clauses) (set b.goal_len b.goals 0)
      b.goals 0 0 b.clauses h.tiles
      (λ i l. get_or_set_below b.goal_first b.goals i b.clauses 0 (omega arith))
      (λ i l. get_or_set_below b.goal_len b.goals i 0 0 (omega arith))
      (subst (λ (i : ℕ). get_or (set b.goal_first b.goals b.clauses) i 0 ≡ b.clauses) z
      (get_or-set_same b.goal_first b.goals b.clauses 0 (omega (arith, s.goal_first))))
      (subst (λ (i : ℕ). get_or (set b.goal_len b.goals 0) i 0 ≡ 0) z
      (get_or-set_same b.goal_len b.goals 0 0 (omega (arith, s.goal_len)))))

  pub goal_held : Held (with_goal b flags) literals named
  goal_held = record {
    full = goal_full;
    ranged =
        let r = h.ranged in
        record {
          goal_flags = every_set (λ (n : ℕ). n ≤ 3) b.goal_flags b.goals flags 0 known r.goal_flags;
          clause_flags = r.clause_flags;
          variants = r.variants;
          kinds = r.kinds;
          wants = r.wants;
          straight = r.straight;
        };
    few_goals = omega arith;
    few_clauses = h.few_clauses;
    few_literals = h.few_literals;
    tiles = goal_tiles;
    last = h.last;
    none = h.none;
    naming = λ n. ap (goals_name n) goal_view ∙ names_goal n (bare_goal flags) (view b) refl ∙ h.naming n;
  }

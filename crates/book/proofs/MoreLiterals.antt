-- A literal more: the arrays stay in order, and their view has the literal at the end of its last clause.
use Prim.Native.Nat.{ℕ, suc, ◌+◌, ◌*◌, ◌/◌, ◌%◌, ◌≤◌, ◌<◌, max}
use native.Mathlib.Numerals.{add-one}
use native.Mathlib.Omega.{arith}
use native.Mathlib.Decide.{ℕ_discrete}
use mathlib.Core.Path.{◌≡◌, refl, sym, ap, subst, ◌∙◌}
use mathlib.Core.Bool.{Bool, true, false}
use mathlib.Core.List.{List, [], ◌∷◌, ◌++◌}
use lib.ListN.{get_or, set, length-set}
use lib.Seq.{get_or-set_same, get_or-set_other}
use lib.Dec.{ltb, leb}
use Rattle.definitions.specs.Book as said
use Rattle.definitions.specs.Book.{goals_name, clause_count, add_literal, goal_of, with_literals, crossed, bit0, bit1}
use Rattle.laws.proofs.Bools.{and_then}
use Rattle.laws.proofs.Lists.{get_or_set_below, every_set}
use Rattle.laws.proofs.Spans.{span_snoc, span_ext}
use Rattle.laws.specs.Spans.{span}
use Rattle.book.specs.declared.Book.{Book}
use Rattle.book.specs.View.{wanted, bit2, signed, kept, literal_viewed, clause_made, clause_viewed, view, Tiles, Full}
use Rattle.book.proofs.Names.{names_literal, names_more}
use Rattle.book.proofs.Tilings.{tiles_add}
use Rattle.book.proofs.Held.{Held, clauses_counted}

abbrev pub with_literal : Book → (c j kind goal want : ℕ) → Book
with_literal b c j kind goal want = record {
  goals = b.goals;
  clauses = b.clauses;
  goal_flags = b.goal_flags;
  goal_first = b.goal_first;
  goal_len = b.goal_len;
  clause_variant = b.clause_variant;
  clause_flags = b.clause_flags;
  clause_len = set b.clause_len c (j + 1);
  literal_kind = set b.literal_kind (8 * c + j) kind;
  literal_goal = set b.literal_goal (8 * c + j) goal;
  literal_want = set b.literal_want (8 * c + j) want;
}

goal_of_signed : (t : Bool) (goal : ℕ) (want : said.Want) (o : Bool) → goal_of (signed t goal want o) ≡ goal
goal_of_signed true goal want o = refl
goal_of_signed false goal want o = refl

pub goal_of_kept : (kind goal want : ℕ) → goal_of (kept kind goal want) ≡ goal
goal_of_kept kind goal want = goal_of_signed (bit1 kind) goal (wanted (bit2 kind) (want % 65536) (want / 65536)) (bit0 kind)

module _ (b : Book) (c j kind goal want named : ℕ) (h : Held b j named) (last : b.clauses ≡ suc c) (room : j < 8) (known : kind ≤ 5)
    (fits : want < 4294967296) (straight : crossed (kept kind goal want) ≡ false) where
  abbrev next : Book
  next = with_literal b c j kind goal want

  abbrev added : said.Literal
  added = kept kind goal want

  has : get_or b.clause_len c 0 ≡ j
  has = h.last c last

  has_now : get_or (set b.clause_len c (j + 1)) c 0 ≡ j + 1
  has_now = get_or-set_same b.clause_len c (j + 1) 0 (omega (arith, h.full.clause_len, h.few_clauses))

  literal_other : (i : ℕ) → (i ≡ 8 * c + j → ⊥) → literal_viewed next i ≡ literal_viewed b i
  literal_other i d =
      let p = 8 * c + j in
      ap (λ (k : ℕ). kept k (get_or (set b.literal_goal p goal) i 0) (get_or (set b.literal_want p want) i 0))
      (get_or-set_other b.literal_kind p i kind 0 d)
      ∙ ap (λ (k : ℕ). kept (get_or b.literal_kind i 0) k (get_or (set b.literal_want p want) i 0))
      (get_or-set_other b.literal_goal p i goal 0 d)
      ∙ ap (λ (k : ℕ). kept (get_or b.literal_kind i 0) (get_or b.literal_goal i 0) k)
      (get_or-set_other b.literal_want p i want 0 d)

  literal_new : literal_viewed next (8 * c + j) ≡ added
  literal_new =
      let s = h.full in
      let p = 8 * c + j in
      ap (λ (k : ℕ). kept k (get_or (set b.literal_goal p goal) p 0) (get_or (set b.literal_want p want) p 0))
      (get_or-set_same b.literal_kind p kind 0 (omega (arith, s.literal_kind, h.few_clauses)))
      ∙ ap (λ (k : ℕ). kept kind k (get_or (set b.literal_want p want) p 0))
      (get_or-set_same b.literal_goal p goal 0 (omega (arith, s.literal_goal, h.few_clauses)))
      ∙ ap (λ (k : ℕ). kept kind goal k)
      (get_or-set_same b.literal_want p want 0 (omega (arith, s.literal_want, h.few_clauses)))

  old : (s n : ℕ) → s + n ≤ 8 * c + j → span (literal_viewed next) s n ≡ span (literal_viewed b) s n
  old s n l = span_ext (literal_viewed next) (literal_viewed b) s n (λ i x y. literal_other i (λ e. omega arith))

  clause_before : (i : ℕ) → i < c → clause_viewed b i ≡ clause_viewed next i
  clause_before i l =
      sym (ap (λ (x : ℕ). clause_made (literal_viewed next) i (get_or b.clause_variant i 0) (get_or b.clause_flags i 0) x)
      (get_or_set_below b.clause_len c i (j + 1) 0 l)
      ∙ ap (λ (ls : List said.Literal). with_literals (clause_viewed b i) ls)
      (old (8 * i) (get_or b.clause_len i 0) (omega (arith, h.few_literals i))))

  clause_more : with_literals (clause_viewed b c) ((clause_viewed b c).literals ++ (added ∷ [])) ≡ clause_viewed next c
  clause_more =
      sym (ap (λ (x : ℕ). clause_made (literal_viewed next) c (get_or b.clause_variant c 0) (get_or b.clause_flags c 0) x)
      (has_now ∙ add-one j)
      ∙ ap (λ (ls : List said.Literal). with_literals (clause_viewed b c) ls)
      (span_snoc (literal_viewed next) (8 * c) j
      ∙ ap (λ (l : said.Literal). span (literal_viewed next) (8 * c) j ++ (l ∷ [])) literal_new
      ∙ ap (λ (ls : List said.Literal). ls ++ (added ∷ [])) (old (8 * c) j (omega arith))
      ∙ ap (λ (n : ℕ). span (literal_viewed b) (8 * c) n ++ (added ∷ [])) (sym has)))

  pub literal_view : view next ≡ add_literal added (view b)
  literal_view =
      sym (tiles_add (clause_viewed b) (clause_viewed next) added c clause_more clause_before b.goal_flags b.goal_first
      b.goal_len b.goals 0 0
      (subst (Tiles b.goal_first b.goal_len 0 b.goals 0) last h.tiles) (omega arith))

  literal_full : Full next
  literal_full =
      let s = h.full in
      record {
        goal_flags = s.goal_flags;
        goal_first = s.goal_first;
        goal_len = s.goal_len;
        clause_variant = s.clause_variant;
        clause_flags = s.clause_flags;
        clause_len = length-set b.clause_len c (j + 1) ∙ s.clause_len;
        literal_kind = length-set b.literal_kind (8 * c + j) kind ∙ s.literal_kind;
        literal_goal = length-set b.literal_goal (8 * c + j) goal ∙ s.literal_goal;
        literal_want = length-set b.literal_want (8 * c + j) want ∙ s.literal_want;
      }

  literal_names : (n : ℕ) → goals_name n (view next) ≡ leb (max named (goal + 1)) n
  literal_names n =
      let some : 0 < clause_count (view b) = omega (arith, clauses_counted b h.tiles) in
      ap (goals_name n) literal_view
      ∙ names_literal n added (view b) some
      ∙ ap (λ (t : Bool). and_then t (ltb (goal_of added) n)) (h.naming n)
      ∙ ap (λ (g : ℕ). and_then (leb named n) (ltb g n)) (goal_of_kept kind goal want)
      ∙ sym (names_more n named goal)

  straight_by : (i : ℕ) → Dec (i ≡ 8 * c + j) → crossed (literal_viewed next i) ≡ false
  straight_by i (yes e) = ap (λ (k : ℕ). crossed (literal_viewed next k)) e ∙ ap crossed literal_new ∙ straight
  straight_by i (no d) = ap crossed (literal_other i d) ∙ h.ranged.straight i

  pub literal_held : Held next (j + 1) (max named (goal + 1))
  literal_held = record {
    full = literal_full;
    ranged =
        let r = h.ranged in
        record {
          goal_flags = r.goal_flags;
          clause_flags = r.clause_flags;
          variants = r.variants;
          kinds = every_set (λ (n : ℕ). n ≤ 5) b.literal_kind (8 * c + j) kind 0 known r.kinds;
          wants = every_set (λ (n : ℕ). n < 4294967296) b.literal_want (8 * c + j) want 0 fits r.wants;
          straight = λ i. straight_by i (ℕ_discrete i (8 * c + j));
        };
    few_goals = h.few_goals;
    few_clauses = h.few_clauses;
    few_literals = every_set (λ (n : ℕ). n ≤ 8) b.clause_len c (j + 1) 0 (omega arith) h.few_literals;
    tiles = h.tiles;
    last = λ d e.
        let p : c ≡ d = omega arith in
        subst (λ (i : ℕ). get_or (set b.clause_len c (j + 1)) i 0 ≡ j + 1) p has_now;
    none = λ e. absurd (omega arith);
    naming = literal_names;
  }

-- A yes that can be printed (change request 2): in a clean set of goals, every unambiguous answer can be derived. What is kept of a strand:
-- where its literals, floundered ones included, can be derived, its goal can; of an answer: where it is unambiguous, it can be derived.
use Prim.Native.Nat.{ℕ}
use mathlib.Core.Path.{◌≡◌, refl, sym, ap, subst, ◌∙◌}
use mathlib.Core.Bool.{Bool, true, false, not, ◌&&◌, true≢false}
use mathlib.Core.Option.{Option, none, some}
use mathlib.Core.List.{List, [], ◌∷◌, ◌++◌}
use lib.ListN.{get_elem?}
use Rattle.definitions.specs.{FlounderedSubgoal, Answer}
use Rattle.definitions.specs.Book.{Want, Literal, Positive, Negative, Book, goal_of}
use Rattle.definitions.specs.Fitting.{gets_table, answer_fits}
use Rattle.definitions.specs.Lists.{push, remove, is_empty, Each}
use Rattle.definitions.specs.Strand.{SelectedSubgoal, Strand}
use Rattle.definitions.specs.Turn.{other_than, create_refinement_strand}
use Rattle.papers.specs.Derive.{Derives, derives_end, derives, Derivable, CleanLiteral, Clean}
use Rattle.definitions.proofs.Lists.{all_push, all_remove, all_swap_remove, all_unremove, all_unswap_remove}
use Rattle.definitions.proofs.Members.{each_at, each_all}
use Rattle.laws.proofs.Options.{same_some, no_such}
use Rattle.laws.proofs.Bools.{both_false, was_false}
use Rattle.laws.specs.All.{All, end, more}
use Rattle.laws.proofs.All.{all_at, all_front, all_last}
use Rattle.derivable.proofs.Kept.{Within, Closed}

same_goal_of : {g h : ℕ} {v w : Want} {o p : Bool} → Positive g v o ≡ Positive h w p → (g ≡ h) × (o ≡ p)
same_goal_of {g} {h} {v} {w} {o} {p} e = (cc, cc)

module _ (book : Book) (C : ℕ → Type 0) where
  -- one literal
  abbrev Derived : Literal → Type 0
  Derived l = Derives book (l ∷ [])

  together : (ls : List Literal) → All Derived ls → Derives book ls
  together [] end = derives_end
  together (l ∷ ls) (more d x) = join d (together ls x)
    where
      join : {l : Literal} {ls : List Literal} → Derives book (l ∷ []) → Derives book ls → Derives book (l ∷ ls)
      join (derives c u fits below rest) more_of = derives c u fits below more_of

  -- the subgoal that a strand waits on: a positive literal that isn't outsized, and a table of its goal
  abbrev Waits : List ℕ → List Literal → Option SelectedSubgoal → Type 0
  Waits gs ls none = Unit {0}
  Waits gs ls (some selected) = (h : ℕ) × (want : Want) × (get_elem? ls selected.subgoal_index ≡ some (Positive h want false))
      × (get_elem? gs selected.subgoal_table ≡ some h)

  pub record CleanStrand (gs : List ℕ) (g : ℕ) (s : Strand) : Type 0 where
    pub subgoals_clean : All (CleanLiteral C) s.ex_clause.subgoals
    pub floundered_clean : All (λ l. CleanLiteral C l.floundered_literal) s.ex_clause.floundered_subgoals
    pub none_delayed : s.ex_clause.delayed_subgoals ≡ []
    pub waits : Waits gs s.ex_clause.subgoals s.selected_subgoal
    pub derivable : s.ex_clause.ambiguous ≡ false → s.ex_clause.subst.outsized ≡ false → All Derived s.ex_clause.subgoals
        → All (λ l. Derived l.floundered_literal) s.ex_clause.floundered_subgoals → Derivable book g s.ex_clause.subst.variant

  abbrev pub StrandKept : List ℕ → ℕ → Strand → Type 0
  StrandKept gs g s = C g → CleanStrand gs g s

  abbrev pub AnswerKept : ℕ → Answer → Type 0
  AnswerKept g a = C g → (a.delayed_subgoals ≡ []) × (a.ambiguous ≡ false → Derivable book g a.variant)

  waits_more : (gs gs' : List ℕ) → Within gs gs' → (ls : List Literal) (o : Option SelectedSubgoal) → Waits gs ls o → Waits gs' ls o
  waits_more gs gs' w ls none x = tt
  waits_more gs gs' w ls (some selected) x = (x.0, x.1, x.2, w selected.subgoal_table x.0 x.3)

  -- a literal of a clean goal that gets a table
  positive_of : (ls : List Literal) (i : ℕ) (l : Literal) → get_elem? ls i ≡ some l → CleanLiteral C l → gets_table l ≡ true
      → (want : Want) × (get_elem? ls i ≡ some (Positive (goal_of l) want false))
  positive_of ls i (Positive goal want outsized) e c b =
      (want, e ∙ ap (λ (z : Bool). some (Positive goal want z)) (was_false outsized b))
  positive_of ls i (Negative goal outsized) e c b = absurd c

  -- both lists, where a literal has gone from one to the other
  module _ (clean : Clean book C) where
    pub closed : Closed book StrandKept AnswerKept
    closed = record {
      more_tables = λ {gs} {gs'} {g} s w p c. let x = p c in record {
        subgoals_clean = x.subgoals_clean;
        floundered_clean = x.floundered_clean;
        none_delayed = x.none_delayed;
        waits = waits_more gs gs' w s.ex_clause.subgoals s.selected_subgoal x.waits;
        derivable = x.derivable;
      };
      fresh = λ {gs} {g} own e u c m cg. record {
        subgoals_clean = each_all c.literals (each_at (λ d. Each (CleanLiteral C) d.literals) own.clauses
            (clean g own cg e).literals_clean c m);
        floundered_clean = end;
        none_delayed = refl;
        waits = tt;
        derivable = λ amb out ds fs. (
          c,
          record {
            own = own;
            is_own = e;
            unfloundered = u;
            of_own = m;
            provable = amb;
            small = out;
          },
          refl,
          together c.literals ds,
        );
      };
      pursued = λ s time p c. let x = p c in record {
        subgoals_clean = x.subgoals_clean;
        floundered_clean = x.floundered_clean;
        none_delayed = x.none_delayed;
        waits = x.waits;
        derivable = x.derivable;
      };
      unselected = λ s p c. let x = p c in record {
        subgoals_clean = x.subgoals_clean;
        floundered_clean = x.floundered_clean;
        none_delayed = x.none_delayed;
        waits = tt;
        derivable = x.derivable;
      };
      flounders = λ {gs} {g} s i l u e p c. let x = p c in record {
        subgoals_clean = all_remove i x.subgoals_clean;
        floundered_clean = all_push x.floundered_clean (all_at i x.subgoals_clean e);
        none_delayed = x.none_delayed;
        waits = subst (λ (o : Option SelectedSubgoal). Waits gs (remove s.ex_clause.subgoals i) o) (sym u) tt;
        derivable = λ amb out ds fs. x.derivable amb out
            (all_unremove s.ex_clause.subgoals i l e (all_last s.ex_clause.floundered_subgoals _ fs) ds)
            (all_front s.ex_clause.floundered_subgoals _ fs);
      };
      returns = λ {gs} {g} s i l u e p c. let x = p c in record {
        subgoals_clean = all_push x.subgoals_clean (all_at i x.floundered_clean e);
        floundered_clean = all_swap_remove i x.floundered_clean;
        none_delayed = x.none_delayed;
        waits = subst (λ (o : Option SelectedSubgoal). Waits gs (push s.ex_clause.subgoals l.floundered_literal) o) (sym u) tt;
        derivable = λ amb out ds fs. x.derivable amb out
            (all_front s.ex_clause.subgoals l.floundered_literal ds)
            (all_unswap_remove s.ex_clause.floundered_subgoals i l e (all_last s.ex_clause.subgoals l.floundered_literal ds) fs);
      };
      stuck = λ {gs} {g} s u p c. let x = p c in record {
        subgoals_clean = x.subgoals_clean;
        floundered_clean = x.floundered_clean;
        none_delayed = x.none_delayed;
        waits = x.waits;
        derivable = λ amb out ds fs. absurd (true≢false amb);
      };
      selects = λ {gs} {g} s i t l u e b at p c.
          let x = p c in
          let y = positive_of s.ex_clause.subgoals i l e (all_at i x.subgoals_clean e) b in
          record {
            subgoals_clean = x.subgoals_clean;
            floundered_clean = x.floundered_clean;
            none_delayed = x.none_delayed;
            waits = (goal_of l, y.0, y.1, at);
            derivable = x.derivable;
          };
      next_answer = λ {gs} {g} s selected is p c. let x = p c in record {
        subgoals_clean = x.subgoals_clean;
        floundered_clean = x.floundered_clean;
        none_delayed = x.none_delayed;
        waits = subst (Waits gs s.ex_clause.subgoals) is x.waits;
        derivable = x.derivable;
      };
      takes = λ {gs} {g} s selected h goal want outsized a is here at y fits p c.
          let x = p c in
          let w = subst (Waits gs s.ex_clause.subgoals) is x.waits in
          let same = same_goal_of (same_some (sym w.2 ∙ here)) in
          let h-is : h ≡ goal = same_some (sym at ∙ w.3) ∙ same.0 in
          let z = subst (λ (k : ℕ). AnswerKept k a) h-is y (all_at selected.subgoal_index x.subgoals_clean here) in
          record {
            subgoals_clean = all_remove selected.subgoal_index x.subgoals_clean;
            floundered_clean = x.floundered_clean;
            none_delayed = ap (λ (l : List ℕ). l ++ a.delayed_subgoals) x.none_delayed ∙ z.0;
            waits = tt;
            derivable = λ amb out ds fs.
                let both = both_false s.ex_clause.ambiguous a.ambiguous amb in
                x.derivable both.0 out (all_unremove s.ex_clause.subgoals selected.subgoal_index
                (Positive goal want outsized) here
                (taken goal want outsized a same.1 fits (z.1 both.1)) ds) fs;
          };
      not_ambiguous = λ s selected goal outsized is here p c. absurd (all_at selected.subgoal_index (p c).subgoals_clean here);
      not_there = λ s selected goal outsized is here p c. absurd (all_at selected.subgoal_index (p c).subgoals_clean here);
      delays = λ {gs} {g} own e co s selected goal want outsized is here p c.
          absurd (true≢false (sym co ∙ (clean g own c e).inductive));
      answers = λ {gs} {g} s sub fl out p c. let x = p c in (
        ap (other_than g) x.none_delayed,
        λ amb. x.derivable amb out (subst (All Derived) (sym sub) end)
            (subst (All (λ l. Derived l.floundered_literal)) (sym (no_floundered s.ex_clause.floundered_subgoals
            s.ex_clause.ambiguous amb fl)) end),
      );
      refines = λ {gs} {g} a s e y c. absurd (no_such (sym (refined a (y c).0) ∙ e));
    }
      where
        taken : (goal : ℕ) (want : Want) (outsized : Bool) (a : Answer) → false ≡ outsized
            → answer_fits (Positive goal want outsized) a.variant ≡ true → Derivable book goal a.variant
            → Derived (Positive goal want outsized)
        taken goal want outsized a o fits d = subst (λ (z : Bool). Derived (Positive goal want z)) o
            (derives d.0 d.1 (ap (answer_fits (Positive goal want false)) d.2 ∙ fits) d.3 derives_end)

        no_floundered : (fs : List FlounderedSubgoal) (amb : Bool) → amb ≡ false → (not (is_empty fs) && not amb) ≡ false → fs ≡ []
        no_floundered [] amb e b = refl
        no_floundered (l ∷ fs) true e b = absurd (true≢false e)
        no_floundered (l ∷ fs) false e b = absurd (true≢false b)

        refined : (a : Answer) → a.delayed_subgoals ≡ [] → create_refinement_strand a ≡ none
        refined a e = rw (e, create_refinement_strand)

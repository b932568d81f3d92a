-- Where a book is not plain first, by its arrays: the fault of a literal, of a clause's head and of a goal; and the loops over literals,
-- clauses and goals. What is left decides, as long as nothing before it has a fault.
use Prim.Native.Nat.{ℕ, zero, suc, ◌+◌, ◌%◌, ◌≤◌, ◌<◌}
use native.Mathlib.Omega.{arith}
use mathlib.Core.Path.{◌≡◌, refl, sym, ap, ap₂, subst, ◌∙◌}
use mathlib.Core.Bool.{Bool, true, false, not}
use mathlib.Core.Option.{Option, none, some}
use Rattle.std.specs.declared.option.Option as found
use Rattle.std.proofs.Common.{Some, None}
use Rattle.std.specs.Prelude.{is_some}
use mathlib.Core.List.{List}
use lib.ListN.{get_or}
use borrow.Author.Tests.{eq-eqb, ne_eqb}
use Rattle.laws.specs.Spans.{span}
use Rattle.definitions.specs.Book as said
use Rattle.definitions.specs.Book.{bit0, bit1}
use Rattle.papers.specs.Levels.{is_plain}
use Rattle.papers.specs.NotPlain.{Fault, a_flag, a_variant, a_want, a_range, Place, in_goal, in_clause, in_literal, or_else}
use Rattle.papers.specs.NotPlain.{flag_fault, want_fault, variant_fault, literal_fault, goal_fault, placed, first_from, literal_place}
use Rattle.papers.specs.NotPlain.{clause_place, goal_place, first_not_plain}
use Rattle.papers.proofs.NotPlain.{is_none, none_is}
use Rattle.book.specs.declared.Literal.{Literal}
use Rattle.book.specs.declared.Book.{Book}
use Rattle.book.specs.View.{meant, signed, wanted, bit2, goal_viewed, view, Sound}
use Rattle.book.specs.Access.{entry, literal_read}
use Rattle.book.specs.Repeats.{lent_by, clause_read}
use Rattle.book.proofs.Looks.{entry_in}
use Rattle.book.proofs.TwiceInBook.{goal_shown}
use Rattle.paper_checks.specs.declared.Fault as told
use Rattle.paper_checks.specs.declared.Fault.TheVariants as faults
use Rattle.paper_checks.specs.declared.NotPlain.{NotPlain}
use Rattle.paper_checks.specs.declared.NotPlain.TheVariants as places
use Rattle.paper_checks.specs.Places.{told_fault, fault_told, told_place, numbers, fault_seen, place_seen, head_read, goal_read}
use Rattle.paper_checks.proofs.Firsts.{FirstLeft, first_begins, told_first, told_other, told_again, told_found, told_over}

-- A fault and a place as the code tells them.

fault_back : (f : Fault) → fault_seen (told_fault f) ≡ f
fault_back a_flag = refl
fault_back a_variant = refl
fault_back a_want = refl
fault_back a_range = refl

-- the numbers settle the place
pub place_told : (o : Option Place) → place_seen (numbers o) ≡ o
place_told none = refl
place_told (some (in_goal g f)) = ap (λ (x : Fault). some (in_goal g x)) (fault_back f)
place_told (some (in_clause g k f)) = ap (λ (x : Fault). some (in_clause g k x)) (fault_back f)
place_told (some (in_literal g k j f)) = ap (λ (x : Fault). some (in_literal g k j x)) (fault_back f)

pub place_by : (o : Option Place) (p : found.Option NotPlain) → p ≡ numbers o → place_seen p ≡ o
place_by o p e = ap place_seen e ∙ place_told o

-- a fault that was found, with its place
module _ (at : Fault → Place) (made : told.Fault → NotPlain) (same : (f : Fault) → made (told_fault f) ≡ told_place (at f)) where
  placed_so : (o : Option Fault) (w : told.Fault) → Some w ≡ fault_told o → Some (made w) ≡ numbers (placed at o)
  placed_so none w e = cc
  placed_so (some f) w e = ap mapped e ∙ ap (λ (p : NotPlain). Some p) (same f)
    where
      mapped : found.Option told.Fault → found.Option NotPlain
      mapped None = None
      mapped (Some x) = Some (made x)

-- and none
unplaced : (at : Fault → Place) (o : Option Fault) → None ≡ fault_told o → None ≡ numbers (placed at o)
unplaced at none e = refl
unplaced at (some f) e = cc

-- The faults.

pub flag_set : (kind : ℕ) → kind % 2 ≡ 1 → Some faults.Flag ≡ fault_told (flag_fault (bit0 kind))
flag_set kind e = sym (ap (λ (b : Bool). fault_told (flag_fault b)) (eq-eqb (kind % 2) 1 e))

pub flag_clear : (kind : ℕ) → (kind % 2 ≡ 1 → ⊥) → None ≡ fault_told (flag_fault (bit0 kind))
flag_clear kind n = sym (ap (λ (b : Bool). fault_told (flag_fault b)) (ne_eqb (kind % 2) 1 n))

module _ (l : Literal) (n : Bool) (hn : n ≡ bit1 l.kind) where
  abbrev fault_by : (negative ranged : Bool) → found.Option told.Fault
  fault_by negative ranged = fault_told (literal_fault (signed negative l.goal (wanted ranged l.want l.high) (bit0 l.kind)))

  pub not_fault : (r : found.Option told.Fault) → n ≡ true → r ≡ fault_told (flag_fault (bit0 l.kind))
      → r ≡ fault_told (literal_fault (meant l))
  not_fault r t e = e ∙ ap (λ (b : Bool). fault_by b (bit2 l.kind)) (sym t ∙ hn)

  module _ (positive : n ≡ false) (q : Bool) (hq : q ≡ bit2 l.kind) where
    as_positive : fault_by false q ≡ fault_told (literal_fault (meant l))
    as_positive = ap₂ fault_by (sym positive ∙ hn) hq

    pub range_fault : q ≡ true → Some faults.Range ≡ fault_told (literal_fault (meant l))
    range_fault t = sym (ap (fault_by false) t) ∙ as_positive

    module _ (one : q ≡ false) where
      as_one : fault_by false false ≡ fault_told (literal_fault (meant l))
      as_one = sym (ap (fault_by false) one) ∙ as_positive

      wanted_one : (w : ℕ) → (w ≡ 0 → ⊥)
          → Some faults.Want ≡ fault_told (or_else (want_fault (said.want_of w)) (flag_fault (bit0 l.kind)))
      wanted_one zero s = absurd (s refl)
      wanted_one (suc w) s = refl

      pub one_fault : (l.want ≡ 0 → ⊥) → Some faults.Want ≡ fault_told (literal_fault (meant l))
      one_fault s = wanted_one l.want s ∙ as_one

      pub any_fault : (r : found.Option told.Fault) → l.want ≡ 0 → r ≡ fault_told (flag_fault (bit0 l.kind))
          → r ≡ fault_told (literal_fault (meant l))
      any_fault r z e =
          e ∙ ap (λ (w : ℕ). fault_told (or_else (want_fault (said.want_of w)) (flag_fault (bit0 l.kind)))) (sym z) ∙ as_one

-- of a clause's head, by its variant and its flags
module _ (b : Book) (c v : ℕ) (hv : v ≡ entry 256 b.clause_variant c) where
  abbrev weak_at : Bool
  weak_at = bit0 (entry 256 b.clause_flags c)

  abbrev large_at : Bool
  large_at = bit1 (entry 256 b.clause_flags c)

  abbrev head_by : Option Fault → (weak large : Bool) → found.Option told.Fault
  head_by o weak large = fault_told (or_else o (or_else (flag_fault weak) (flag_fault large)))

  pub variant_found : (v ≡ 0 → ⊥) → Some faults.Variant ≡ fault_told (head_read b c)
  variant_found n = on (entry 256 b.clause_variant c) (λ z. n (hv ∙ z))
    where
      on : (x : ℕ) → (x ≡ 0 → ⊥) → Some faults.Variant ≡ head_by (variant_fault x) weak_at large_at
      on zero s = absurd (s refl)
      on (suc x) s = refl

  module _ (z : v ≡ 0) (w : Bool) (hw : w ≡ weak_at) where
    whole : head_by none w large_at ≡ fault_told (head_read b c)
    whole = ap₂ (λ (x : ℕ) (t : Bool). head_by (variant_fault x) t large_at) (sym z ∙ hv) hw

    pub weak_found : w ≡ true → Some faults.Flag ≡ fault_told (head_read b c)
    weak_found t = sym (ap (λ (x : Bool). head_by none x large_at) t) ∙ whole

    module _ (strong : w ≡ false) (o : Bool) (ho : o ≡ large_at) where
      as_strong : fault_told (flag_fault o) ≡ fault_told (head_read b c)
      as_strong =
          ap (λ (x : Bool). fault_told (flag_fault x)) ho ∙ sym (ap (λ (x : Bool). head_by none x large_at) strong) ∙ whole

      pub large_found : o ≡ true → Some faults.Flag ≡ fault_told (head_read b c)
      large_found t = sym (ap (λ (x : Bool). fault_told (flag_fault x)) t) ∙ as_strong

      pub head_clear : o ≡ false → None ≡ fault_told (head_read b c)
      head_clear f = sym (ap (λ (x : Bool). fault_told (flag_fault x)) f) ∙ as_strong

-- of a goal
module _ (b : Book) (g : ℕ) (a : Bool) (ha : a ≡ bit0 (entry 64 b.goal_flags g)) where
  abbrev goal_by : (co out : Bool) → found.Option told.Fault
  goal_by co out = fault_told (or_else (flag_fault co) (flag_fault out))

  pub coinductive_found : a ≡ true → Some faults.Flag ≡ fault_told (goal_read b g)
  coinductive_found t = ap (λ (x : Bool). goal_by x (bit1 (entry 64 b.goal_flags g))) (sym t ∙ ha)

  module _ (clear : a ≡ false) (o : Bool) (ho : o ≡ bit1 (entry 64 b.goal_flags g)) where
    pub floundered_found : o ≡ true → Some faults.Flag ≡ fault_told (goal_read b g)
    floundered_found t = ap₂ goal_by (sym clear ∙ ha) (sym t ∙ ho)

    pub goal_clear : o ≡ false → None ≡ fault_told (goal_read b g)
    goal_clear f = ap₂ goal_by (sym clear ∙ ha) (sym f ∙ ho)

-- The loops: what is left decides.

-- The literals of clause c, which is clause k of goal g.
module _ (b : Book) (g k c : ℕ) where
  abbrev read_at : ℕ → said.Literal
  read_at j = meant (literal_read b.literal_kind b.literal_goal b.literal_want c j)

  abbrev in_clause_c : Option Place
  in_clause_c = first_from (literal_place g k) 0 (clause_read (lent_by b) c).literals

  abbrev pub LiteralsLeft : (count j : ℕ) → Type 0
  LiteralsLeft count j = FirstLeft (literal_place g k) read_at j count j in_clause_c

  pub literals_begin : (count : ℕ) → count ≡ entry 256 b.clause_len c → LiteralsLeft count 0
  literals_begin count e =
      first_begins (literal_place g k) read_at 0 count ∙ ap (λ (n : ℕ). first_from (literal_place g k) 0 (span read_at 0 n)) e

  module _ (count j : ℕ) (left : LiteralsLeft count j) where
    module _ (l : Literal) (lt : j < count) (e : l ≡ literal_read b.literal_kind b.literal_goal b.literal_want c j) where
      told_of : (r : found.Option told.Fault) → r ≡ fault_told (literal_fault (meant l)) → r ≡ fault_told (literal_fault (read_at j))
      told_of r q = q ∙ ap (λ (x : Literal). fault_told (literal_fault (meant x))) e

      pub literals_again : None ≡ fault_told (literal_fault (meant l)) → LiteralsLeft count (j + 1)
      literals_again q =
          told_again told_place (literal_place g k) read_at j count j in_clause_c left lt
          (unplaced (in_literal g k j) (literal_fault (read_at j)) (told_of None q))

      pub literal_found : (w : told.Fault) → Some w ≡ fault_told (literal_fault (meant l))
          → Some (places.Literal g k j w) ≡ numbers in_clause_c
      literal_found w q =
          told_found told_place (literal_place g k) read_at j count j in_clause_c left (places.Literal g k j w) lt
          (placed_so (in_literal g k j) (places.Literal g k j) (λ f. refl) (literal_fault (read_at j)) w (told_of (Some w) q))

    pub literals_over : count ≤ j → None ≡ numbers in_clause_c
    literals_over h = told_over told_place (literal_place g k) read_at j count j in_clause_c left h

-- Clause k of goal g, which is clause c of the book.
module _ (b : Book) (g k c : ℕ) where
  abbrev in_body : Option Place
  in_body = first_from (literal_place g k) 0 (clause_read (lent_by b) c).literals

  pub head_found : (w : told.Fault) → Some w ≡ fault_told (head_read b c)
      → Some (places.Clause g k w) ≡ numbers (clause_place g k (clause_read (lent_by b) c))
  head_found w q =
      told_first told_place (placed (in_clause g k) (head_read b c)) in_body (places.Clause g k w)
      (placed_so (in_clause g k) (places.Clause g k) (λ f. refl) (head_read b c) w q)

  pub body_found : (r : found.Option NotPlain) → None ≡ fault_told (head_read b c)
      → r ≡ numbers (first_from (literal_place g k) 0 (clause_read (lent_by b) c).literals)
      → r ≡ numbers (clause_place g k (clause_read (lent_by b) c))
  body_found r q e =
      told_other told_place (placed (in_clause g k) (head_read b c)) in_body r (unplaced (in_clause g k) (head_read b c) q) e

-- The clauses of goal g, from `first` on.
module _ (b : Book) (g first count : ℕ) where
  abbrev in_goal_g : Option Place
  in_goal_g = first_from (clause_place g) 0 (span (clause_read (lent_by b)) first count)

  abbrev pub ClausesLeft : (k : ℕ) → Type 0
  ClausesLeft k = FirstLeft (clause_place g) (clause_read (lent_by b)) (first + k) count k in_goal_g

  pub clauses_begin : ClausesLeft 0
  clauses_begin =
      let z : first + 0 ≡ first = omega arith in
      subst (λ (i : ℕ). FirstLeft (clause_place g) (clause_read (lent_by b)) i count 0 in_goal_g) (sym z)
      (first_begins (clause_place g) (clause_read (lent_by b)) first count)

  module _ (k : ℕ) (left : ClausesLeft k) where
    pub clauses_again : k < count → None ≡ numbers (clause_place g k (clause_read (lent_by b) (first + k))) → ClausesLeft (k + 1)
    clauses_again lt q =
        let z : first + k + 1 ≡ first + (k + 1) = omega arith in
        subst (λ (i : ℕ). FirstLeft (clause_place g) (clause_read (lent_by b)) i count (k + 1) in_goal_g) z
        (told_again told_place (clause_place g) (clause_read (lent_by b)) (first + k) count k in_goal_g left lt q)

    pub clause_found : (p : NotPlain) → k < count → Some p ≡ numbers (clause_place g k (clause_read (lent_by b) (first + k)))
        → Some p ≡ numbers in_goal_g
    clause_found p lt q = told_found told_place (clause_place g) (clause_read (lent_by b)) (first + k) count k in_goal_g left p lt q

    pub clauses_over : count ≤ k → None ≡ numbers in_goal_g
    clauses_over h = told_over told_place (clause_place g) (clause_read (lent_by b)) (first + k) count k in_goal_g left h

-- The goals of a book.
abbrev pub GoalsLeft : Book → (g : ℕ) → Type 0
GoalsLeft b g = FirstLeft goal_place (goal_viewed b) g b.goals g (first_not_plain (view b))

pub goals_begin : (b : Book) → GoalsLeft b 0
goals_begin b = first_begins goal_place (goal_viewed b) 0 b.goals

module _ (b : Book) (s : Sound b) (g : ℕ) (left : GoalsLeft b g) where
  pub goals_over : b.goals ≤ g → None ≡ numbers (first_not_plain (view b))
  goals_over h = told_over told_place goal_place (goal_viewed b) g b.goals g (first_not_plain (view b)) left h

  module _ (h : g < b.goals) where
    flags_there : entry 64 b.goal_flags g ≡ get_or b.goal_flags g 0
    flags_there = entry_in 64 b.goal_flags g (omega (arith, s.few_goals))

    told_of_goal : fault_told (goal_read b g) ≡ fault_told (goal_fault (goal_viewed b g))
    told_of_goal = ap (λ (n : ℕ). fault_told (or_else (flag_fault (bit0 n)) (flag_fault (bit1 n)))) flags_there

    abbrev in_clauses : Option Place
    in_clauses = first_from (clause_place g) 0 (goal_viewed b g).clauses

    pub goal_found : (w : told.Fault) → Some w ≡ fault_told (goal_read b g)
        → Some (places.Goal g w) ≡ numbers (first_not_plain (view b))
    goal_found w q =
        told_found told_place goal_place (goal_viewed b) g b.goals g (first_not_plain (view b)) left (places.Goal g w) h
        (told_first told_place (placed (in_goal g) (goal_fault (goal_viewed b g))) in_clauses (places.Goal g w)
        (placed_so (in_goal g) (places.Goal g) (λ f. refl) (goal_fault (goal_viewed b g)) w (q ∙ told_of_goal)))

    module _ (clear : None ≡ fault_told (goal_read b g)) (first count : ℕ) (hf : first ≡ entry 64 b.goal_first g)
        (hc : count ≡ entry 64 b.goal_len g) where
      decided : (r : found.Option NotPlain)
          → r ≡ numbers (first_from (clause_place g) 0 (span (clause_read (lent_by b)) first count))
          → r ≡ numbers (goal_place g (goal_viewed b g))
      decided r e =
          told_other told_place (placed (in_goal g) (goal_fault (goal_viewed b g))) in_clauses r
          (unplaced (in_goal g) (goal_fault (goal_viewed b g)) (clear ∙ told_of_goal))
          (e ∙ ap (λ (cs : List said.Clause). numbers (first_from (clause_place g) 0 cs)) (goal_shown b s g first count h hf hc))

      pub clauses_found : (p : NotPlain) → Some p ≡ numbers (first_from (clause_place g) 0 (span (clause_read (lent_by b)) first count))
          → Some p ≡ numbers (first_not_plain (view b))
      clauses_found p e =
          told_found told_place goal_place (goal_viewed b) g b.goals g (first_not_plain (view b)) left p h (decided (Some p) e)

      pub goals_again : None ≡ numbers (first_from (clause_place g) 0 (span (clause_read (lent_by b)) first count)) → GoalsLeft b (g + 1)
      goals_again e =
          told_again told_place goal_place (goal_viewed b) g b.goals g (first_not_plain (view b)) left h (decided None e)

-- Plain, where there is no such place.
pub plain_if_nowhere : (b : Book) (p : found.Option NotPlain) (r : Bool) → p ≡ numbers (first_not_plain (view b)) → is_some p ≡ not r
    → r ≡ is_plain (view b)
plain_if_nowhere b p r e f = on (first_not_plain (view b)) r (sym (ap is_some e) ∙ f) ∙ none_is (view b)
  where
    on : (o : Option Place) (t : Bool) → is_some (numbers o) ≡ not t → t ≡ is_none o
    on none true q = refl
    on none false q = cc
    on (some p) true q = cc
    on (some p) false q = refl

-- What a goal spoils by itself, by a book's arrays: the loops over the literals of a clause and the clauses of a goal, and a goal's flag.
use Prim.Native.Nat.{ℕ, ◌+◌, ◌*◌, ◌≤◌, ◌<◌}
use native.Mathlib.Omega.{arith}
use native.Mathlib.Decide.{dec_lt}
use mathlib.Core.Path.{◌≡◌, refl, sym, ap, subst, ◌∙◌}
use mathlib.Core.Bool.{Bool, true, false, false≢true}
use mathlib.Core.Option.{Option, none, some}
use lib.Dec.{ltb}
use borrow.Author.Tests.{le-ltb}
use Rattle.std.specs.declared.option.Option as found
use Rattle.std.proofs.Common.{Some, None}
use Rattle.laws.specs.Spans.{span}
use Rattle.definitions.specs.Book as said
use Rattle.definitions.specs.Book.{bit0, bit1}
use Rattle.papers.specs.NotPlain.{or_else, first_from}
use Rattle.papers.specs.Spoilt.{Spoil, a_not, spoil_by_flag, not_in_literal, not_in_clause}
use Rattle.book.specs.declared.Book.{Book}
use Rattle.book.specs.declared.Literal.{Literal}
use Rattle.book.specs.View.{meant, signed, wanted, bit2}
use Rattle.book.specs.Access.{entry, literal_by, literal_there, literal_read}
use Rattle.book.specs.Repeats.{lent_by, clause_read}
use Rattle.paper_checks.specs.declared.OwnSpoil.{OwnSpoil}
use Rattle.paper_checks.specs.declared.OwnSpoil.TheVariants.{Coinductive, Negative}
use Rattle.paper_checks.specs.Spoilers.{told_own, own_told, spoil_read}
use Rattle.paper_checks.proofs.Firsts.{FirstLeft, first_begins, first_again, told_again, told_found, told_over}

-- A literal.

module _ (k j : ℕ) (l : Literal) (n : Bool) (hn : n ≡ bit1 l.kind) where
  abbrev spoil_by : Bool → Option Spoil
  spoil_by negative =
      not_in_literal k j (signed negative l.goal (wanted (bit2 l.kind) l.want l.high) (bit0 l.kind))

  is_not : n ≡ true → not_in_literal k j (meant l) ≡ some (a_not k j)
  is_not t = sym (ap spoil_by (sym t ∙ hn))

  no_not : n ≡ false → not_in_literal k j (meant l) ≡ none
  no_not f = sym (ap spoil_by (sym f ∙ hn))

-- past the eight places of a clause there is no "not"
pub not_low : (b : Book) (c j : ℕ) (l : Literal) (n : Bool) → l ≡ literal_read b.literal_kind b.literal_goal b.literal_want c j
    → n ≡ bit1 l.kind → n ≡ true → j < 256
not_low b c j l n e hn t = on (dec_lt j 8)
  where
    blank : (b d : Bool) (x : Literal) → d ≡ false → bit1 (literal_by b d x).kind ≡ false
    blank true false x q = refl
    blank false false x q = refl
    blank b true x q = absurd (false≢true (sym q))

    on : Dec (j < 8) → j < 256
    on (yes h) = omega arith
    on (no o) =
        absurd (false≢true
        (sym (blank (ltb c 256) (ltb j 8) (literal_there b.literal_kind b.literal_goal b.literal_want (8 * c + j))
        (le-ltb j 8 (omega arith)))
        ∙ sym (ap (λ (x : Literal). bit1 x.kind) e) ∙ sym hn ∙ t))

-- The literals of clause c, which is clause k of its goal.
module _ (b : Book) (k c : ℕ) where
  abbrev read_at : ℕ → said.Literal
  read_at j = meant (literal_read b.literal_kind b.literal_goal b.literal_want c j)

  abbrev in_clause_c : Option Spoil
  in_clause_c = not_in_clause k (clause_read (lent_by b) c)

  abbrev pub NotsLeft : (count j : ℕ) → Type 0
  NotsLeft count j = FirstLeft (not_in_literal k) read_at j count j in_clause_c

  pub nots_begin : (count : ℕ) → count ≡ entry 256 b.clause_len c → NotsLeft count 0
  nots_begin count e =
      first_begins (not_in_literal k) read_at 0 count ∙ ap (λ (n : ℕ). first_from (not_in_literal k) 0 (span read_at 0 n)) e

  module _ (count j : ℕ) (left : NotsLeft count j) where
    module _ (l : Literal) (n : Bool) (lt : j < count) (e : l ≡ literal_read b.literal_kind b.literal_goal b.literal_want c j)
        (hn : n ≡ bit1 l.kind) where
      read : not_in_literal k j (meant l) ≡ not_in_literal k j (read_at j)
      read = ap (λ (x : Literal). not_in_literal k j (meant x)) e

      pub nots_again : n ≡ false → NotsLeft count (j + 1)
      nots_again f = first_again (not_in_literal k) read_at j count j in_clause_c left lt (sym read ∙ no_not k j l n hn f)

      pub not_found : n ≡ true → Some (Negative k j) ≡ own_told in_clause_c
      not_found t =
          told_found told_own (not_in_literal k) read_at j count j in_clause_c left (Negative k j) lt
          (ap own_told (sym (is_not k j l n hn t) ∙ read))

    pub nots_over : count ≤ j → None ≡ own_told in_clause_c
    nots_over h = told_over told_own (not_in_literal k) read_at j count j in_clause_c left h

-- The clauses of a goal, from `first` on.
module _ (b : Book) (first count : ℕ) where
  abbrev in_clauses : Option Spoil
  in_clauses = first_from not_in_clause 0 (span (clause_read (lent_by b)) first count)

  abbrev pub ClausesLeft : (k : ℕ) → Type 0
  ClausesLeft k = FirstLeft not_in_clause (clause_read (lent_by b)) (first + k) count k in_clauses

  pub clauses_begin : ClausesLeft 0
  clauses_begin =
      let z : first + 0 ≡ first = omega arith in
      subst (λ (i : ℕ). FirstLeft not_in_clause (clause_read (lent_by b)) i count 0 in_clauses) (sym z)
      (first_begins not_in_clause (clause_read (lent_by b)) first count)

  module _ (k : ℕ) (left : ClausesLeft k) where
    pub clauses_again : k < count → None ≡ own_told (not_in_clause k (clause_read (lent_by b) (first + k))) → ClausesLeft (k + 1)
    clauses_again lt q =
        let i : first + k + 1 ≡ first + (k + 1) = omega arith in
        subst (λ (i : ℕ). FirstLeft not_in_clause (clause_read (lent_by b)) i count (k + 1) in_clauses) i
        (told_again told_own not_in_clause (clause_read (lent_by b)) (first + k) count k in_clauses left lt q)

    pub clause_found : (s : OwnSpoil) → k < count → Some s ≡ own_told (not_in_clause k (clause_read (lent_by b) (first + k)))
        → Some s ≡ own_told in_clauses
    clause_found s lt q = told_found told_own not_in_clause (clause_read (lent_by b)) (first + k) count k in_clauses left s lt q

    pub clauses_over : count ≤ k → None ≡ own_told in_clauses
    clauses_over h = told_over told_own not_in_clause (clause_read (lent_by b)) (first + k) count k in_clauses left h

-- A goal.
module _ (b : Book) (g first count : ℕ) (a : Bool) (ha : a ≡ bit0 (entry 64 b.goal_flags g)) where
  abbrev goal_by : Bool → found.Option OwnSpoil
  goal_by co = own_told (or_else (spoil_by_flag co) (first_from not_in_clause 0 (span (clause_read (lent_by b)) first count)))

  pub coinductive_spoils : a ≡ true → Some Coinductive ≡ own_told (spoil_read b g first count)
  coinductive_spoils t = ap goal_by (sym t ∙ ha)

  pub nots_spoil : (r : found.Option OwnSpoil) → a ≡ false
      → r ≡ own_told (first_from not_in_clause 0 (span (clause_read (lent_by b)) first count))
      → r ≡ own_told (spoil_read b g first count)
  nots_spoil r f e = e ∙ ap goal_by (sym f ∙ ha)

-- The goals that nothing spoils are a clean set (`unspoilt_clean`), and the largest: each goal of a clean set is one of them
-- (`clean_unspoilt`, `largest_clean`). Of any other goal the one that is told spoils it: a walk leads there (`spoilt_by`).
use Prim.Native.Nat.{ℕ, zero, suc, ◌+◌, ◌≤◌, ◌<◌}
use native.Mathlib.Omega.{arith}
use mathlib.Core.Path.{◌≡◌, refl, sym, ap, subst, ◌∙◌}
use mathlib.Core.Bool.{Bool, true, false}
use mathlib.Core.Logic.{◌⊎◌, inl, inr}
use mathlib.Core.Option.{Option, none, some}
use mathlib.Core.List.{List, [], ◌∷◌, Memᴰ}
use lib.ListN.{length, get_elem?}
use Rattle.laws.proofs.Options.{no_such, same_some}
use Rattle.definitions.specs.Book.{Literal, Positive, Negative, Clause, Goal, Book, goal_of}
use Rattle.papers.specs.Levels.{stays, goes, is_not}
use Rattle.definitions.specs.Lists.{Each}
use Rattle.papers.specs.Model.{clauses_of}
use Rattle.papers.specs.NotPlain.{or_else, first_from}
use Rattle.papers.specs.Spoilt.{Spoil, spoil_by_flag, not_in_literal, not_in_clause, spoil, spoiler_in, literals_spoilt}
use Rattle.papers.specs.Spoilt.{clauses_spoilt, by_itself, by_themselves, pass_from, spoilers_after, spoilers}
use Rattle.papers.specs.Spoilt.{spoilers_at_desk, check_spoilers}
use Rattle.definitions.specs.Desk.{desk}
use Rattle.definitions.specs.Refusal.{accepted}
use Rattle.papers.specs.Derive.{CleanLiteral, Clean}
use Rattle.definitions.proofs.Refusal.{same_accepted}
use Rattle.papers.proofs.Spoilt.{length_after}
use Rattle.derivable.specs.Spoilt.{Unspoilt, LargestClean, SpoiltBy, SpoilersSpoil}

-- What is known of a goal before the first pass, and after one more.

themselves_at : (g : ℕ) (hs : List Goal) (i : ℕ) (h : Goal) → get_elem? hs i ≡ some h
    → spoiler_in (by_themselves g hs) i ≡ by_itself (g + i) (spoil h)
themselves_at g [] i h e = absurd (no_such e)
themselves_at g (k ∷ hs) zero h e =
    let z : g + 0 ≡ g = omega arith in
    ap (λ (x : Goal). by_itself g (spoil x)) (same_some e) ∙ ap (λ (n : ℕ). by_itself n (spoil h)) (sym z)
themselves_at g (k ∷ hs) (suc i) h e =
    let z : suc g + i ≡ g + suc i = omega arith in
    themselves_at (suc g) hs i h e ∙ ap (λ (n : ℕ). by_itself n (spoil h)) z

themselves_here : (hs : List Goal) (i : ℕ) (h : Goal) → get_elem? hs i ≡ some h
    → spoiler_in (by_themselves 0 hs) i ≡ by_itself i (spoil h)
themselves_here hs i h e =
    let z : 0 + i ≡ i = omega arith in
    themselves_at 0 hs i h e ∙ ap (λ (n : ℕ). by_itself n (spoil h)) z

themselves_past : (g : ℕ) (hs : List Goal) (i : ℕ) → get_elem? hs i ≡ none → spoiler_in (by_themselves g hs) i ≡ none
themselves_past g [] i e = refl
themselves_past g (k ∷ hs) zero e = absurd (no_such (sym e))
themselves_past g (k ∷ hs) (suc i) e = themselves_past (suc g) hs i e

module _ (ss : List (Option ℕ)) where
  pass_at : (g : ℕ) (hs : List Goal) (i : ℕ) (h : Goal) → get_elem? hs i ≡ some h
      → spoiler_in (pass_from ss g hs) i ≡ or_else (spoiler_in ss (g + i)) (clauses_spoilt ss h.clauses)
  pass_at g [] i h e = absurd (no_such e)
  pass_at g (k ∷ hs) zero h e =
      let z : g + 0 ≡ g = omega arith in
      ap (λ (x : Goal). or_else (spoiler_in ss g) (clauses_spoilt ss x.clauses)) (same_some e)
      ∙ ap (λ (n : ℕ). or_else (spoiler_in ss n) (clauses_spoilt ss h.clauses)) (sym z)
  pass_at g (k ∷ hs) (suc i) h e =
      let z : suc g + i ≡ g + suc i = omega arith in
      pass_at (suc g) hs i h e ∙ ap (λ (n : ℕ). or_else (spoiler_in ss n) (clauses_spoilt ss h.clauses)) z

  pass_here : (hs : List Goal) (i : ℕ) (h : Goal) → get_elem? hs i ≡ some h
      → spoiler_in (pass_from ss 0 hs) i ≡ or_else (spoiler_in ss i) (clauses_spoilt ss h.clauses)
  pass_here hs i h e =
      let z : 0 + i ≡ i = omega arith in
      pass_at 0 hs i h e ∙ ap (λ (n : ℕ). or_else (spoiler_in ss n) (clauses_spoilt ss h.clauses)) z

  pass_past : (g : ℕ) (hs : List Goal) (i : ℕ) → get_elem? hs i ≡ none → spoiler_in (pass_from ss g hs) i ≡ none
  pass_past g [] i e = refl
  pass_past g (k ∷ hs) zero e = absurd (no_such (sym e))
  pass_past g (k ∷ hs) (suc i) e = pass_past (suc g) hs i e

-- THE LARGEST. No goal of a clean set is ever spoilt.

module _ (book : Book) (C : ℕ → Type 0) (clean : Clean book C) where
  no_negative : (k j : ℕ) (ls : List Literal) → Each (CleanLiteral C) ls → first_from (not_in_literal k) j ls ≡ none
  no_negative k j [] x = refl
  no_negative k j (Positive goal want outsized ∷ ls) x = no_negative k (suc j) ls x.1
  no_negative k j (Negative goal outsized ∷ ls) x = absurd x.0

  no_nots : (k : ℕ) (cs : List Clause) → Each (λ c. Each (CleanLiteral C) c.literals) cs → first_from not_in_clause k cs ≡ none
  no_nots k [] x = refl
  no_nots k (c ∷ cs) x =
      ap (λ (o : Option Spoil). or_else o (first_from not_in_clause (suc k) cs)) (no_negative k 0 c.literals x.0)
      ∙ no_nots (suc k) cs x.1

  module _ (ss : List (Option ℕ)) (before : (goal : ℕ) → C goal → spoiler_in ss goal ≡ none) where
    literals_clean : (ls : List Literal) → Each (CleanLiteral C) ls → literals_spoilt ss ls ≡ none
    literals_clean [] x = refl
    literals_clean (Positive goal want outsized ∷ ls) x =
        ap (λ (o : Option ℕ). or_else o (literals_spoilt ss ls)) (before goal x.0) ∙ literals_clean ls x.1
    literals_clean (Negative goal outsized ∷ ls) x = absurd x.0

    clauses_clean : (cs : List Clause) → Each (λ c. Each (CleanLiteral C) c.literals) cs → clauses_spoilt ss cs ≡ none
    clauses_clean [] x = refl
    clauses_clean (c ∷ cs) x =
        ap (λ (o : Option ℕ). or_else o (clauses_spoilt ss cs)) (literals_clean c.literals x.0) ∙ clauses_clean cs x.1

  never_spoilt : (n : ℕ) (goal : ℕ) → C goal → spoiler_in (spoilers_after n book) goal ≡ none
  never_spoilt zero goal c = on (get_elem? book goal) refl
    where
      on : (o : Option Goal) → get_elem? book goal ≡ o → spoiler_in (by_themselves 0 book) goal ≡ none
      on none e = themselves_past 0 book goal e
      on (some h) e =
          let x = clean goal h c e in
          themselves_here book goal h e
          ∙ ap (by_itself goal) (ap (λ (b : Bool). or_else (spoil_by_flag b) (first_from not_in_clause 0 h.clauses)) x.inductive
          ∙ no_nots 0 h.clauses x.literals_clean)
  never_spoilt (suc n) goal c = on (λ g d. never_spoilt n g d) (get_elem? book goal) refl
    where
      on : ((g : ℕ) → C g → spoiler_in (spoilers_after n book) g ≡ none) → (o : Option Goal) → get_elem? book goal ≡ o
          → spoiler_in (spoilers_after (suc n) book) goal ≡ none
      on before none e = pass_past (spoilers_after n book) 0 book goal e
      on before (some h) e =
          pass_here (spoilers_after n book) book goal h e
          ∙ ap (λ (o : Option ℕ). or_else o (clauses_spoilt (spoilers_after n book) h.clauses)) (before goal c)
          ∙ clauses_clean (spoilers_after n book) before h.clauses (clean goal h c e).literals_clean

  pub clean_unspoilt : (goal : ℕ) → C goal → spoiler_in (spoilers book) goal ≡ none
  clean_unspoilt goal c = never_spoilt (length book) goal c

-- ENOUGH PASSES: each pass that changes something spoils one goal more.

abbrev count : List (Option ℕ) → ℕ
count [] = 0
count (none ∷ os) = count os
count (some s ∷ os) = suc (count os)

count_few : (os : List (Option ℕ)) → count os ≤ length os
count_few [] = omega arith
count_few (none ∷ os) = let x = count_few os in omega arith
count_few (some s ∷ os) = let x = count_few os in omega arith

-- what is known, goal by goal
abbrev known_from : (ss : List (Option ℕ)) → (g : ℕ) → List Goal → List (Option ℕ)
known_from ss g [] = []
known_from ss g (h ∷ hs) = spoiler_in ss g ∷ known_from ss (suc g) hs

known_shift : (o : Option ℕ) (ss : List (Option ℕ)) (g : ℕ) (hs : List Goal) → known_from (o ∷ ss) (suc g) hs ≡ known_from ss g hs
known_shift o ss g [] = refl
known_shift o ss g (h ∷ hs) = ap (λ (l : List (Option ℕ)). spoiler_in ss g ∷ l) (known_shift o ss (suc g) hs)

known_all : (ss : List (Option ℕ)) (hs : List Goal) → length ss ≡ length hs → known_from ss 0 hs ≡ ss
known_all [] [] e = refl
known_all [] (h ∷ hs) e = absurd (omega (arith, e))
known_all (o ∷ ss) [] e = absurd (omega (arith, e))
known_all (o ∷ ss) (h ∷ hs) e =
    let x : length ss ≡ length hs = omega (arith, e) in
    ap (λ (l : List (Option ℕ)). o ∷ l) (known_shift o ss 0 hs ∙ known_all ss hs x)

-- nothing changes, or one goal more is spoilt
module _ (ss : List (Option ℕ)) where
  abbrev Grows : (g : ℕ) → List Goal → Type 0
  Grows g hs =
      (count (known_from ss g hs) ≤ count (pass_from ss g hs))
      × ((pass_from ss g hs ≡ known_from ss g hs) ⊎ (count (known_from ss g hs) < count (pass_from ss g hs)))

  grows_by : (o p : Option ℕ) (k l : List (Option ℕ)) → count k ≤ count l → ((l ≡ k) ⊎ (count k < count l))
      → (count (o ∷ k) ≤ count (or_else o p ∷ l)) × ((or_else o p ∷ l ≡ o ∷ k) ⊎ (count (o ∷ k) < count (or_else o p ∷ l)))
  grows_by none none k l m (inl e) = (m, inl (ap (λ (z : List (Option ℕ)). none ∷ z) e))
  grows_by none none k l m (inr n) = (m, inr n)
  grows_by none (some s) k l m x = (omega (arith, m), inr (omega (arith, m)))
  grows_by (some s) p k l m (inl e) = (omega (arith, m), inl (ap (λ (z : List (Option ℕ)). some s ∷ z) e))
  grows_by (some s) p k l m (inr n) = (omega (arith, m), inr (omega (arith, n)))

  grows : (g : ℕ) (hs : List Goal) → Grows g hs
  grows g [] = (omega arith, inl refl)
  grows g (h ∷ hs) =
      let x = grows (suc g) hs in
      grows_by (spoiler_in ss g) (clauses_spoilt ss h.clauses) (known_from ss (suc g) hs) (pass_from ss (suc g) hs) x.0 x.1

module _ (book : Book) where
  abbrev after : ℕ → List (Option ℕ)
  after n = spoilers_after n book

  one_pass : (n : ℕ) → (after (suc n) ≡ after n) ⊎ (count (after n) < count (after (suc n)))
  one_pass n =
      subst (λ (l : List (Option ℕ)). (after (suc n) ≡ l) ⊎ (count l < count (after (suc n))))
      (known_all (after n) book (length_after n book)) (grows (after n) 0 book).1

  by_then : (n : ℕ) → (after (suc n) ≡ after n) ⊎ (n < count (after (suc n)))
  by_then zero = on (one_pass 0)
    where
      on : (after 1 ≡ after 0) ⊎ (count (after 0) < count (after 1)) → (after 1 ≡ after 0) ⊎ (0 < count (after 1))
      on (inl e) = inl e
      on (inr n) = inr (omega (arith, n))
  by_then (suc n) = on (by_then n) (one_pass (suc n))
    where
      on : (after (suc n) ≡ after n) ⊎ (n < count (after (suc n)))
          → (after (suc (suc n)) ≡ after (suc n)) ⊎ (count (after (suc n)) < count (after (suc (suc n))))
          → (after (suc (suc n)) ≡ after (suc n)) ⊎ (suc n < count (after (suc (suc n))))
      on (inl e) x = inl (ap (λ (l : List (Option ℕ)). pass_from l 0 book) e)
      on (inr k) (inl e) = inl e
      on (inr k) (inr m) = inr (omega (arith, k, m))

  settled : after (suc (length book)) ≡ spoilers book
  settled = on (by_then (length book))
    where
      on : (after (suc (length book)) ≡ after (length book)) ⊎ (length book < count (after (suc (length book))))
          → after (suc (length book)) ≡ after (length book)
      on (inl e) = e
      on (inr k) = absurd (omega (arith, k, count_few (after (suc (length book))), length_after (suc (length book)) book))

  -- A CLEAN SET.

  -- what is spoilt stays so
  kept_spoilt : (n goal s : ℕ) → spoiler_in (after n) goal ≡ some s → spoiler_in (after (suc n)) goal ≡ some s
  kept_spoilt n goal s e = on (get_elem? book goal) refl
    where
      past : (m : ℕ) → get_elem? book goal ≡ none → spoiler_in (after m) goal ≡ none
      past zero q = themselves_past 0 book goal q
      past (suc m) q = pass_past (after m) 0 book goal q

      on : (o : Option Goal) → get_elem? book goal ≡ o → spoiler_in (after (suc n)) goal ≡ some s
      on none q = absurd (no_such (sym (past n q) ∙ e))
      on (some h) q =
          pass_here (after n) book goal h q ∙ ap (λ (o : Option ℕ). or_else o (clauses_spoilt (after n) h.clauses)) e

  themselves_spoilt : (n goal : ℕ) (h : Goal) (s : Spoil) → get_elem? book goal ≡ some h → spoil h ≡ some s
      → spoiler_in (after n) goal ≡ some goal
  themselves_spoilt zero goal h s e b = themselves_here book goal h e ∙ ap (by_itself goal) b
  themselves_spoilt (suc n) goal h s e b = kept_spoilt n goal goal (themselves_spoilt n goal h s e b)

  both_none : {A : Type 0} (o p : Option A) → or_else o p ≡ none → (o ≡ none) × (p ≡ none)
  both_none none p e = (refl, e)
  both_none (some s) p e = absurd (no_such (sym e))

  literals_unspoilt : (k j : ℕ) (ls : List Literal) → first_from (not_in_literal k) j ls ≡ none
      → literals_spoilt (spoilers book) ls ≡ none → Each (CleanLiteral (Unspoilt book)) ls
  literals_unspoilt k j [] b e = tt
  literals_unspoilt k j (Positive goal want outsized ∷ ls) b e =
      let x = both_none (spoiler_in (spoilers book) goal) (literals_spoilt (spoilers book) ls) e in
      (x.0, literals_unspoilt k (suc j) ls b x.1)
  literals_unspoilt k j (Negative goal outsized ∷ ls) b e = absurd (no_such (sym b))

  clauses_unspoilt : (k : ℕ) (cs : List Clause) → first_from not_in_clause k cs ≡ none → clauses_spoilt (spoilers book) cs ≡ none
      → Each (λ c. Each (CleanLiteral (Unspoilt book)) c.literals) cs
  clauses_unspoilt k [] b e = tt
  clauses_unspoilt k (c ∷ cs) b e =
      let p = both_none (not_in_clause k c) (first_from not_in_clause (suc k) cs) b in
      let x = both_none (literals_spoilt (spoilers book) c.literals) (clauses_spoilt (spoilers book) cs) e in
      (literals_unspoilt k 0 c.literals p.0 x.0, clauses_unspoilt (suc k) cs p.1 x.1)

  -- a goal without the flag has none
  unflagged : (b : Bool) → spoil_by_flag b ≡ none → b ≡ false
  unflagged true e = absurd (no_such (sym e))
  unflagged false e = refl

  pub unspoilt_clean : Clean book (Unspoilt book)
  unspoilt_clean goal h c e =
      let quiet = on (spoil h) refl in
      let p = both_none (spoil_by_flag h.coinductive) (first_from not_in_clause 0 h.clauses) quiet in
      let x = both_none (spoiler_in (spoilers book) goal) (clauses_spoilt (spoilers book) h.clauses)
      (sym (pass_here (spoilers book) book goal h e) ∙ ap (λ (l : List (Option ℕ)). spoiler_in l goal) settled ∙ c) in
      record { inductive = unflagged h.coinductive p.0; literals_clean = clauses_unspoilt 0 h.clauses p.1 x.1 }
    where
      on : (o : Option Spoil) → spoil h ≡ o → spoil h ≡ none
      on (some s) q = absurd (no_such (sym c ∙ themselves_spoilt (length book) goal h s e q))
      on none q = q

  -- WHO SPOILS IT.

  -- a literal that is spoilt, with its clause
  record Bad (ss : List (Option ℕ)) (cs : List Clause) (s : ℕ) : Type 0 where
    clause : Clause
    literal : Literal
    of_clauses : Memᴰ clause cs
    of_clause : Memᴰ literal clause.literals
    bad : spoiler_in ss (goal_of literal) ≡ some s

  bad_literal : (ss : List (Option ℕ)) (ls : List Literal) (s : ℕ) → literals_spoilt ss ls ≡ some s
      → (l : Literal) × Memᴰ l ls × (spoiler_in ss (goal_of l) ≡ some s)
  bad_literal ss [] s e = absurd (no_such e)
  bad_literal ss (l ∷ ls) s e = on (λ q. bad_literal ss ls s q) (spoiler_in ss (goal_of l)) refl e
    where
      on : (literals_spoilt ss ls ≡ some s → (k : Literal) × Memᴰ k ls × (spoiler_in ss (goal_of k) ≡ some s))
          → (o : Option ℕ) → spoiler_in ss (goal_of l) ≡ o → or_else o (literals_spoilt ss ls) ≡ some s
          → (k : Literal) × Memᴰ k (l ∷ ls) × (spoiler_in ss (goal_of k) ≡ some s)
      on behind none q e = let x = behind e in (x.0, Memᴰ.tail x.1, x.2)
      on behind (some t) q e = (l, Memᴰ.head refl, q ∙ e)

  bad_clause : (ss : List (Option ℕ)) (cs : List Clause) (s : ℕ) → clauses_spoilt ss cs ≡ some s → Bad ss cs s
  bad_clause ss [] s e = absurd (no_such e)
  bad_clause ss (c ∷ cs) s e = on (λ q. bad_clause ss cs s q) (literals_spoilt ss c.literals) refl e
    where
      on : (clauses_spoilt ss cs ≡ some s → Bad ss cs s) → (o : Option ℕ) → literals_spoilt ss c.literals ≡ o
          → or_else o (clauses_spoilt ss cs) ≡ some s → Bad ss (c ∷ cs) s
      on behind none q e =
          let x = behind e in
          record {
            clause = x.clause;
            literal = x.literal;
            of_clauses = Memᴰ.tail x.of_clauses;
            of_clause = x.of_clause;
            bad = x.bad;
          }
      on behind (some t) q e =
          let x = bad_literal ss c.literals s (q ∙ e) in
          record { clause = c; literal = x.0; of_clauses = Memᴰ.head refl; of_clause = x.1; bad = x.2 }

  spoilt_after : (n goal by : ℕ) → spoiler_in (after n) goal ≡ some by → SpoiltBy book goal by
  spoilt_after zero goal by e = on (get_elem? book goal) refl
    where
      so : (h : Goal) → get_elem? book goal ≡ some h → (o : Option Spoil) → spoil h ≡ o → by_itself goal o ≡ some by → SpoiltBy book goal by
      so h q (some s) b x =
          subst (λ (z : ℕ). SpoiltBy book goal z) (same_some x)
          (record { nots = 0; leads = stays; own = h; is_own = q; what = s; itself = b })
      so h q none b x = absurd (no_such x)

      on : (o : Option Goal) → get_elem? book goal ≡ o → SpoiltBy book goal by
      on none q = absurd (no_such (sym (themselves_past 0 book goal q) ∙ e))
      on (some h) q = so h q (spoil h) refl (sym (themselves_here book goal h q) ∙ e)
  spoilt_after (suc n) goal by e = on (λ g q. spoilt_after n g by q) (get_elem? book goal) refl
    where
      so : ((g : ℕ) → spoiler_in (after n) g ≡ some by → SpoiltBy book g by) → (h : Goal)
          → get_elem? book goal ≡ some h → (o : Option ℕ) → spoiler_in (after n) goal ≡ o
          → or_else o (clauses_spoilt (after n) h.clauses) ≡ some by → SpoiltBy book goal by
      so before h q (some s) k x = before goal (k ∙ x)
      so before h q none k x =
          let y = bad_clause (after n) h.clauses by x in
          let z = before (goal_of y.literal) y.bad in
          let here : clauses_of book goal ≡ h.clauses = ap (λ (o : Option Goal). elim o [ none ↦ [] | some g ↦ g.clauses ]) q in
          record {
            nots = is_not y.literal + z.nots;
            leads = goes y.clause y.literal (subst (λ (cs : List Clause). Memᴰ y.clause cs) (sym here) y.of_clauses)
                y.of_clause z.leads;
            own = z.own;
            is_own = z.is_own;
            what = z.what;
            itself = z.itself;
          }

      on : ((g : ℕ) → spoiler_in (after n) g ≡ some by → SpoiltBy book g by) → (o : Option Goal) → get_elem? book goal ≡ o
          → SpoiltBy book goal by
      on before none q = absurd (no_such (sym (pass_past (after n) 0 book goal q) ∙ e))
      on before (some h) q = so before h q (spoiler_in (after n) goal) refl (sym (pass_here (after n) book goal h q) ∙ e)

pub spoilt_by : SpoilersSpoil
spoilt_by book goal by e = spoilt_after book (length book) goal by e

pub largest_clean : (book : Book) → LargestClean book
largest_clean book = record { clean = unspoilt_clean book; largest = λ C clean goal c. clean_unspoilt book C clean goal c }

-- of a paper, as the check of it tells
pub checked_clean : (bytes : List ℕ) (book : Book) → desk bytes ≡ accepted book → (ss : List (Option ℕ))
    → check_spoilers bytes ≡ accepted ss → Clean book (λ goal. spoiler_in ss goal ≡ none)
checked_clean bytes book took ss e =
    subst (λ (z : List (Option ℕ)). Clean book (λ goal. spoiler_in z goal ≡ none))
    (same_accepted (sym (ap spoilers_at_desk took) ∙ e)) (unspoilt_clean book)

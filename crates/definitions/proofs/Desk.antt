-- The desk: two clauses pass its test exactly if they are the same one; a book that it takes is the one that `read` gives, and no goal of
-- it has the same clause twice; a book that it turns down with 36 has two at the place that is told.
use Prim.Native.Nat.{ℕ, zero, suc, ◌+◌}
use native.Mathlib.Omega.{arith}
use mathlib.Core.Path.{◌≡◌, refl, sym, ap, ap₂, subst, ◌∙◌}
use mathlib.Core.Bool.{Bool, true, false, ◌&&◌, true≢false, false≢true}
use mathlib.Core.Logic.{◌⊎◌, inl, inr}
use mathlib.Core.Option.{Option, none, some}
use mathlib.Core.List.{List, [], ◌∷◌, ◌++◌, append-nil, append_assoc}
use lib.ListN.{length, get_elem?, take}
use lib.Dec.{eqb}
use borrow.Author.Tests.{eqb-true, eq-eqb}
use Rattle.laws.proofs.Options.{no_such, same_some}
use Rattle.laws.proofs.Lists.{place_under, last_one, at_append, at_push}
use Rattle.definitions.specs.Refusal.{Refusable, refused, accepted, ◌refuses◌, unless}
use Rattle.definitions.specs.Lists.{push, position}
use Rattle.sizes.specs.Limits.{read_ahead}
use Rattle.definitions.specs.Book.{Want, any, exactly, between, Literal, Positive, Negative, Clause, Goal, Book, read}
use Rattle.definitions.specs.Desk.{same_flag, same_want, same_literal, same_literals, same_clause, Repeat, repeat_behind, repeat_from}
use Rattle.definitions.specs.Desk.{first_repeat, repeat_of, is_found, repeats, at_desk, desk, make_at_desk}
use Rattle.definitions.specs.Desk.{AllDiffer, NoRepeats, RepeatIn, RepeatAt}
use Rattle.definitions.specs.Tables.{Forest}
use Rattle.definitions.specs.Forest.{make_of, make}
use Rattle.definitions.proofs.Lists.{position_at, position_none}
use Rattle.definitions.proofs.Refusal.{not_accepted, all_pass}
use Rattle.definitions.proofs.Prefix.{read_take}

-- The same clause.

pub and_both : (a b : Bool) → (a && b) ≡ true → (a ≡ true) × (b ≡ true)
and_both true b e = (refl, e)
and_both false b e = absurd (false≢true e)

pub both_and : {a b : Bool} → a ≡ true → b ≡ true → (a && b) ≡ true
both_and p q = ap₂ ◌&&◌ p q

flag_is : (a b : Bool) → same_flag a b ≡ true → a ≡ b
flag_is true b e = sym e
flag_is false true e = absurd (false≢true e)
flag_is false false e = refl

flag_self : (a : Bool) → same_flag a a ≡ true
flag_self true = refl
flag_self false = refl

want_is : (v w : Want) → same_want v w ≡ true → v ≡ w
want_is any any e = refl
want_is (exactly v) (exactly w) e = ap exactly (eqb-true v w e)
want_is (between l m) (between k n) e =
    let r = and_both (eqb l k) (eqb m n) e in
    ap₂ between (eqb-true l k r.0) (eqb-true m n r.1)
want_is any (exactly w) e = absurd (false≢true e)
want_is any (between k n) e = absurd (false≢true e)
want_is (exactly v) any e = absurd (false≢true e)
want_is (exactly v) (between k n) e = absurd (false≢true e)
want_is (between l m) any e = absurd (false≢true e)
want_is (between l m) (exactly w) e = absurd (false≢true e)

want_self : (v : Want) → same_want v v ≡ true
want_self any = refl
want_self (exactly v) = eq-eqb v v refl
want_self (between l m) = both_and (eq-eqb l l refl) (eq-eqb m m refl)

literal_is : (l m : Literal) → same_literal l m ≡ true → l ≡ m
literal_is (Positive g v o) (Positive h w p) e =
    let r = and_both (eqb g h) (same_want v w && same_flag o p) e in
    let s = and_both (same_want v w) (same_flag o p) r.1 in
    let x : g ≡ h = eqb-true g h r.0 in
    let y : v ≡ w = want_is v w s.0 in
    let z : o ≡ p = flag_is o p s.1 in
    λ i. Positive (x i) (y i) (z i)
literal_is (Negative g o) (Negative h p) e =
    let r = and_both (eqb g h) (same_flag o p) e in
    ap₂ Negative (eqb-true g h r.0) (flag_is o p r.1)
literal_is (Positive g v o) (Negative h p) e = absurd (false≢true e)
literal_is (Negative g o) (Positive h w p) e = absurd (false≢true e)

literal_self : (l : Literal) → same_literal l l ≡ true
literal_self (Positive g v o) = both_and (eq-eqb g g refl) (both_and (want_self v) (flag_self o))
literal_self (Negative g o) = both_and (eq-eqb g g refl) (flag_self o)

literals_are : (l m : List Literal) → same_literals l m ≡ true → l ≡ m
literals_are [] [] e = refl
literals_are (l ∷ ls) (m ∷ ms) e =
    let r = and_both (same_literal l m) (same_literals ls ms) e in
    ap₂ (λ (x : Literal) (xs : List Literal). x ∷ xs) (literal_is l m r.0) (literals_are ls ms r.1)
literals_are [] (m ∷ ms) e = absurd (false≢true e)
literals_are (l ∷ ls) [] e = absurd (false≢true e)

literals_self : (l : List Literal) → same_literals l l ≡ true
literals_self [] = refl
literals_self (l ∷ ls) = both_and (literal_self l) (literals_self ls)

clause_is : (c d : Clause) → same_clause c d ≡ true → c ≡ d
clause_is c d e =
    let r = and_both (eqb c.variant d.variant) _ e in
    let s = and_both (same_flag c.cannot_prove d.cannot_prove) _ r.1 in
    let t = and_both (same_flag c.outsized d.outsized) (same_literals c.literals d.literals) s.1 in
    let v : c.variant ≡ d.variant = eqb-true c.variant d.variant r.0 in
    let x : c.cannot_prove ≡ d.cannot_prove = flag_is c.cannot_prove d.cannot_prove s.0 in
    let y : c.outsized ≡ d.outsized = flag_is c.outsized d.outsized t.0 in
    let z : c.literals ≡ d.literals = literals_are c.literals d.literals t.1 in
    λ i. record { variant = v i; cannot_prove = x i; outsized = y i; literals = z i }

clause_self : (c : Clause) → same_clause c c ≡ true
clause_self c =
    both_and (eq-eqb c.variant c.variant refl)
    (both_and (flag_self c.cannot_prove) (both_and (flag_self c.outsized) (literals_self c.literals)))

pub same_clause_is : (c d : Clause) → (same_clause c d ≡ true → c ≡ d) × (c ≡ d → same_clause c d ≡ true)
same_clause_is c d = (clause_is c d, λ e. subst (λ (x : Clause). same_clause c x ≡ true) e (clause_self c))

-- One goal.

module _ (g : ℕ) where
  -- one more that is none of those before
  one_more : (before : List Clause) (c : Clause) → AllDiffer before → position (same_clause c) before ≡ none → AllDiffer (push before c)
  one_more before c apart e i j x y lt ex ey same = on (at_push before c i x ex) (at_push before c j y ey)
    where
      on : (get_elem? before i ≡ some x) ⊎ ((c ≡ x) × (i ≡ length before))
          → (get_elem? before j ≡ some y) ⊎ ((c ≡ y) × (j ≡ length before)) → ⊥
      on (inl p) (inl q) = apart i j x y lt p q same
      on (inl p) (inr q) =
          true≢false (sym ((same_clause_is c x).1 (q.0 ∙ sym same)) ∙ position_none (same_clause c) before e i x p)
      on (inr p) (inl q) = let z = place_under before j y q in let w = p.1 in omega arith
      on (inr p) (inr q) = let z = p.1 in let w = q.1 in omega arith

  pub behind_none : (before after : List Clause) → AllDiffer before → repeat_behind g before after ≡ none → AllDiffer (before ++ after)
  behind_none before [] apart e = subst AllDiffer (sym (append-nil before)) apart
  behind_none before (c ∷ after) apart e =
      on (λ k. behind_none (push before c) after (one_more before c apart k)) (position (same_clause c) before) refl e
    where
      on : (position (same_clause c) before ≡ none → repeat_behind g (push before c) after ≡ none → AllDiffer (push before c ++ after))
          → (o : Option ℕ) → position (same_clause c) before ≡ o → ◌≡◌ {A = Option Repeat} (elim o [
            | some i ↦ some (record { goal = g; clause = length before; earlier = i })
            | none ↦ repeat_behind g (push before c) after
          ]) none → AllDiffer (before ++ (c ∷ after))
      on more (some i) k x = absurd (no_such (sym x))
      on more none k x =
          subst AllDiffer (append_assoc before (c ∷ []) after) (more k x)

  pub behind_some : (before after : List Clause) (r : Repeat) → repeat_behind g before after ≡ some r
      → (r.goal ≡ g) × RepeatIn (before ++ after) r
  behind_some before [] r e = absurd (no_such e)
  behind_some before (c ∷ after) r e = on (behind_some (push before c) after r) (position (same_clause c) before) refl e
    where
      on : (repeat_behind g (push before c) after ≡ some r → (r.goal ≡ g) × RepeatIn (push before c ++ after) r)
          → (o : Option ℕ) → position (same_clause c) before ≡ o → elim o [
            | some i ↦ some (record { goal = g; clause = length before; earlier = i })
            | none ↦ repeat_behind g (push before c) after
          ] ≡ some r → (r.goal ≡ g) × RepeatIn (before ++ (c ∷ after)) r
      on more (some i) k x =
          let p = position_at (same_clause c) before i k in
          let is : c ≡ p.0 = (same_clause_is c p.0).0 p.2 in
          subst (λ (z : Repeat). (z.goal ≡ g) × RepeatIn (before ++ (c ∷ after)) z) (same_some x) (
            refl,
            record {
              same = c;
              is_earlier = place_under before i p.0 p.1;
              stands = subst (λ (l : List Clause). get_elem? l (length before) ≡ some c) (append_assoc before (c ∷ []) after)
                  (at_append (push before c) after (length before) c (last_one before c));
              stood = at_append before (c ∷ after) i c (p.1 ∙ ap some (sym is));
            },
          )
      on more none k x =
          subst (λ (l : List Clause). (r.goal ≡ g) × RepeatIn l r) (append_assoc before (c ∷ []) after) (more x)

-- where no two are the same, none is found
never_twice : (cs : List Clause) (r : Repeat) → AllDiffer cs → RepeatIn cs r → ⊥
never_twice cs r apart x = apart r.earlier r.clause x.same x.same x.is_earlier x.stood x.stands refl

no_clauses : AllDiffer []
no_clauses i j c d lt e f same = no_such e

-- All goals.

pub from_none : (g : ℕ) (hs : List Goal) → repeat_from g hs ≡ none → NoRepeats hs
from_none g [] e = λ i h k. absurd (no_such k)
from_none g (h ∷ hs) e = on (from_none (suc g) hs) (repeat_behind g [] h.clauses) refl e
  where
    at : (rest : NoRepeats hs) → AllDiffer h.clauses → NoRepeats (h ∷ hs)
    at rest here zero x k = subst (λ (y : Goal). AllDiffer y.clauses) (same_some k) here
    at rest here (suc i) x k = rest i x k

    on : (repeat_from (suc g) hs ≡ none → NoRepeats hs) → (o : Option Repeat) → repeat_behind g [] h.clauses ≡ o
        → ◌≡◌ {A = Option Repeat} (elim o [ some r ↦ some r | none ↦ repeat_from (suc g) hs ]) none
        → NoRepeats (h ∷ hs)
    on more (some r) k x = absurd (no_such (sym x))
    on more none k x = at (more x) (behind_none g [] h.clauses no_clauses k)

-- a repeat of one of the goals from g on
record RepeatFrom (g : ℕ) (hs : List Goal) (r : Repeat) : Type 0 where
  at : ℕ
  counted : r.goal ≡ g + at
  own : Goal
  of_goal : get_elem? hs at ≡ some own
  twice : RepeatIn own.clauses r

from_some : (g : ℕ) (hs : List Goal) (r : Repeat) → repeat_from g hs ≡ some r → RepeatFrom g hs r
from_some g [] r e = absurd (no_such e)
from_some g (h ∷ hs) r e = on (from_some (suc g) hs r) (repeat_behind g [] h.clauses) refl e
  where
    on : (repeat_from (suc g) hs ≡ some r → RepeatFrom (suc g) hs r) → (o : Option Repeat) → repeat_behind g [] h.clauses ≡ o
        → elim o [ some r ↦ some r | none ↦ repeat_from (suc g) hs ] ≡ some r
        → RepeatFrom g (h ∷ hs) r
    on more (some s) k x =
        let p = behind_some g [] h.clauses r (k ∙ x) in
        let q = p.0 in
        record { at = 0; counted = omega arith; own = h; of_goal = refl; twice = p.1 }
    on more none k x =
        let p = more x in
        let q = p.counted in
        record { at = suc p.at; counted = omega arith; own = p.own; of_goal = p.of_goal; twice = p.twice }

-- a repeat that is found is one
pub repeat_is : (book : Book) (r : Repeat) → first_repeat book ≡ some r → RepeatAt book r
repeat_is book r e =
    let p = from_some 0 book r e in
    let q = p.counted in
    let z : p.at ≡ r.goal = omega arith in
    record { own = p.own; of_goal = subst (λ (i : ℕ). get_elem? book i ≡ some p.own) z p.of_goal; twice = p.twice }

pub none_found : (book : Book) → NoRepeats book → first_repeat book ≡ none
none_found book apart = on (first_repeat book) refl
  where
    on : (o : Option Repeat) → first_repeat book ≡ o → first_repeat book ≡ none
    on none k = k
    on (some r) k =
        let p = repeat_is book r k in
        absurd (never_twice p.own.clauses r (apart r.goal p.own p.of_goal) p.twice)

-- The desk.

-- by what `read` gave
pub desk_stops : (r : Refusable Book) (p : Repeat) → repeat_of r ≡ some p → at_desk r ≡ refused 36
desk_stops (refused n) p e = absurd (no_such e)
desk_stops (accepted book) p e = ap (λ (o : Option Repeat). unless (is_found o refuses 36 ∷ []) book) e

pub desk_passes : (r : Refusable Book) → repeat_of r ≡ none → at_desk r ≡ r
desk_passes (refused n) e = refl
desk_passes (accepted book) e = ap (λ (o : Option Repeat). unless (is_found o refuses 36 ∷ []) book) e

not_found : (o : Option Repeat) → is_found o ≡ false → o ≡ none
not_found none e = refl
not_found (some r) e = absurd (true≢false e)

pub desk_took : (r : Refusable Book) (book : Book) → at_desk r ≡ accepted book → (r ≡ accepted book) × NoRepeats book
desk_took (refused n) book e = absurd (not_accepted e)
desk_took (accepted b) book e =
    let a = all_pass (repeats b refuses 36 ∷ []) b book e in
    let apart : NoRepeats b = from_none 0 b (not_found (first_repeat b) a.0.0) in
    (ap accepted a.1, subst NoRepeats a.1 apart)

pub desk_reads : (bytes : List ℕ) (book : Book) → desk bytes ≡ accepted book → (read bytes ≡ accepted book) × NoRepeats book
desk_reads bytes book e = desk_took (read bytes) book e

pub desk_takes : (bytes : List ℕ) (book : Book) → read bytes ≡ accepted book → NoRepeats book → desk bytes ≡ accepted book
desk_takes bytes book e apart = ap at_desk e ∙ desk_passes (accepted book) (none_found book apart)

pub desk_refuses : (bytes : List ℕ) (book : Book) (r : Repeat) → read bytes ≡ accepted book → first_repeat book ≡ some r
    → (desk bytes ≡ refused 36) × RepeatAt book r
desk_refuses bytes book r e f = (ap at_desk e ∙ desk_stops (accepted book) r f, repeat_is book r f)

-- what `read` turns down the desk does, with the same number
pub desk_unread : (bytes : List ℕ) (n : ℕ) → read bytes ≡ refused n → desk bytes ≡ refused n
desk_unread bytes n e = ap at_desk e

-- how it takes a byte string is settled by as many bytes as how that is read
pub desk_take : (bytes : List ℕ) → desk (take read_ahead bytes) ≡ desk bytes
desk_take bytes = ap at_desk (read_take bytes)

-- a forest that is made at the desk is the one that is made of the bytes
pub made_as_read : (bytes : List ℕ) (limit : ℕ) (f : Forest) → make_at_desk bytes limit ≡ accepted f → make bytes limit ≡ accepted f
made_as_read bytes limit f e = on (desk bytes) refl e
  where
    on : (r : Refusable Book) → desk bytes ≡ r → make_of r limit ≡ accepted f → make bytes limit ≡ accepted f
    on (refused n) k x = absurd (not_accepted x)
    on (accepted book) k x = ap (λ (r : Refusable Book). make_of r limit) (desk_reads bytes book k).0 ∙ x

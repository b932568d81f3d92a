-- A mended paper is accepted by the desk, as the book without the clauses that go; an accepted paper is left as it is.
use Prim.Native.Nat.{ℕ, zero, suc}
use native.Mathlib.Omega.{arith}
use mathlib.Core.Path.{◌≡◌, refl, sym, ap, ap₂, subst, ◌∙◌}
use mathlib.Core.Bool.{Bool, true, false, not}
use mathlib.Core.Option.{Option, none, some}
use mathlib.Core.List.{List, [], ◌∷◌, ◌++◌, map, map-append}
use lib.ListN.{length, drop}
use Rattle.laws.proofs.Bools.{and_then, both_true}
use Rattle.laws.proofs.Options.{no_such}
use Rattle.laws.specs.All.{All, end, more}
use Rattle.laws.proofs.All.{all_append}
use Rattle.definitions.specs.Refusal.{Refusable, refused, accepted, ◌refuses◌, unless}
use Rattle.definitions.specs.Lists.{push, position}
use Rattle.definitions.specs.Book.{Clause, Goal, Book, with_clauses, literals_name, clauses_name, goals_name, read}
use Rattle.definitions.specs.Book.{Command, goal, clause, positive, ranged, negative, unknown, command, width}
use Rattle.definitions.specs.Book.{end as end_of_book}
use Rattle.definitions.specs.Mend.{read_loosely}
use Rattle.definitions.specs.Desk.{same_clause, Repeat, repeat_behind, repeat_from, at_desk, desk}
use Rattle.papers.specs.Mend.{repeated, reason, reasons_behind, reasons_of, reasons}
use Rattle.papers.specs.Mend.{kept_by, kept_behind, kept_goals, mended_book, Copying, has_none, at_clause, at_command}
use Rattle.papers.specs.Mend.{if_stays, copy, copied, reason_line, clause_lines, goal_lines, Mended, mended_from, mend}
use Rattle.definitions.proofs.Refusal.{not_accepted, same_accepted}
use Rattle.definitions.proofs.Desk.{desk_took, desk_passes, none_found}
use Rattle.definitions.proofs.Mend.{named, read_named}
use Rattle.definitions.proofs.ReadKeeps.{named_passed}
use Rattle.papers.proofs.MendBooks.{stay, staying}
use Rattle.papers.proofs.MendReads.{Along}
use Rattle.papers.proofs.MendCopies.{copies}

-- What a reason is.

no_reason : (n : ℕ) (before : List Clause) (c : Clause) → reason n before c ≡ none
    → (literals_name n c.literals ≡ true) × (position (same_clause c) before ≡ none)
no_reason n before c e = on (literals_name n c.literals) (position (same_clause c) before) e
  where
    on : (b : Bool) (o : Option ℕ) → ◌≡◌ {A = Option ℕ} (elim b [ false ↦ some 6 | true ↦ repeated o ]) none → (b ≡ true) × (o ≡ none)
    on true none e = (refl, refl)
    on true (some i) e = absurd (no_such (sym e))
    on false o e = absurd (no_such (sym e))

reason_none : (n : ℕ) (before : List Clause) (c : Clause) → literals_name n c.literals ≡ true → position (same_clause c) before ≡ none
    → reason n before c ≡ none
reason_none n before c e f =
    ap (λ (b : Bool). elim b [ false ↦ some 6 | true ↦ repeated (position (same_clause c) before) ]) e ∙ ap repeated f

-- The clauses that stay, by flags and by reasons.

stay_reasons : (n : ℕ) (before cs : List Clause) (ks : List Bool)
    → stay (map has_none (reasons_behind n before cs) ++ ks) cs ≡ kept_behind n before cs
stay_reasons n before [] ks = refl
stay_reasons n before (c ∷ cs) ks = on (reason n before c) (stay_reasons n (push before c) cs ks)
  where
    on : (o : Option ℕ) → stay (map has_none (reasons_behind n (push before c) cs) ++ ks) cs ≡ kept_behind n (push before c) cs
        → stay (has_none o ∷ (map has_none (reasons_behind n (push before c) cs) ++ ks)) (c ∷ cs)
        ≡ kept_by o c (kept_behind n (push before c) cs)
    on none e = ap (λ (t : List Clause). c ∷ t) e
    on (some r) e = e

drop_reasons : (n : ℕ) (before cs : List Clause) (ks : List Bool) → drop (length cs) (map has_none (reasons_behind n before cs) ++ ks) ≡ ks
drop_reasons n before [] ks = refl
drop_reasons n before (c ∷ cs) ks = drop_reasons n (push before c) cs ks

pub staying_reasons : (n : ℕ) (hs : List Goal) → staying (map has_none (reasons_of n hs)) hs ≡ kept_goals n hs
staying_reasons n [] = refl
staying_reasons n (h ∷ hs) =
    let rs = reasons_behind n [] h.clauses in
    let ks = map has_none (reasons_of n hs) in
    ap (λ (l : List Bool). with_clauses h (stay l h.clauses) ∷ staying (drop (length h.clauses) l) hs)
    (map-append has_none rs (reasons_of n hs))
    ∙ ap₂ (λ (cs : List Clause) (l : List Bool). with_clauses h cs ∷ staying l hs) (stay_reasons n [] h.clauses ks)
    (drop_reasons n [] h.clauses ks)
    ∙ ap (λ (t : Book). with_clauses h (kept_behind n [] h.clauses) ∷ t) (staying_reasons n hs)

kept_length : (n : ℕ) (hs : List Goal) → length (kept_goals n hs) ≡ length hs
kept_length n [] = refl
kept_length n (h ∷ hs) = ap suc (kept_length n hs)

-- What stays names goals.

kept_named : (n : ℕ) (before cs : List Clause) → clauses_name n (kept_behind n before cs) ≡ true
kept_named n before [] = refl
kept_named n before (c ∷ cs) = on (reason n before c) refl (kept_named n (push before c) cs)
  where
    on : (o : Option ℕ) → reason n before c ≡ o → clauses_name n (kept_behind n (push before c) cs) ≡ true
        → clauses_name n (kept_by o c (kept_behind n (push before c) cs)) ≡ true
    on none e k = ap₂ and_then (no_reason n before c e).0 k
    on (some r) e k = k

goals_kept_named : (n : ℕ) (hs : List Goal) → goals_name n (kept_goals n hs) ≡ true
goals_kept_named n [] = refl
goals_kept_named n (h ∷ hs) = ap₂ and_then (kept_named n [] h.clauses) (goals_kept_named n hs)

-- What stays has no clause twice.

abbrev Fewer : (Some-of all_of : List Clause) → Type 0
Fewer ds cs = (test : Clause → Bool) → position test cs ≡ none → position test ds ≡ none

module _ (test : Clause → Bool) where
  none_push : (l : List Clause) (a : Clause) → position test (push l a) ≡ none → (position test l ≡ none) × (test a ≡ false)
  none_push [] a e = on (test a) e
    where
      on : (b : Bool) → ◌≡◌ {A = Option ℕ} (elim b [ true ↦ some 0 | false ↦ none ]) none → (◌≡◌ {A = Option ℕ} none none) × (b ≡ false)
      on true e = absurd (no_such (sym e))
      on false e = (refl, refl)
  none_push (b ∷ l) a e = on (test b) (position test (push l a)) refl e (none_push l a)
    where
      on : (c : Bool) (o : Option ℕ) → position test (push l a) ≡ o
          → ◌≡◌ {A = Option ℕ} (elim c [ true ↦ some 0 | false ↦ elim o [ none ↦ none | some i ↦ some (suc i) ] ]) none
          → (position test (push l a) ≡ none → (position test l ≡ none) × (test a ≡ false))
          → (◌≡◌ {A = Option ℕ} (elim c [ true ↦ some 0 | false ↦ elim (position test l) [ none ↦ none | some i ↦ some (suc i) ] ]) none)
          × (test a ≡ false)
      on true o z e f = absurd (no_such (sym e))
      on false (some i) z e f = absurd (no_such (sym e))
      on false none z e f = (ap (λ (o : Option ℕ). elim o [ none ↦ none | some i ↦ some (suc i) ]) (f z).0, (f z).1)

  push_none : (l : List Clause) (a : Clause) → position test l ≡ none → test a ≡ false → position test (push l a) ≡ none
  push_none [] a e f = ap (λ (b : Bool). elim b [ true ↦ some 0 | false ↦ none ]) f
  push_none (b ∷ l) a e f = on (test b) (position test l) refl e (λ z. push_none l a z f)
    where
      on : (c : Bool) (o : Option ℕ) → position test l ≡ o
          → ◌≡◌ {A = Option ℕ} (elim c [ true ↦ some 0 | false ↦ elim o [ none ↦ none | some i ↦ some (suc i) ] ]) none
          → (position test l ≡ none → position test (push l a) ≡ none)
          → ◌≡◌ {A = Option ℕ}
          (elim c [ true ↦ some 0 | false ↦ elim (position test (push l a)) [ none ↦ none | some i ↦ some (suc i) ] ]) none
      on true o z e f = absurd (no_such (sym e))
      on false (some i) z e f = absurd (no_such (sym e))
      on false none z e f = ap (λ (o : Option ℕ). elim o [ none ↦ none | some i ↦ some (suc i) ]) (f z)

kept_once : (g n : ℕ) (before stayed cs : List Clause) → Fewer stayed before → repeat_behind g stayed (kept_behind n before cs) ≡ none
kept_once g n before stayed [] f = refl
kept_once g n before stayed (c ∷ cs) f = on (reason n before c) refl (λ ds. kept_once g n (push before c) ds cs)
  where
    on : (o : Option ℕ) → reason n before c ≡ o
        → ((ds : List Clause) → Fewer ds (push before c) → repeat_behind g ds (kept_behind n (push before c) cs) ≡ none)
        → repeat_behind g stayed (kept_by o c (kept_behind n (push before c) cs)) ≡ none
    on none e k =
        ap (λ (o : Option ℕ). elim o [
          | some i ↦ some (record { goal = g; clause = length stayed; earlier = i })
          | none ↦ repeat_behind g (push stayed c) (kept_behind n (push before c) cs)
        ]) (f (same_clause c) (no_reason n before c e).1)
        ∙ k (push stayed c) (λ test z. let p = none_push test before c z in push_none test stayed c (f test p.0) p.1)
    on (some r) e k = k stayed (λ test z. f test (none_push test before c z).0)

goals_kept_once : (g n : ℕ) (hs : List Goal) → repeat_from g (kept_goals n hs) ≡ none
goals_kept_once g n [] = refl
goals_kept_once g n (h ∷ hs) =
    ap (λ (o : Option Repeat). elim o [ some r ↦ some r | none ↦ repeat_from (suc g) (kept_goals n hs) ])
    (kept_once g n [] [] h.clauses (λ test z. z))
    ∙ goals_kept_once (suc g) n hs

-- THE THEOREMS.

loose_copied : (bytes : List ℕ) (book : Book) → read_loosely bytes ≡ accepted book
    → read_loosely (copied bytes (reasons book)) ≡ accepted (mended_book book)
loose_copied bytes book e =
    let first : Along (map has_none (reasons book)) [] (record { stays = true; last_stays = true; to_come = reasons book })
    = record { coming = refl; last = λ i h. absurd (omega arith) } in
    copies (map has_none (reasons book)) bytes book 0 (record { stays = true; last_stays = true; to_come = reasons book }) [] first e
    ∙ ap accepted (staying_reasons (length book) book)

-- the result is accepted by the desk, as the book without the clauses that go
pub mended_accepted : (bytes : List ℕ) (book : Book) → read_loosely bytes ≡ accepted book
    → desk (copied bytes (reasons book)) ≡ accepted (mended_book book)
mended_accepted bytes book e =
    let b = mended_book book in
    let names : goals_name (length b) b ≡ true
    = ap (λ (n : ℕ). goals_name n b) (kept_length (length book) book) ∙ goals_kept_named (length book) book in
    let taken : read (copied bytes (reasons book)) ≡ accepted b
    = read_named (copied bytes (reasons book)) 0 [] ∙ ap named (loose_copied bytes book e)
    ∙ ap (λ (c : Bool). unless (not c refuses 6 ∷ []) b) names in
    ap at_desk taken ∙ desk_passes (accepted b) (goals_kept_once 0 (length book) book)

-- A paper that has no such clause.

abbrev NoReason : List (Option ℕ) → Type 0
NoReason rs = All (λ (r : Option ℕ). r ≡ none) rs

-- these bytes are copied as they are
abbrev Whole : List ℕ → Type 0
Whole bs = (skip : ℕ) (c : Copying) → c.stays ≡ true → c.last_stays ≡ true → NoReason c.to_come → copy bs skip c ≡ bs

copy_whole : (bs : List ℕ) → Whole bs
copy_whole [] skip c s l x = refl
copy_whole (b ∷ bs) (suc skip) c s l x =
    ap (λ (t : Bool). if_stays t b (copy bs skip c)) s ∙ ap (λ (t : List ℕ). b ∷ t) (copy_whole bs skip c s l x)
copy_whole (b ∷ bs) zero c s l x = on (command b) (copy_whole bs)
  where
    clause_on : (rs : List (Option ℕ)) → NoReason rs → Whole bs
        → if_stays (at_clause rs).stays b (copy bs 3 (at_clause rs)) ≡ b ∷ bs
    clause_on [] y ih = ap (λ (t : List ℕ). b ∷ t) (ih 3 (at_clause []) refl refl end)
    clause_on (r ∷ rs) (more e y) ih =
        let d = at_clause (r ∷ rs) in
        let k : has_none r ≡ true = ap has_none e in
        ap (λ (t : Bool). if_stays t b (copy bs 3 d)) k ∙ ap (λ (t : List ℕ). b ∷ t) (ih 3 d k k y)

    as_whole : (m : Command) → (at_command m c).stays ≡ true → (at_command m c).last_stays ≡ true → NoReason (at_command m c).to_come
        → Whole bs → if_stays (at_command m c).stays b (copy bs (width m) (at_command m c)) ≡ b ∷ bs
    as_whole m s l x ih =
        ap (λ (t : Bool). if_stays t b (copy bs (width m) (at_command m c))) s
        ∙ ap (λ (t : List ℕ). b ∷ t) (ih (width m) (at_command m c) s l x)

    on : (m : Command) → Whole bs → if_stays (at_command m c).stays b (copy bs (width m) (at_command m c)) ≡ b ∷ bs
    on goal ih = as_whole goal refl l x ih
    on clause ih = clause_on c.to_come x ih
    on positive ih = as_whole positive l l x ih
    on ranged ih = as_whole ranged l l x ih
    on negative ih = as_whole negative l l x ih
    on end_of_book ih = as_whole end_of_book refl l x ih
    on unknown ih = as_whole unknown refl l x ih

no_clause_line : (g i : ℕ) (rs : List (Option ℕ)) → NoReason rs → clause_lines g i rs ≡ []
no_clause_line g i [] x = refl
no_clause_line g i (r ∷ rs) (more e x) = ap₂ (λ (a b : List ℕ). a ++ b) (ap (reason_line g i) e) (no_clause_line g (suc i) rs x)

no_reasons_behind : (g n : ℕ) (before cs : List Clause) → clauses_name n cs ≡ true → repeat_behind g before cs ≡ none
    → NoReason (reasons_behind n before cs)
no_reasons_behind g n before [] e f = end
no_reasons_behind g n before (c ∷ cs) e f =
    let p = both_true (literals_name n c.literals) (clauses_name n cs) e in
    let q = on (position (same_clause c) before) f in
    more (reason_none n before c p.0 q.0) (no_reasons_behind g n (push before c) cs p.1 q.1)
  where
    on : (o : Option ℕ) → ◌≡◌ {A = Option Repeat} (elim o [
      | some i ↦ some (record { goal = g; clause = length before; earlier = i })
      | none ↦ repeat_behind g (push before c) cs
    ]) none → (o ≡ none) × (repeat_behind g (push before c) cs ≡ none)
    on none f = (refl, f)
    on (some i) f = absurd (no_such (sym f))

no_reasons_of : (g n : ℕ) (hs : List Goal) → goals_name n hs ≡ true → repeat_from g hs ≡ none
    → NoReason (reasons_of n hs) × (goal_lines n g hs ≡ [])
no_reasons_of g n [] e f = (end, refl)
no_reasons_of g n (h ∷ hs) e f =
    let p = both_true (clauses_name n h.clauses) (goals_name n hs) e in
    let q = on (repeat_behind g [] h.clauses) f in
    let r = no_reasons_behind g n [] h.clauses p.0 q.0 in
    let s = no_reasons_of (suc g) n hs p.1 q.1 in
    (all_append r s.0, ap₂ (λ (a b : List ℕ). a ++ b) (no_clause_line g 0 (reasons_behind n [] h.clauses) r) s.1)
  where
    on : (o : Option Repeat) → ◌≡◌ {A = Option Repeat} (elim o [ some r ↦ some r | none ↦ repeat_from (suc g) hs ]) none
        → (o ≡ none) × (repeat_from (suc g) hs ≡ none)
    on none f = (refl, f)
    on (some r) f = absurd (no_such (sym f))

-- an accepted book comes out as it was, with no line
pub mended_same : (bytes : List ℕ) (book : Book) → desk bytes ≡ accepted book → mend bytes ≡ accepted (record { bytes = bytes; lines = [] })
mended_same bytes book e =
    let d = desk_took (read bytes) book e in
    let l = named_passed (read_loosely bytes) book (sym (read_named bytes 0 []) ∙ d.0) in
    let n = no_reasons_of 0 (length book) book l.1 (none_found book d.1) in
    ap (mended_from bytes) l.0
    ∙ ap₂ (λ (a b : List ℕ). accepted (record { bytes = a; lines = b }))
    (copy_whole bytes 0 (record { stays = true; last_stays = true; to_come = reasons book }) refl refl n.0) n.1

-- mending twice is mending once
pub mended_twice : (bytes : List ℕ) (m : Mended) → mend bytes ≡ accepted m
    → mend m.bytes ≡ accepted (record { bytes = m.bytes; lines = [] })
mended_twice bytes m e = on (read_loosely bytes) refl e
  where
    on : (r : Refusable Book) → read_loosely bytes ≡ r → mended_from bytes r ≡ accepted m
        → mend m.bytes ≡ accepted (record { bytes = m.bytes; lines = [] })
    on (refused n) k f = absurd (not_accepted f)
    on (accepted book) k f =
        subst (λ (x : Mended). mend x.bytes ≡ accepted (record { bytes = x.bytes; lines = [] })) (same_accepted f)
        (mended_same (copied bytes (reasons book)) (mended_book book) (mended_accepted bytes book k))

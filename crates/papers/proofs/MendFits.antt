-- A mended paper is no longer than the paper was, and its lines are few and short: how long both can get (`mend_fits`, at the end).
-- Assumes nothing.
use Prim.Native.Nat.{ℕ, zero, suc, ◌+◌, ◌*◌, ◌≤◌, ◌<◌}
use native.Mathlib.Omega.{arith}
use mathlib.Core.Path.{◌≡◌, refl, sym, subst}
use mathlib.Core.Bool.{Bool, true, false}
use mathlib.Core.Option.{Option, none, some}
use mathlib.Core.List.{List, [], ◌∷◌, ◌++◌}
use lib.ListN.{length, length-append}
use Rattle.definitions.specs.Refusal.{Refusable, refused, accepted}
use Rattle.definitions.specs.Lists.{push, position}
use Rattle.definitions.specs.Book.{Clause, Goal, Book, clause_count, literals_name, command, width}
use Rattle.definitions.specs.Mend.{read_loosely}
use Rattle.definitions.specs.Desk.{same_clause, desk}
use Rattle.definitions.specs.Text.{decimal}
use Rattle.definitions.proofs.Refusal.{not_accepted, same_accepted, same_refused}
use Rattle.definitions.proofs.ReadLimits.{loosely_small}
use Rattle.papers.specs.Mend.{repeated, reason, reasons_behind, reasons, Copying}
use Rattle.papers.specs.Mend.{at_command, if_stays, copy, reason_line, clause_lines, goal_lines, Mended, mended_from, mend}
use Rattle.papers.proofs.Digits.{decimal_short}
use Rattle.papers.proofs.DeskNumbers.{Below, by_number, desk_below}
use Rattle.papers.proofs.MendRefused.{mend_refused, loose_short}

-- The copy is no longer than the bytes.

stays_short : (s : Bool) (b n : ℕ) (l : List ℕ) → length l ≤ n → length (if_stays s b l) ≤ suc n
stays_short true b n l h = omega arith
stays_short false b n l h = omega arith

copy_short : (bs : List ℕ) (skip : ℕ) (c : Copying) → length (copy bs skip c) ≤ length bs
copy_short [] skip c = omega arith
copy_short (b ∷ bs) (suc skip) c = stays_short c.stays b (length bs) (copy bs skip c) (copy_short bs skip c)
copy_short (b ∷ bs) zero c =
    let d = at_command (command b) c in
    stays_short d.stays b (length bs) (copy bs (width (command b)) d) (copy_short bs (width (command b)) d)

-- The lines: each has a goal of at most two digits, a clause of at most three, a reason of at most two, two spaces and a line's end.

line_short : (g i r : ℕ) → g < 100 → i < 1000 → r < 100 → length (reason_line g i (some r)) ≤ 10
line_short g i r a b c =
    omega (
      arith,
      decimal_short 1 g a,
      decimal_short 2 i b,
      decimal_short 1 r c,
      length-append (decimal g) (32 ∷ (decimal i ++ (32 ∷ (decimal r ++ (10 ∷ []))))),
      length-append (decimal i) (32 ∷ (decimal r ++ (10 ∷ []))),
      length-append (decimal r) (10 ∷ []),
    )

reason_short : (n g i : ℕ) (before : List Clause) (c : Clause) → g < 100 → i < 1000 → length (reason_line g i (reason n before c)) ≤ 10
reason_short n g i before c h k = on (literals_name n c.literals) (position (same_clause c) before)
  where
    on : (b : Bool) (o : Option ℕ) → length (reason_line g i (elim b [ false ↦ some 6 | true ↦ repeated o ])) ≤ 10
    on false o = line_short g i 6 h k (omega arith)
    on true none = omega arith
    on true (some j) = line_short g i 36 h k (omega arith)

clauses_short : (n g i : ℕ) (before cs : List Clause) → g < 100 → i + length cs ≤ 1000
    → length (clause_lines g i (reasons_behind n before cs)) ≤ 10 * length cs
clauses_short n g i before [] h k = omega arith
clauses_short n g i before (c ∷ cs) h k =
    omega (
      arith,
      reason_short n g i before c h (omega arith),
      clauses_short n g (suc i) (push before c) cs h (omega arith),
      length-append (reason_line g i (reason n before c)) (clause_lines g (suc i) (reasons_behind n (push before c) cs)),
    )

goals_short : (n g : ℕ) (hs : List Goal) → g + length hs ≤ 100 → clause_count hs ≤ 1000
    → length (goal_lines n g hs) ≤ 10 * clause_count hs
goals_short n g [] h k = omega arith
goals_short n g (x ∷ hs) h k =
    omega (
      arith,
      clauses_short n g 0 [] x.clauses (omega arith) (omega arith),
      goals_short n (suc g) hs (omega arith) (omega arith),
      length-append (clause_lines g 0 (reasons_behind n [] x.clauses)) (goal_lines n (suc g) hs),
    )

-- THE THEOREM: a buffer of 20,480 bytes has room for the book, and one of 2,560 for the lines.

pub mend_fits : (bytes : List ℕ) (m : Mended) → mend bytes ≡ accepted m → (length m.bytes ≤ 20480) × (length m.lines ≤ 2560)
mend_fits bytes m e = on (read_loosely bytes) refl e
  where
    on : (r : Refusable Book) → read_loosely bytes ≡ r → mended_from bytes r ≡ accepted m
        → (length m.bytes ≤ 20480) × (length m.lines ≤ 2560)
    on (refused n) k f = absurd (not_accepted f)
    on (accepted book) k f =
        let w = loosely_small bytes book k in
        let start : Copying = record { stays = true; last_stays = true; to_come = reasons book } in
        subst (λ (x : Mended). (length x.bytes ≤ 20480) × (length x.lines ≤ 2560)) (same_accepted f) (
          omega (arith, copy_short bytes 0 start, loose_short bytes 0 [] book k),
          omega (arith, w.few_clauses, goals_short (length book) 0 book (omega (arith, w.few_goals)) (omega (arith, w.few_clauses))),
        )

-- And the number of a refusal is below 37.

pub mend_number : (bytes : List ℕ) (n : ℕ) → mend bytes ≡ refused n → n < 37
mend_number bytes n e = on (desk bytes) (desk_below bytes) (mend_refused bytes n e).0
  where
    on : (r : Refusable Book) → Below r → r ≡ refused n → n < 37
    on (refused m) (by_number p h) k = omega (arith, same_refused k)
    on (accepted book) b k = absurd (not_accepted (sym k))

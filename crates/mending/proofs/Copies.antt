-- What the proofs of `copy` cite: each command goes or stays, and with it its operands. Assumes nothing.
use Prim.Native.Nat.{ℕ, suc, ◌+◌, ◌-◌, ◌<◌, ◌≤◌}
use Rattle.std.specs.Prelude.{Some, None, is_some}
use Rattle.std.specs.declared.option.Option as found
use native.Mathlib.Omega.{arith}
use mathlib.Core.Path.{◌≡◌, refl, sym, ap, ap₂, ◌∙◌}
use mathlib.Core.Bool.{Bool, true, false, not}
use mathlib.Core.Option.{Option}
use mathlib.Core.List.{List, [], ◌∷◌, ◌++◌}
use lib.ListN.{length, get_or, drop, drop_of_length-le}
use lib.Seq.{drop-cons}
use Rattle.laws.specs.Spans.{span}
use Rattle.laws.proofs.Spans.{span_left, span_done}
use Rattle.definitions.specs.Book.{Command, unknown, command, width}
use Rattle.papers.specs.Mend as said
use Rattle.papers.specs.Mend.{has_none, at_clause, at_other, at_literal, at_command, if_stays, copy}
use Rattle.book.specs.Faults.{marked}
use Rattle.book.proofs.Tests.{OfLiteral, of_positive, of_ranged, of_negative, of_literal, marked_unknown, marked_known}
use Rattle.pen.specs.Pen.{Pen, put_all}
use Rattle.pen.proofs.Putting.{put_left, put_ended}
use Rattle.mending.specs.declared.copy.Copying.{Copying}
use Rattle.mending.specs.declared.reasons.Reason.{Reason}
use Rattle.mending.specs.Reasons.{reason_seen, reason_at}
use Rattle.mending.specs.Copying.{copying, copy_on, Goes}

-- A clause command.

-- whether there is a reason
stays_seen : (r : found.Option Reason) (s : Bool) → is_some r ≡ not s → s ≡ has_none (reason_seen r)
stays_seen None true e = refl
stays_seen None false e = e
stays_seen (Some r) true e = e
stays_seen (Some r) false e = refl

-- the reasons from clause k on
abbrev from_clause : (reasons : List (found.Option Reason)) → (k : ℕ) → List (Option ℕ)
from_clause reasons k = span (reason_at reasons) k (256 - k)

module _ (reasons : List (found.Option Reason)) (c r : Copying) where
  pub clause_goes : (s : Bool) (k : ℕ) → k ≡ c.clauses → k < 256 → is_some (get_or reasons k None) ≡ not s → r.stays ≡ s
      → r.last_stays ≡ s → r.clauses ≡ k + 1 → copying reasons r ≡ at_clause (copying reasons c).to_come
  clause_goes s k e h q rs rl rc =
      let t : s ≡ has_none (reason_at reasons k) = stays_seen (get_or reasons k None) s q in
      let a = rs ∙ t in
      let b = rl ∙ t in
      let d = ap (from_clause reasons) rc in
      (λ i. record { stays = a i; last_stays = b i; to_come = d i })
      ∙ sym (ap at_clause (span_left (reason_at reasons) k 256 k h)) ∙ ap (λ (n : ℕ). at_clause (from_clause reasons n)) e

  pub clause_past : (k : ℕ) → k ≡ c.clauses → 256 ≤ k → r.stays ≡ true → r.last_stays ≡ true → r.clauses ≡ 256
      → copying reasons r ≡ at_clause (copying reasons c).to_come
  clause_past k e h rs rl rc =
      let d = ap (from_clause reasons) rc in
      (λ i. record { stays = rs i; last_stays = rl i; to_come = d i })
      ∙ sym (ap at_clause (span_done (reason_at reasons) k 256 k h)) ∙ ap (λ (n : ℕ). at_clause (from_clause reasons n)) e

-- Any command.

module _ (reasons : List (found.Option Reason)) (c r : Copying) (b w : ℕ) (wide : w ≡ marked (command b)) where
  pub unknown_goes : w ≡ 255 → r.skip ≡ 0 → ((cs : List (found.Option Reason)) → copying cs r ≡ at_other (copying cs c))
      → (r.skip ≡ width (command b)) × (copying reasons r ≡ at_command (command b) (copying reasons c))
  unknown_goes e z f =
      let m : command b ≡ unknown = marked_unknown (command b) (sym wide ∙ e) in
      (z ∙ sym (ap width m), f reasons ∙ sym (ap (λ (x : Command). at_command x (copying reasons c)) m))

  module _ (known : w ≡ 255 → ⊥) (skips : r.skip ≡ w) where
    wide_known : r.skip ≡ width (command b)
    wide_known = skips ∙ wide ∙ marked_known (command b) (λ e. known (wide ∙ e))

    pub clause_command : b ≡ 0x43 → copying reasons r ≡ at_clause (copying reasons c).to_come
        → (r.skip ≡ width (command b)) × (copying reasons r ≡ at_command (command b) (copying reasons c))
    clause_command e f = (wide_known, f ∙ sym (ap (λ (x : ℕ). at_command (command x) (copying reasons c)) e))

    -- a goal's, or the end
    pub other_command : at_command (command b) (copying reasons c) ≡ at_other (copying reasons c)
        → ((cs : List (found.Option Reason)) → copying cs r ≡ at_other (copying cs c))
        → (r.skip ≡ width (command b)) × (copying reasons r ≡ at_command (command b) (copying reasons c))
    other_command e f = (wide_known, f reasons ∙ sym e)

    pub literal_command : (b ≡ 0x47 → ⊥) → (b ≡ 0x43 → ⊥) → (b ≡ 0x45 → ⊥) → r.stays ≡ c.last_stays
        → r.last_stays ≡ c.last_stays → r.clauses ≡ c.clauses
        → (r.skip ≡ width (command b)) × (copying reasons r ≡ at_command (command b) (copying reasons c))
    literal_command ng nc ne rs rl rc = (wide_known, here ∙ on (of_literal b ng nc ne (λ e. known (wide ∙ ap marked e))))
      where
        here : copying reasons r ≡ at_literal (copying reasons c)
        here =
            let d = ap (from_clause reasons) rc in
            λ i. record { stays = rs i; last_stays = rl i; to_come = d i }

        at_it : (x : ℕ) → b ≡ x → at_command (command x) (copying reasons c) ≡ at_command (command b) (copying reasons c)
        at_it x e = sym (ap (λ (y : ℕ). at_command (command y) (copying reasons c)) e)

        on : OfLiteral b → at_literal (copying reasons c) ≡ at_command (command b) (copying reasons c)
        on (of_positive e) = at_it 0x50 e
        on (of_ranged e) = at_it 0x52 e
        on (of_negative e) = at_it 0x4E e

-- Any byte.

module _ (reasons : List (found.Option Reason)) (c r : Copying) (b : ℕ) where
  pub command_byte : c.skip ≡ 0 → r.skip ≡ width (command b) → copying reasons r ≡ at_command (command b) (copying reasons c)
      → Goes reasons c b r
  command_byte z w f bytes =
      ap (λ (n : ℕ). copy (b ∷ bytes) n (copying reasons c)) z
      ∙ ap₂ (λ (n : ℕ) (d : said.Copying). if_stays d.stays b (copy bytes n d)) (sym w) (sym f)

  pub operand_byte : (c.skip ≡ 0 → ⊥) → r.skip ≡ c.skip - 1 → r.stays ≡ c.stays → r.last_stays ≡ c.last_stays
      → r.clauses ≡ c.clauses → Goes reasons c b r
  operand_byte z w rs rl rc bytes =
      let more : c.skip ≡ suc (c.skip - 1) = omega arith in
      let d = ap (from_clause reasons) rc in
      let same : copying reasons r ≡ copying reasons c = λ i. record { stays = rs i; last_stays = rl i; to_come = d i } in
      ap (λ (n : ℕ). copy (b ∷ bytes) n (copying reasons c)) more
      ∙ ap₂ (λ (n : ℕ) (d : said.Copying). if_stays d.stays b (copy bytes n d)) (sym w) (sym same)

-- All bytes.

if_stays_append : (s : Bool) (b : ℕ) (rest : List ℕ) → if_stays s b [] ++ rest ≡ if_stays s b rest
if_stays_append true b rest = refl
if_stays_append false b rest = refl

module _ (reasons : List (found.Option Reason)) (bytes : List ℕ) (i : ℕ) (c : Copying) (p start : Pen) (all : List ℕ)
    (left : put_all (copy_on reasons c (drop i bytes)) p ≡ put_all all start) where
  pub copy_step : (b : ℕ) (d : Copying) (q : Pen) → i < length bytes → b ≡ get_or bytes i 0 → Goes reasons c b d
      → q ≡ put_all (if_stays d.stays b []) p → put_all (copy_on reasons d (drop (i + 1) bytes)) q ≡ put_all all start
  copy_step b d q h e goes f =
      let one : i + 1 ≡ suc i = omega arith in
      let rest = copy_on reasons d (drop (suc i) bytes) in
      ap (λ (n : ℕ). put_all (copy_on reasons d (drop n bytes)) q) one
      ∙ put_left (if_stays d.stays b []) rest p q f
      ∙ ap (λ (x : List ℕ). put_all x p) (if_stays_append d.stays b rest ∙ sym (goes (drop (suc i) bytes)))
      ∙ ap (λ (x : ℕ). put_all (copy_on reasons c (x ∷ drop (suc i) bytes)) p) e
      ∙ sym (ap (λ (x : List ℕ). put_all (copy_on reasons c x) p) (drop-cons bytes i 0 h)) ∙ left

  pub copy_done : length bytes ≤ i → p ≡ put_all all start
  copy_done h =
      put_ended (copy_on reasons c (drop i bytes)) all start p (ap (copy_on reasons c) (drop_of_length-le bytes {i = i} h)) left

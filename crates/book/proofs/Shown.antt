-- A clause as it is read from a book's arrays is the one that the book shows, as long as its literals name goals that a byte can hold.
use Prim.Native.Nat.{ℕ, ◌+◌, ◌*◌, ◌≤◌, ◌<◌}
use native.Mathlib.Omega.{arith}
use mathlib.Core.Path.{◌≡◌, ap, ◌∙◌}
use mathlib.Core.Bool.{true}
use lib.ListN.{get_or}
use Rattle.laws.specs.Spans.{span}
use Rattle.laws.proofs.Spans.{span_moved}
use Rattle.definitions.specs.Book as said
use Rattle.definitions.specs.Book.{literals_name, bit0, bit1}
use Rattle.book.specs.declared.Book.{Book}
use Rattle.book.specs.Access.{entry, literal_read}
use Rattle.book.specs.View.{meant, literal_viewed, clause_viewed, Formed, Sound}
use Rattle.book.specs.Repeats.{lent_by, clause_read}
use Rattle.book.proofs.Looks.{entry_in, literal_shown, clause_names}

pub formed_shown : (b : Book) → Formed b → (n c : ℕ) → n ≤ 64 → c < b.clauses → literals_name n (clause_viewed b c).literals ≡ true
    → clause_read (lent_by b) c ≡ clause_viewed b c
formed_shown b f n c small h names =
    let v = entry_in 256 b.clause_variant c inside in
    let w = entry_in 256 b.clause_flags c inside in
    λ i. record { variant = v i; cannot_prove = bit0 (w i); outsized = bit1 (w i); literals = all i }
  where
    inside : c < 256
    inside = omega (arith, h, f.few_clauses)

    count : ℕ
    count = get_or b.clause_len c 0

    read_at : ℕ → said.Literal
    read_at j = meant (literal_read b.literal_kind b.literal_goal b.literal_want c j)

    one : (j : ℕ) → j < count → read_at (0 + j) ≡ literal_viewed b (8 * c + j)
    one j l =
        let z : 0 + j ≡ j = omega arith in
        ap read_at z ∙ literal_shown b n c small inside (f.few_literals c) names j l

    all : span read_at 0 (entry 256 b.clause_len c) ≡ span (literal_viewed b) (8 * c) count
    all =
        ap (λ (m : ℕ). span read_at 0 m) (entry_in 256 b.clause_len c inside)
        ∙ span_moved read_at (literal_viewed b) 0 (8 * c) count one

pub sound_formed : (b : Book) → Sound b → Formed b
sound_formed b s = record {
  full = s.full;
  ranged = s.ranged;
  few_goals = s.few_goals;
  few_clauses = s.few_clauses;
  few_literals = s.few_literals;
  tiles = s.tiles;
}

-- of a sound book each clause is
pub clause_shown : (b : Book) → Sound b → (c : ℕ) → c < b.clauses → clause_read (lent_by b) c ≡ clause_viewed b c
clause_shown b s c h = formed_shown b (sound_formed b s) b.goals c s.few_goals h (clause_names b s c h)

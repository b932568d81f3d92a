-- The ways out of `read`, over variables: what was read without the test for 6 is tested for it.
use Prim.Native.Nat.{ℕ, ◌≤◌, ◌<◌}
use mathlib.Core.Path.{◌≡◌, sym, ap, ◌∙◌}
use mathlib.Core.Bool.{Bool, true, false, not}
use mathlib.Core.List.{List, [], ◌∷◌}
use lib.ListN.{length}
use lib.Dec.{leb}
use Rattle.std.proofs.Common.{Ok, Err}
use borrow.Author.Tests.{le-leb, lt-leb}
use Rattle.definitions.specs.Refusal.{◌refuses◌, unless}
use Rattle.definitions.specs.Book as said
use Rattle.definitions.specs.Book.{goals_name}
use Rattle.definitions.proofs.Mend.{named, read_named}
use Rattle.book.specs.declared.reader.Named.{Named}
use Rattle.book.specs.declared.refusal.Refusal.{Refusal}
use Rattle.book.specs.declared.refusal.Refusal.TheVariants.{NoSuchGoal}
use Rattle.book.specs.View.{view, Read}
use Rattle.book.specs.Naming.{ReadNamed}
use Rattle.book.proofs.Held.{goals_counted}

-- refused for another reason
pub was_refused : (bytes : List ℕ) (e : Refusal) → ReadNamed bytes (Err e) → Read bytes (Err e)
was_refused bytes e h = record {
  means = ap named h.reads.means ∙ sym (read_named bytes 0 []);
  sound = tt;
}

module _ (bytes : List ℕ) (m : Named) (h : ReadNamed bytes (Ok m)) where
  -- the test for 6 is the count's
  tested : (t : Bool) → leb m.named m.book.goals ≡ t → said.read bytes ≡ unless (not t refuses 6 ∷ []) (view m.book)
  tested t e =
      let b = view m.book in
      let g : goals_name (length b) b ≡ t =
      h.naming (length b) ∙ ap (leb m.named) (goals_counted m.book) ∙ e in
      read_named bytes 0 [] ∙ ap named (sym h.reads.means) ∙ ap (λ (t : Bool). unless (not t refuses 6 ∷ []) b) g

  pub names_no_goal : m.book.goals < m.named → Read bytes (Err NoSuchGoal)
  names_no_goal over = record {
    means = sym (tested false (lt-leb m.named m.book.goals over));
    sound = tt;
  }

  pub names_goals : m.named ≤ m.book.goals → Read bytes (Ok m.book)
  names_goals under =
      let f = h.reads.formed in
      let all : leb m.named m.book.goals ≡ true = le-leb m.named m.book.goals under in
      record {
        means = sym (tested true all);
        sound = record {
          full = f.full;
          ranged = f.ranged;
          few_goals = f.few_goals;
          few_clauses = f.few_clauses;
          few_literals = f.few_literals;
          tiles = f.tiles;
          named = h.naming m.book.goals ∙ all;
        };
      }

-- Clearing after a cycle: the definitions' recursion over waiting tables takes the queues that the machine's work list takes.
use Prim.Native.Nat.{ℕ, zero, suc, ◌+◌, ◌≤◌, min}
use native.Mathlib.Omega.{arith}
use mathlib.Core.Path.{◌≡◌, refl}
use mathlib.Core.Option.{some}
use mathlib.Core.List.{List, [], ◌++◌}
use lib.ListN.{length, set}
use Rattle.definitions.specs.Book.{Book}
use Rattle.definitions.specs.Stop.{Stops, go}
use Rattle.definitions.specs.Lists.{total}
use Rattle.definitions.specs.Strand.{Strand}
use Rattle.definitions.specs.Tables.{Tables, Forest}
use Rattle.definitions.specs.Turn.{clear_each, clear_strands_after_cycle}
use Rattle.laws.proofs.Options.{no_such}
use Rattle.laws.proofs.Totals.{total_set}
use Rattle.promises.proofs.Plain.Model.{literal_goal}
use Rattle.promises.proofs.Plain.Machine as M
use Rattle.promises.proofs.Link.View.{free, bound, QueueIs, q_end, q_more, table_of}
use Rattle.promises.proofs.Link.Tables.{forest_of, Agree}
use Rattle.promises.proofs.Link.Back.{table_here, queue_set}

abbrev pub strands_in : Tables → ℕ
strands_in ts = total (λ t. length t.strands) ts

-- the forest with some queues taken; the machine goes on with the rest of its list
pub record Cleared (book : Book) (limit mark c : ℕ) (gs : List ℕ) (p : M.Forest) (ts : Tables) (result : Stops Forest)
    (rest : List M.Strand) (q' : M.Queues) : Type 0 where
  pub after : Tables
  pub is : result ≡ go (forest_of book limit mark after c)
  pub queues : M.Queues
  pub agree : Agree book gs after (M.with_queue p queues)
  pub fewer : strands_in after ≤ strands_in ts
  pub fuel : ℕ
  pub onward : M.clear fuel rest queues ≡ some q'

module _ (book : Book) (limit mark c : ℕ) (gs : List ℕ) (p : M.Forest) where
  abbrev Clears : (room : ℕ) → (List Strand → Forest → Stops Forest) → Type 0
  Clears room clear = (ss : List Strand) (qs : List M.Strand) → QueueIs (length book) gs ss qs → (ts : Tables) (q : M.Queues)
      → Agree book gs ts (M.with_queue p q) → min 1 (length ss) + strands_in ts ≤ room
      → (n : ℕ) (rest : List M.Strand) (q' : M.Queues) → M.clear n (qs ++ rest) q ≡ some q'
      → Cleared book limit mark c gs p ts (clear ss (forest_of book limit mark ts c)) rest q'

  each_clears : (d : ℕ) (clear : List Strand → Forest → Stops Forest) → Clears d clear → Clears (suc d) (clear_each clear)
  each_clears d clear h ss qs q_end ts q a o n rest q' e = record {
    after = ts;
    is = refl;
    queues = q;
    agree = a;
    fewer = omega arith;
    fuel = n;
    onward = e;
  }
  each_clears d clear h ss qs (q_more (free t b k w) xs) ts q a o zero rest q' e = absurd (no_such e)
  each_clears d clear h ss qs (q_more (free t b k w) xs) ts q a o (suc n) rest q' e = absurd (no_such e)
  each_clears d clear h ss qs (q_more (bound t l b k j w at) xs) ts q a o zero rest q' e = absurd (no_such e)
  each_clears d clear h ss qs (q_more {ss = ss'} {ms = ms} (bound t l b k j w at) xs) ts q a o (suc n) rest q' e =
      let u = literal_goal l in
      let here = table_here a j u at in
      let emptied = table_of u (p.answered u) (p.first u) [] in
      let ts' = set ts j emptied in
      let fall = total_set (λ t. length t.strands) ts j (table_of u (p.answered u) (p.first u) here.waiting) emptied here.is in
      let first = h here.waiting (q u) here.queue ts' (M.put q u []) (queue_set a j u at [] [] q_end) (omega arith) n (ms ++ rest) q'
      e in
      let less = first.fewer in
      let next = each_clears d clear h ss' ms xs first.after first.queues first.agree (omega arith) first.fuel rest q'
      first.onward in
      let less' = next.fewer in
      record {
        after = next.after;
        is = rw here.is (rw first.is next.is);
        queues = next.queues;
        agree = next.agree;
        fewer = omega arith;
        fuel = next.fuel;
        onward = next.onward;
      }

  pub clears : (d : ℕ) → Clears d (clear_strands_after_cycle d)
  clears zero ss qs q_end ts q a o n rest q' e = record {
    after = ts;
    is = refl;
    queues = q;
    agree = a;
    fewer = omega arith;
    fuel = n;
    onward = e;
  }
  clears zero ss qs (q_more x xs) ts q a o n rest q' e = absurd (omega arith)
  clears (suc d) ss qs x ts q a o n rest q' e = each_clears d (clear_strands_after_cycle d) (clears d) ss qs x ts q a o n rest q' e

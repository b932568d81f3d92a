-- The strands and answers that the definitions count, against the machine's sums over all goals.
use Prim.Native.Nat.{ℕ, suc, ◌+◌, ◌≤◌, ◌<◌}
use native.Mathlib.Omega.{arith}
use native.Mathlib.Decide.{ℕ_discrete}
use mathlib.Core.Path.{◌≡◌, refl, ap}
use mathlib.Core.Bool.{Bool, true, false}
use mathlib.Core.Option.{Option, none, some}
use mathlib.Core.List.{List, []}
use lib.ListN.{length}
use Rattle.definitions.specs.Book.{Book}
use Rattle.definitions.specs.Lists.{total}
use Rattle.definitions.specs.Strand.{Strand}
use Rattle.definitions.specs.Table.{Table}
use Rattle.definitions.specs.Tables.{Tables, Forest}
use Rattle.definitions.specs.Stack.{Stack, active}
use Rattle.laws.proofs.Distinct.{Under, sum_under}
use Rattle.laws.proofs.Sums.{sum, sum_drop}
use Rattle.promises.proofs.Plain.Machine as M
use Rattle.promises.proofs.Plain.Turns.{one, count, self_one}
use Rattle.promises.proofs.Link.View.{QueueIs, q_end, q_more, answers_of, TableIs, table_is, TablesAre, t_end, t_more, no_active}
use Rattle.promises.proofs.Link.View.{an_active, StackIs, s_end, s_more}
use Rattle.promises.proofs.Link.Tables.{Agree}

pub queue_length : {n : ℕ} {gs : List ℕ} {ss : List Strand} {ms : List M.Strand} → QueueIs n gs ss ms → length ss ≡ length ms
queue_length q_end = refl
queue_length (q_more x xs) = ap suc (queue_length xs)

strands_length : {n : ℕ} {gs : List ℕ} {g : ℕ} {a m : Bool} {q : List M.Strand} {t : Table} → TableIs n gs g a m q t
    → length t.strands ≡ length q
strands_length (table_is ss x) = queue_length x

answers_length : {n : ℕ} {gs : List ℕ} {g : ℕ} {a m : Bool} {q : List M.Strand} {t : Table} → TableIs n gs g a m q t
    → length t.answers ≤ 1
answers_length {a = a} (table_is ss x) = few a
  where
    few : (a : Bool) → length (answers_of a) ≤ 1
    few true = omega arith
    few false = omega arith

pub queued_is : {n : ℕ} {gs : List ℕ} {p : M.Forest} {hs : List ℕ} {ts : Tables} → TablesAre n gs p hs ts
    → total (λ t. length t.strands) ts ≡ total (λ g. length (p.queue g)) hs
queued_is t_end = refl
queued_is (t_more x xs) = let a = strands_length x in let b = queued_is xs in omega arith

pub held_few : {n : ℕ} {gs : List ℕ} {p : M.Forest} {hs : List ℕ} {ts : Tables} → TablesAre n gs p hs ts
    → total (λ t. length t.answers) ts ≤ length hs
held_few t_end = omega arith
held_few (t_more x xs) = let a = answers_length x in let b = held_few xs in omega arith

pub queued_under : {book : Book} {gs : List ℕ} {ts : Tables} {p : M.Forest} → Agree book gs ts p
    → total (λ t. length t.strands) ts ≤ sum (length book) (λ g. length (p.queue g))
queued_under {book} {gs} {ts} {p} a = let x = queued_is a.tables in
    let y = sum_under (length book) gs (λ g. length (p.queue g)) a.distinct a.within in omega arith

-- the active strands
one_under : (n g : ℕ) (b : Option M.Strand) (rest : ℕ → ℕ) (k : ℕ) → g < n → k ≤ one b (ℕ_discrete g g)
    → sum n rest + k ≤ sum n (λ u. one b (ℕ_discrete g u) + rest u)
one_under n g b rest k lt o = sum_drop n (λ u. one b (ℕ_discrete g u) + rest u) rest g k (λ u. omega arith) lt (omega arith)

pub active_under : {n : ℕ} {gs : List ℕ} {ds : Stack} {es : List M.Entry} → StackIs n gs ds es → Under n gs
    → active ds ≤ sum n (λ u. count es u)
active_under s_end u = omega arith
active_under {n} (s_more {es = es} i g c p r at no_active x) u =
    let y = active_under x u in let z = one_under n g none (count es) 0 (u i g at) (omega arith) in omega arith
active_under {n} (s_more {es = es} i g c p r at (an_active {m = m} s) x) u = let y = active_under x u in let w = self_one g in
    let z = one_under n g (some m) (count es) 1 (u i g at) (omega arith) in omega arith

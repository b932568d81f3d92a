-- The turn: on a plain state a turn of the definitions comes to what a turn of the machine comes to.
use Prim.Native.Nat.{ℕ, suc, ◌+◌, ◌*◌, ◌≤◌, ◌<◌}
use native.Mathlib.Omega.{arith}
use mathlib.Core.Path.{◌≡◌, refl, ap, ◌∙◌}
use mathlib.Core.Option.{Option, none, some}
use mathlib.Core.List.{List, [], ◌∷◌, ◌++◌}
use lib.ListN.{length, get_elem?, take}
use Rattle.definitions.specs.Book.{Book}
use Rattle.definitions.specs.Stop.{Stops, go, ◌>>=◌}
use Rattle.definitions.specs.Lists.{position}
use Rattle.definitions.specs.Strand.{Strand, with_pursued}
use Rattle.definitions.specs.Table.{dequeue_next_strand_that}
use Rattle.definitions.specs.Tables.{Tables, Forest}
use Rattle.definitions.specs.Stack.{StackEntry, Stack, active}
use Rattle.definitions.specs.Logic.{SolveState, with_forest, Flow, Selected, NotSelected, selecting, select_from, select_subgoal}
use Rattle.definitions.specs.Turn.{on_subgoal_selected, on_no_remaining_subgoals, eligible, turn}
use Rattle.laws.proofs.Sums.{sum, sum_mono, sum_add}
use Rattle.promises.proofs.Plain.Model.{Lit, Body, literal_goal}
use Rattle.promises.proofs.Plain.Machine as M
use Rattle.promises.proofs.Plain.Taking.{taken, put_length}
use Rattle.promises.proofs.Plain.Turns.{root_of, count}
use Rattle.promises.proofs.Link.View.{literals, Names, names, strand_of, selection, StrandIs, free, bound, q_end, table_of, mode_of}
use Rattle.promises.proofs.Link.View.{no_active, an_active, entry_of, machine_entry, StackIs, s_more}
use Rattle.promises.proofs.Link.Choose.{select_bound, select_free}
use Rattle.promises.proofs.Link.Tables.{stack_more, forest_of, Agree}
use Rattle.promises.proofs.Link.Sums.{active_under}
use Rattle.promises.proofs.Link.Making.{Sound, make_table, found_made}
use Rattle.promises.proofs.Link.Back.{TableHere, table_here, queue_set}
use Rattle.promises.proofs.Link.Turn.{state_of, TurnIs, from_more, Lined}
use Rattle.promises.proofs.Link.Selected.{limits_of, selected_is}
use Rattle.promises.proofs.Link.Answers.{answering-is}
use Rattle.promises.proofs.Link.Idle.{idle_is}
use Rattle.promises.proofs.Link.Taking.{TakeIs, take_none, take_some, take_is, take_front}

-- a turn from the place where it has a strand in hand
abbrev pursuing : SolveState → (clock : ℕ) → Strand → Stops Flow
pursuing s clock strand = do
  chosen ← select_subgoal s (with_pursued strand clock)
  let s'' = with_forest s chosen.forest
  elim chosen.selection [
    | Selected ↦ on_subgoal_selected s'' chosen.strand
    | NotSelected ↦ on_no_remaining_subgoals s'' chosen.strand
  ]

-- all strands together, queued and active, are at most 256
abbrev pub Room : ℕ → M.Forest → List M.Entry → Type 0
Room n p es = sum n (λ u. length (p.queue u) + count es u) ≤ 256

lined_same : (N : M.Limits) (g c p n : ℕ) (a b : Option M.Strand) (es : List M.Entry) → Lined N (machine_entry g c p n a) es
    → Lined N (machine_entry g c p n b) es
lined_same N g c p n a b [] l = l
lined_same N g c p n a b (e ∷ es) l = l

root_same : (g c p n : ℕ) (a b : Option M.Strand) (es : List M.Entry)
    → root_of (machine_entry g c p n a) es ≡ root_of (machine_entry g c p n b) es
root_same g c p n a b [] = refl
root_same g c p n a b (e ∷ es) = refl

names_head : {n : ℕ} {l : Lit} {b : Body} → Names n (l ∷ b) → literal_goal l < n
names_head (names x y) = x

module _ {book : Book} (sound : Sound book) (limit : ℕ) {gs : List ℕ} {ts : Tables} {p : M.Forest} (agree : Agree book gs ts p)
    (i g c pm nm : ℕ) (at : get_elem? gs i ≡ some g) {ds : Stack} {es : List M.Entry} (xs : StackIs (length book) gs ds es)
    (before : M.Forest) (now : before.clock ≡ p.clock) where
  -- a strand with a literal left
  pursue_bound : (a : ℕ) (l : Lit) (b : Body) (t j : ℕ) → Names (length book) (l ∷ b) → get_elem? gs j ≡ some (literal_goal l)
      → (m : M.Strand) → Lined (limits_of book limit) (machine_entry g c pm nm (some m)) es
      → TurnIs book limit gs before (root_of (machine_entry g c pm nm (some m)) es)
      (pursuing (state_of book limit ts p.clock (entry_of i c pm nm none ∷ ds)) c (strand_of a (l ∷ b) (some (selection j b)) t))
      (M.pursue (limits_of book limit) (l ∷ b) before p (machine_entry g c pm nm (some m)) es)
  pursue_bound a l b t j w e m lined =
      let F = forest_of book limit 0 ts p.clock in
      let u = table_here agree j (literal_goal l) e in
      let others = active (entry_of i c pm nm none ∷ ds) + 1 in
      let k = length (literals (l ∷ b)) + 0 in
      let passes : 2 * k + 4 ≡ suc (2 * k + 3) = omega arith in
      let chosen : select_subgoal (state_of book limit ts p.clock (entry_of i c pm nm none ∷ ds))
      (strand_of a (l ∷ b) (some (selection j b)) c) ≡ go (selecting Selected (strand_of a (l ∷ b) (some (selection j b)) c) F) =
      ap (λ z. select_from z others F (strand_of a (l ∷ b) (some (selection j b)) c)) passes
      ∙ select_bound others F a l b c j _ u.is refl (2 * k + 3) in
      rw chosen (selected_is book limit (found_made agree (literal_goal l)) i g c pm nm at xs m lined a j before now
      (root_of (machine_entry g c pm nm (some m)) es) l b w e)

  pursue_free : (a : ℕ) (l : Lit) (b : Body) (t : ℕ) → Names (length book) (l ∷ b) → (m : M.Strand)
      → Lined (limits_of book limit) (machine_entry g c pm nm (some m)) es
      → active ds + 1 + sum (length book) (λ u. length (p.queue u)) ≤ 256
      → TurnIs book limit gs before (root_of (machine_entry g c pm nm (some m)) es)
      (pursuing (state_of book limit ts p.clock (entry_of i c pm nm none ∷ ds)) c (strand_of a (l ∷ b) none t))
      (M.pursue (limits_of book limit) (l ∷ b) before p (machine_entry g c pm nm (some m)) es)
  pursue_free a l b t w m lined room =
      let F = forest_of book limit 0 ts p.clock in
      let others = active (entry_of i c pm nm none ∷ ds) + 1 in
      let made = make_table sound limit 0 agree p.clock others (literal_goal l) (names_head w) (omega arith) in
      let u = table_here made.agree made.place (literal_goal l) made.at in
      let k = length (literals (l ∷ b)) + 0 in
      let passes : 2 * k + 4 ≡ suc (suc (2 * k + 2)) = omega arith in
      let F' = forest_of book limit 0 made.after p.clock in
      let chosen : select_subgoal (state_of book limit ts p.clock (entry_of i c pm nm none ∷ ds)) (strand_of a (l ∷ b) none c) ≡ go
      (selecting Selected (strand_of a (l ∷ b) (some (selection made.place b)) c) F') =
      ap (λ z. select_from z others F (strand_of a (l ∷ b) none c)) passes
      ∙ select_free (2 * k + 2) others F a l b c made.place F' _ made.is u.is refl in
      rw chosen (from_more made.more (selected_is book limit made.agree i g c pm nm (made.more i g at) (stack_more made.more xs) m
      lined a made.place before now (root_of (machine_entry g c pm nm (some m)) es) l b w made.at))

  pursue_is : {s : Strand} {m : M.Strand} → StrandIs (length book) gs s m
      → Lined (limits_of book limit) (machine_entry g c pm nm (some m)) es
      → active ds + 1 + sum (length book) (λ u. length (p.queue u)) ≤ 256
      → TurnIs book limit gs before (root_of (machine_entry g c pm nm (some m)) es)
      (pursuing (state_of book limit ts p.clock (entry_of i c pm nm none ∷ ds)) c s)
      (M.pursue (limits_of book limit) m.lits before p (machine_entry g c pm nm (some m)) es)
  pursue_is (free a [] t w) lined room = answering-is book limit sound.few_goals agree i g c pm nm at _ a before xs lined
  pursue_is (free a (l ∷ b) t w) lined room = pursue_free a l b t w _ lined room
  pursue_is (bound a l b t j w e) lined room = pursue_bound a l b t j w e _ lined

module _ {book : Book} (sound : Sound book) (limit : ℕ) {gs : List ℕ} {ts : Tables} {p : M.Forest} (agree : Agree book gs ts p)
    (i g c pm nm : ℕ) (at : get_elem? gs i ≡ some g) {ds : Stack} {es : List M.Entry} (xs : StackIs (length book) gs ds es) where
  -- the entry has an active strand
  active_turn : {s : Strand} {m : M.Strand} → StrandIs (length book) gs s m
      → Lined (limits_of book limit) (machine_entry g c pm nm (some m)) es → Room (length book) p (machine_entry g c pm nm (some m) ∷ es)
      → TurnIs book limit gs (M.with_queue p (M.all_back p.queue (machine_entry g c pm nm (some m) ∷ es)))
      (root_of (machine_entry g c pm nm (some m)) es)
      (turn (state_of book limit ts p.clock (entry_of i c pm nm (some s) ∷ ds)))
      (M.turn (limits_of book limit) p (machine_entry g c pm nm (some m)) es)
  active_turn {s} {m} x lined room =
      let t = table_here agree i g at in
      let stack : StackIs (length book) gs (entry_of i c pm nm (some s) ∷ ds) (machine_entry g c pm nm (some m) ∷ es) =
      s_more i g c pm nm at (an_active x) xs in
      let few = active_under stack agree.within in
      let sums = sum_add (length book) (λ u. length (p.queue u)) (λ u. count (machine_entry g c pm nm (some m) ∷ es) u) in
      rw t.is (pursue_is sound limit agree i g c pm nm at xs
      (M.with_queue p (M.all_back p.queue (machine_entry g c pm nm (some m) ∷ es))) refl x lined (omega arith))

  -- a strand is taken from the queue, or none can be
  taking_turn : (o : Option ℕ) (k : Option (M.Strand × List M.Strand)) → (t : TableHere book gs ts p i g)
      → position (eligible c (mode_of (p.first g))) t.waiting ≡ o → M.take_from c [] (p.queue g) ≡ k
      → TakeIs (length book) gs [] t.waiting o k
      → Lined (limits_of book limit) (machine_entry g c pm nm none) es → Room (length book) p (machine_entry g c pm nm none ∷ es)
      → TurnIs book limit gs (M.with_queue p (M.all_back p.queue (machine_entry g c pm nm none ∷ es)))
      (root_of (machine_entry g c pm nm none) es)
      (turn (state_of book limit ts p.clock (entry_of i c pm nm none ∷ ds)))
      (M.taking (limits_of book limit) k p (machine_entry g c pm nm none) es)
  taking_turn none none t e k take_none lined room =
      let idle : dequeue_next_strand_that (eligible c (mode_of (p.first g)))
      (table_of g (p.answered g) (p.first g) t.waiting) ≡ none = rw (e, dequeue_next_strand_that) in
      rw t.is (rw idle (idle_is book limit agree i g c pm nm at
      (M.with_queue p (M.all_back p.queue (machine_entry g c pm nm none ∷ es))) (root_of (machine_entry g c pm nm none) es) xs
      lined))
  taking_turn none (some r) t e k x lined room = elim x [ ]
  taking_turn (some n) none t e k x lined room = elim x [ ]
  taking_turn (some n) (some (q, r)) t e k (take_some {s = s} {zs = zs} d x y) lined room =
      let front = take_front (eligible c (mode_of (p.first g))) (table_of g (p.answered g) (p.first g) t.waiting) n s zs e d in
      let before = M.with_queue p (M.all_back p.queue (machine_entry g c pm nm none ∷ es)) in
      let agree' = queue_set agree i g at (zs ++ take n t.waiting) r y in
      let number = (taken c [] (p.queue g) q r k).number in
      let stack : StackIs (length book) gs (entry_of i c pm nm (some s) ∷ ds) (machine_entry g c pm nm (some q) ∷ es) =
      s_more i g c pm nm at (an_active x) xs in
      let few = active_under stack agree.within in
      let sums = sum_add (length book) (λ u. length (M.put p.queue g r u)) (λ u. count (machine_entry g c pm nm (some q) ∷ es) u) in
      let less = sum_mono (length book) (λ u. length (p.queue u) + count (machine_entry g c pm nm none ∷ es) u)
      (λ u. length (M.put p.queue g r u) + count (machine_entry g c pm nm (some q) ∷ es) u)
      (λ u. let y = put_length p.queue g u r (omega arith) in omega arith) in
      rw t.is (rw front (rw t.is (rw (root_same g c pm nm none (some q) es)
      (pursue_is sound limit agree' i g c pm nm at xs before refl x (lined_same (limits_of book limit) g c pm nm none (some q) es lined)
      (omega arith)))))

  idle_turn : Lined (limits_of book limit) (machine_entry g c pm nm none) es → Room (length book) p (machine_entry g c pm nm none ∷ es)
      → TurnIs book limit gs (M.with_queue p (M.all_back p.queue (machine_entry g c pm nm none ∷ es)))
      (root_of (machine_entry g c pm nm none) es)
      (turn (state_of book limit ts p.clock (entry_of i c pm nm none ∷ ds)))
      (M.turn (limits_of book limit) p (machine_entry g c pm nm none) es)
  idle_turn lined room =
      let t = table_here agree i g at in
      taking_turn (position (eligible c (mode_of (p.first g))) t.waiting) (M.take_from c [] (p.queue g)) t refl refl
      (take_is c (mode_of (p.first g)) q_end t.queue) lined room

-- every turn
pub plain_turn_is : {book : Book} (sound : Sound book) (limit : ℕ) {gs : List ℕ} {ts : Tables} {p : M.Forest} → Agree book gs ts p
    → {d : StackEntry} {ds : Stack} {e : M.Entry} {es : List M.Entry} → StackIs (length book) gs (d ∷ ds) (e ∷ es)
    → Lined (limits_of book limit) e es → Room (length book) p (e ∷ es)
    → TurnIs book limit gs (M.with_queue p (M.all_back p.queue (e ∷ es))) (root_of e es)
    (turn (state_of book limit ts p.clock (d ∷ ds))) (M.turn (limits_of book limit) p e es)
plain_turn_is sound limit agree (s_more i g c pm nm at no_active xs) lined room = idle_turn sound limit agree i g c pm nm at xs lined room
plain_turn_is sound limit agree (s_more i g c pm nm at (an_active x) xs) lined room =
    active_turn sound limit agree i g c pm nm at xs x lined room

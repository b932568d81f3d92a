-- One call on a forest that no stop has marked: what it says is so, and it leaves such a forest again, or one that 21 has marked.
use Prim.Native.Nat.{ℕ, zero, suc, ◌+◌, ◌-◌, ◌≤◌, ◌<◌}
use native.Mathlib.Omega.{arith}
use borrow.Author.Tests.{leb-false}
use mathlib.Core.Path.{◌≡◌, refl, sym, ap, subst, ◌∙◌}
use mathlib.Core.Bool.{Bool, true, false, ◌||◌}
use mathlib.Core.Logic.{inl, inr}
use mathlib.Core.Option.{some}
use mathlib.Core.List.{List, [], ◌∷◌}
use lib.ListN.{length, get_elem?}
use lib.Dec.{leb, eqb}
use Rattle.definitions.specs.Refusal.{Refusable, refused, accepted, ◌refuses◌}
use Rattle.definitions.specs.Tables.{Tables, Forest}
use Rattle.definitions.specs.Turn.{Ending, Searched, root_answer}
use Rattle.definitions.specs.Forest.{is_marked, Opened, opened, open_goal, not_made, index_above, search, Peeked, peek_rounds, peek}
use Rattle.definitions.specs.Forest.{any_future_answer}
use Rattle.definitions.specs.Forest.{is_exceeded, SearchMade, peek_searches, most_passes}
use Rattle.definitions.specs.Calls.{Sitting, sitting, with_forest, Call, opens, searches, peeks, asks_future}
use Rattle.definitions.specs.Calls.{Reply, refusal, table, searched, peeked, future, call, searches_made}
use Rattle.papers.specs.Model as D
use Rattle.papers.specs.Claim.{ReadOff, about, SearchRefused, RefusedBy, EndingSays, ReplySays, reply_stopped, one_if, exceeded_among}
use Rattle.papers.specs.Claim.{granted}
use Rattle.laws.proofs.Lists.{at_place}
use Rattle.laws.proofs.Bools.{both_false, not_zero}
use Rattle.promises.proofs.Plain.Model as P
use Rattle.promises.proofs.Plain.Claim as C
use Rattle.promises.proofs.Plain.Machine as M
use Rattle.promises.proofs.Plain.Whole.{Ready, potential, search_ok, peek_ok}
use Rattle.promises.proofs.Link.View.{answers_of}
use Rattle.promises.proofs.Link.Tables.{book_of, Agree}
use Rattle.promises.proofs.Link.Making.{tables_length}
use Rattle.promises.proofs.Link.Premises.{Premises, setting_of, limits_in, forest_in}
use Rattle.promises.proofs.Link.Searches.{EndIs, found_is, none_is, again_is, cut_is, stopped_is}
use Rattle.promises.proofs.Link.Peeks.{index_within, root_is, PeekIs, peek_is}
use Rattle.promises.proofs.Link.Models.{in_to, in_from}
use Rattle.promises.proofs.Link.Naming.{Failed, Comes, turned_down, let_through, comes, Between, open_made, opened_is, named}

module _ (G : Premises) where
  -- what a call leaves: the machine's forest, its measure lower by the searches that ended in QuantumExceeded, but for those that the
  -- reply grants; or a mark
  pub data Left (p : M.Forest) (k : ℕ) (r : Reply) (s : Sitting) : Type 0 where
    goes_on : (p' : M.Forest) → reply_stopped r ≡ false → Between G s.forest p'
        → potential (setting_of G) p' + k ≤ potential (setting_of G) p + granted r → Left p k r s
    is_over : reply_stopped r ≡ true → is_marked s.forest ≡ true → k ≤ potential (setting_of G) p + granted r → Left p k r s

  -- a call on a sitting, with the searches that it made and the sitting that it left
  pub record CallOK (p : M.Forest) (before : Sitting) (made : List SearchMade) (c : Call) (r : Reply) (after : Sitting) : Type 0 where
    pub says : ReplySays (D.In G.book G.level) G.limit (RefusedBy c) made (about before c) after.forest r
    pub left : Left p (exceeded_among made) r after

  -- what an ending says
  ending_says : {mark : ℕ} {e : Ending} {o : M.Outcome} {gs : List ℕ} {ts : Tables} {p : M.Forest} → EndIs G.limit p.clock mark e o
      → Agree G.book gs ts p → Ready (setting_of G) p → (t g i : ℕ) → get_elem? gs t ≡ some g
      → C.Reply (P.In (book_of G.book) G.level) g i o
      → EndingSays (D.In G.book G.level) G.limit (forest_in G mark ts p.clock) t i e
  ending_says found_is a ready t g i at x = (
    refl,
    named G a ready t g at (D.In G.book G.level)
        (in_from G.book G.level G.sound.plain g x),
  )
  ending_says none_is a ready t g i at x = λ z. named G a ready t g at (λ h. D.In G.book G.level h → ⊥)
      (λ y. x z (in_to G.book G.level G.sound.plain g y))
  ending_says again_is a ready t g i at x = tt
  ending_says cut_is a ready t g i at x = tt
  ending_says (stopped_is o) a ready t g i at x = (refl, let y = ready.bound in omega arith)

  between_at : {gs : List ℕ} {ts : Tables} {p : M.Forest} → Agree G.book gs ts p → Ready (setting_of G) p
      → Between G (forest_in G 0 ts p.clock) p
  between_at {gs} {ts} a ready = record { goals = gs; tables = ts; is = refl; agree = a; ready = ready }

  search_left : {mark : ℕ} {e : Ending} {o : M.Outcome} {gs : List ℕ} {ts : Tables} {p' : M.Forest} (p : M.Forest) (turns : ℕ)
      → EndIs G.limit p'.clock mark e o → Agree G.book gs ts p' → Ready (setting_of G) p'
      → potential (setting_of G) p' + M.counts o ≤ potential (setting_of G) p
      → Left p (one_if (is_exceeded e) + 0) (searched e turns) (sitting (forest_in G mark ts p'.clock))
  search_left {p' = p'} p turns found_is a ready fall = goes_on p' refl (between_at a ready) (omega (arith, fall))
  search_left {p' = p'} p turns none_is a ready fall = goes_on p' refl (between_at a ready) (omega (arith, fall))
  search_left {p' = p'} p turns again_is a ready fall = goes_on p' refl (between_at a ready) (omega (arith, fall))
  search_left {p' = p'} p turns cut_is a ready fall = goes_on p' refl (between_at a ready) (omega (arith, fall))
  search_left p turns (stopped_is o) a ready fall = is_over refl refl (omega arith)

  peek_left : {mark : ℕ} {e : Ending} {o : M.Outcome} {gs : List ℕ} {ts : Tables} {p' : M.Forest} (p : M.Forest) (i turns k j : ℕ)
      → EndIs G.limit p'.clock mark e o → Agree G.book gs ts p' → Ready (setting_of G) p'
      → potential (setting_of G) p' + j ≤ potential (setting_of G) p
      → Left p j (peeked e i turns k) (sitting (forest_in G mark ts p'.clock))
  peek_left {p' = p'} p i turns k j found_is a ready fall = goes_on p' refl (between_at a ready) (omega (arith, fall))
  peek_left {p' = p'} p i turns k j none_is a ready fall = goes_on p' refl (between_at a ready) (omega (arith, fall))
  peek_left {p' = p'} p i turns k j again_is a ready fall = goes_on p' refl (between_at a ready) (omega (arith, fall))
  peek_left {p' = p'} p i turns k j cut_is a ready fall = goes_on p' refl (between_at a ready) (omega (arith, fall))
  peek_left p i turns k j (stopped_is o) a ready fall = is_over refl refl (omega arith)

  module _ {gs : List ℕ} {ts : Tables} {p : M.Forest} (a : Agree G.book gs ts p) (ready : Ready (setting_of G) p) where
    abbrev F : Forest
    F = forest_in G 0 ts p.clock

    abbrev S : Sitting
    S = sitting F

    stays : (r : Reply) → reply_stopped r ≡ false → Left p 0 r S
    stays r e = goes_on p e (between_at a ready) (omega arith)

    searched_ok : (t g i n : ℕ) → get_elem? gs t ≡ some g → i ≤ length (answers_of (p.answered g))
        → CallOK p S (record { index = i; result = root_answer (suc n) t i F } ∷ []) (searches t i (suc n))
        (searched (root_answer (suc n) t i F).ending (root_answer (suc n) t i F).turns) (sitting (root_answer (suc n) t i F).forest)
    searched_ok t g i n at o =
        let s = root_is G a ready t g n i at o in
        let k = search_ok (setting_of G) p g i (suc n) ready in
        subst (λ (z : Forest). CallOK p S (record { index = i; result = root_answer (suc n) t i F } ∷ []) (searches t i (suc n))
        (searched (root_answer (suc n) t i F).ending (root_answer (suc n) t i F).turns) (sitting z)) (sym s.forest)
        (record {
          says = ending_says s.ends s.agree k.rest t g i (s.more t g at) k.says;
          left = search_left p (root_answer (suc n) t i F).turns s.ends s.agree k.rest k.falls;
        })

    peeked_ok : (t g i r n passes : ℕ) → r < passes → get_elem? gs t ≡ some g → i ≤ length (answers_of (p.answered g)) → (R : Peeked)
        → peek_rounds r (suc n) 0 t i F ≡ R
        → CallOK p S (peek_searches passes r (suc n) t i F) (peeks t i (suc r) (suc n))
        (peeked R.ending R.index R.turns R.exceeded) (sitting R.forest)
    peeked_ok t g i r n passes enough at o R e =
        let made = peek_searches passes r (suc n) t i F in
        let p' = (M.rounds (limits_in G) (suc r) g i (suc n) p).2 in
        let j = (M.rounds (limits_in G) (suc r) g i (suc n) p).1 in
        let u = (M.rounds (limits_in G) (suc r) g i (suc n) p).0 in
        let s : PeekIs G gs i 0 made R u j p' = subst (λ (z : Peeked). PeekIs G gs i 0 made z u j p') e
        (peek_is G r gs ts p a ready t g n i 0 at o passes enough) in
        let k = peek_ok (setting_of G) (suc r) g i (suc n) p ready in
        let left-forest = forest_in G s.mark s.after p'.clock in
        let lower : potential (setting_of G) p' + exceeded_among made ≤ potential (setting_of G) p =
        let y = s.among in let z = k.falls in omega arith in
        let says = ending_says s.ends s.agree k.rest t g i (s.more t g at) k.says in
        let reads : ReadOff made R.forest R.ending i R.turns R.exceeded = record {
          earlier = s.earlier;
          made_are = s.made_are;
          count_is = let y = s.exceeded in let z = s.among in omega arith;
        } in
        let x : CallOK p S made (peeks t i (suc r) (suc n)) (peeked R.ending i R.turns R.exceeded) (sitting left-forest) =
        record {
          says = (says, subst (λ (z : Forest). ReadOff made z R.ending i R.turns R.exceeded) s.forest reads);
          left = peek_left p i R.turns R.exceeded (exceeded_among made) s.ends s.agree k.rest lower;
        } in
        subst (λ (z : Forest). CallOK p S made (peeks t i (suc r) (suc n)) (peeked R.ending R.index R.turns R.exceeded)
        (sitting z))
        (sym s.forest)
        (subst (λ (z : ℕ). CallOK p S made (peeks t i (suc r) (suc n)) (peeked R.ending z R.turns R.exceeded)
        (sitting left-forest))
        (sym s.index) x)

    -- the table is made
    place_named : (t : ℕ) → leb (length ts) t ≡ false → (g : ℕ) × (get_elem? gs t ≡ some g)
    place_named t e = let x = leb-false (length ts) t e in let y = tables_length a.tables in at_place gs t (omega arith)

    search_refused : (b₁ b₂ b₃ : Bool) (n : ℕ) → Failed n (false refuses 20 ∷ b₁ refuses 10 ∷ b₂ refuses 11 ∷ b₃ refuses 12 ∷ [])
        → SearchRefused n
    search_refused b₁ b₂ b₃ n (inl (e, k)) = absurd (let z : ◌≡◌ {A = ℕ} 0 1 = cc in omega arith)
    search_refused b₁ b₂ b₃ n (inr (inl (e, k))) = inl (sym k)
    search_refused b₁ b₂ b₃ n (inr (inr (inl (e, k)))) = inr (inl (sym k))
    search_refused b₁ b₂ b₃ n (inr (inr (inr (inl (e, k))))) = inr (inr (sym k))
    search_refused b₁ b₂ b₃ n (inr (inr (inr (inr x)))) = absurd x

    searching : (t i n : ℕ) (o : Refusable Searched)
        → Comes (is_marked F refuses 20 ∷ not_made F t refuses 10 ∷ index_above F t i refuses 11 ∷ eqb n 0 refuses 12 ∷ [])
        (root_answer n t i F) o
        → (r : Reply × Sitting)
        → r ≡ elim o [ refused n ↦ (refusal n, S) | accepted r ↦ (searched r.ending r.turns, with_forest S r.forest) ]
        → (made : List SearchMade) → made ≡ elim o [ refused n ↦ [] | accepted r ↦ record { index = i; result = r } ∷ [] ]
        → CallOK p S made (searches t i n) r.0 r.1
    searching t i n (refused k) (turned_down x) r e made q =
        subst (λ (z : Reply × Sitting). CallOK p S made (searches t i n) z.0 z.1) (sym e)
        (subst (λ ss. CallOK p S ss (searches t i n) (refusal k) S) (sym q)
        (record { says = search_refused (not_made F t) (index_above F t i) (eqb n 0) k x; left = stays (refusal k) refl }))
    searching t i zero (accepted R) (let_through x) r e made q = let y : true ≡ false = x.1.1.1.0 in let z : ◌≡◌ {A = ℕ} 0 1 =
        cc in absurd (omega arith)
    searching t i (suc n) (accepted R) (let_through x) r e made q =
        let g = place_named t x.1.0 in
        subst (λ (z : Reply × Sitting). CallOK p S made (searches t i (suc n)) z.0 z.1) (sym e)
        (subst (λ ss. CallOK p S ss (searches t i (suc n)) (searched R.ending R.turns) (sitting R.forest)) (sym q)
        (searched_ok t g.0 i n g.1 (index_within G.limit 0 p.clock a t g.0 i g.1 x.1.1.0)))

    call_search : (t i n : ℕ) → CallOK p S (searches_made S (searches t i n)) (searches t i n) (call S (searches t i n)).0
        (call S (searches t i n)).1
    call_search t i n = searching t i n (search F t i n)
        (comes (is_marked F refuses 20 ∷ not_made F t refuses 10 ∷ index_above F t i refuses 11 ∷ eqb n 0 refuses 12 ∷ [])
        (root_answer n t i F)) (call S (searches t i n)) refl (searches_made S (searches t i n)) refl

    -- with the limits of rounds and turns as numbers that are not 0
    peeked_at : (t g i r n passes : ℕ) → r - 1 < passes → get_elem? gs t ≡ some g → i ≤ length (answers_of (p.answered g)) → 0 < r → 0 < n
        → (R : Peeked) → peek_rounds (r - 1) n 0 t i F ≡ R
        → CallOK p S (peek_searches passes (r - 1) n t i F) (peeks t i r n) (peeked R.ending R.index R.turns R.exceeded)
        (sitting R.forest)
    peeked_at t g i r n passes enough at o some-r some-n R e =
        let r-is : suc (r - 1) ≡ r = omega arith in
        let n_is : suc (n - 1) ≡ n = omega arith in
        subst (λ (z : ℕ). CallOK p S (peek_searches passes (r - 1) n t i F) (peeks t i z n)
        (peeked R.ending R.index R.turns R.exceeded) (sitting R.forest)) r-is
        (subst (λ (z : ℕ). CallOK p S (peek_searches passes (r - 1) z t i F) (peeks t i (suc (r - 1)) z)
        (peeked R.ending R.index R.turns R.exceeded) (sitting R.forest)) n_is
        (peeked_ok t g i (r - 1) (n - 1) passes enough at o R (ap (λ z. peek_rounds (r - 1) z 0 t i F) n_is ∙ e)))

    neither : (r n : ℕ) → (eqb r 0 || eqb n 0) ≡ false → (0 < r) × (0 < n)
    neither r n e = let b = both_false (eqb r 0) (eqb n 0) e in (not_zero r b.0, not_zero n b.1)

    peeking : (t i r n : ℕ) (R : Peeked) → peek_rounds (r - 1) n 0 t i F ≡ R → (o : Refusable Peeked)
        → Comes (is_marked F refuses 20 ∷ not_made F t refuses 10 ∷ index_above F t i refuses 11 ∷ (eqb r 0 || eqb n 0) refuses 12 ∷ []) R o
        → (s : Reply × Sitting) → s ≡ elim o [
          | refused n ↦ (refusal n, S)
          | accepted r ↦ (peeked r.ending r.index r.turns r.exceeded, with_forest S r.forest)
        ]
        → (made : List SearchMade) → made ≡ elim o [ refused k ↦ [] | accepted q ↦ peek_searches (most_passes r) (r - 1) n t i F ]
        → CallOK p S made (peeks t i r n) s.0 s.1
    peeking t i r n R q (refused k) (turned_down x) s e made m =
        subst (λ (z : Reply × Sitting). CallOK p S made (peeks t i r n) z.0 z.1) (sym e)
        (subst (λ ss. CallOK p S ss (peeks t i r n) (refusal k) S) (sym m)
        (record { says = search_refused (not_made F t) (index_above F t i) (eqb r 0 || eqb n 0) k x; left = stays (refusal k) refl }))
    peeking t i r n R q (accepted R') (let_through x) s e made m =
        let g = place_named t x.1.0 in
        let Some-of = neither r n x.1.1.1.0 in
        let some-r = Some-of.0 in
        subst (λ (z : Reply × Sitting). CallOK p S made (peeks t i r n) z.0 z.1) (sym e)
        (subst (λ ss. CallOK p S ss (peeks t i r n) (peeked R.ending R.index R.turns R.exceeded) (sitting R.forest)) (sym m)
        (peeked_at t g.0 i r n (most_passes r) (omega arith) g.1
        (index_within G.limit 0 p.clock a t g.0 i g.1 x.1.1.0) Some-of.0 Some-of.1 R q))

    call_peek : (t i r n : ℕ) → CallOK p S (searches_made S (peeks t i r n)) (peeks t i r n) (call S (peeks t i r n)).0
        (call S (peeks t i r n)).1
    call_peek t i r n = peeking t i r n (peek_rounds (r - 1) n 0 t i F) refl (peek F t i r n)
        (comes (is_marked F refuses 20 ∷ not_made F t refuses 10 ∷ index_above F t i refuses 11 ∷ (eqb r 0 || eqb n 0) refuses 12 ∷ [])
        (peek_rounds (r - 1) n 0 t i F)) (call S (peeks t i r n)) refl (searches_made S (peeks t i r n)) refl

    made_ready : (h : ℕ) → Ready (setting_of G) (M.make p h)
    made_ready h = record { fine = ready.fine; bound = ready.bound; live = ready.live }

    open_refused : (b : Bool) (n : ℕ) → Failed n (false refuses 20 ∷ b refuses 9 ∷ []) → n ≡ 9
    open_refused b n (inl (e, k)) = absurd (let z : ◌≡◌ {A = ℕ} 0 1 = cc in omega arith)
    open_refused b n (inr (inl (e, k))) = sym k
    open_refused b n (inr (inr x)) = absurd x

    opening : (g : ℕ) (o : Refusable Opened) → Comes (is_marked F refuses 20 ∷ leb (length G.book) g refuses 9 ∷ []) (opened 0 F g) o
        → (s : Reply × Sitting) → s ≡ elim o [ refused n ↦ (refusal n, S) | accepted r ↦ (table r.table, with_forest S r.forest) ]
        → CallOK p S [] (opens g) s.0 s.1
    opening g (refused k) (turned_down x) s e = subst (λ (z : Reply × Sitting). CallOK p S [] (opens g) z.0 z.1) (sym e) (record {
      says = open_refused (leb (length G.book) g) k x;
      left = stays (refusal k) refl;
    })
    opening g (accepted R) (let_through x) s e =
        let lt = leb-false (length G.book) g x.1.0 in
        let m = open_made G a ready g lt in
        subst (λ (z : Reply × Sitting). CallOK p S [] (opens g) z.0 z.1) (sym e)
        (subst (λ (z : Opened). CallOK p S [] (opens g) (table z.table) (sitting z.forest)) (sym (opened_is G a ready g lt))
        (record { says = tt; left = goes_on (M.make p g) refl (between_at m.agree (made_ready g)) (omega arith) }))

    call_open : (g : ℕ) → CallOK p S [] (opens g) (call S (opens g)).0 (call S (opens g)).1
    call_open g = opening g (open_goal F g) (comes (is_marked F refuses 20 ∷ leb (length G.book) g refuses 9 ∷ []) (opened 0 F g))
        (call S (opens g)) refl

    asking : (t i v : ℕ) (o : Refusable Bool) (s : Reply × Sitting) → s ≡ elim o [ refused n ↦ (refusal n, S) | accepted b ↦ (future b, S) ]
        → CallOK p S [] (asks_future t i v) s.0 s.1
    asking t i v (refused n) s e = subst (λ (z : Reply × Sitting). CallOK p S [] (asks_future t i v) z.0 z.1) (sym e)
        (record { says = tt; left = stays (refusal n) refl })
    asking t i v (accepted b) s e = subst (λ (z : Reply × Sitting). CallOK p S [] (asks_future t i v) z.0 z.1) (sym e)
        (record { says = tt; left = stays (future b) refl })

    -- every call
    pub call_ok : (c : Call) → CallOK p S (searches_made S c) c (call S c).0 (call S c).1
    call_ok (opens g) = call_open g
    call_ok (searches t i n) = call_search t i n
    call_ok (peeks t i r n) = call_peek t i r n
    call_ok (asks_future t i v) = asking t i v (any_future_answer F t i v) (call S (asks_future t i v)) refl

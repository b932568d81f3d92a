-- Every unambiguous answer of a clean goal can be derived, in every forest that a list of calls leaves and in every reply.
use Prim.Native.Nat.{ℕ, ◌+◌, ◌<◌}
use native.Mathlib.Omega.{arith}
use borrow.Author.Tests.{eq-eqb, eqb-true, lt-leb}
use mathlib.Core.Path.{◌≡◌, refl, sym, ap, subst, ◌∙◌}
use mathlib.Core.Bool.{Bool, true≢false, true, false, ◌||◌}
use mathlib.Core.Option.{Option, none, some}
use mathlib.Core.List.{List, [], ◌∷◌, ◌++◌}
use lib.ListN.{length, get_elem?}
use lib.Dec.{eqb, leb, ltb}
use Rattle.definitions.specs.{MAX, TableIndex}
use Rattle.definitions.specs.Book.{Literal, Positive, Negative, Clause, Book, read}
use Rattle.definitions.specs.Refusal.{Refusable, refused, accepted, ◌refuses◌}
use Rattle.definitions.specs.Stop.{Stops, stop, go, ◌>>=◌, ◌>>◌, stop_if}
use Rattle.definitions.specs.Table.{Table}
use Rattle.definitions.specs.Tables.{Forest, with_mark, with_tables, index_of, queued}
use Rattle.definitions.specs.Logic.{build_table, get_or_create_table_for_ucanonical_goal}
use Rattle.definitions.specs.Turn.{Ending, found, fail, cut, stopped}
use Rattle.definitions.specs.Forest.{make_of, is_marked, Opened, opened}
use Rattle.definitions.specs.Desk.{desk}
use Rattle.papers.specs.Spoilt.{spoiler_in}
use Rattle.definitions.specs.Calls as said
use Rattle.definitions.specs.Calls.{sitting, Call, Reply}
use Rattle.papers.specs.Claim.{Names, Named, about}
use Rattle.definitions.specs.Lists.{Each}
use Rattle.papers.specs.Derive.{Derivable, CleanLiteral, Clean, CleanBook}
use Rattle.papers.specs.Certified.{StoredDerivable, EndingDerivable, ReplyDerivable, CallDerivable}
use Rattle.papers.specs.Certified.{Certified, CertifiedAtDesk, BookCertified, UnspoiltCertified}
use Rattle.definitions.proofs.Desk.{made_as_read}
use Rattle.definitions.proofs.Lists.{position_at, position_none}
use Rattle.definitions.proofs.Members.{each_all, all_each, each_map}
use Rattle.definitions.proofs.Refusal.{not_accepted, all_pass}
use Rattle.laws.proofs.Lists.{place_under}
use Rattle.laws.proofs.Options.{same_some}
use Rattle.laws.proofs.All.{all_at, all_map}
use Rattle.asserts.proofs.Safe.{stop_go, same_go}
use Rattle.asserts.specs.Sound.{SoundForest}
use Rattle.asserts.proofs.Reading.{bare, made_sound}
use Rattle.asserts.proofs.Theorem.{forests_sound}
use Rattle.derivable.proofs.Calls.{Between, Says, ReplyStored, Called, calls_kept, made_kept}
use Rattle.derivable.proofs.Derive.{closed}
use Rattle.derivable.proofs.Spoilt.{checked_clean}

-- A table names its goal.

module _ {n : ℕ} (f : Forest) (s : SoundForest n f) (t : TableIndex) (own : Table) (made : get_elem? f.tables t ≡ some own)
    (unmarked : f.mark ≡ 0) where
  index_is : (o : Option ℕ) → index_of own.table_goal f.tables ≡ o → o ≡ some t
  index_is none e = absurd (true≢false (sym (eq-eqb own.table_goal own.table_goal refl)
      ∙ position_none (λ u. eqb u.table_goal own.table_goal) f.tables e t own made))
  index_is (some i) e =
      let r = position_at (λ u. eqb u.table_goal own.table_goal) f.tables i e in
      ap some (s.tables_apart i t r.0 own r.1 made (eqb-true r.0.table_goal own.table_goal r.2))

  pub own_named : Names f t own.table_goal
  own_named =
      let here = index_is (index_of own.table_goal f.tables) refl in
      let lt = (all_at t s.sound_tables made).goal_named in
      let goals = s.goals in
      let within : own.table_goal < length f.book = omega arith in (
        opened 0 f own.table_goal,
        rw (unmarked, lt-leb (length f.book) own.table_goal within),
        rw (here, opened, get_or_create_table_for_ucanonical_goal),
      )

  found_at : (h : ℕ) (o : Option ℕ) → index_of h f.tables ≡ o
      → (r : TableIndex × Forest) → elim o [
        | some table ↦ go (table, f)
        | none ↦ build_table f.book h >>= λ table.
            stop_if (ltb 256 (0 + queued (with_tables f (f.tables ++ (table ∷ []))))) 22 >> go (
              length f.tables,
              with_tables f
                  (f.tables ++ (table ∷ [])),
            )
      ] ≡ go r → r.0 ≡ t → h ≡ own.table_goal
  found_at h none e r k q = by_built (build_table f.book h) k
    where
      by_built : (b : Stops Table) → (b >>= λ table.
          stop_if (ltb 256 (0 + queued (with_tables f (f.tables ++ (table ∷ []))))) 22 >> go (
            length f.tables,
            with_tables f
                (f.tables ++ (table ∷ [])),
          ))
          ≡ go r → h ≡ own.table_goal
      by_built (stop n) k = stop_go k
      by_built (go u) k = by_room (ltb 256 (0 + queued (with_tables f (f.tables ++ (u ∷ []))))) k
        where
          by_room : (b : Bool) → (stop_if b 22 >> go (length f.tables, with_tables f (f.tables ++ (u ∷ [])))) ≡ go r
              → h ≡ own.table_goal
          by_room true k = stop_go k
          by_room false k =
              let z : length f.tables ≡ r.0 = ap (λ (w : TableIndex × Forest). w.0) (same_go k) in
              let under = place_under f.tables t own made in
              absurd (omega arith)
  found_at h (some i) e r k q =
      let z : i ≡ r.0 = ap (λ (w : TableIndex × Forest). w.0) (same_go k) in
      let p = position_at (λ u. eqb u.table_goal h) f.tables i e in
      sym (eqb-true p.0.table_goal h p.2) ∙ ap (λ (w : Table). w.table_goal)
      (same_some (sym p.1 ∙ ap (get_elem? f.tables) (z ∙ q) ∙ made))

  pub other_named : (h : ℕ) → Names f t h → h ≡ own.table_goal
  other_named h (r, e, k) =
      let x = all_pass (is_marked f refuses 20 ∷ leb (length f.book) h refuses 9 ∷ []) (opened 0 f h) r e in
      by_made (get_or_create_table_for_ucanonical_goal 0 f h) refl (ap (λ (z : Opened). z.table) x.1 ∙ k)
    where
      by_made : (o : Stops (TableIndex × Forest)) → get_or_create_table_for_ucanonical_goal 0 f h ≡ o
          → ◌≡◌ {A = Stops TableIndex} (elim o as (λ w. Opened) [
            | stop n ↦ record { table = stop n; forest = with_mark f n }
            | go r ↦ record { table = go r.0; forest = r.1 }
          ]).table (go t) → h ≡ own.table_goal
      by_made (stop n) q z = stop_go z
      by_made (go r) q z = found_at h (index_of h f.tables) refl r q (same_go z)

  pub named : (Is : ℕ → Type 0) → Is own.table_goal → Named f t Is
  named Is x = ((own.table_goal, own_named), λ h q. subst Is (sym (other_named h q)) x)

-- What is kept is what is claimed.

module _ (book : Book) (C : ℕ → Type 0) (clean : Clean book C) where
  stored : {m : ℕ} (f : Forest) → Between (closed book C clean) m f → StoredDerivable book C f
  stored f b t own e c = all_each (all_map (λ a x. (x c).1) (all_at t b.kept.kept_tables e).kept_answers)

  by_ending : {n : ℕ} (f : Forest) → SoundForest n f → (t : TableIndex) (e : Ending) → Says (closed book C clean) f t e
      → EndingDerivable book C f t e
  by_ending f s t (found a) x =
      named f s t x.own x.is_made x.unmarked (λ goal. C goal → a.ambiguous ≡ false → Derivable book goal a.variant)
      (λ c. (x.as_stored c).1)
  by_ending f s t (fail e) x = tt
  by_ending f s t cut x = tt
  by_ending f s t (stopped n) x = tt

  by_reply : {n : ℕ} (f : Forest) → SoundForest n f → (at : Option (TableIndex × ℕ)) (r : Reply)
      → ReplyStored (closed book C clean) at f r → ReplyDerivable book C at f r
  by_reply f s at (said.refusal n) x = tt
  by_reply f s at (said.table t) x = tt
  by_reply f s none (said.searched e turns) x = x
  by_reply f s (some (t, i)) (said.searched e turns) x = by_ending f s t e x
  by_reply f s none (said.peeked e i turns k) x = x
  by_reply f s (some (t, j)) (said.peeked e i turns k) x = by_ending f s t e x
  by_reply f s at (said.future b) x = tt

  each_call : (n : ℕ) (cs : List said.Called) → Each (λ c. SoundForest n c.after.forest) cs
      → Each (λ c. Called (closed book C clean) (about c.before c.asked) (c.reply, c.after)) cs → Each (CallDerivable book C) cs
  each_call n [] x y = tt
  each_call n (c ∷ cs) x y = (
    record {
      stored_derivable = stored c.after.forest y.0.between;
      reply_derivable = by_reply c.after.forest x.0 (about c.before c.asked) c.reply y.0.says;
    },
    each_call n cs x.1 y.1,
  )

  -- a forest just made
  from_start : (f : Forest) (n : ℕ) → SoundForest n f → Between (closed book C clean) 0 f
      → (cs : List Call) → Each (CallDerivable book C) (said.calls (sitting f) cs)
  from_start f n s b cs =
      each_call n (said.calls (sitting f) cs) (forests_sound n cs (sitting f) s) (calls_kept (closed book C clean) cs (sitting f) 0 b)

-- a forest just made has nothing but its book and its limit
pub made_is : (r : Refusable Book) (limit : ℕ) (f : Forest) → make_of r limit ≡ accepted f
    → (r ≡ accepted f.book) × (bare f.book limit 0 ≡ f)
made_is (refused n) limit f e = absurd (not_accepted e)
made_is (accepted book) limit f e =
    let q = (all_pass ((eqb limit 0 || leb MAX limit) refuses 13 ∷ []) (bare book limit 0) f e).1 in
    let is : book ≡ f.book = ap (λ (z : Forest). z.book) q in
    (ap accepted is, ap (λ (z : Book). bare z limit 0) (sym is) ∙ q)

pub certified : Certified
certified bytes limit f e C clean cs =
    let kept = closed f.book C clean in
    from_start f.book C clean f (length f.book) (made_sound bytes limit f e)
    (subst (λ (z : Forest). Between kept 0 z) (made_is (read bytes) limit f e).1 (made_kept kept limit)) cs

-- through the desk: a forest that is made there is one that `make` gives
pub certified_at_desk : CertifiedAtDesk
certified_at_desk bytes limit f e = certified bytes limit f (made_as_read bytes limit f e)

-- a book with no "not" and no coinductive goal is clean as a whole
pub whole_book : (book : Book) → CleanBook book → Clean book (λ goal. Unit {0})
whole_book book x goal g c e = all_at goal (each_all book x) e

pub book_certified : BookCertified
book_certified bytes limit f e x cs = certified bytes limit f e (λ goal. Unit {0}) (whole_book f.book x) cs

-- a paper whose goals were looked at beforehand
pub unspoilt_certified : UnspoiltCertified
unspoilt_certified bytes ss e limit f made =
    certified_at_desk bytes limit f made (λ goal. spoiler_in ss goal ≡ none)
    (checked_clean bytes f.book (made_is (desk bytes) limit f made).0 ss e)

-- a set with the same goals as a clean one is clean
module _ (book : Book) {C D : ℕ → Type 0} (there : (goal : ℕ) → C goal → D goal) (back : (goal : ℕ) → D goal → C goal) where
  literal_same : (l : Literal) → CleanLiteral C l → CleanLiteral D l
  literal_same (Positive goal want outsized) x = there goal x
  literal_same (Negative goal outsized) x = x

  pub clean_same : Clean book C → Clean book D
  clean_same clean goal g d e =
      let x = clean goal g (back goal d) e in
      record {
        inductive = x.inductive;
        literals_clean = each_map (λ (c : Clause) y. each_map literal_same c.literals y) g.clauses x.literals_clean;
      }

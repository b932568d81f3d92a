-- Making a table: a goal's table is found, or made new with one strand for each of the goal's clauses. The test for 22 passes.
use Prim.Native.Nat.{ℕ, zero, suc, ◌+◌, ◌≤◌, ◌<◌}
use native.Mathlib.Omega.{arith}
use native.Mathlib.Decide.{ℕ_discrete}
use borrow.Author.Tests.{le-ltb}
use mathlib.Core.Path.{◌≡◌, refl, sym, ap, subst, ◌∙◌}
use mathlib.Core.Bool.{Bool, true, false}
use mathlib.Core.Option.{Option, none, some}
use mathlib.Core.List.{List, [], ◌∷◌, ◌++◌, map}
use lib.ListN.{length, get_elem?}
use Rattle.definitions.specs.Book.{Book, Goal, Clause, Literal, Positive, Negative}
use Rattle.definitions.specs.Stop.{go}
use Rattle.definitions.specs.Lists.{total, Each}
use Rattle.definitions.specs.Table.{Table}
use Rattle.definitions.specs.Tables.{Tables, Forest, index_of}
use Rattle.papers.specs.Model.{PlainLiteral, PlainClause, PlainGoal}
use Rattle.definitions.specs.Logic.{initial_strand, build_table, get_or_create_table_for_ucanonical_goal}
use Rattle.laws.proofs.Lists.{at_append, last_one, at_place}
use Rattle.laws.proofs.Options.{no_such, same_some}
use Rattle.laws.proofs.Sums.{sum}
use Rattle.promises.proofs.Plain.Model.{Lit, Body}
use Rattle.promises.proofs.Plain.Machine as M
use Rattle.promises.proofs.Link.View.{literal, literals, Names, strand_of, StrandIs, free, QueueIs, q_end, q_more, table_of}
use Rattle.promises.proofs.Link.View.{table_is, TableAt, TablesAre, t_end, t_more}
use Rattle.promises.proofs.Link.Tables.{lit, body_of, bodies, book_of, Extends, Absent, table_more, tables_map, FoundIs, found_at}
use Rattle.promises.proofs.Link.Tables.{found_none, goal_found, forest_of, Agree}
use Rattle.promises.proofs.Link.Sums.{queued_under}

-- a book that can be used: plain, its literals name goals, and it keeps within the limits
pub record Sound (book : Book) : Type 0 where
  pub plain : (g : ℕ) (G : Goal) → get_elem? book g ≡ some G → PlainGoal G
  pub names : (g : ℕ) (G : Goal) → get_elem? book g ≡ some G → Each (λ c. Names (length book) (body_of c.literals)) G.clauses
  pub few_goals : length book ≤ 64

-- Bodies and back.

literals_last : (b : Body) (l : Lit) → literals (b ++ (l ∷ [])) ≡ literal l ∷ literals b
literals_last [] l = refl
literals_last (x ∷ b) l = ap (λ z. z ++ (literal x ∷ [])) (literals_last b l)

literal_back : (l : Literal) → PlainLiteral l → literal (lit l) ≡ l
literal_back (Positive g w o) p = λ i. Positive g (sym p.0 i) (sym p.1 i)
literal_back (Negative g o) p = λ i. Negative g (sym p i)

pub literals_back : (ls : List Literal) → Each PlainLiteral ls → literals (body_of ls) ≡ ls
literals_back [] p = refl
literals_back (l ∷ ls) p = literals_last (body_of ls) (lit l) ∙ (λ i. literal_back l p.0 i ∷ literals_back ls p.1 i)

initial_is : (c : Clause) → PlainClause c → strand_of 0 (body_of c.literals) none 0 ≡ initial_strand c
initial_is c p = λ i. record {
  ex_clause = record {
    subst = record { variant = sym p.as_a_whole i; outsized = sym p.small i };
    ambiguous = sym p.provable i;
    subgoals = literals_back c.literals p.literals_plain i;
    delayed_subgoals = [];
    answer_time = 0;
    floundered_subgoals = [];
  };
  selected_subgoal = none;
  last_pursued_time = 0;
}

new_queue : (n : ℕ) (gs : List ℕ) (cs : List Clause) → Each PlainClause cs → Each (λ c. Names n (body_of c.literals)) cs
    → QueueIs n gs (map initial_strand cs) (map M.fresh (bodies cs))
new_queue n gs [] p w = q_end
new_queue n gs (c ∷ cs) p w = q_more (subst (λ s. StrandIs n gs s (M.fresh (body_of c.literals))) (initial_is c p.0)
    (free 0 (body_of c.literals) 0 w.0)) (new_queue n gs cs p.1 w.1)

build_is : (book : Book) (h : ℕ) (G : Goal) → get_elem? book h ≡ some G → PlainGoal G
    → build_table book h ≡ go (table_of h false true (map initial_strand G.clauses))
build_is book h G e p = rw e (rw p.unfloundered (rw p.inductive))

-- What making gives.
pub record Made (book : Book) (limit mark : ℕ) (gs : List ℕ) (ts : Tables) (p : M.Forest) (c others h : ℕ) : Type 0 where
  pub place : ℕ
  pub goals : List ℕ
  pub after : Tables
  pub is : get_or_create_table_for_ucanonical_goal others (forest_of book limit mark ts c) h ≡ go (place, forest_of book limit mark after c)
  pub more : Extends gs goals
  pub at : get_elem? goals place ≡ some h
  pub agree : Agree book goals after (M.make p h)

made_put : (f : ℕ → Bool) (h g : ℕ) → f g ≡ true → M.put f h true g ≡ true
made_put f h g e = go (ℕ_discrete h g)
  where
    go : (d : Dec (h ≡ g)) → M.pick d true (f g) ≡ true
    go (yes k) = refl
    go (no o) = e

made_new : (f : ℕ → Bool) (h g : ℕ) → h ≡ g → M.put f h true g ≡ true
made_new f h g e = go (ℕ_discrete h g)
  where
    go : (d : Dec (h ≡ g)) → M.pick d true (f g) ≡ true
    go (yes k) = refl
    go (no o) = absurd (o e)

-- a table that is there already
pub found_made : {book : Book} {gs : List ℕ} {ts : Tables} {p : M.Forest} → Agree book gs ts p → (h : ℕ) → Agree book gs ts (M.make p h)
found_made {p = p} a h = record {
  tables = tables_map a.tables (λ i g e t x. x);
  distinct = a.distinct;
  within = a.within;
  made = λ i g e. made_put p.made h g (a.made i g e);
  unmade = a.unmade;
}

-- the goals of the tables and one more

data Where (gs : List ℕ) (h i g : ℕ) : Type 0 where
  before : get_elem? gs i ≡ some g → Where gs h i g
  last : h ≡ g → i ≡ length gs → Where gs h i g

place_of : (gs : List ℕ) (h i g : ℕ) → get_elem? (gs ++ (h ∷ [])) i ≡ some g → Where gs h i g
place_of [] h zero g e = last (same_some e) refl
place_of [] h (suc i) g e = absurd (no_such e)
place_of (x ∷ gs) h zero g e = before e
place_of (x ∷ gs) h (suc i) g e = next (place_of gs h i g e)
  where
    next : Where gs h i g → Where (x ∷ gs) h (suc i) g
    next (before o) = before o
    next (last o k) = last o (ap suc k)

tables_last : {n : ℕ} {gs : List ℕ} {p : M.Forest} {hs : List ℕ} {ts : Tables} → TablesAre n gs p hs ts → (h : ℕ) (t : Table)
    → TableAt n gs p h t → TablesAre n gs p (hs ++ (h ∷ [])) (ts ++ (t ∷ []))
tables_last t_end h t x = t_more x t_end
tables_last (t_more y ys) h t x = t_more y (tables_last ys h t x)

pub tables_length : {n : ℕ} {gs : List ℕ} {p : M.Forest} {hs : List ℕ} {ts : Tables} → TablesAre n gs p hs ts → length ts ≡ length hs
tables_length t_end = refl
tables_length (t_more y ys) = ap suc (tables_length ys)

new_agree : {book : Book} {gs : List ℕ} {ts : Tables} {p : M.Forest} → Agree book gs ts p → (h : ℕ) → h < length book → Absent h gs
    → (t : Table) → TableAt (length book) (gs ++ (h ∷ [])) (M.make p h) h t → Agree book (gs ++ (h ∷ [])) (ts ++ (t ∷ [])) (M.make p h)
new_agree {book} {gs} {ts} {p} a h lt none_yet t x = record {
  tables = tables_last (tables_map a.tables (λ i g e u y. table_more (λ j k o. at_append gs (h ∷ []) j k o) y)) h t x;
  distinct = λ i j g e o. same i j g (place_of gs h i g e) (place_of gs h j g o);
  within = λ i g e. under i g (place_of gs h i g e);
  made = λ i g e. made i g (place_of gs h i g e);
  unmade = λ g o. a.unmade g (λ i e. o i (at_append gs (h ∷ []) i g e));
}
  where
    same : (i j g : ℕ) → Where gs h i g → Where gs h j g → i ≡ j
    same i j g (before e) (before o) = a.distinct i j g e o
    same i j g (before e) (last o k) = absurd (none_yet i (e ∙ ap some (sym o)))
    same i j g (last e k) (before o) = absurd (none_yet j (o ∙ ap some (sym e)))
    same i j g (last e k) (last o k') = k ∙ sym k'

    under : (i g : ℕ) → Where gs h i g → g < length book
    under i g (before e) = a.within i g e
    under i g (last e k) = subst (λ z. z < length book) e lt

    made : (i g : ℕ) → Where gs h i g → M.put p.made h true g ≡ true
    made i g (before e) = made_put p.made h g (a.made i g e)
    made i g (last e k) = made_new p.made h g e

module _ {book : Book} (sound : Sound book) (limit mark : ℕ) {gs : List ℕ} {ts : Tables} {p : M.Forest} (a : Agree book gs ts p)
    (c others h : ℕ) (lt : h < length book) (room : others + sum (length book) (λ g. length (p.queue g)) ≤ 256) where
  new_table : Absent h gs → (G : Goal) → get_elem? book h ≡ some G
      → TableAt (length book) (gs ++ (h ∷ [])) (M.make p h) h (table_of h false true (map initial_strand G.clauses))
  new_table none_yet G e =
      let r = a.unmade h none_yet in
      let q : book_of book h ≡ bodies G.clauses = ap (λ o. bodies (elim o [ none ↦ [] | some g ↦ g.clauses ])) e in
      rw (r.0, r.1, r.2) (rw q (table_is (map initial_strand G.clauses)
      (new_queue (length book) (gs ++ (h ∷ [])) G.clauses (sound.plain h G e).clauses_plain (sound.names h G e))))

  make_new : index_of h ts ≡ none → Absent h gs → (G : Goal) → get_elem? book h ≡ some G → Made book limit mark gs ts p c others h
  make_new e none_yet G k =
      let t = table_of h false true (map initial_strand G.clauses) in
      let agree = new_agree a h lt none_yet t (new_table none_yet G k) in
      let few = queued_under agree in
      record {
        place = length ts;
        goals = gs ++ (h ∷ []);
        after = ts ++ (t ∷ []);
        is = rw (e, get_or_create_table_for_ucanonical_goal)
            (rw (build_is book h G k (sound.plain h G k))
            (rw (le-ltb 256 (others + total (λ t. length t.strands) (ts ++ (t ∷ []))) (omega arith))));
        more = λ i g o. at_append gs (h ∷ []) i g o;
        at = ap (λ z. get_elem? (gs ++ (h ∷ [])) z) (tables_length a.tables) ∙ last_one gs h;
        agree = agree;
      }

  pub make_table : Made book limit mark gs ts p c others h
  make_table = go (index_of h ts) refl (goal_found a.tables h)
    where
      go : (o : Option ℕ) → index_of h ts ≡ o → FoundIs h gs o → Made book limit mark gs ts p c others h
      go (some i) e (found_at j k) = record {
        place = j;
        goals = gs;
        after = ts;
        is = rw (e, get_or_create_table_for_ucanonical_goal);
        more = λ i g o. o;
        at = k;
        agree = found_made a h;
      }
      go none e (found_none n) = let G = at_place book h lt in make_new e n G.0 G.1

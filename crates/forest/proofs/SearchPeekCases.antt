-- The ways out of `search` and `peek` over variables.
use Prim.Native.Nat.{ℕ, ◌-◌, ◌%◌, ◌≤◌, ◌<◌}
use native.Mathlib.Omega.{arith}
use mathlib.Core.Bool.{Bool, true, false, ◌||◌}
use mathlib.Core.List.{List, [], ◌∷◌}
use mathlib.Core.Option.{some}
use mathlib.Core.Path.{◌≡◌, refl, sym, ap, ap₂, subst, ◌∙◌}
use lib.Dec.{eqb}
use borrow.Author.Tests.{eq-eqb, ne_eqb}
use Rattle.definitions.specs.{MAX}
use Rattle.definitions.specs.Forest as said
use Rattle.definitions.specs.Forest.{peek_rounds}
use Rattle.definitions.specs.Refusal.{accepted, Test, ◌refuses◌, unless}
use Rattle.definitions.specs.Turn as turns
use Rattle.definitions.specs.Turn.{root_answer}
use Rattle.definitions.proofs.Refusal.{not_accepted}
use Rattle.asserts.proofs.Unwinding.{Ended}
use Rattle.stores.specs.declared.stack.Stack.{Stack}
use Rattle.search.specs.declared.course.Asked.{Asked}
use Rattle.search.specs.declared.course.Ending.{Ending}
use Rattle.search.specs.declared.course.Ending.TheVariants as endings
use Rattle.search.specs.declared.course.Mode.{Mode}
use Rattle.search.specs.declared.course.Mode.TheVariants as modes
use Rattle.search.specs.Means.{Rests, ending_means}
use Rattle.search.specs.RootAnswer.{start}
use Rattle.forest.specs.declared.Forest.{Forest}
use Rattle.forest.specs.declared.searches.Outcome.{Outcome}
use Rattle.forest.specs.declared.searches.Outcome.TheVariants as outcomes
use Rattle.forest.specs.declared.searches.Ran.{Ran}
use Rattle.forest.specs.Searches.{outcome_of, reply_by, refusal_of, course_in, RunsWith, SearchSays, PeekSays}
use Rattle.forest.specs.View.{stores_with, view, Sound}
use Rattle.forest.proofs.Refusing.{refused_or, refused_some, refused_none, marked_refused, table_small}
use Rattle.forest.proofs.Refusing.{refusal_is, table_made, asked_ended}
use Rattle.forest.proofs.Running.{stack_left, rests_bare, search_runs, peek_runs}

-- WHAT AN ENDING MEANS
pub reply_is : {A : Type 0} (e : Ending) (with : turns.Ending → A) → reply_by (outcome_of e) with ≡ accepted (with (ending_means e))
reply_is (endings.Found variant ambiguous) with = refl
reply_is endings.NoMoreSolutions with = refl
reply_is endings.Floundered with = refl
reply_is endings.QuantumExceeded with = refl
reply_is endings.NegativeCycle with = refl
reply_is endings.InvalidAnswer with = refl
reply_is endings.Cut with = refl
reply_is (endings.Stopped n) with = refl

never_refused : (e : Ending) (n : ℕ) → outcome_of e ≡ outcomes.Refused n → ⊥
never_refused e n h =
    not_accepted (sym (ap (λ (x : Outcome). reply_by x (λ y. y)) h) ∙ reply_is e (λ (y : turns.Ending). y))

abbrev pub asked_in : Forest → Mode → (table limit : ℕ) → Asked
asked_in f mode table limit = record { mode = mode; table = table % 256; limit = limit; clock_limit = f.clock_limit }

abbrev pub RunsFrom : Forest → Stack → Asked → (index more : ℕ) → Ran → Type 0
RunsFrom f k asked index more r =
    RunsWith f k asked (start asked f.stores.tables.floundered f.stores.answers.places.next f.stores.answers.places.tail f.stores.answers.places.len f.stores.answers.variant
    f.stores.answers.key f.stores.answers.ambiguous (course_in f index more)) r

-- nothing is refused by the first three, and then the forest is not marked
module _ (f : Forest) (t i n : ℕ) (is : n ≡ refusal_of f t i) (passes : n ≤ 0) where
  none_refuses : refusal_of f t i ≡ 0
  none_refuses = omega (arith, is)

  unmarked : {A : Type 0} → (f.mark ≡ 0 → ⊥) → A
  unmarked m = absurd (omega (arith, marked_refused f t i m, none_refuses))

-- THE WAYS OUT OF `search`
module _ (f : Forest) (t i limit n : ℕ) (is : n ≡ refusal_of f t i) where
  abbrev found : turns.Searched
  found = root_answer limit t i (view f)

  abbrev last_test : List Test
  last_test = eqb limit 0 refuses 12 ∷ []

  pub search_refused : 0 < n → SearchSays f t i limit (record { outcome = outcomes.Refused n; turns = 0; forest = f })
  search_refused h = record {
    says = λ o.
        sym (refused_some n last_test found h) ∙ ap (λ (k : ℕ). refused_or k last_test found) is
        ∙ sym (refusal_is f o t i last_test found);
    sound = λ o. o;
    unchanged = λ k e. ap (λ (x : Outcome). record { outcome = x; turns = 0; forest = f }) e;
    marked = λ m. ap outcomes.Refused (is ∙ marked_refused f t i m);
  }

  module _ (passes : n ≤ 0) where
    goes_on : Sound f → said.search (view f) t i limit ≡ unless (eqb limit 0 refuses 12 ∷ []) (root_answer limit t i (view f))
    goes_on o = refusal_is f o t i last_test found ∙ refused_none (refusal_of f t i) last_test found (none_refuses f t i n is passes)

    pub search_limit : limit ≡ 0 → SearchSays f t i limit (record { outcome = outcomes.Refused 12; turns = 0; forest = f })
    search_limit e = record {
      says = λ o. sym (goes_on o ∙ ap (λ (b : Bool). unless (b refuses 12 ∷ []) found) (eq-eqb limit 0 e));
      sound = λ o. o;
      unchanged = λ k q. ap (λ (x : Outcome). record { outcome = x; turns = 0; forest = f }) q;
      marked = λ m. unmarked f t i n is passes m;
    }

    module _ (some : limit ≡ 0 → ⊥) (few : limit ≤ MAX) (k : Stack) (rests : Sound f → Rests (stores_with f k)) (r : Ran)
        (h : RunsFrom f k (asked_in f modes.Search t limit) i 0 r) where
      pub searches_so : Sound f → (root_answer limit t i (view f)
          ≡ (record { ending = ending_means r.course.ending; turns = r.course.done; forest = view r.forest }))
          × Rests (stores_with r.forest (stack_left r.course h.stack))
      searches_so o =
          let there = table_made f o t i (none_refuses f t i n is passes) in
          let small = table_small f o t i there in
          let x = search_runs f (asked_in f modes.Search t limit) refl few refl i 0 k (rests o)
          (subst (λ (j : ℕ). Ended f.book.goals j i (view f)) (sym small) (asked_ended f o t i (none_refuses f t i n is passes))) r h refl in
          (ap (λ (j : ℕ). root_answer limit j i (view f)) (sym small) ∙ x.0, x.1)

      pub search_ran : (outcome : Outcome) → outcome ≡ outcome_of r.course.ending
          → SearchSays f t i limit (record { outcome = outcome; turns = r.course.done; forest = r.forest })
      search_ran outcome q = record {
        says = λ o.
            ap (λ (x : Outcome). reply_by x told) q ∙ reply_is r.course.ending told ∙ ap accepted (sym (searches_so o).0)
            ∙ sym (goes_on o ∙ ap (λ (b : Bool). unless (b refuses 12 ∷ []) found) (ne_eqb limit 0 some));
        sound = λ o. rests_bare r.forest (stack_left r.course h.stack) (searches_so o).1;
        unchanged = λ k e. absurd (never_refused r.course.ending k (sym q ∙ e));
        marked = λ m. unmarked f t i n is passes m;
      }
        where
          told : turns.Ending → turns.Searched
          told e = record { ending = e; turns = r.course.done; forest = view r.forest }

-- THE WAYS OUT OF `peek`
module _ (f : Forest) (t i rounds limit n : ℕ) (is : n ≡ refusal_of f t i) where
  abbrev peeked : said.Peeked
  peeked = peek_rounds (rounds - 1) limit 0 t i (view f)

  abbrev last_peek_test : List Test
  last_peek_test = (eqb rounds 0 || eqb limit 0) refuses 12 ∷ []

  pub peek_refused : 0 < n → PeekSays f t i rounds limit
      (record { outcome = outcomes.Refused n; index = i; turns = 0; exceeded = 0; forest = f })
  peek_refused h = record {
    says = λ o.
        sym (refused_some n last_peek_test peeked h) ∙ ap (λ (k : ℕ). refused_or k last_peek_test peeked) is
        ∙ sym (refusal_is f o t i last_peek_test peeked);
    sound = λ o. o;
    unchanged = λ k e. ap (λ (x : Outcome). record { outcome = x; index = i; turns = 0; exceeded = 0; forest = f }) e;
    marked = λ m. ap outcomes.Refused (is ∙ marked_refused f t i m);
  }

  module _ (passes : n ≤ 0) where
    peek_goes_on : Sound f → said.peek (view f) t i rounds limit
        ≡ unless ((eqb rounds 0 || eqb limit 0) refuses 12 ∷ []) (peek_rounds (rounds - 1) limit 0 t i (view f))
    peek_goes_on o =
        refusal_is f o t i last_peek_test peeked
        ∙ refused_none (refusal_of f t i) last_peek_test peeked (none_refuses f t i n is passes)

    by_limits : (eqb rounds 0 || eqb limit 0) ≡ true
        → PeekSays f t i rounds limit (record { outcome = outcomes.Refused 12; index = i; turns = 0; exceeded = 0; forest = f })
    by_limits e = record {
      says = λ o. sym (peek_goes_on o ∙ ap (λ (b : Bool). unless (b refuses 12 ∷ []) peeked) e);
      sound = λ o. o;
      unchanged = λ k q. ap (λ (x : Outcome). record { outcome = x; index = i; turns = 0; exceeded = 0; forest = f }) q;
      marked = λ m. unmarked f t i n is passes m;
    }

    pub peek_rounds_none : rounds ≡ 0
        → PeekSays f t i rounds limit (record { outcome = outcomes.Refused 12; index = i; turns = 0; exceeded = 0; forest = f })
    peek_rounds_none e = by_limits (ap (λ (b : Bool). b || eqb limit 0) (eq-eqb rounds 0 e))

    module _ (some_rounds : rounds ≡ 0 → ⊥) where
      limits : (b : Bool) → eqb limit 0 ≡ b → (eqb rounds 0 || eqb limit 0) ≡ b
      limits b e = ap₂ (λ (x y : Bool). x || y) (ne_eqb rounds 0 some_rounds) e

      pub peek_limit : limit ≡ 0
          → PeekSays f t i rounds limit (record { outcome = outcomes.Refused 12; index = i; turns = 0; exceeded = 0; forest = f })
      peek_limit e = by_limits (limits true (eq-eqb limit 0 e))

      module _ (some : limit ≡ 0 → ⊥) (few : limit ≤ MAX) (few_rounds : rounds ≤ MAX) (k : Stack)
          (rests : Sound f → Rests (stores_with f k)) (r : Ran) (h : RunsFrom f k (asked_in f modes.Peek t limit) i (rounds - 1) r) where
        pub peeks_so : Sound f → (peek_rounds (rounds - 1) limit 0 t i (view f) ≡ (record {
          ending = ending_means r.course.ending;
          index = r.course.index;
          turns = r.course.done;
          exceeded = r.course.exceeded;
          forest = view r.forest;
        })) × Rests (stores_with r.forest (stack_left r.course h.stack))
        peeks_so o =
            let there = table_made f o t i (none_refuses f t i n is passes) in
            let small = table_small f o t i there in
            let x = peek_runs f (asked_in f modes.Peek t limit) refl few refl i (rounds - 1) k (rests o)
            (subst (λ (j : ℕ). Ended f.book.goals j i (view f)) (sym small) (asked_ended f o t i (none_refuses f t i n is passes))) r h refl
            (fewer rounds few_rounds) in
            (ap (λ (j : ℕ). peek_rounds (rounds - 1) limit 0 j i (view f)) (sym small) ∙ x.0, x.1)
          where
            fewer : (k : ℕ) → k ≤ MAX → k - 1 < MAX
            fewer k q = omega arith

        pub peek_ran : (outcome : Outcome) → outcome ≡ outcome_of r.course.ending → PeekSays f t i rounds limit (record {
          outcome = outcome;
          index = r.course.index;
          turns = r.course.done;
          exceeded = r.course.exceeded;
          forest = r.forest;
        })
        peek_ran outcome q = record {
          says = λ o.
              ap (λ (x : Outcome). reply_by x told) q ∙ reply_is r.course.ending told ∙ ap accepted (sym (peeks_so o).0)
              ∙ sym (peek_goes_on o ∙ ap (λ (b : Bool). unless (b refuses 12 ∷ []) peeked) (limits false (ne_eqb limit 0 some)));
          sound = λ o. rests_bare r.forest (stack_left r.course h.stack) (peeks_so o).1;
          unchanged = λ k e. absurd (never_refused r.course.ending k (sym q ∙ e));
          marked = λ m. unmarked f t i n is passes m;
        }
          where
            told : turns.Ending → said.Peeked
            told e = record {
              ending = e;
              index = r.course.index;
              turns = r.course.done;
              exceeded = r.course.exceeded;
              forest = view r.forest;
            }

-- What is run from a sound forest on, with any stack that nothing is on: a search comes to the definitions' `root_answer`, a peek to their
-- `peek_rounds`, and the forest that is left is sound, with nothing on the stack that is left.
use Prim.Native.Nat.{ℕ, ◌≤◌, ◌<◌}
use native.Mathlib.Omega.{arith}
use mathlib.Core.Bool.{true, false}
use mathlib.Core.Path.{◌≡◌, refl, sym, ap, subst, ◌∙◌}
use lib.ListN.{length}
use Rattle.definitions.specs.{MAX}
use Rattle.definitions.specs.Forest.{Peeked, peek_rounds}
use Rattle.definitions.specs.Tables as said
use Rattle.definitions.specs.Turn.{Searched, root_answer}
use Rattle.laws.proofs.Spans.{length_span}
use Rattle.asserts.proofs.Unwinding.{Ended}
use Rattle.stores.specs.declared.stack.Stack.{Stack}
use Rattle.stores.specs.Sound.{SoundStrands, SoundStack}
use Rattle.stores.specs.View.{held_table, active_places}
use Rattle.stores.proofs.StackViews.{blank_stack_sound}
use Rattle.control.specs.PerformDeed.{stack_of}
use Rattle.control.specs.PerformStrand.{Lent}
use Rattle.control.specs.Stores.{Stores, first_strands, forest}
use Rattle.search.specs.declared.course.Asked.{Asked}
use Rattle.search.specs.declared.course.Course.{Course}
use Rattle.search.specs.Course.{is_turn, is_peek}
use Rattle.search.specs.Means.{Rests, ending_means, stores_of}
use Rattle.search.specs.RootAnswer.{start}
use Rattle.search.specs.Walk.{Walk, walk}
use Rattle.search.proofs.Answering.{search_answers, peek_answers}
use Rattle.forest.specs.declared.Forest.{Forest}
use Rattle.forest.specs.declared.searches.Ran.{Ran}
use Rattle.forest.specs.Searches.{course_in, Carries, RunsWith}
use Rattle.forest.specs.View.{book_in, lent_with, stores_with, stores_in, view, Sound}

pub tables_counted : (f : Forest) → length (view f).tables ≡ f.stores.tables.count
tables_counted f =
    let z = stores_in f in
    length_span (held_table (first_strands z.book) z.tables z.strands z.answers) 0 f.stores.tables.count

-- stores between two searches hold nothing on their stack, whichever stack that is
pub rests_bare : (g : Forest) (k : Stack) → Rests (stores_with g k) → Sound g
rests_bare g k o =
    let z = stores_with g k in
    record {
      book = o.book;
      sounds = record {
        tables = o.sounds.tables;
        strands =
            subst (λ (n : ℕ). SoundStrands (first_strands (book_in g)) z.strands g.stores.tables.count (active_places k.active n)) o.empty
            o.sounds.strands;
        answers = o.sounds.answers;
        stack = blank_stack_sound;
        made = λ i h. absurd (omega arith);
      };
      empty = refl;
      forest = o.forest;
    }

-- and the other way round
pub rests_with : (g : Forest) (k : Stack) → SoundStack k → k.depth ≡ 0 → Sound g → Rests (stores_with g k)
rests_with g k s e o =
    let z = stores_in g in
    record {
      book = o.book;
      sounds = record {
        tables = o.sounds.tables;
        strands =
            subst (λ (n : ℕ). SoundStrands (first_strands (book_in g)) z.strands g.stores.tables.count (active_places k.active n)) (sym e)
            o.sounds.strands;
        answers = o.sounds.answers;
        stack = s;
        made = λ i h. absurd (omega (arith, e, h));
      };
      empty = e;
      forest = o.forest;
    }

-- the stack that a course leaves of these entries
abbrev pub stack_left : Course → Stack → Stack
stack_left c k = stack_of c.depth k.table k.clock k.positive k.negative k.active

module _ (f : Forest) (asked : Asked) (same : asked.clock_limit ≡ f.clock_limit) where
  -- WHAT IS LEFT: the stores that a walk lends are those of the forest that carries its course
  module _ (c : Course) (g : Forest) (x : Carries f c g) (k : Stack) where
    left_is : stores_with g (stack_left c k) ≡ stores_of (book_in f) asked (walk c (lent_with g k))
    left_is =
        let limit : g.clock_limit ≡ asked.clock_limit = x.limit ∙ sym same in
        λ i. record {
          book = x.book i;
          tables = record {
            count = x.count i;
            goal = g.stores.tables.goal;
            coinductive = g.stores.tables.coinductive;
            floundered = g.stores.tables.floundered;
            complete = g.stores.tables.complete;
          };
          strands = record {
            strands = g.stores.strands.strands;
            time = g.stores.strands.time;
            ambiguous = g.stores.strands.ambiguous;
            variant = g.stores.strands.variant;
            waits = g.stores.strands.waits;
            wants = g.stores.strands.wants;
            places = record { next = g.stores.strands.places.next; tail = g.stores.strands.places.tail; len = g.stores.strands.places.len; top = x.used i };
          };
          answers = record {
            answers = g.stores.answers.answers;
            variant = g.stores.answers.variant;
            key = g.stores.answers.key;
            ambiguous = g.stores.answers.ambiguous;
            places = record { next = g.stores.answers.places.next; tail = g.stores.answers.places.tail; len = g.stores.answers.places.len; top = x.answer_used i };
          };
          stack = stack_left c k;
          clock_limit = limit i;
          mark = x.mark i;
          clock = x.clock i;
        }

    left_view : view g ≡ forest (stores_of (book_in f) asked (walk c (lent_with g k)))
    left_view = ap forest left_is

    left_rests : Rests (stores_of (book_in f) asked (walk c (lent_with g k))) → Rests (stores_with g (stack_left c k))
    left_rests o = subst Rests (sym left_is) o

  -- WHAT IT IS RUN FROM
  module _ (few : asked.limit ≤ MAX) (no_turn : is_turn asked.mode ≡ false) (index more : ℕ) (k : Stack)
      (o : Rests (stores_with f k)) (x : Ended f.book.goals asked.table index (view f)) where
    abbrev first : Course
    first = course_in f index more

    abbrev lent_first : Lent
    lent_first = lent_with f k

    abbrev first_walk : Walk
    first_walk = walk first lent_first

    first_is : stores_with f k ≡ stores_of (book_in f) asked first_walk
    first_is = λ i. record {
      book = book_in f;
      tables = lent_first.tables;
      strands = lent_first.strands;
      answers = lent_first.answers;
      stack = record {
        depth = o.empty i;
        table = k.table;
        clock = k.clock;
        positive = k.positive;
        negative = k.negative;
        active = k.active;
      };
      clock_limit = sym same i;
      mark = f.mark;
      clock = f.clock;
    }

    first_rests : Rests (stores_of (book_in f) asked first_walk)
    first_rests = subst Rests first_is o

    first_ended : Ended f.book.goals asked.table index (forest (stores_of (book_in f) asked first_walk))
    first_ended = subst (λ (z : Stores). Ended f.book.goals asked.table index (forest z)) first_is x

    module _ (r : Ran)
        (h : RunsWith f k asked (start asked f.stores.tables.floundered f.stores.answers.places.next f.stores.answers.places.tail f.stores.answers.places.len f.stores.answers.variant
        f.stores.answers.key f.stores.answers.ambiguous (course_in f index more)) r) where
      abbrev last : Walk
      last = walk r.course (lent_with r.forest h.stack)

      abbrev the_search : said.Forest → Searched
      the_search g = record { ending = ending_means r.course.ending; turns = r.course.done; forest = g }

      abbrev the_peek : said.Forest → Peeked
      the_peek g = record {
        ending = ending_means r.course.ending;
        index = r.course.index;
        turns = r.course.done;
        exceeded = r.course.exceeded;
        forest = g;
      }

      -- A SEARCH
      pub search_runs : is_peek asked.mode ≡ false
          → (root_answer asked.limit asked.table index (view f)
          ≡ (record { ending = ending_means r.course.ending; turns = r.course.done; forest = view r.forest }))
          × Rests (stores_with r.forest (stack_left r.course h.stack))
      search_runs no_peek =
          let a = search_answers (book_in f) asked few no_turn first lent_first first_rests first_ended no_peek {u = last} h.comes in
          let v = left_view r.course r.forest h.carries h.stack in (
            ap (λ (z : Stores). root_answer asked.limit asked.table index (forest z)) first_is ∙ a.0
                ∙ ap the_search (sym v),
            left_rests r.course r.forest h.carries h.stack a.2,
          )

      -- A PEEK
      pub peek_runs : is_peek asked.mode ≡ true → more < MAX
          → (peek_rounds more asked.limit 0 asked.table index (view f)
          ≡ (record {
            ending = ending_means r.course.ending;
            index = r.course.index;
            turns = r.course.done;
            exceeded = r.course.exceeded;
            forest = view r.forest;
          })) × Rests (stores_with r.forest (stack_left r.course h.stack))
      peek_runs peeks rounds =
          let a = peek_answers (book_in f) asked few no_turn first lent_first first_rests first_ended peeks (omega arith) {u = last}
          h.comes in
          let v = left_view r.course r.forest h.carries h.stack in (
            ap (λ (z : Stores). peek_rounds more asked.limit 0 asked.table index (forest z)) first_is ∙ a.0
                ∙ ap the_peek (sym v),
            left_rests r.course r.forest h.carries h.stack a.2,
          )

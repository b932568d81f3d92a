-- The ways out of `make_of`, over variables, and the two ways in.
use Prim.Native.Nat.{ℕ, ◌≤◌, ◌<◌}
use native.Mathlib.Omega.{arith}
use mathlib.Core.Bool.{Bool, true, false, ◌||◌}
use mathlib.Core.List.{List, [], ◌∷◌}
use mathlib.Core.Path.{◌≡◌, refl, sym, ap, ap₂, ◌∙◌, subst}
use lib.Dec.{eqb, leb}
use borrow.Author.Tests.{lt-leb, ne_eqb, eqb-false, leb-false}
use Rattle.definitions.specs.{MAX}
use Rattle.definitions.specs.Book as said_book
use Rattle.definitions.specs.Desk.{desk}
use Rattle.definitions.specs.Forest as said
use Rattle.definitions.specs.Refusal.{Refusable, refused, accepted, ◌refuses◌, unless}
use Rattle.definitions.specs.Tables as tables
use Rattle.definitions.proofs.Desk.{desk_reads}
use Rattle.laws.specs.All.{end}
use Rattle.laws.proofs.Spans.{length_span}
use Rattle.asserts.proofs.Reading.{bare_sound, made_sound}
use Rattle.asserts.specs.Sound.{SoundForest}
use Rattle.book.specs.View as books
use Rattle.book.specs.declared.Book.{Book}
use Rattle.book.specs.declared.refusal.Refusal.{Refusal}
use Rattle.book.specs.Refusals.{number}
use Rattle.std.proofs.Common.{Result, Ok, Err}
use Rattle.book.proofs.Course.{blank_sound}
use Rattle.stores.specs.declared.queue.Strands.{Strands}
use Rattle.stores.specs.declared.table.Answers.{Answers}
use Rattle.stores.specs.declared.tables.Tables.{Tables}
use Rattle.stores.specs.Queue.{blank_strands}
use Rattle.stores.specs.Table.{blank_answers}
use Rattle.stores.specs.Tables.{blank_tables}
use Rattle.stores.proofs.QueueSound.{blank_strands_sound}
use Rattle.stores.proofs.StackViews.{blank_stack_sound}
use Rattle.stores.proofs.TableViews.{blank_answers_sound}
use Rattle.stores.proofs.TablesViews.{blank_tables_sound}
use Rattle.control.specs.InHand.{Sounds}
use Rattle.control.specs.Stores.{first_strands}
use Rattle.forest.specs.declared.Forest.{Forest}
use Rattle.forest.specs.declared.make.Begun.{Begun}
use Rattle.forest.specs.declared.make.Made.{Made}
use Rattle.forest.specs.declared.make.Making.{Making}
use Rattle.forest.specs.declared.make.Making.TheVariants as makings
use Rattle.forest.specs.Make.{forest_with, bare, refused_with, begin_by, begin, book_kept, MadeSays, MakeSays, MakeAtDeskSays, Stems, MakeOfSays}
use Rattle.forest.specs.View.{stores_in, view, Sound}

-- which way it went
abbrev WasMade : Making → Type 0
WasMade (makings.Refused n) = ⊥
WasMade makings.Made = Unit {0}

abbrev number_in : Making → ℕ
number_in (makings.Refused n) = n
number_in makings.Made = 0

-- blank stores are sound, with any book
pub bare_sounds : (b : Book) (limit mark : ℕ) → Sounds [] (stores_in (bare b limit mark))
bare_sounds b limit mark = record {
  tables = blank_tables_sound;
  strands = blank_strands_sound (first_strands b);
  answers = blank_answers_sound;
  stack = blank_stack_sound;
  made = λ i h. absurd (omega (arith, h));
}

-- what a refusal leaves is sound: a blank book, blank stores, and the clock at its limit of 0
pub blank_rests : (n : ℕ) → Sound (bare books.blank 0 n)
blank_rests n = record {
  book = blank_sound;
  sounds = bare_sounds books.blank 0 n;
  empty = refl;
  forest = bare_sound [] 0 n (omega arith) end (omega arith);
}

refused_says : (what : Refusable tables.Forest) (n : ℕ) → refused n ≡ what → MadeSays what (refused_with n books.blank)
refused_says what n e = record {
  says = e;
  sound = blank_rests n;
  marked = λ m same. ap (bare books.blank 0) (ap number_in same);
}

-- OF A READING

module _ (limit : ℕ) where
  abbrev begun : said_book.Book → tables.Forest
  begun book = record { book = book; clock_limit = limit; mark = 0; tables = []; clock = 0 }

  abbrev limited : (zero large : Bool) → said_book.Book → Refusable tables.Forest
  limited zero large book = unless ((zero || large) refuses 13 ∷ []) (begun book)

  -- refused as it was read
  pub says_unread : (e : Refusal) → (m : Made) → m ≡ refused_with (number e) books.blank → MakeOfSays (Err e) limit m
  says_unread e m is = subst (MadeSays (refused (number e))) (sym is) (refused_says (refused (number e)) (number e) refl)

  module _ (b : Book) where
    abbrev what : Refusable tables.Forest
    what = limited (eqb limit 0) (leb MAX limit) (books.view b)

    -- the limit is 0, or the largest number
    pub says_limited : (zero large : Bool) → eqb limit 0 ≡ zero → leb MAX limit ≡ large → (zero || large) ≡ true → (m : Made)
        → m ≡ refused_with 13 books.blank → MakeOfSays (Ok b) limit m
    says_limited zero large ez el e m is =
        subst (MadeSays what) (sym is) (refused_says what 13
        (sym (ap₂ (λ (x y : Bool). limited x y (books.view b)) ez el
        ∙ ap (λ (x : Bool). unless (x refuses 13 ∷ []) (begun (books.view b))) e)))

    -- made
    module _ (some : limit ≡ 0 → ⊥) (low : limit < MAX) where
      is_made : accepted (view (bare b limit 0)) ≡ what
      is_made = sym (ap₂ (λ (x y : Bool). limited x y (books.view b)) (ne_eqb limit 0 some) (lt-leb MAX limit low))

      module _ (h : Stems (Ok b)) where
        rests : Sound (bare b limit 0)
        rests = record {
          book = h.sound;
          sounds = bare_sounds b limit 0;
          empty = refl;
          forest = subst (λ (n : ℕ). SoundForest n (view (bare b limit 0)))
              (length_span (books.goal_viewed b) 0 b.goals)
              (made_sound h.from.0 limit (view (bare b limit 0))
              (ap (λ (o : Refusable said_book.Book). said.make_of o limit) h.from.1 ∙ sym is_made));
        }

        pub says_made : (f : Forest) → f ≡ bare b limit 0 → MakeOfSays (Ok b) limit (record { making = makings.Made; forest = f })
        says_made f is = record {
          says = ap (λ (g : Forest). accepted (view g)) is ∙ is_made;
          sound = subst Sound (sym is) rests;
          marked = λ n never. absurd (subst WasMade never tt);
        }

-- BY WHAT IS BEGUN WITH: all ways out of `make_of` at once
module _ (limit : ℕ) where
  abbrev made_so : Result Book Refusal → Begun → Made
  made_so r x = record { making = x.making; forest = bare (book_kept r x.making) x.limit x.mark }

  by_limit : (b : Book) → Stems (Ok b) → (zero large : Bool) → eqb limit 0 ≡ zero → leb MAX limit ≡ large
      → MakeOfSays (Ok b) limit (made_so (Ok b) (begin_by (zero || large) limit))
  by_limit b h true large ez el = says_limited limit b true large ez el refl _ refl
  by_limit b h false true ez el = says_limited limit b false true ez el refl _ refl
  by_limit b h false false ez el =
      says_made limit b (eqb-false limit 0 ez) (leb-false MAX limit el) h (bare b limit 0) refl

  begun_says : (r : Result Book Refusal) → Stems r → MakeOfSays r limit (made_so r (begin r limit))
  begun_says (Err e) h = says_unread limit e _ refl
  begun_says (Ok b) h = by_limit b h (eqb limit 0) (leb MAX limit) refl refl

  pub says_begun : (r : Result Book Refusal) → Stems r → (x : Begun) → x ≡ begin r limit
      → (k : Book) → k ≡ book_kept r x.making → (f : Forest) → f ≡ bare k x.limit x.mark
      → MakeOfSays r limit (record { making = x.making; forest = f })
  says_begun r h x is k kept f made =
      subst (λ (g : Forest). MakeOfSays r limit (record { making = x.making; forest = g }))
      (sym (made ∙ ap (λ (c : Book). bare c x.limit x.mark) kept))
      (subst (λ (y : Begun). MakeOfSays r limit (made_so r y)) (sym is) (begun_says r h))

-- THE WAYS IN

module _ (bytes : List ℕ) where
  module _ (r : Result Book Refusal) where
    gives_says : (given : Refusable said_book.Book) → books.Gives given r → (limit : ℕ) (m : Made) → MakeOfSays r limit m
        → MadeSays (said.make_of given limit) m
    gives_says given h limit m says =
        subst (λ (o : Refusable said_book.Book). MadeSays (said.make_of o limit) m) h.means says

    pub says_taken : books.Taken bytes r → (limit : ℕ) (m : Made) → MakeOfSays r limit m → MakeAtDeskSays bytes limit m
    says_taken h limit m says = gives_says (desk bytes) h limit m says

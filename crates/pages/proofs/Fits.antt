-- Every line of a listing fits its columns, and what is printed is whole pages. A book has at most 64 goals; an index is at most 256 and
-- the number of a stop at most 29 (`ListingWhole` of promises); a variant is that of a clause (`Variants` of derivable), so two bytes of
-- the paper. Assumes nothing but that bytes are below 256 (`listing_paged`, at the end).
use Prim.Native.Nat.{ℕ, ◌≤◌, ◌<◌}
use native.Mathlib.Omega.{arith}
use mathlib.Core.Path.{◌≡◌, refl, sym, ap, subst}
use mathlib.Core.List.{List, [], ◌∷◌}
use lib.ListN.{length}
use Rattle.laws.proofs.All.{all_at}
use Rattle.definitions.specs.{CompleteAnswer}
use Rattle.definitions.specs.Refusal.{Refusable, refused, accepted}
use Rattle.definitions.specs.Book.{Book}
use Rattle.definitions.specs.Turn.{Ending, found, fail, cut, stopped}
use Rattle.definitions.specs.Desk.{desk}
use Rattle.definitions.specs.Lists.{Each}
use Rattle.papers.specs.Listing.{Line, lines, number, columns, pages, refusal_bytes}
use Rattle.papers.specs.Pages.{FitsColumns, OfClause, Paged, ListingPaged}
use Rattle.definitions.proofs.Desk.{desk_reads}
use Rattle.papers.proofs.Digits.{decimal_short}
use Rattle.definitions.proofs.Members.{each_at, each_by, all_each}
use Rattle.papers.proofs.Pages.{fits_columns, pages_long}
use Rattle.definitions.proofs.ReadKeeps.{EachClause, read_some, read_variants}
use Rattle.definitions.proofs.Refusal.{not_accepted}
use Rattle.definitions.proofs.ReadLimits.{book_good}
use Rattle.promises.specs.Total.{StopNumber}
use Rattle.promises.specs.ListingWhole.{MayStand, StartsAt, Whole, ListedAs}
use Rattle.promises.proofs.Listing.{listing_whole}
use Rattle.derivable.proofs.Variants.{listing_variants}

-- One line.

number_short : (e : Ending) → ((a : CompleteAnswer) → e ≡ found a → a.variant < 65536) → ((n : ℕ) → e ≡ stopped n → StopNumber n)
    → length (number e) ≤ 5
number_short (found a) low listed = decimal_short 4 a.variant (omega (arith, low a refl))
number_short (fail r) low listed = omega arith
number_short cut low listed = omega arith
number_short (stopped n) low listed = let x = (listed n refl).1 in decimal_short 4 n (omega arith)

line_fits : (goals : ℕ) (l : Line) → goals ≤ 64 → MayStand goals l → ((a : CompleteAnswer) → l.ending ≡ found a → a.variant < 65536)
    → FitsColumns columns l
line_fits goals l few stands low =
    let of_the_book = stands.of_the_book in
    let few_indices = stands.few_indices in
    fits_columns l (decimal_short 2 l.goal (omega arith)) (decimal_short 4 l.index (omega arith))
    (number_short l.ending low stands.stop_listed)

variant_below : (book : Book) (goal variant : ℕ) → EachClause (λ c. c.variant < 65536) book → OfClause book goal variant → variant < 65536
variant_below book goal variant low o =
    subst (λ (v : ℕ). v < 65536) o.same_variant
    (each_at (λ c. c.variant < 65536) o.own.clauses (all_each (all_at goal low o.is_own)) o.clause o.of_own)

-- All lines.

some_line : (goals : ℕ) (ls : List Line) → 0 < goals → StartsAt goals 0 ls → 1 ≤ length ls
some_line goals [] h s = absurd (omega arith)
some_line goals (l ∷ ls) h s = omega arith

-- of a paper that is taken as this book
book_paged : (bytes : List ℕ) → Each (λ b. b < 256) bytes → (book : Book) → desk bytes ≡ accepted book → (ls : List Line)
    → lines bytes ≡ accepted ls → Whole (length book) 0 ls → Paged bytes ls
book_paged bytes b book took ls e w =
    let read = (desk_reads bytes book took).0 in
    let few_goals = (book_good bytes book read).small.few_goals in
    let low = read_variants bytes book b read in
    let of_clauses = listing_variants bytes book took ls e in
    let fits = each_by (FitsColumns columns) ls (λ l m. line_fits (length book) l few_goals
    (each_at (MayStand (length book)) ls w.may_stand l m)
    (λ a q. variant_below book l.goal a.variant low
    (each_at (λ k. (c : CompleteAnswer) → k.ending ≡ found c → OfClause book k.goal c.variant) ls of_clauses l m a q))) in
    record {
      fits = fits;
      some_line = some_line (length book) ls (read_some bytes book read) w.starts;
      few_lines = let x = w.few in omega arith;
      whole_pages = omega (
        arith,
        ap (λ (r : Refusable (List Line)). length {A = ℕ} (elim r [ refused n ↦ refusal_bytes n | accepted k ↦ pages k ])) e,
        pages_long ls fits,
      );
    }

pub listing_paged : ListingPaged
listing_paged bytes b ls e = on (desk bytes) refl (subst (ListedAs (desk bytes)) e (listing_whole bytes))
  where
    on : (r : Refusable Book) → desk bytes ≡ r → ListedAs r (accepted ls) → Paged bytes ls
    on (refused n) took w = absurd (not_accepted (sym w))
    on (accepted book) took w = book_paged bytes b book took ls e w

-- What a reader's text comes to at its end.
use Rattle.std.specs.Prelude.{Err, Some, None, is_some}
use Rattle.std.specs.declared.option.Option as found
use Prim.Native.Nat.{ℕ, ◌<◌}
use native.Mathlib.Omega.{arith}
use mathlib.Core.Path.{◌≡◌, refl, sym, ap, subst, ◌∙◌}
use mathlib.Core.Bool.{Bool, true, false, not, false≢true}
use mathlib.Core.Option.{Option, none, some}
use mathlib.Core.List.{List, [], ◌∷◌, map}
use lib.Dec.{ltb, eqb}
use lib.ListN.{length, get_or, replicate, get_or-replicate, get_or-map}
use borrow.Author.Tests.{lt-ltb}
use Rattle.definitions.specs.Refusal.{Refusable, refused, ◌refuses◌, unless}
use Rattle.definitions.specs.Lists.{any_passes}
use Rattle.definitions.specs.Book as said
use Rattle.definitions.specs.Book.{goals_name}
use Rattle.definitions.specs.Desk.{at_desk}
use Rattle.papers.specs.Xsb as xsb
use Rattle.papers.specs.Xsb.{Rule, line, State, start, if_so, run, at_line, ended, parse, is_long, goals_for, book_of, parsed_book}
use Rattle.papers.specs.Xsb.{bytes_of, check_import}
use Rattle.papers.specs.XsbForm.{no_state}
use Rattle.papers.proofs.XsbRefusals.{broken_39}
use Rattle.xsb_import.specs.declared.Place.{Place}
use Rattle.xsb_import.specs.declared.Place.TheVariants.{Line, Fixed, Number, Literal, Behind}
use Rattle.xsb_import.specs.declared.Spot.{Spot}
use Rattle.xsb_import.specs.declared.Kept.{Kept}
use Rattle.xsb_import.specs.declared.Reader.{Reader}
use Rattle.book.specs.declared.refusal.Refusal.{Refusal}
use Rattle.book.specs.declared.refusal.Refusal.TheVariants as why
use Rattle.book.specs.Refusals.{number}
use Rattle.xsb_import.specs.Places.{fixed_places, place_seen, Known}
use Rattle.xsb_import.specs.Keeping.{TooMuch, goals, clauses, literals, Within}
use Rattle.xsb_import.specs.Reading.{begun_rules}
use Rattle.xsb_import.specs.Importing.{Held, HoldsState, Reads, by_line, line_of, Settles, Imports}
use Rattle.xsb_import.proofs.Begun.{begun_here}

-- Whether a text ends where a line may begin.

-- at no place of the form
nth_inside : (k : ℕ) → k < 20 → at_line (get_or fixed_places k line) ≡ false
nth_inside k h =
    let m : map at_line fixed_places ≡ replicate 20 false = refl in
    sym (get_or-map at_line fixed_places k line) ∙ ap (λ (l : List Bool). get_or l k true) m ∙ get_or-replicate 20 k false true h

-- a spot at whose place no text ends
elsewhere : (s : Spot) (p : Place) → Known p → by_line s p ≡ None → at_line (place_seen p) ≡ false
elsewhere s Line h e = cc
elsewhere s (Fixed k) h e = nth_inside k h
elsewhere s (Number w v) h e = refl
elsewhere s Literal h e = refl
elsewhere s Behind h e = refl

-- one at whose place it may
here : (s t : Spot) (p : Place) → by_line s p ≡ Some t → (s ≡ t) × (p ≡ Line)
here s t Line e = (cc, refl)
here s t (Fixed k) e = absurd (cc)
here s t (Number w v) e = absurd (cc)
here s t Literal e = absurd (cc)
here s t Behind e = absurd (cc)

none_ends : (o : Option State) (s : found.Option Spot) (k : found.Option Kept) (bytes : List ℕ) → line_of s ≡ None
    → HoldsState o s k bytes → ended o ≡ none
none_ends none s k bytes n h = refl
none_ends (some st) None k bytes n h = absurd h
none_ends (some st) (Some s) k bytes n h =
    ap (λ (c : Bool). if_so c st) (ap at_line (sym h.follows.place_is) ∙ elsewhere s s.place h.follows.known n)

-- A text of which no state is left.

settled_by : (o : Option State) (s : found.Option Spot) (k : found.Option Kept) (bytes : List ℕ) → HoldsState o s k bytes
    → (r : Bool) → is_some s ≡ not r → r ≡ no_state o
settled_by none None k bytes h true e = refl
settled_by none None k bytes h false e = absurd (false≢true e)
settled_by none (Some s) k bytes h r e = absurd h
settled_by (some st) None k bytes h r e = absurd h
settled_by (some st) (Some s) k bytes h true e = e
settled_by (some st) (Some s) k bytes h false e = refl

pub settled : (reader : Reader) (text : List ℕ) (r : Bool) → is_some reader.spot ≡ not r → Reads text reader → Settles text r
settled reader text r e h =
    let is : r ≡ no_state (run text start) = settled_by (run text start) reader.spot reader.kept reader.bytes h r e in
    record { is = is; for_good = λ e more. ap bytes_of (broken_39 text more (sym is ∙ e)) }

-- a text that ends at a line
pub record Parsed (o : Option State) (s : Spot) (k : found.Option Kept) (bytes : List ℕ) : Type 0 where
  pub state : State
  pub ends : ended o ≡ some state
  pub held : Held state s k bytes
  pub at_rest : begun_rules state ≡ state.rules

parsed : (o : Option State) (from : found.Option Spot) (s : Spot) (k : found.Option Kept) (bytes : List ℕ) → line_of from ≡ Some s
    → HoldsState o from k bytes → Parsed o s k bytes
parsed none None s k bytes e h = absurd (cc)
parsed none (Some r) s k bytes e h = absurd h
parsed (some st) None s k bytes e h = absurd h
parsed (some st) (Some r) s k bytes e h =
    let z = here r s r.place e in
    let p : st.place ≡ line = sym h.follows.place_is ∙ ap place_seen z.1 in
    record {
      state = st;
      ends = ap (λ (q : xsb.Place). if_so (at_line q) st) p;
      held = subst (λ (x : Spot). Held st x k bytes) z.0 h;
      at_rest = begun_here st line p;
    }

-- Refusals.

refused_imports : (text : List ℕ) (e : Refusal) → check_import text ≡ refused (number e) → Imports text (Err e)
refused_imports text e c = record { means = sym c; sized = tt }

pub finish_inside : (text : List ℕ) (rd : Reader) → line_of rd.spot ≡ None → Reads text rd → Imports text (Err why.NotText)
finish_inside text rd n h =
    refused_imports text why.NotText (ap (λ (o : Option State). bytes_of (parsed_book o))
    (none_ends (run text start) rd.spot rd.kept rd.bytes n h))

-- one of the three tests of limits is failed
second_five : (p q r s t : Bool) (b : said.Book) → q ≡ true
    → unless (p refuses 5 ∷ q refuses 5 ∷ r refuses 5 ∷ s refuses 8 ∷ t refuses 6 ∷ []) b ≡ refused 5
second_five true q r s t b e = refl
second_five false true r s t b e = refl
second_five false false r s t b e = absurd (false≢true e)

third_five : (p q r s t : Bool) (b : said.Book) → r ≡ true
    → unless (p refuses 5 ∷ q refuses 5 ∷ r refuses 5 ∷ s refuses 8 ∷ t refuses 6 ∷ []) b ≡ refused 5
third_five true q r s t b e = refl
third_five false true r s t b e = refl
third_five false false true s t b e = refl
third_five false false false s t b e = absurd (false≢true e)

too_much : (n : ℕ) (rs : List Rule) → TooMuch n rs → book_of n rs ≡ refused 5
too_much n rs (goals h) =
    let b = goals_for 0 n rs in
    ap (λ (p : Bool). unless (p refuses 5 ∷ ltb 256 (length rs) refuses 5 ∷ any_passes is_long rs refuses 5 ∷ eqb n 0 refuses 8
    ∷ not (goals_name n b) refuses 6 ∷ []) b) (lt-ltb 64 n h)
too_much n rs (clauses h) =
    second_five (ltb 64 n) (ltb 256 (length rs)) (any_passes is_long rs) (eqb n 0) (not (goals_name n (goals_for 0 n rs)))
    (goals_for 0 n rs) (lt-ltb 256 (length rs) h)
too_much n rs (literals e) =
    third_five (ltb 64 n) (ltb 256 (length rs)) (any_passes is_long rs) (eqb n 0) (not (goals_name n (goals_for 0 n rs)))
    (goals_for 0 n rs) e

limits : (text : List ℕ) (o : Option State) (s : Spot) (k : found.Option Kept) (bytes : List ℕ) → parse text ≡ ended o
    → (p : Parsed o s k bytes) → TooMuch p.state.tables p.state.rules → check_import text ≡ refused 5
limits text o s k bytes e p t =
    ap (λ (x : Option State). bytes_of (parsed_book x)) (e ∙ p.ends)
    ∙ ap (λ (x : Refusable said.Book). bytes_of (at_desk x)) (too_much p.state.tables p.state.rules t)

pub parsed_of : (text : List ℕ) (rd : Reader) (s : Spot) → line_of rd.spot ≡ Some s → Reads text rd
    → Parsed (run text start) s rd.kept rd.bytes
parsed_of text rd s e h = parsed (run text start) rd.spot s rd.kept rd.bytes e h

pub finish_over : (text : List ℕ) (rd : Reader) (s : Spot) → line_of rd.spot ≡ Some s → rd.kept ≡ None → Reads text rd
    → Imports text (Err why.TooMany)
finish_over text rd s e o h =
    let p = parsed_of text rd s e h in
    refused_imports text why.TooMany (limits text (run text start) s rd.kept rd.bytes refl p
    (subst (TooMuch p.state.tables) p.at_rest
    (subst (λ (k : found.Option Kept). Within p.state.tables (begun_rules p.state) k rd.bytes) o p.held.keeps.within)))

pub finish_tables : (text : List ℕ) (rd : Reader) (s : Spot) → line_of rd.spot ≡ Some s → 64 < s.tables → Reads text rd
    → Imports text (Err why.TooMany)
finish_tables text rd s e t h =
    let p = parsed_of text rd s e h in
    refused_imports text why.TooMany (limits text (run text start) s rd.kept rd.bytes refl p
    (goals (omega (arith, t, p.held.follows.tables_are))))

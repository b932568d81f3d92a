-- The pages say the fields of document 01: nothing is cut off, and nothing but blanks is added (`pages_say_fields`, at the end).
use Prim.Native.Nat.{ℕ, zero, suc, ◌+◌, ◌-◌, ◌%◌, ◌/◌, ◌<◌}
use native.Mathlib.Omega.{arith}
use mathlib.Core.Path.{◌≡◌, refl, sym, ap, ◌∙◌}
use mathlib.Core.Bool.{Bool, true, false, ◌&&◌, true≢false}
use mathlib.Core.List.{List, [], ◌∷◌, ◌++◌, append_assoc, append-nil}
use lib.ListN.{length}
use lib.Dec.{eqb, ltb}
use borrow.Author.Tests.{ne_eqb, ltb-true}
use Rattle.definitions.specs.Text.{ascii, digits, decimal, Side, at_left, at_right, blanks, in_column}
use Rattle.definitions.specs.Refusal.{Refusable, refused, accepted}
use Rattle.definitions.specs.Turn.{Ending, found, fail, cut, stopped}
use Rattle.definitions.specs.Lists.{Each}
use Rattle.papers.specs.Levels.{each_passes}
use Rattle.papers.specs.Listing.{Line, lines, word, number, behind, line_bytes, lines_bytes, refusal_bytes}
use Rattle.papers.specs.Listing.{Column, columns, across, page_line, blank_lines, page_lines, lines_left, pages}
use Rattle.papers.specs.Pages.{words_from, PagesSayFields}
use Rattle.definitions.proofs.Desk.{and_both}
use Rattle.papers.proofs.Pages.{word_is, word_found}

-- A byte that is neither a blank nor the end of a line, and text of such bytes.

abbrev Solid : List ℕ → Type 0
Solid bs = Each (λ b. 32 < b) bs

solid_byte : (begun gap : Bool) (b : ℕ) (bs : List ℕ) → 32 < b
    → words_from begun gap (b ∷ bs)
    ≡ elim (begun && gap) [ true ↦ 32 ∷ b ∷ words_from true false bs | false ↦ b ∷ words_from true false bs ]
solid_byte begun gap b bs h =
    on (eqb b 32) (eqb b 10) (begun && gap) (ne_eqb b 32 (λ e. absurd (omega arith))) (ne_eqb b 10 (λ e. absurd (omega arith)))
  where
    on : (x y z : Bool) → x ≡ false → y ≡ false → ◌≡◌ {A = List ℕ}
        (elim x [
          | true ↦ words_from begun true bs
          | false ↦ elim y [
            | true ↦ elim begun [ true ↦ 10 ∷ words_from false false bs | false ↦ words_from false false bs ]
            | false ↦ elim z [ true ↦ 32 ∷ b ∷ words_from true false bs | false ↦ b ∷ words_from true false bs ]
          ]
        ])
        (elim z [ true ↦ 32 ∷ b ∷ words_from true false bs | false ↦ b ∷ words_from true false bs ])
    on true y z e f = absurd (true≢false e)
    on false true z e f = absurd (true≢false f)
    on false false z e f = refl

solid_rest : (bs rest : List ℕ) → Solid bs → words_from true false (bs ++ rest) ≡ bs ++ words_from true false rest
solid_rest [] rest s = refl
solid_rest (b ∷ bs) rest s =
    solid_byte true false b (bs ++ rest) s.0 ∙ ap (λ (w : List ℕ). b ∷ w) (solid_rest bs rest s.1)

-- a word, and the blank before it if it is not the line's first
abbrev said : (begun : Bool) → List ℕ → List ℕ
said true bs = behind bs
said false bs = bs

abbrev begins : (begun : Bool) → List ℕ → Bool
begins begun [] = begun
begins begun (b ∷ bs) = true

word_said : (begun : Bool) (b : ℕ) (bs rest : List ℕ) → Solid (b ∷ bs)
    → words_from begun true ((b ∷ bs) ++ rest) ≡ said begun (b ∷ bs) ++ words_from true false rest
word_said true b bs rest s =
    solid_byte true true b (bs ++ rest) s.0 ∙ ap (λ (w : List ℕ). 32 ∷ b ∷ w) (solid_rest bs rest s.1)
word_said false b bs rest s = solid_byte false true b (bs ++ rest) s.0 ∙ ap (λ (w : List ℕ). b ∷ w) (solid_rest bs rest s.1)

-- blanks leave a gap
blanks_skipped : (n : ℕ) (begun : Bool) (rest : List ℕ) → words_from begun true (blanks n ++ rest) ≡ words_from begun true rest
blanks_skipped zero begun rest = refl
blanks_skipped (suc n) begun rest = blanks_skipped n begun rest

-- what begins with a blank or with the end of a line says the same behind a gap
abbrev Edge : List ℕ → Type 0
Edge rest = words_from true false rest ≡ words_from true true rest

gap_behind : (n : ℕ) (rest : List ℕ) → Edge rest → words_from true false (blanks n ++ rest) ≡ words_from true true rest
gap_behind zero rest e = e
gap_behind (suc n) rest e = blanks_skipped n true rest

-- before the first word of a line a gap is nothing
gap_unseen : (bs : List ℕ) → words_from false false bs ≡ words_from false true bs
gap_unseen [] = refl
gap_unseen (b ∷ bs) = refl

-- THE COLUMNS

nothing_said : (n : ℕ) (begun : Bool) (rest : List ℕ)
    → words_from begun true (blanks n ++ rest) ≡ said begun [] ++ words_from begun true rest
nothing_said n begun rest = blanks_skipped n begun rest ∙ none begun
  where
    none : (begun : Bool) → words_from begun true rest ≡ said begun [] ++ words_from begun true rest
    none true = refl
    none false = refl

in_column_said : (s : Side) (w : ℕ) (begun : Bool) (bs rest : List ℕ) → Solid bs → Edge rest
    → words_from begun true (in_column s w bs ++ rest) ≡ said begun bs ++ words_from (begins begun bs) true rest
in_column_said at_left w begun [] rest h e = nothing_said (w - 0) begun rest
in_column_said at_right w begun [] rest h e =
    ap (λ (x : List ℕ). words_from begun true (x ++ rest)) (append-nil (blanks (w - 0))) ∙ nothing_said (w - 0) begun rest
in_column_said at_left w begun (b ∷ bs) rest h e =
    let n = w - length (b ∷ bs) in
    ap (words_from begun true) (append_assoc (b ∷ bs) (blanks n) rest)
    ∙ word_said begun b bs (blanks n ++ rest) h
    ∙ ap (λ (x : List ℕ). said begun (b ∷ bs) ++ x) (gap_behind n rest e)
in_column_said at_right w begun (b ∷ bs) rest h e =
    let n = w - length (b ∷ bs) in
    ap (words_from begun true) (append_assoc (blanks n) (b ∷ bs) rest)
    ∙ blanks_skipped n begun ((b ∷ bs) ++ rest)
    ∙ word_said begun b bs rest h
    ∙ ap (λ (x : List ℕ). said begun (b ∷ bs) ++ x) e

-- the texts of the columns, those that are empty left out, a blank between two
abbrev texts_said : (begun : Bool) → List Column → Line → List ℕ
texts_said begun [] l = []
texts_said begun (c ∷ cs) l = said begun (c.shows l) ++ texts_said (begins begun (c.shows l)) cs l

abbrev texts_begin : (begun : Bool) → List Column → Line → Bool
texts_begin begun [] l = begun
texts_begin begun (c ∷ cs) l = texts_begin (begins begun (c.shows l)) cs l

-- the end of a line that has a word
abbrev ended : (begun : Bool) → List ℕ → List ℕ
ended true rest = 10 ∷ rest
ended false rest = rest

line_ends : (begun gap : Bool) (rest : List ℕ) → words_from begun gap (10 ∷ rest) ≡ ended begun (words_from false false rest)
line_ends true gap rest = refl
line_ends false gap rest = refl

across_said : (begun : Bool) (cs : List Column) (l : Line) (rest : List ℕ) → Each (λ c. Solid (c.shows l)) cs
    → words_from begun true (across cs l ++ (10 ∷ rest))
    ≡ texts_said begun cs l ++ ended (texts_begin begun cs l) (words_from false false rest)
across_said begun [] l rest s = line_ends begun true rest
across_said begun (c ∷ []) l rest s =
    in_column_said c.side c.width begun (c.shows l) (10 ∷ rest) s.0 refl
    ∙ ap (λ (x : List ℕ). said begun (c.shows l) ++ x) (line_ends (begins begun (c.shows l)) true rest)
    ∙ ap (λ (x : List ℕ). x ++ ended (begins begun (c.shows l)) (words_from false false rest)) (sym (append-nil (said begun (c.shows l))))
across_said begun (c ∷ d ∷ cs) l rest s =
    let here = in_column c.side c.width (c.shows l) in
    let more = across (d ∷ cs) l ++ (10 ∷ rest) in
    ap (words_from begun true) (append_assoc (here ++ ascii " ") (across (d ∷ cs) l) (10 ∷ rest) ∙ append_assoc here (ascii " ") more)
    ∙ in_column_said c.side c.width begun (c.shows l) (32 ∷ more) s.0 refl
    ∙ ap (λ (x : List ℕ). said begun (c.shows l) ++ x) (across_said (begins begun (c.shows l)) (d ∷ cs) l rest s.1)
    ∙ sym (append_assoc (said begun (c.shows l)) (texts_said (begins begun (c.shows l)) (d ∷ cs) l) _)

-- WHAT A LINE SHOWS

digits_solid : (m n : ℕ) (after : List ℕ) → Solid after → Solid (digits m n after)
digits_solid zero n after s = s
digits_solid (suc m) n after s = on (n / 10) (digits_solid m)
  where
    on : (q : ℕ) → ((t : ℕ) (after : List ℕ) → Solid after → Solid (digits m t after))
        → Solid (elim q [ zero ↦ (48 + n % 10) ∷ after | suc t ↦ digits m (suc t) ((48 + n % 10) ∷ after) ])
    on zero h = (omega arith, s)
    on (suc t) h = h (suc t) ((48 + n % 10) ∷ after) (omega arith, s)

-- a word has a letter or a digit at least
abbrev Some : List ℕ → Type 0
Some [] = ⊥
Some (b ∷ bs) = Unit {0}

digits_some : (m n b : ℕ) (after : List ℕ) → Some (digits m n (b ∷ after))
digits_some zero n b after = tt
digits_some (suc m) n b after = on (n / 10) (digits_some m)
  where
    on : (q : ℕ) → ((t b : ℕ) (after : List ℕ) → Some (digits m t (b ∷ after)))
        → Some (elim q [ zero ↦ (48 + n % 10) ∷ b ∷ after | suc t ↦ digits m (suc t) ((48 + n % 10) ∷ b ∷ after) ])
    on zero h = tt
    on (suc t) h = h (suc t) (48 + n % 10) (b ∷ after)

decimal_some : (n : ℕ) → Some (decimal n)
decimal_some n = on (n / 10)
  where
    on : (q : ℕ) → Some (elim q [ zero ↦ (48 + n % 10) ∷ [] | suc t ↦ digits n (suc t) ((48 + n % 10) ∷ []) ])
    on zero = tt
    on (suc t) = digits_some n (suc t) (48 + n % 10) []

some_is : (bs : List ℕ) → 0 < length bs → Some bs
some_is [] h = absurd (omega arith)
some_is (b ∷ bs) h = tt

solid_is : (bs : List ℕ) → each_passes (λ b. ltb 32 b) bs ≡ true → Solid bs
solid_is [] e = tt
solid_is (b ∷ bs) e =
    let x = and_both (ltb 32 b) (each_passes (λ c. ltb 32 c) bs) e in
    (ltb-true 32 b x.0, solid_is bs x.1)

decimal_solid : (n : ℕ) → Solid (decimal n)
decimal_solid n = digits_solid (suc n) n [] tt

number_solid : (e : Ending) → Solid (number e)
number_solid (found a) = decimal_solid a.variant
number_solid (fail e) = tt
number_solid cut = tt
number_solid (stopped n) = decimal_solid n

-- THE LINES

-- four texts, of which the last alone may be empty
four_said : (a b c d : List ℕ) → Some a → Some b → Some c
    → a ++ (said (begins false a) b ++ (said (begins (begins false a) b) c ++ (said (begins (begins (begins false a) b) c) d ++ [])))
    ≡ a ++ ascii " " ++ b ++ ascii " " ++ c ++ behind d
four_said [] b c d x y z = absurd x
four_said (i ∷ a) [] c d x y z = absurd y
four_said (i ∷ a) (j ∷ b) [] d x y z = absurd z
four_said (i ∷ a) (j ∷ b) (k ∷ c) d x y z = simp (append_assoc, append-nil)

some_begins : (a b c d : List ℕ) → Some a → begins (begins (begins (begins false a) b) c) d ≡ true
some_begins [] b c d x = absurd x
some_begins (i ∷ a) b c d x = stays (begins (begins true b) c) d (stays (begins true b) c (stays true b refl))
  where
    stays : (g : Bool) (t : List ℕ) → g ≡ true → begins g t ≡ true
    stays g [] e = e
    stays g (b ∷ t) e = refl

line_said : (l : Line) (rest : List ℕ) → words_from false false (page_line l ++ rest) ≡ line_bytes l ++ words_from false false rest
line_said l rest =
    let a = decimal l.goal in
    let b = decimal l.index in
    let c = word l.ending l.skipped in
    let d = number l.ending in
    let x = word_found c (word_is l.ending l.skipped) in
    ap (words_from false false) (append_assoc (across columns l) (ascii "\n") rest)
    ∙ gap_unseen (across columns l ++ (10 ∷ rest))
    ∙ across_said false columns l rest
    (decimal_solid l.goal, (decimal_solid l.index, (solid_is c x.2, (number_solid l.ending, tt))))
    ∙ ap (λ (x : List ℕ). x ++ ended (texts_begin false columns l) (words_from false false rest))
    (four_said a b c d (decimal_some l.goal) (decimal_some l.index) (some_is c x.0))
    ∙ ap (λ (g : Bool). (a ++ ascii " " ++ b ++ ascii " " ++ c ++ behind d) ++ ended g (words_from false false rest))
    (some_begins a b c d (decimal_some l.goal))
    ∙ sym (append_assoc (a ++ ascii " " ++ b ++ ascii " " ++ c ++ behind d) (ascii "\n") (words_from false false rest))

lines_said : (ls : List Line) (rest : List ℕ)
    → words_from false false (page_lines ls ++ rest) ≡ lines_bytes ls ++ words_from false false rest
lines_said [] rest = refl
lines_said (l ∷ ls) rest =
    ap (words_from false false) (append_assoc (page_line l) (page_lines ls) rest)
    ∙ line_said l (page_lines ls ++ rest)
    ∙ ap (λ (x : List ℕ). line_bytes l ++ x) (lines_said ls rest)
    ∙ sym (append_assoc (line_bytes l) (lines_bytes ls) (words_from false false rest))

-- blank lines say nothing
blank_said : (n : ℕ) → words_from false false (blank_lines n) ≡ []
blank_said zero = refl
blank_said (suc n) = blank_said n

pages_said : (ls : List Line) → words_from false false (pages ls) ≡ lines_bytes ls
pages_said ls =
    lines_said ls (blank_lines (lines_left (length ls)))
    ∙ ap (λ (x : List ℕ). lines_bytes ls ++ x) (blank_said (lines_left (length ls)))
    ∙ append-nil (lines_bytes ls)

refusal_said : (n : ℕ) → words_from false false (refusal_bytes n) ≡ refusal_bytes n
refusal_said n = ap (λ (x : List ℕ). ascii "refused" ++ x) (on (decimal n) (decimal_some n) (decimal_solid n))
  where
    on : (t : List ℕ) → Some t → Solid t → words_from true true (t ++ ascii "\n") ≡ 32 ∷ (t ++ ascii "\n")
    on [] x s = absurd x
    on (b ∷ bs) x s = word_said true b bs (ascii "\n") s

pub pages_say_fields : PagesSayFields
pages_say_fields bytes = on (lines bytes)
  where
    on : (r : Refusable (List Line)) → words_from false false (elim r [ refused n ↦ refusal_bytes n | accepted ls ↦ pages ls ])
        ≡ elim r [ refused n ↦ refusal_bytes n | accepted ls ↦ lines_bytes ls ]
    on (refused n) = refusal_said n
    on (accepted ls) = pages_said ls

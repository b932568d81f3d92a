-- Reading what was written gives the book back, for every book within the limits (`read_write`, at the end), and with a byte more it is
-- refused with 7 (`read_past`).
--
-- The bytes of a book are read from left to right, each command over the book so far. So each lemma below starts from any book so
-- far and says that the bytes of a part (a literal, the literals of a clause, the clauses of a goal, the goals) bring it to the
-- book so far with that part at its end. The part's own limits, with what is there already, keep every refusal away.
-- Assumes nothing.
use Prim.Native.Nat.{ℕ, zero, suc, ◌+◌, ◌*◌, ◌/◌, ◌%◌, ◌<◌, ◌≤◌}
use native.Mathlib.Omega.{arith}
use mathlib.Core.Bool.{Bool, true, false, not}
use mathlib.Core.Path.{◌≡◌, refl, ap, ◌∙◌}
use mathlib.Core.List.{List, [], ◌∷◌, ◌++◌, append-nil, append_assoc}
use lib.ListN.{length, length-append}
use lib.Dec.{ltb, leb, eqb}
use borrow.Author.Tests.{le-ltb, lt-ltb, lt-leb, ne_eqb}
use Rattle.definitions.specs.Refusal.{Refusable, refused, accepted, ◌refuses◌, unless}
use Rattle.definitions.specs.Book.{any, exactly, between, Literal, Positive, Negative, Clause, Goal, Book, clause_count}
use Rattle.definitions.specs.Book.{Command, end, command, width, is_end, bit0, bit1, flag, want_of, crossed}
use Rattle.definitions.specs.Book.{literals_so_far, literals_name, clauses_name, goals_name}
use Rattle.definitions.specs.Book.{apply_command, end_command, literal_command, whole_command, read_from, read}
use Rattle.definitions.specs.Book.{write_literal, write_literals, write_clauses, write_goals, write}
use Rattle.definitions.specs.Book.{LiteralWithin, LiteralsWithin, ClausesWithin, GoalsWithin, Within}
use Rattle.definitions.proofs.Book.{clause_count_append, add_clause_last, add_to_last_last, last_literals_last, ends_in_clause}
use Rattle.definitions.proofs.Book.{add_literal_last, literals_so_far_last}

-- Bytes.

-- a number from its two bytes
two_bytes : (n : ℕ) → n % 256 + 256 * (n / 256) ≡ n
two_bytes n = omega arith

-- the bits of two flags written as one byte
bits_bit0 : (a b : Bool) → bit0 (flag a + 2 * flag b) ≡ a
bits_bit0 true true = refl
bits_bit0 true false = refl
bits_bit0 false true = refl
bits_bit0 false false = refl

bits_bit1 : (a b : Bool) → bit1 (flag a + 2 * flag b) ≡ b
bits_bit1 true true = refl
bits_bit1 true false = refl
bits_bit1 false true = refl
bits_bit1 false false = refl

bits_known : (a b : Bool) → ltb 3 (flag a + 2 * flag b) ≡ false
bits_known true true = refl
bits_known true false = refl
bits_known false true = refl
bits_known false false = refl

-- the same for one flag
bit_bit0 : (a : Bool) → bit0 (flag a) ≡ a
bit_bit0 true = refl
bit_bit0 false = refl

bit_known : (a : Bool) → ltb 1 (flag a) ≡ false
bit_known true = refl
bit_known false = refl

-- Wants.

want_of_some : (v : ℕ) → 0 < v → want_of v ≡ exactly v
want_of_some zero h = absurd (omega arith)
want_of_some (suc v) h = refl

not_crossed : (n : ℕ) (l : Literal) → LiteralWithin n l → crossed l ≡ false
not_crossed n (Positive g any x) w = refl
not_crossed n (Positive g (exactly v) x) w = le-ltb v v (omega arith)
not_crossed n (Positive g (between least most) x) w = le-ltb most least w.1.0
not_crossed n (Negative g x) w = refl

-- One command.

module _ {A : Type 0} where
  -- two tests, and three, and four, that find no fault
  unless_two : (p q : Bool) (m n : ℕ) (a : A) → p ≡ false → q ≡ false → unless (p refuses m ∷ q refuses n ∷ []) a ≡ accepted a
  unless_two p q m n a e f = rw (e, f)

  unless_three : (p q r : Bool) (l m n : ℕ) (a : A) → p ≡ false → q ≡ false → r ≡ false
      → unless (p refuses l ∷ q refuses m ∷ r refuses n ∷ []) a ≡ accepted a
  unless_three p q r l m n a e f g = rw (e, f, g)

  unless_four : (p q r s : Bool) (k l m n : ℕ) (a : A) → p ≡ false → q ≡ false → r ≡ false → s ≡ false
      → unless (p refuses k ∷ q refuses l ∷ r refuses m ∷ s refuses n ∷ []) a ≡ accepted a
  unless_four p q r s k l m n a e f g h = rw (e, f, g, h)

-- where the operands are there, the command's own tests decide
pub whole_apply : (c : Command) (after : List ℕ) (book : Book) → width c ≤ length after
    → whole_command c after book ≡ apply_command c after book
whole_apply c after book h = rw (le-ltb (length after) (width c) h, whole_command)

-- where a command is accepted and is not the end, reading goes on behind its operands
read_command : (b : ℕ) (after : List ℕ) (book next : Book) → width (command b) ≤ length after
    → apply_command (command b) after book ≡ accepted next → is_end (command b) ≡ false
    → read_from (b ∷ after) 0 book ≡ read_from after (width (command b)) next
read_command b after book next h e f = rw (whole_apply (command b) after book h ∙ e, f, read_from)

-- The book so far: its last goal, and that goal's last clause.

abbrev goal_with : Bool → Bool → List Clause → Goal
goal_with a b cs = record { coinductive = a; floundered = b; clauses = cs }

abbrev clause_with : ℕ → Bool → Bool → List Literal → Clause
clause_with v a b ls = record { variant = v; cannot_prove = a; outsized = b; literals = ls }

-- The three commands that add something.

-- 47: the new goal stands at the end, with no clause yet
read_goal : (gs : Book) (a b : Bool) (rest : List ℕ) → length gs < 64
    → read_from (0x47 ∷ (flag a + 2 * flag b) ∷ rest) 0 gs ≡ read_from rest 0 (gs ++ (goal_with a b [] ∷ []))
read_goal gs a b rest h =
    read_command 0x47 ((flag a + 2 * flag b) ∷ rest) gs (gs ++ (goal_with a b [] ∷ [])) (omega arith)
    (unless_two _ _ 4 5 _ (bits_known a b) (lt-leb 64 (length gs) h)
    ∙ rw (bits_bit0 a b, bits_bit1 a b))
    refl

-- 43: the new clause stands at the end of the last goal's, with no literal yet
read_clause : (gs : Book) (a b : Bool) (cs : List Clause) (v : ℕ) (p o : Bool) (rest : List ℕ) → clause_count gs + length cs < 256
    → read_from (0x43 ∷ v % 256 ∷ v / 256 ∷ (flag p + 2 * flag o) ∷ rest) 0 (gs ++ (goal_with a b cs ∷ []))
    ≡ read_from rest 0 (gs ++ (goal_with a b (cs ++ (clause_with v p o [] ∷ [])) ∷ []))
read_clause gs a b cs v p o rest h =
    let book : Book = gs ++ (goal_with a b cs ∷ []) in
    let some_goal : eqb (length book) 0 ≡ false =
    ne_eqb (length book) 0 (λ e. omega (arith, length-append gs (goal_with a b cs ∷ []))) in
    let few : leb 256 (clause_count book) ≡ false =
    lt-leb 256 (clause_count book) (omega (arith, clause_count_append gs (goal_with a b cs ∷ []))) in
    read_command 0x43 (v % 256 ∷ v / 256 ∷ (flag p + 2 * flag o) ∷ rest) book
    (gs ++ (goal_with a b (cs ++ (clause_with v p o [] ∷ [])) ∷ [])) (omega arith)
    (unless_three _ _ _ 3 4 5 _ some_goal (bits_known p o) few
    ∙ rw (two_bytes v, bits_bit0 p o, bits_bit1 p o, add_clause_last (clause_with v p o []) gs (goal_with a b cs)))
    refl

-- 50, 52 and 4E: the new literal stands at the end of the last clause's
abbrev so_far : Book → Bool → Bool → List Clause → ℕ → Bool → Bool → List Literal → Book
so_far gs a b cs v p o ls = gs ++ (goal_with a b (cs ++ (clause_with v p o ls ∷ [])) ∷ [])

module _ (gs : Book) (a b : Bool) (cs : List Clause) (v : ℕ) (p o : Bool) (ls : List Literal) where
  literal_accepted : (l : Literal) (flags : ℕ) → ltb 1 flags ≡ false → crossed l ≡ false → length ls < 8
      → literal_command l flags (so_far gs a b cs v p o ls) ≡ accepted (so_far gs a b cs v p o (ls ++ (l ∷ [])))
  literal_accepted l flags known straight h =
      let c : Clause = clause_with v p o ls in
      let g : Goal = goal_with a b (cs ++ (c ∷ [])) in
      let has_clause : 0 < length g.clauses = omega (arith, length-append cs (c ∷ [])) in
      let so-many : literals_so_far (so_far gs a b cs v p o ls) ≡ length ls =
      literals_so_far_last gs g has_clause ∙ last_literals_last cs c in
      unless_four _ _ _ _ 3 4 32 5 _ (ends_in_clause gs g has_clause) known straight
      (lt-leb 8 (literals_so_far (so_far gs a b cs v p o ls)) (omega arith))
      ∙ rw (add_literal_last l gs g has_clause, add_to_last_last l cs c)

  read_literal : (n : ℕ) (l : Literal) (rest : List ℕ) → LiteralWithin n l → length ls < 8
      → read_from (write_literal l ++ rest) 0 (so_far gs a b cs v p o ls) ≡ read_from rest 0 (so_far gs a b cs v p o (ls ++ (l ∷ [])))
  read_literal n (Positive g any x) rest w h =
      read_command 0x50 (g % 256 ∷ g / 256 ∷ 0 ∷ 0 ∷ flag x ∷ rest) (so_far gs a b cs v p o ls)
      (so_far gs a b cs v p o (ls ++ (Positive g any x ∷ [])))
      (omega arith)
      (rw (two_bytes g, bit_bit0 x) (literal_accepted (Positive g any x) (flag x) (bit_known x) refl h))
      refl
  read_literal n (Positive g (exactly u) x) rest w h =
      let l : Literal = Positive g (exactly u) x in
      read_command 0x50 (g % 256 ∷ g / 256 ∷ u % 256 ∷ u / 256 ∷ flag x ∷ rest) (so_far gs a b cs v p o ls)
      (so_far gs a b cs v p o (ls ++ (l ∷ [])))
      (omega arith)
      (rw (two_bytes g, two_bytes u, want_of_some u w.1.0, bit_bit0 x)
      (literal_accepted l (flag x) (bit_known x) (not_crossed n l w) h))
      refl
  read_literal n (Positive g (between least most) x) rest w h =
      let l : Literal = Positive g (between least most) x in
      read_command 0x52 (g % 256 ∷ g / 256 ∷ least % 256 ∷ least / 256 ∷ most % 256 ∷ most / 256 ∷ flag x ∷ rest)
      (so_far gs a b cs v p o ls) (so_far gs a b cs v p o (ls ++ (l ∷ [])))
      (omega arith)
      (rw (two_bytes g, two_bytes least, two_bytes most, bit_bit0 x)
      (literal_accepted l (flag x) (bit_known x) (not_crossed n l w) h))
      refl
  read_literal n (Negative g x) rest w h =
      read_command 0x4E (g % 256 ∷ g / 256 ∷ flag x ∷ rest) (so_far gs a b cs v p o ls) (so_far gs a b cs v p o (ls ++ (Negative g x ∷ [])))
      (omega arith)
      (rw (two_bytes g, bit_bit0 x) (literal_accepted (Negative g x) (flag x) (bit_known x) refl h))
      refl

-- The parts of a book, each from any book so far.

read_literals : (n : ℕ) (gs : Book) (a b : Bool) (cs : List Clause) (v : ℕ) (p o : Bool) (ls ms : List Literal) (rest : List ℕ)
    → LiteralsWithin n ms → length ls + length ms ≤ 8
    → read_from (write_literals ms ++ rest) 0 (so_far gs a b cs v p o ls) ≡ read_from rest 0 (so_far gs a b cs v p o (ls ++ ms))
read_literals n gs a b cs v p o ls [] rest w h = rw (append-nil ls)
read_literals n gs a b cs v p o ls (m ∷ ms) rest w h =
    let few : length (ls ++ (m ∷ [])) + length ms ≤ 8 = omega (arith, length-append ls (m ∷ [])) in
    rw (append_assoc (write_literal m) (write_literals ms) rest)
    (read_literal gs a b cs v p o ls n m (write_literals ms ++ rest) w.0 (omega arith)
    ∙ read_literals n gs a b cs v p o (ls ++ (m ∷ [])) ms rest w.1 few
    ∙ rw (append_assoc ls (m ∷ []) ms))

-- how far the clauses' literals reach, which the number of goals tells, does not matter before the end
read_clauses : (n : ℕ) (gs : Book) (a b : Bool) (cs ds : List Clause) (rest : List ℕ) → ClausesWithin n ds
    → clause_count gs + length cs + length ds ≤ 256
    → read_from (write_clauses ds ++ rest) 0 (gs ++ (goal_with a b cs ∷ [])) ≡ read_from rest 0 (gs ++ (goal_with a b (cs ++ ds) ∷ []))
read_clauses n gs a b cs [] rest w h = rw (append-nil cs)
read_clauses n gs a b cs (d ∷ ds) rest w h =
    let few : clause_count gs + length (cs ++ (d ∷ [])) + length ds ≤ 256 = omega (arith, length-append cs (d ∷ [])) in
    rw (append_assoc (write_literals d.literals) (write_clauses ds) rest)
    (read_clause gs a b cs d.variant d.cannot_prove d.outsized (write_literals d.literals ++ (write_clauses ds ++ rest))
    (omega arith)
    ∙ read_literals n gs a b cs d.variant d.cannot_prove d.outsized [] d.literals (write_clauses ds ++ rest)
    w.0.literals_fit (omega (arith, w.0.few_literals))
    ∙ read_clauses n gs a b (cs ++ (d ∷ [])) ds rest w.1 few
    ∙ rw (append_assoc cs (d ∷ []) ds))

read_goals : (n : ℕ) (gs hs : Book) (rest : List ℕ) → GoalsWithin n hs → length gs + length hs ≤ 64
    → clause_count gs + clause_count hs ≤ 256
    → read_from (write_goals hs ++ rest) 0 gs ≡ read_from rest 0 (gs ++ hs)
read_goals n gs [] rest w h k = rw (append-nil gs)
read_goals n gs (g ∷ hs) rest w h k =
    let few : length (gs ++ (g ∷ [])) + length hs ≤ 64 = omega (arith, length-append gs (g ∷ [])) in
    let few_clauses : clause_count (gs ++ (g ∷ [])) + clause_count hs ≤ 256 = omega (arith, clause_count_append gs (g ∷ [])) in
    rw (append_assoc (write_clauses g.clauses) (write_goals hs) rest)
    (read_goal gs g.coinductive g.floundered (write_clauses g.clauses ++ (write_goals hs ++ rest)) (omega arith)
    ∙ read_clauses n gs g.coinductive g.floundered [] g.clauses (write_goals hs ++ rest) w.0 (omega arith)
    ∙ read_goals n (gs ++ (g ∷ [])) hs rest w.1 few few_clauses
    ∙ rw (append_assoc gs (g ∷ []) hs))

-- The end.

literals_named : (n : ℕ) (ls : List Literal) → LiteralsWithin n ls → literals_name n ls ≡ true
literals_named n [] w = refl
literals_named n (Positive g v x ∷ ls) w = rw (lt-ltb g n w.0.0, literals_name) (literals_named n ls w.1)
literals_named n (Negative g x ∷ ls) w = rw (lt-ltb g n w.0, literals_name) (literals_named n ls w.1)

clauses_named : (n : ℕ) (cs : List Clause) → ClausesWithin n cs → clauses_name n cs ≡ true
clauses_named n [] w = refl
clauses_named n (c ∷ cs) w = rw (literals_named n c.literals w.0.literals_fit, clauses_name) (clauses_named n cs w.1)

pub goals_named : (n : ℕ) (gs : List Goal) → GoalsWithin n gs → goals_name n gs ≡ true
goals_named n [] w = refl
goals_named n (g ∷ gs) w = rw (clauses_named n g.clauses w.0, goals_name) (goals_named n gs w.1)

-- 45 as the last byte
read_end : (book : Book) → read_from (0x45 ∷ []) 0 book ≡ end_command [] book
read_end book =
    ap (λ (r : Refusable Book). elim r [ refused n ↦ refused n | accepted next ↦ accepted next ]) (whole_apply end [] book (omega arith))
    ∙ as_it_is (end_command [] book)
  where
    as_it_is : (r : Refusable Book) → elim r [ refused n ↦ refused n | accepted next ↦ accepted next ] ≡ r
    as_it_is (refused n) = refl
    as_it_is (accepted next) = refl

-- what is written is read up to the tests at the end: so far it does not matter how far the literals reach
pub read_written : (n : ℕ) (book : Book) → GoalsWithin n book → length book ≤ 64 → clause_count book ≤ 256
    → read (write book) ≡ end_command [] book
read_written n book w h k = read_goals n [] book (0x45 ∷ []) w (omega arith) (omega arith) ∙ read_end book

-- every literal names a goal of the whole book, and there is one
end_accepts : (book : Book) → 0 < length book → GoalsWithin (length book) book → end_command [] book ≡ accepted book
end_accepts book h w =
    unless_three _ _ _ 7 8 6 book refl (ne_eqb (length book) 0 (λ e. omega arith)) (ap not (goals_named (length book) book w))

pub read_write : (book : Book) → Within book → read (write book) ≡ accepted book
read_write book w =
    read_written (length book) book w.clauses_fit w.few_goals w.few_clauses ∙ end_accepts book w.some_goal w.clauses_fit

-- what stands behind a book's end is refused
past_end : (book : Book) (b : ℕ) (more : List ℕ) → read_from (0x45 ∷ b ∷ more) 0 book ≡ refused 7
past_end book b more =
    let told : apply_command end (b ∷ more) book ≡ refused 7 =
    ap (λ (t : Bool). unless (t refuses 7 ∷ eqb (length book) 0 refuses 8 ∷ not (goals_name (length book) book) refuses 6 ∷ []) book)
    (lt-ltb 0 (length (b ∷ more)) (omega arith)) in
    rw (whole_apply end (b ∷ more) book (omega arith) ∙ told, read_from)

pub read_past : (book : Book) → Within book → (b : ℕ) (more : List ℕ) → read (write book ++ (b ∷ more)) ≡ refused 7
read_past book w b more =
    rw (append_assoc (write_goals book) (0x45 ∷ []) (b ∷ more))
    (read_goals (length book) [] book (0x45 ∷ b ∷ more) w.clauses_fit (omega arith) (omega arith) ∙ past_end book b more)

-- THE THEOREM of the program: with a buffer of 4,096 bytes `say` puts down exactly the words. The buffer is never full before the last
-- byte is put down, so that nothing is written out early, and what is in use at the end is all that is to be said (`certify_put_down`, at
-- the end). For there are at most 64 lines, each of at most 55 bytes. Assumes nothing.
use Prim.Native.Nat.{ℕ, zero, suc, ◌+◌, ◌*◌, ◌<◌, ◌≤◌}
use native.Mathlib.Omega.{arith}
use mathlib.Core.Path.{◌≡◌, refl, sym, ap, subst}
use mathlib.Core.Bool.{Bool, true, false}
use mathlib.Core.Option.{Option, none, some}
use mathlib.Core.List.{List, [], ◌∷◌, ◌++◌}
use lib.ListN.{length, length-append, take}
use lib.Dec.{eqb}
use Rattle.laws.proofs.All.{all_first, all_rest}
use Rattle.definitions.specs.Text.{ascii, decimal}
use Rattle.definitions.specs.Refusal.{Refusable, refused, accepted}
use Rattle.definitions.specs.Book.{Literal, Positive, Negative, Clause, Goal, Book, clause_count}
use Rattle.definitions.specs.Desk.{desk}
use Rattle.definitions.specs.Lists.{Each}
use Rattle.papers.specs.NotPlain.{or_else, first_from}
use Rattle.papers.specs.Spoilt.{Spoil, a_coinductive_goal, a_not, spoil_by_flag, not_in_literal, not_in_clause, spoil, spoiler_in, spoilers}
use Rattle.definitions.proofs.Desk.{desk_reads}
use Rattle.papers.proofs.Spoilt.{length_after}
use Rattle.papers.proofs.DeskNumbers.{Below, by_number, taken, desk_below}
use Rattle.papers.proofs.Digits.{decimal_one, decimal_short}
use Rattle.definitions.proofs.ReadLimits.{book_good, Few, FewLiterals, book_few}
use Rattle.pen.specs.Goals.{words_from}
use Rattle.pen.specs.Pen.{Pen, pen, put_all}
use Rattle.pen.specs.Refusals.{sentences, sentence_in, sentence, refusal_line, refusal_lines}
use Rattle.pen.proofs.Putting.{Stands, put_fits, put_finds_room}
use Rattle.paper_checks.proofs.Spreading as spreading
use Rattle.paper_checks.proofs.Spreading.{few_after}
use Rattle.certify.specs.Words.{spoil_of, reason_words, goal_line, certify_words}

-- A "not" is in one of 256 clauses, and among eight literals.

abbrev Bounded : Option Spoil → Type 0
Bounded none = Unit {0}
Bounded (some a_coinductive_goal) = Unit {0}
Bounded (some (a_not clause literal)) = (clause < 256) × (literal < 8)

bounded_or : (o p : Option Spoil) → Bounded o → Bounded p → Bounded (or_else o p)
bounded_or none p x y = y
bounded_or (some s) p x y = x

literals_bounded : (k j : ℕ) (ls : List Literal) → k < 256 → j + length ls ≤ 8 → Bounded (first_from (not_in_literal k) j ls)
literals_bounded k j [] h e = tt
literals_bounded k j (Positive goal want outsized ∷ ls) h e = literals_bounded k (suc j) ls h (omega arith)
literals_bounded k j (Negative goal outsized ∷ ls) h e = (h, omega arith)

clauses_bounded : (k : ℕ) (cs : List Clause) → k + length cs ≤ 256 → Few cs → Bounded (first_from not_in_clause k cs)
clauses_bounded k [] e few = tt
clauses_bounded k (c ∷ cs) e few =
    let short = all_first few in
    bounded_or (not_in_clause k c) (first_from not_in_clause (suc k) cs)
    (literals_bounded k 0 c.literals (omega arith) (omega (arith, short)))
    (clauses_bounded (suc k) cs (omega arith) (all_rest few))

goal_bounded : (g : Goal) → length g.clauses ≤ 256 → Few g.clauses → Bounded (spoil g)
goal_bounded g e few =
    bounded_or (spoil_by_flag g.coinductive) (first_from not_in_clause 0 g.clauses) (flag g.coinductive)
    (clauses_bounded 0 g.clauses (omega arith) few)
  where
    flag : (b : Bool) → Bounded (spoil_by_flag b)
    flag true = tt
    flag false = tt

spoil_bounded : (book : Book) (n : ℕ) → clause_count book ≤ 256 → FewLiterals book → Bounded (spoil_of book n)
spoil_bounded [] n e few = tt
spoil_bounded (g ∷ gs) zero e few = goal_bounded g (omega arith) (all_first few)
spoil_bounded (g ∷ gs) (suc n) e few = spoil_bounded gs n (omega arith) (all_rest few)

-- The lines.

reason_short : (o : Option Spoil) → Bounded o → length (reason_words o) ≤ 34
reason_short none x = omega arith
reason_short (some a_coinductive_goal) x = omega arith
reason_short (some (a_not k j)) x =
    omega (
      arith,
      decimal_short 2 k (omega (arith, x.0)),
      ap length (decimal_one j (omega (arith, x.1))),
      length-append (ascii ": a \"not\" in clause ") (decimal k),
      length-append (ascii ", literal ") (decimal j),
      length-append (ascii ": a \"not\" in clause " ++ decimal k) (ascii ", literal " ++ decimal j),
    )

module _ (book : Book) (few_clauses : clause_count book ≤ 256) (few_literals : FewLiterals book) where
  line_short : (goal : ℕ) (o : Option ℕ) → goal < 64 → spreading.Few o → length (goal_line book goal o) ≤ 55
  unfolding goal_line
  line_short goal none h few =
      omega (arith, decimal_short 1 goal (omega arith), length-append (decimal goal) (ascii " clean\n"))
  line_short goal (some by) h few =
      let reason = reason_words (spoil_of book by) in
      let below : by < 64 = few in
      omega (
        arith,
        decimal_short 1 goal (omega arith),
        decimal_short 1 by (omega arith),
        reason_short (spoil_of book by) (spoil_bounded book by few_clauses few_literals),
        length-append (ascii " spoilt by goal ") (decimal by),
        length-append reason (ascii "\n"),
        length-append (ascii " spoilt by goal " ++ decimal by) (reason ++ ascii "\n"),
        length-append (decimal goal) ((ascii " spoilt by goal " ++ decimal by) ++ (reason ++ ascii "\n")),
      )

  lines_short : (g : ℕ) (os : List (Option ℕ)) → g + length os ≤ 64 → ((i : ℕ) → spreading.Few (spoiler_in os i))
      → length (words_from (goal_line book) g os) ≤ 55 * length os
  unfolding words_from
  lines_short g [] h few = omega arith
  lines_short g (o ∷ os) h few =
      omega (
        arith,
        line_short g o (omega arith) (few 0),
        lines_short (suc g) os (omega arith) (λ i. few (suc i)),
        length-append (goal_line book g o) (words_from (goal_line book) (suc g) os),
      )

-- A refusal.

refusal_short : (n : ℕ) → n < 37 → length (refusal_lines n) ≤ 131
unfolding refusal_lines refusal_line sentence
refusal_short n h =
    omega (
      arith,
      decimal_short 1 n (omega arith),
      all_short sentences each_short,
      length-append (ascii "refused ") (decimal n),
      length-append (ascii "refused " ++ decimal n) (ascii "\n"),
      length-append ((ascii "refused " ++ decimal n) ++ ascii "\n") (sentence_in sentences n),
    )
  where
    all_short : (ss : List (ℕ × List ℕ)) → Each (λ (s : ℕ × List ℕ). length s.1 ≤ 120) ss → length (sentence_in ss n) ≤ 120
    all_short [] e = omega arith
    all_short (s ∷ ss) e = on (eqb n s.0) (all_short ss e.1)
      where
        on : (b : Bool) → length (sentence_in ss n) ≤ 120 → length {A = ℕ} (elim b [ true ↦ s.1 | false ↦ sentence_in ss n ]) ≤ 120
        on true x = e.0
        on false x = x

    each_short : Each (λ (s : ℕ × List ℕ). length s.1 ≤ 120) sentences
    each_short = (
      omega arith,
      (
        omega arith,
        (
          omega arith,
          (
            omega arith,
            (
              omega arith,
              (
                omega arith,
                (
                  omega arith,
                  (
                    omega arith,
                    (
                      omega arith,
                      (omega arith, (omega arith, (omega arith, tt))),
                    ),
                  ),
                ),
              ),
            ),
          ),
        ),
      ),
    )

-- All words.

certify_short : (bytes : List ℕ) → length (certify_words (desk bytes)) ≤ 3520
certify_short bytes = on (desk bytes) refl (desk_below bytes)
  where
    on : (d : Refusable Book) → desk bytes ≡ d → Below d → length (certify_words d) ≤ 3520
    on (refused n) e (by_number p h) = let x = refusal_short n h in omega arith
    on (accepted book) e taken =
        let read = (desk_reads bytes book e).0 in
        let good = (book_good bytes book read).small in
        let few = good.few_goals in
        let all = length_after (length book) book in
        omega (
          arith,
          all,
          lines_short book good.few_clauses (book_few bytes book read) 0 (spoilers book) (omega (arith, all))
              (few_after (length book) book few),
        )

-- What is in the buffer behind `say`, which answers `used`: the words, and each byte of them found room.
pub record PutDown (words before after : List ℕ) (used : ℕ) : Type 0 where
  pub stands : Stands words before 0 (pen after used)
  pub finds_room : (i : ℕ) → i < length words
      → (put_all (take i words) (pen before 0)).used < length (put_all (take i words) (pen before 0)).buffer

-- from what is promised of `say`
pub certify_put_down : (bytes before after : List ℕ) (used : ℕ) → pen after used ≡ put_all (certify_words (desk bytes)) (pen before 0)
    → 4096 ≤ length before → PutDown (certify_words (desk bytes)) before after used
certify_put_down bytes before after used e h =
    let words = certify_words (desk bytes) in
    let room : 0 + length words ≤ length before = omega (arith, certify_short bytes) in
    record {
      stands = subst (λ (p : Pen). Stands words before 0 p) (sym e) (put_fits words before 0 room);
      finds_room = λ i k. put_finds_room words before 0 i room k;
    }

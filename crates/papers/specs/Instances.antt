-- Demand 3 at work on two small books, to show that it says something: the calls compute, the book is plain and levelled, and with
-- another set in place of the model the claim is false.
use Rattle.std.specs.Prelude.{ℕ, zero, suc, ◌≡◌, refl, true, false, get_or}
use Rattle.std.proofs.Common.{arith, sym, subst}
use mathlib.Core.List.Memᴰ
use mathlib.Core.List.{List, [], ◌∷◌, map, Memᴰ}
use Rattle.definitions.specs.Refusal.{accepted}
use Rattle.definitions.specs.Stop.{go}
use Rattle.definitions.specs.Book.{Literal, Clause, Book, write}
use Rattle.definitions.specs.Tables.{Forest}
use Rattle.definitions.specs.Logic.{NoMoreSolutions, QuantumExceeded, InvalidAnswer}
use Rattle.definitions.specs.Turn.{Ending, found, fail, cut, stopped}
use Rattle.definitions.specs.Forest.{make, SearchMade}
use Rattle.definitions.specs.Calls.{Call, opens, searches, peeks, asks_future, Reply, refusal, table, searched, peeked, future}
use Rattle.definitions.specs.Calls.{sitting, searches_made, Called, calls}
use Rattle.papers.specs.Cases.{pos, neg, rule, fact, one_rule, inductive, coinductive, yes_answer}
use Rattle.definitions.specs.Lists.{Each}
use Rattle.papers.specs.Model.{PlainLiteral, PlainClause, PlainGoal, Plain, LevelLiteral, Levelled}
use Rattle.papers.specs.Claim.{AllSay, exceeded}

abbrev pub just_made : Book → (clock_limit : ℕ) → Forest
just_made book limit = record {
  book = book;
  clock_limit = limit;
  mark = 0;
  tables = [];
  clock = 0;
}

abbrev pub replies_of : List Called → List Reply
replies_of cs = map (λ (c : Called). c.reply) cs

-- the searches that each call made: the index asked for, and the ending
abbrev pub searches_of : List Called → List (List (ℕ × Ending))
searches_of cs = map (λ (c : Called). map (λ (s : SearchMade). (s.index, s.result.ending)) (searches_made c.before c.asked)) cs

-- First book: `0 :- 1, not 2`, `1` a fact, `2 :- 2`.

abbrev pub first_book : Book
first_book = inductive (rule 0 (pos 1 ∷ neg 2 ∷ []) ∷ []) ∷ inductive (fact 0 ∷ []) ∷ inductive (one_rule (pos 2) ∷ []) ∷ []

pub first_made : make (write first_book) 1000 ≡ accepted (just_made first_book 1000)
first_made = refl

-- goal 0 is of level 1, the others of level 0
abbrev pub first_level : ℕ → ℕ
first_level goal = get_or (1 ∷ []) goal 0

plain_clause : (ls : List Literal) → Each PlainLiteral ls → PlainClause (rule 0 ls)
plain_clause ls plain = record { as_a_whole = refl; provable = refl; small = refl; literals_plain = plain }

plain_goal : (c : Clause) → PlainClause c → PlainGoal (inductive (c ∷ []))
plain_goal c plain = record { inductive = refl; unfloundered = refl; clauses_plain = (plain, tt) }

pub first_plain : Plain first_book
first_plain = (
  plain_goal (rule 0 (pos 1 ∷ neg 2 ∷ [])) (plain_clause (pos 1 ∷ neg 2 ∷ []) ((refl, refl), (refl, tt))),
  (
    plain_goal (fact 0) (plain_clause [] tt),
    (plain_goal (one_rule (pos 2)) (plain_clause (pos 2 ∷ []) ((refl, refl), tt)), tt),
  ),
)

only_clause :
    (n : ℕ) (c d : Clause) → Each (LevelLiteral first_level n) c.literals → Memᴰ d (c ∷ []) →
    Each (LevelLiteral first_level n) d.literals
only_clause n c d e m = subst (λ (x : Clause). Each (LevelLiteral first_level n) x.literals) (sym (Memᴰ.eq_of_singleton m)) e

pub first_levelled : Levelled first_book first_level
first_levelled zero c m = only_clause 1 (rule 0 (pos 1 ∷ neg 2 ∷ [])) c (omega arith, (omega arith, tt)) m
first_levelled (suc zero) c m = only_clause 0 (fact 0) c tt m
first_levelled (suc (suc zero)) c m = only_clause 0 (one_rule (pos 2)) c (omega arith, tt) m
first_levelled (suc (suc (suc g))) c m = absurd (Memᴰ.not-nil m)

-- opened, cut, searched again, peeked at; then goal 2, and calls with bad arguments
abbrev pub first_calls : List Call
first_calls =
    opens 0 ∷ searches 0 0 1 ∷ searches 0 0 100 ∷ peeks 0 0 10 100 ∷ opens 2 ∷ peeks 1 0 10 100
    ∷ opens 3 ∷ searches 7 0 100 ∷ searches 0 5 100 ∷ searches 0 0 0 ∷ asks_future 0 0 0 ∷ []

pub first_replies :
    replies_of (calls (sitting (just_made first_book 1000)) first_calls)
    ≡ table (go 0) ∷ searched cut 1 ∷ searched (fail QuantumExceeded) 3 ∷ peeked (found (yes_answer 0)) 0 6 1
    ∷ table (go 1) ∷ peeked (fail NoMoreSolutions) 0 1 0
    ∷ refusal 9 ∷ refusal 10 ∷ refusal 11 ∷ refusal 12 ∷ future true ∷ []
first_replies = refl

-- the peek at goal 0 searched twice
pub first_searches :
    searches_of (calls (sitting (just_made first_book 1000)) first_calls)
    ≡ [] ∷ ((0, cut) ∷ []) ∷ ((0, fail QuantumExceeded) ∷ []) ∷ ((0, fail QuantumExceeded) ∷ (0, found (yes_answer 0)) ∷ [])
    ∷ [] ∷ ((0, fail NoMoreSolutions) ∷ []) ∷ [] ∷ [] ∷ [] ∷ [] ∷ [] ∷ []
first_searches = refl

-- two of six
pub first_exceeded : exceeded (calls (sitting (just_made first_book 1000)) first_calls) ≡ 2
first_exceeded = refl

-- were no goal in the model, the claim would be false of these calls
pub not_of_none : AllSay (λ goal. ⊥) 1000 false (calls (sitting (just_made first_book 1000)) first_calls) → ⊥
not_of_none said = said.1.1.1.0.0.1.1 0 (_, refl, refl)

-- and so it would, were every goal in it
pub not_of_all : AllSay (λ goal. Unit {0}) 1000 false (calls (sitting (just_made first_book 1000)) first_calls) → ⊥
not_of_all said = (said.1.1.1.1.1.0.0 refl).1 2 (_, refl, refl) tt

-- Second book: `0 :- 0`, where as many searches end in QuantumExceeded as there are goals and clauses.

abbrev pub second_book : Book
second_book = inductive (one_rule (pos 0) ∷ []) ∷ []

abbrev pub second_calls : List Call
second_calls = opens 0 ∷ searches 0 0 100 ∷ searches 0 0 100 ∷ searches 0 0 100 ∷ []

pub second_replies :
    replies_of (calls (sitting (just_made second_book 1000)) second_calls)
    ≡ table (go 0) ∷ searched (fail QuantumExceeded) 2 ∷ searched (fail QuantumExceeded) 2 ∷ searched (fail NoMoreSolutions) 1 ∷ []
second_replies = refl

-- With a clock limit of 1 the second search stops, and every call after it gets 20.
pub second_stops :
    replies_of (calls (sitting (just_made second_book 1))
    (opens 0 ∷ searches 0 0 100 ∷ searches 0 0 100 ∷ opens 0 ∷ asks_future 0 0 0 ∷ []))
    ≡ table (go 0) ∷ searched (fail QuantumExceeded) 2 ∷ searched (stopped 21) 0 ∷ refusal 20 ∷ future true ∷ []
second_stops = refl

-- Third book, not a plain one: p3 of document 01, where a peek meets an invalid answer and goes on to the next index.

abbrev pub third_book : Book
third_book = coinductive (one_rule (pos 1) ∷ []) ∷ coinductive (one_rule (pos 0) ∷ []) ∷ []

abbrev pub third_calls : List Call
third_calls = opens 0 ∷ peeks 0 0 10 100 ∷ opens 1 ∷ peeks 1 0 10 100 ∷ []

pub third_searches :
    searches_of (calls (sitting (just_made third_book 1000)) third_calls)
    ≡ [] ∷ ((0, found (yes_answer 0)) ∷ []) ∷ [] ∷ ((0, fail InvalidAnswer) ∷ (1, fail NoMoreSolutions) ∷ []) ∷ []
third_searches = refl

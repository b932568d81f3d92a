-- Export and import: a plain book of the desk comes back from its text (`import_export`), and a text that is accepted is the text of its
-- book (`export_import`). So the texts that are accepted are just those of plain books of the desk (`imported-is`).
use Prim.Native.Nat.{ℕ, suc, ◌+◌, ◌<◌, ◌≤◌}
use native.Mathlib.Omega.{arith}
use mathlib.Core.Path.{◌≡◌, refl, ap, ap₂, subst, ◌∙◌}
use mathlib.Core.Bool.{Bool, true, false, not, ◌||◌}
use mathlib.Core.Option.{Option, none, some}
use mathlib.Core.List.{List, [], ◌∷◌}
use lib.ListN.{length, length-append}
use lib.Dec.{eqb, ltb}
use borrow.Author.Tests.{le-ltb, ltb-true, ltb-false, ne_eqb}
use Rattle.laws.proofs.Bools.{both_true, was_true, not_zero}
use Rattle.laws.specs.All.{All, end, more}
use Rattle.laws.proofs.All.{all_append, all_map}
use Rattle.definitions.specs.Refusal.{accepted, ◌refuses◌, unless}
use Rattle.definitions.specs.Lists.{any_passes, Each}
use Rattle.sizes.specs.Limits.{most_goals, most_clauses}
use Rattle.definitions.specs.Book.{Literal, Positive, Negative, Clause, Goal, Book, clause_count, goal_of}
use Rattle.definitions.specs.Book.{literals_name, clauses_name, goals_name, LiteralsWithin, ClausesWithin, GoalsWithin, Within}
use Rattle.definitions.specs.Desk.{at_desk, NoRepeats}
use Rattle.papers.specs.Model.{PlainClause, Plain}
use Rattle.papers.specs.Xsb.{Rule, rules_of_goal, rules_from, text_of, export, State, parse, goals_for, is_long}
use Rattle.papers.specs.Xsb.{book_of, parsed_book, import}
use Rattle.definitions.proofs.Refusal.{not_accepted, all_pass}
use Rattle.definitions.proofs.Desk.{desk_took, desk_passes, none_found}
use Rattle.definitions.proofs.RoundTrip.{goals_named}
use Rattle.papers.proofs.XsbShows.{Small, SmallRule}
use Rattle.papers.proofs.XsbTold.{parse_text}
use Rattle.papers.specs.XsbForm.{BareRule}
use Rattle.papers.proofs.XsbReads.{text_parsed}
use Rattle.papers.proofs.XsbBooks.{goals_for_length, book_back, book_ordered, rules_back}
use Rattle.papers.proofs.XsbOrder.{parse_fits}

-- The rules of a book.

module _ {P : Rule → Type 0} {Q : Clause → Type 0} (f : (g : ℕ) (c : Clause) → Q c → P (record { head = g; body = c.literals })) where
  each_rule_of : (g : ℕ) (cs : List Clause) → Each Q cs → All P (rules_of_goal g cs)
  each_rule_of g [] x = end
  each_rule_of g (c ∷ cs) x = more (f g c x.0) (each_rule_of g cs x.1)

  each_rule : (g : ℕ) (hs : List Goal) → Each (λ (h : Goal). Each Q h.clauses) hs → All P (rules_from g hs)
  each_rule g [] x = end
  each_rule g (h ∷ hs) x = all_append (each_rule_of g h.clauses x.0) (each_rule (suc g) hs x.1)

rules_of_length : (g : ℕ) (cs : List Clause) → length (rules_of_goal g cs) ≡ length cs
rules_of_length g [] = refl
rules_of_length g (c ∷ cs) = ap suc (rules_of_length g cs)

pub rules_length : (g : ℕ) (hs : List Goal) → length (rules_from g hs) ≡ clause_count hs
rules_length g [] = refl
rules_length g (h ∷ hs) =
    length-append (rules_of_goal g h.clauses) (rules_from (suc g) hs)
    ∙ ap₂ (λ (a b : ℕ). a + b) (rules_of_length g h.clauses) (rules_length (suc g) hs)

-- Import of an export.

literals_small : (n : ℕ) (ls : List Literal) → n ≤ most_goals → LiteralsWithin n ls → All Small ls
literals_small n [] few w = end
literals_small n (Positive g want outsized ∷ ls) few w = let x = w.0.0
    in more {a = Positive g want outsized} (omega arith) (literals_small n ls few w.1)
literals_small n (Negative g outsized ∷ ls) few w = let x = w.0
    in more {a = Negative g outsized} (omega arith) (literals_small n ls few w.1)

-- what limits and plainness say of each rule
pub record ShortRule (r : Rule) : Type 0 where
  pub small : SmallRule r
  pub short : is_long r ≡ false

clauses_short : (n : ℕ) (cs : List Clause) → n ≤ most_goals → ClausesWithin n cs → (g : ℕ) → All ShortRule (rules_of_goal g cs)
clauses_short n [] few w g = end
clauses_short n (c ∷ cs) few w g =
    more (record {
      small = literals_small n c.literals few w.0.literals_fit;
      short
          = le-ltb 8 (length c.literals) w.0.few_literals;
    })
    (clauses_short n cs few w.1 g)

goals_short : (n : ℕ) (hs : List Goal) → n ≤ most_goals → GoalsWithin n hs → (g : ℕ) → All ShortRule (rules_from g hs)
goals_short n [] few w g = end
goals_short n (h ∷ hs) few w g = all_append (clauses_short n h.clauses few w.0 g) (goals_short n hs few w.1 (suc g))

none_long : (rs : List Rule) → All ShortRule rs → any_passes is_long rs ≡ false
none_long [] x = refl
none_long (r ∷ rs) (more p x) = ap₂ (λ (a b : Bool). a || b) p.short (none_long rs x)

plain_each : (hs : List Goal) → Plain hs → Each (λ (h : Goal). Each PlainClause h.clauses) hs
plain_each [] p = tt
plain_each (h ∷ hs) p = (p.0.clauses_plain, plain_each hs p.1)

five_pass : {A : Type 0} (p q r s t : Bool) (k l m n o : ℕ) (a : A) → p ≡ false → q ≡ false → r ≡ false → s ≡ false → t ≡ false
    → unless (p refuses k ∷ q refuses l ∷ r refuses m ∷ s refuses n ∷ t refuses o ∷ []) a ≡ accepted a
five_pass p q r s t k l m n o a e f g h i = rw (e, f, g, h, i)

book_taken : (book : Book) → Plain book → Within book → book_of (length book) (rules_from 0 book) ≡ accepted book
book_taken book p w =
    let n = length book in
    let rs = rules_from 0 book in
    let back = book_back book p in
    let named : goals_name n (goals_for 0 n rs) ≡ true = ap (goals_name n) back ∙ goals_named n book w.clauses_fit in
    let count : length rs ≡ clause_count book = rules_length 0 book in
    let few = w.few_clauses in
    let many = w.few_goals in
    let some_goal = w.some_goal in
    five_pass _ _ _ _ _ 5 5 5 8 6 (goals_for 0 n rs)
    (le-ltb 64 n many) (le-ltb 256 (length rs) (omega arith))
    (none_long rs (goals_short n book many w.clauses_fit 0))
    (ne_eqb n 0 (λ e. omega arith)) (ap not named)
    ∙ ap accepted back

pub import_export : (book : Book) → Plain book → Within book → NoRepeats book → import (export book) ≡ accepted book
import_export book p w apart =
    let few = w.few_goals in
    let bare = each_rule {P = BareRule} {Q = PlainClause} (λ g c x. x.literals_plain) 0 book (plain_each book p) in
    let small = all_map (λ (r : Rule) (x : ShortRule r). x.small) (goals_short (length book) book few w.clauses_fit 0) in
    let k = text_parsed (length book) (rules_from 0 book) (omega arith) (book_ordered book) bare small in
    ap parsed_book k.1
    ∙ ap at_desk (book_taken book p w)
    ∙ desk_passes (accepted book) (none_found book apart)

-- Export of an import.

-- what is known of a text that is accepted, and of its book
pub record Accepts (text : List ℕ) (book : Book) : Type 0 where
  pub state : State
  pub parsed : parse text ≡ some state
  pub book_is : goals_for 0 state.tables state.rules ≡ book
  pub few : state.tables ≤ most_goals
  pub some_goal : 0 < state.tables
  pub few_rules : length state.rules ≤ most_clauses
  pub short : any_passes is_long state.rules ≡ false
  pub named : goals_name state.tables (goals_for 0 state.tables state.rules) ≡ true
  pub apart : NoRepeats book

pub accepts : (text : List ℕ) (book : Book) → import text ≡ accepted book → Accepts text book
accepts text book e = on (parse text) refl e
  where
    on : (o : Option State) → parse text ≡ o → parsed_book o ≡ accepted book → Accepts text book
    on none k x = absurd (not_accepted x)
    on (some s) k x =
        let d = desk_took (book_of s.tables s.rules) book x in
        let b = goals_for 0 s.tables s.rules in
        let a = all_pass
        (ltb most_goals s.tables refuses 5
        ∷ ltb most_clauses (length s.rules) refuses 5
        ∷ any_passes is_long s.rules refuses 5
        ∷ eqb s.tables 0 refuses 8
        ∷ not (goals_name s.tables b) refuses 6
        ∷ []) b book d.0 in
        let t = a.0 in
        record {
          state = s;
          parsed = k;
          book_is = a.1;
          few = ltb-false 64 s.tables t.0;
          some_goal = not_zero s.tables t.1.1.1.0;
          few_rules = ltb-false 256 (length s.rules) t.1.0;
          short = t.1.1.0;
          named = was_true (goals_name s.tables b) t.1.1.1.1.0;
          apart = d.1;
        }

-- every literal of it names a goal
literals_below : (n : ℕ) (ls : List Literal) → literals_name n ls ≡ true → All (λ (l : Literal). goal_of l < n) ls
literals_below n [] e = end
literals_below n (l ∷ ls) e =
    let p = both_true (ltb (goal_of l) n) _ e in
    more (ltb-true (goal_of l) n p.0) (literals_below n ls p.1)

abbrev pub BelowRule : ℕ → Rule → Type 0
BelowRule n r = All (λ (l : Literal). goal_of l < n) r.body

clauses_below : (n g : ℕ) (cs : List Clause) → clauses_name n cs ≡ true → All (BelowRule n) (rules_of_goal g cs)
clauses_below n g [] e = end
clauses_below n g (c ∷ cs) e =
    let p = both_true (literals_name n c.literals) _ e in
    more (literals_below n c.literals p.0) (clauses_below n g cs p.1)

pub goals_below : (n g : ℕ) (hs : List Goal) → goals_name n hs ≡ true → All (BelowRule n) (rules_from g hs)
goals_below n g [] e = end
goals_below n g (h ∷ hs) e =
    let p = both_true (clauses_name n h.clauses) _ e in
    all_append (clauses_below n g h.clauses p.0) (goals_below n (suc g) hs p.1)

pub export_import : (text : List ℕ) (book : Book) → import text ≡ accepted book → export book ≡ text
export_import text book e =
    let a = accepts text book e in
    let n = a.state.tables in
    let rs = a.state.rules in
    let back : rules_from 0 (goals_for 0 n rs) ≡ rs = rules_back n rs (parse_fits text a.state a.parsed).in_order in
    let few = a.few in
    let below : All (BelowRule n) rs = subst (All (BelowRule n)) back (goals_below n 0 (goals_for 0 n rs) a.named) in
    let small : All SmallRule rs = all_map (λ (r : Rule) (x : BelowRule n r). all_map
    (λ (l : Literal) (y : goal_of l < n). omega arith) x) below in
    subst (λ (b : Book). export b ≡ text) a.book_is
    (ap₂ text_of (goals_for_length 0 n rs) back ∙ parse_text text a.state a.parsed (omega arith) small)

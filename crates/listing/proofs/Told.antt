-- One peek of the code, on a forest that may be asked: as a batch of one call it is a peek, which is accepted, and what the numbers of its
-- reply tell is the next step of the definitions' listing.
use Prim.Native.Nat.{ℕ, suc, ◌+◌, ◌-◌, ◌≤◌, ◌<◌}
use native.Mathlib.Omega.{arith}
use mathlib.Core.Bool.{Bool, true}
use mathlib.Core.List.{List, [], ◌∷◌, map}
use mathlib.Core.Logic.{inr}
use mathlib.Core.Path.{◌≡◌, refl, sym, ap, subst, ◌∙◌}
use lib.ListN.{length, get_or, length-set}
use Rattle.definitions.specs.Calls as calls
use Rattle.definitions.specs.Forest as said
use Rattle.papers.specs.Listing.{listing_rounds, listing_turns, line, next_index, next_goal, next, page_line}
use Rattle.definitions.specs.Refusal.{accepted}
use Rattle.definitions.specs.Tables as tables
use Rattle.definitions.specs.Turn.{Ending, found, fail, cut, stopped}
use Rattle.definitions.proofs.Refusal.{same_accepted, not_accepted}
use Rattle.asserts.proofs.Bounds.{answers_at_most}
use Rattle.asserts.proofs.Peeks.{PeekWell, peeks_well}
use Rattle.asserts.proofs.Unwinding.{Ended}
use Rattle.promises.proofs.ListingStored as stored
use Rattle.promises.proofs.ListingStored.{PeekStored, peek_stored}
use Rattle.batch.specs.Calls.{call_at, reply_put}
use Rattle.batch.specs.declared.calls.Reply.{Reply}
use Rattle.forest.specs.declared.Forest.{Forest}
use Rattle.forest.specs.declared.searches.Outcome.{Outcome}
use Rattle.forest.specs.declared.searches.Outcome.TheVariants as outcomes
use Rattle.forest.specs.declared.searches.Peeked.{Peeked}
use Rattle.forest.specs.Searches.{PeekSays, reply_by}
use Rattle.forest.specs.ServeCalls.{call_means, outcome_numbers, numbers, all_put, all_left, ServeCallsSays}
use Rattle.forest.specs.Sittings.{Told, opens, searches, peeks, asks_future, left, Gives, Sits, asked}
use Rattle.forest.specs.View.{view, Sound}
use Rattle.listing.specs.Lines.{reply_line, settled_word}
use Rattle.listing.specs.Goals.{Ready, Stands, goal_count, peek_put, next_of}
use Rattle.listing.proofs.Marks.{MarkStays, PeekMarks, peek_mark}
use Rattle.listing.proofs.Listing.{peek_asked}
use Rattle.listing.proofs.Replies.{ending_of, Tells, reply_tells, peek_line}

-- A BATCH OF ONE PEEK

abbrev peek_numbers : Peeked → Reply
peek_numbers r = outcome_numbers r.index r.turns r.exceeded r.outcome

-- a peek, the forest that it left, and the numbers of its reply
pub record OnePeek (f : Forest) (table index : ℕ) (g : Forest) (replies : List ℕ) : Type 0 where
  pub peeked : Peeked
  pub says : PeekSays f table index listing_rounds listing_turns peeked
  pub left : g ≡ peeked.forest
  pub word : get_or replies 0 0 ≡ (peek_numbers peeked).word
  pub value : get_or replies 1 0 ≡ (peek_numbers peeked).value
  pub ended_at : get_or replies 2 0 ≡ (peek_numbers peeked).index

-- what the first five numbers ask
first_call : (table index : ℕ) (l : List ℕ) → 5 ≤ length l
    → call_means (call_at (peek_put table index l) 0) ≡ calls.peeks table index listing_rounds listing_turns
first_call table index [] h = elim h [ ]
first_call table index (a ∷ []) h = absurd (omega arith)
first_call table index (a ∷ b ∷ []) h = absurd (omega arith)
first_call table index (a ∷ b ∷ c ∷ []) h = absurd (omega arith)
first_call table index (a ∷ b ∷ c ∷ d ∷ []) h = absurd (omega arith)
first_call table index (a ∷ b ∷ c ∷ d ∷ e ∷ l) h = refl

-- what the first reply tells
first_reply : (m : Reply) (l : List ℕ) → 3 ≤ length l → let after = reply_put 0 m l in
    (get_or after 0 0 ≡ m.word) × (get_or after 1 0 ≡ m.value) × (get_or after 2 0 ≡ m.index)
first_reply m [] h = elim h [ ]
first_reply m (a ∷ []) h = absurd (omega arith)
first_reply m (a ∷ b ∷ []) h = absurd (omega arith)
first_reply m (a ∷ b ∷ c ∷ l) h = (refl, refl, refl)

-- the arrays of the calls and of the replies keep their lengths
pub asks_room : (table index : ℕ) (l numbers : List ℕ) → numbers ≡ peek_put table index l → 5 ≤ length l → 5 ≤ length numbers
asks_room table index l numbers e h = rw e (simp length-set h)

all_put_length : (at : ℕ) (ts : List Told) (l : List ℕ) → length (all_put at ts l) ≡ length l
all_put_length at [] l = refl
all_put_length at (t ∷ ts) l = all_put_length (suc at) ts (reply_put at (numbers t) l) ∙ simp length-set

pub tells_room : (f : Forest) (count : ℕ) (calls before : List ℕ) (g : Forest) (after : List ℕ)
    → ServeCallsSays f count calls before g after → 3 ≤ length before → 3 ≤ length after
tells_room f count calls before g after says h =
    let e = ap length says.replies ∙ all_put_length 0 says.told before in
    omega arith

module _ (f : Forest) (table index : ℕ) (before : List ℕ) (g : Forest) (after : List ℕ) (room : 3 ≤ length before) where
  abbrev asked_for : calls.Call
  asked_for = calls.peeks table index listing_rounds listing_turns

  told_one : (t : Told) → Gives f t → asked t ≡ asked_for → after ≡ reply_put 0 (numbers t) before → g ≡ left f t
      → OnePeek f table index g after
  told_one (opens goal r) gives a e h = let z : ◌≡◌ {A = ℕ} 0 1 = cc in absurd (omega arith)
  told_one (searches t i limit r) gives a e h = let z : ◌≡◌ {A = ℕ} 0 1 = cc in absurd (omega arith)
  told_one (asks_future t i v r) gives a e h = let z : ◌≡◌ {A = ℕ} 0 1 = cc in absurd (omega arith)
  told_one (peeks t i rounds limit r) gives a e h =
      let first = first_reply (peek_numbers r) before room in
      let same_table : t ≡ table = cc in
      let same_index : i ≡ index = cc in
      let same-rounds : rounds ≡ listing_rounds = cc in
      let same-limit : limit ≡ listing_turns = cc in
      record {
        peeked = r;
        says = rw (← same_table, ← same_index, ← same-rounds, ← same-limit) gives;
        left = h;
        word = ap (λ (l : List ℕ). get_or l 0 0) e ∙ first.0;
        value = ap (λ (l : List ℕ). get_or l 1 0) e ∙ first.1;
        ended_at = ap (λ (l : List ℕ). get_or l 2 0) e ∙ first.2;
      }

  told_all : (ts : List Told) → Sits f ts → map asked ts ≡ asked_for ∷ [] → after ≡ all_put 0 ts before → g ≡ all_left f ts
      → OnePeek f table index g after
  told_all [] sits a e h = let z : ◌≡◌ {A = ℕ} 0 1 = cc in absurd (omega arith)
  told_all (t ∷ []) sits a e h = told_one t sits.0 (cc) e h
  told_all (t ∷ u ∷ ts) sits a e h = let z : ◌≡◌ {A = ℕ} 0 1 = cc in absurd (omega arith)

  pub one_peek : (l numbers : List ℕ) → 5 ≤ length l → numbers ≡ peek_put table index l
      → ServeCallsSays f 1 numbers before g after → OnePeek f table index g after
  one_peek l numbers fits e says = told_all says.told says.sits
      (says.asks ∙ ap (λ (n : List ℕ). call_means (call_at n 0) ∷ []) e ∙ ap (λ (k : calls.Call). k ∷ []) (first_call table index l fits))
      says.replies says.left

-- AN OUTCOME AND ITS ENDING

told_by : (o : Outcome) (with : Ending → said.Peeked) (p : said.Peeked) → reply_by o with ≡ accepted p
    → (e : Ending) × (ending_of o ≡ accepted e) × (p ≡ with e)
told_by (outcomes.Refused n) with p x = absurd (not_accepted x)
told_by (outcomes.Found variant ambiguous) with p x = (_, refl, sym (same_accepted x))
told_by outcomes.NoMoreSolutions with p x = (_, refl, sym (same_accepted x))
told_by outcomes.Floundered with p x = (_, refl, sym (same_accepted x))
told_by outcomes.QuantumExceeded with p x = (_, refl, sym (same_accepted x))
told_by outcomes.NegativeCycle with p x = (_, refl, sym (same_accepted x))
told_by outcomes.InvalidAnswer with p x = (_, refl, sym (same_accepted x))
told_by outcomes.Cut with p x = (_, refl, sym (same_accepted x))
told_by (outcomes.Stopped n) with p x = (_, refl, sym (same_accepted x))

next_found : (e : Ending) → next e ≡ next_index → stored.is_found e ≡ true
next_found (found a) q = refl
next_found (fail e) q = let z : ◌≡◌ {A = ℕ} 0 1 = cc in absurd (omega arith)
next_found cut q = let z : ◌≡◌ {A = ℕ} 0 1 = cc in absurd (omega arith)
next_found (stopped n) q = let z : ◌≡◌ {A = ℕ} 0 1 = cc in absurd (omega arith)

found_stays : (m : ℕ) (e : Ending) (f : tables.Forest) → next e ≡ next_index → MarkStays m e f → f.mark ≡ m
found_stays m (found a) f q h = h
found_stays m (fail e) f q h = h
found_stays m cut f q h = h
found_stays m (stopped n) f q h = let z : ◌≡◌ {A = ℕ} 0 1 = cc in absurd (omega arith)

goal_stays : (m : ℕ) (e : Ending) (f : tables.Forest) → next e ≡ next_goal → MarkStays m e f → f.mark ≡ m
goal_stays m (found a) f q h = h
goal_stays m (fail e) f q h = h
goal_stays m cut f q h = h
goal_stays m (stopped n) f q h = let z : ◌≡◌ {A = ℕ} 0 1 = cc in absurd (omega arith)

-- ONE PEEK

-- what a peek tells the listing: how it ended and where, which is the definitions' peek; its line; and what may be asked of the forest next
pub record PeekTells (f : Forest) (table index : ℕ) (g : Forest) (replies : List ℕ) : Type 0 where
  pub made : said.Peeked
  pub is_made : said.peek_rounds (listing_rounds - 1) listing_turns 0 table index (view f) ≡ made
  pub left : made.forest ≡ view g
  pub follows : next_of (get_or replies 0 0) ≡ next made.ending
  pub ended_at : get_or replies 2 0 ≡ made.index
  pub says_line : (goal : ℕ) (skipped : Bool)
      → reply_line goal (get_or replies 2 0) (settled_word (get_or replies 0 0) skipped) (get_or replies 1 0)
      ≡ page_line (line goal made.index made.ending skipped)
  pub same_goals : goal_count g ≡ goal_count f
  pub not_before : index ≤ made.index
  pub stands : next made.ending ≡ next_index → Stands g table (made.index + 1)
  pub ready : next made.ending ≡ next_goal → Ready g

module _ (f : Forest) (t i : ℕ) (x : Stands f t i) (r : Peeked) (says : PeekSays f t i listing_rounds listing_turns r) where
  abbrev told : Ending → said.Peeked
  told e = record { ending = e; index = r.index; turns = r.turns; exceeded = r.exceeded; forest = view r.forest }

  abbrev made : said.Peeked
  made = said.peek_rounds (listing_rounds - 1) listing_turns 0 t i (view f)

  stands_ended : Ended f.book.goals t i (view f)
  stands_ended = record { sound = x.ready.sound.forest; own = x.own; is_made = x.is_made; reached = x.reached }

  is_told : (e : Ending) × (ending_of r.outcome ≡ accepted e) × (made ≡ told e)
  is_told = told_by r.outcome told made
      (says.says x.ready.sound
      ∙ peek_asked f.book.goals t i (view f) stands_ended x.ready.unmarked listing_rounds listing_turns refl)

  abbrev ending : Ending
  ending = is_told.0

  well : PeekWell f.book.goals t (told ending)
  well = subst (PeekWell f.book.goals t) is_told.2 (peeks_well f.book.goals t listing_turns (listing_rounds - 1) 0 i (view f) stands_ended)

  is_stored : PeekStored t i (told ending)
  is_stored = subst (PeekStored t i) is_told.2 (peek_stored t listing_turns (listing_rounds - 1) 0 i (view f))

  marks : MarkStays 0 ending (view r.forest)
  marks = subst (PeekMarks 0) is_told.2 (peek_mark 0 t listing_turns (listing_rounds - 1) 0 i (view f) x.ready.unmarked)

  same_goals : goal_count r.forest ≡ goal_count f
  same_goals = well.ended.sound.goals ∙ sym x.ready.sound.forest.goals

  left_sound : Sound r.forest
  left_sound = says.sound x.ready.sound

  is_under : next ending ≡ next_index → r.index < length well.ended.own.answers
  is_under e = rw well.ended.is_made at (is_stored.when_found (next_found ending e))

  at_most : length well.ended.own.answers ≤ 256
  at_most = answers_at_most well.ended.sound t well.ended.own well.ended.is_made

  stands_next : next ending ≡ next_index → Stands r.forest t (r.index + 1)
  stands_next e =
      let a = is_under e in
      let b = at_most in
      record {
        ready = record { sound = left_sound; unmarked = found_stays 0 ending (view r.forest) e marks };
        own = well.ended.own;
        is_made = well.ended.is_made;
        reached = inr (omega arith);
        few = omega arith;
      }

  tells : Tells (peek_numbers r) r.index ending
  tells = reply_tells r.index r.turns r.exceeded r.outcome ending is_told.1

  tells_by : (replies : List ℕ) → get_or replies 0 0 ≡ (peek_numbers r).word → get_or replies 1 0 ≡ (peek_numbers r).value
      → get_or replies 2 0 ≡ (peek_numbers r).index → PeekTells f t i r.forest replies
  tells_by replies a b c = record {
    made = told ending;
    is_made = is_told.2;
    left = refl;
    follows = ap next_of a ∙ tells.follows;
    ended_at = c ∙ tells.ended_at;
    says_line = λ goal skipped. rw (a, b, c) (peek_line goal r.index (peek_numbers r) ending skipped tells);
    same_goals = same_goals;
    not_before = is_stored.not_before;
    stands = stands_next;
    ready = λ e. record { sound = left_sound; unmarked = goal_stays 0 ending (view r.forest) e marks };
  }

pub peek_tells : (f : Forest) (t i : ℕ) (g : Forest) (replies : List ℕ) → Stands f t i → OnePeek f t i g replies
    → PeekTells f t i g replies
peek_tells f t i g replies x o =
    subst (λ (h : Forest). PeekTells f t i h replies) (sym o.left)
    (tells_by f t i x o.peeked o.says replies o.word o.value o.ended_at)

-- When the stores are sound: all that an operation rests on.
use Rattle.std.specs.Prelude.{ℕ, zero, suc, ◌+◌, ◌≤◌, ◌<◌, ◌≡◌, false, List, [], ◌∷◌, length, get_or, eqb}
use Rattle.definitions.specs.Book as books
use Rattle.definitions.specs.Strand as said_strand
use Rattle.laws.specs.All.{All}
use Rattle.rings.specs.Lists.{times}
use Rattle.sizes.specs.Limits.{most_goals, most_tables, most_entries, most_places}
use Rattle.rings.specs.Rings.{RingSound}
use Rattle.strands.specs.declared.Strand.{Strand}
use Rattle.strands.specs.declared.Answer.{Answer}
use Rattle.strands.specs.View.{answer, Sound, SoundAnswer}
use Rattle.stores.specs.declared.places.Places.{Places}
use Rattle.stores.specs.declared.queue.Strands.{Strands}
use Rattle.stores.specs.declared.table.Answers.{Answers}
use Rattle.stores.specs.declared.tables.Tables.{Tables}
use Rattle.stores.specs.declared.stack.Stack.{Stack}
use Rattle.stores.specs.Numbers.{waits_fresh, free, flag_number}
use Rattle.stores.specs.Places.{ring}
use Rattle.stores.specs.View.{FirstStrands, unread_strand, unread_answer, strand_at}
use Rattle.stores.specs.Queue.{waits_of, wants_of}
use Rattle.stores.specs.Table.{key_of}

-- the lengths of the first n rings together
abbrev pub waiting : Places → ℕ → ℕ
waiting p zero = 0
waiting p (suc n) = length (ring p n) + waiting p n

-- Places for n tables, of which those in `held` are in nobody's ring (on the stack or in hand): each place that was used waits in one
-- ring, is free or is held.
pub record SoundPlaces (p : Places) (n : ℕ) (held : List ℕ) : Type 0 where
  pub rings : RingSound p.next p.tail p.len p.top
  pub few : n ≤ free
  pub empty : (t : ℕ) → n ≤ t → (t ≡ free → ⊥) → ring p t ≡ []
  pub apart : (q t : ℕ) → 1 ≤ times q held → times q (ring p t) ≡ 0
  pub once : (q : ℕ) → times q held ≤ 1
  pub used : (q : ℕ) → 1 ≤ times q held → q < p.top
  pub all : waiting p n + length (ring p free) + length held ≡ p.top

-- what stands at a place that isn't fresh: a sound strand, and the numbers beside it say what it waits on and what it wants
pub record Written (x : Strand) (waits wants : ℕ) : Type 0 where
  pub sound : Sound x
  pub is_waits : waits ≡ waits_of x
  pub is_wants : wants ≡ wants_of x

-- A place in use shows a strand, and the numbers that are read without it are that strand's; it is fresh, or its strand is written.
pub record OwnNumbers (shown : said_strand.Strand) (x : Strand) (ambiguous variant waits wants : ℕ) : Type 0 where
  pub is_ambiguous : ambiguous ≡ flag_number shown.ex_clause.ambiguous
  pub is_variant : variant ≡ shown.ex_clause.subst.variant
  pub is_written : eqb waits waits_fresh ≡ false → Written x waits wants

abbrev pub InUse : FirstStrands → Strands → (q : ℕ) → Type 0
InUse fresh s q = OwnNumbers (strand_at fresh s q) (get_or s.strands q unread_strand) (get_or s.ambiguous q 0) (get_or s.variant q 0)
    (get_or s.waits q 0) (get_or s.wants q 0)

-- what the book says of a clause is so of its first strand, which nobody has pursued
pub record FirstOf (first : said_strand.Strand) (variant flags : ℕ) : Type 0 where
  pub is_variant : first.ex_clause.subst.variant ≡ variant
  pub is_ambiguous : first.ex_clause.ambiguous ≡ books.bit0 flags
  pub is_unpursued : first.last_pursued_time ≡ 0

-- the arrays of the strand store
pub record LongStrands (strands : List Strand) (time ambiguous variant waits wants : List ℕ) : Type 0 where
  pub long_strands : length strands ≡ most_places
  pub long_time : length time ≡ most_places
  pub long_ambiguous : length ambiguous ≡ most_places
  pub long_variant : length variant ≡ most_places
  pub long_waits : length waits ≡ most_places
  pub long_wants : length wants ≡ most_places

abbrev pub Long : Strands → Type 0
Long s = LongStrands s.strands s.time s.ambiguous s.variant s.waits s.wants

pub record SoundStrands (fresh : FirstStrands) (s : Strands) (n : ℕ) (held : List ℕ) : Type 0 where
  pub places : SoundPlaces s.places n held
  pub long : Long s
  pub queued : (t q : ℕ) → t < n → 1 ≤ times q (ring s.places t) → InUse fresh s q
  pub in_hand : (q : ℕ) → 1 ≤ times q held → InUse fresh s q

-- Place q is held, besides those in `held`, and what stands there is nobody's yet.
pub record Ready (fresh : FirstStrands) (s : Strands) (n : ℕ) (held : List ℕ) (q : ℕ) : Type 0 where
  pub places : SoundPlaces s.places n (q ∷ held)
  pub long : Long s
  pub queued : (t u : ℕ) → t < n → 1 ≤ times u (ring s.places t) → InUse fresh s u
  pub in_hand : (u : ℕ) → 1 ≤ times u held → InUse fresh s u

-- an answer that may be stored: it is sound, and what it delays are goals that a book can have, so that its key is its own
pub record GoodAnswer (x : Answer) : Type 0 where
  pub sound : SoundAnswer x
  pub goals : All (λ g. g < most_goals) (answer x).delayed_subgoals

-- one that is stored: the numbers beside it are its own
pub record OwnAnswerNumbers (x : Answer) (variant key ambiguous : ℕ) : Type 0 where
  pub good : GoodAnswer x
  pub is_variant : variant ≡ (answer x).variant
  pub is_key : key ≡ key_of (answer x).delayed_subgoals
  pub is_ambiguous : ambiguous ≡ flag_number (answer x).ambiguous

abbrev pub Stored : Answers → (q : ℕ) → Type 0
Stored a q = OwnAnswerNumbers (get_or a.answers q unread_answer) (get_or a.variant q 0) (get_or a.key q 0) (get_or a.ambiguous q 0)

-- the arrays of the answers
pub record LongAnswers (answers : List Answer) (variant key ambiguous : List ℕ) : Type 0 where
  pub long_answers : length answers ≡ most_places
  pub long_variant : length variant ≡ most_places
  pub long_key : length key ≡ most_places
  pub long_ambiguous : length ambiguous ≡ most_places

-- no answer is in hand
pub record SoundAnswers (a : Answers) (n : ℕ) : Type 0 where
  pub places : SoundPlaces a.places n []
  pub long : LongAnswers a.answers a.variant a.key a.ambiguous
  pub stored : (t q : ℕ) → t < n → 1 ≤ times q (ring a.places t) → Stored a q

pub record SoundTables (ts : Tables) : Type 0 where
  pub few : ts.count ≤ most_tables
  pub long_goal : length ts.goal ≡ most_tables
  pub long_coinductive : length ts.coinductive ≡ most_tables
  pub long_floundered : length ts.floundered ≡ most_tables
  pub long_complete : length ts.complete ≡ most_tables

pub record SoundStack (k : Stack) : Type 0 where
  pub few : k.depth ≤ most_entries
  pub long_table : length k.table ≡ most_entries
  pub long_clock : length k.clock ≡ most_entries
  pub long_positive : length k.positive ≡ most_entries
  pub long_negative : length k.negative ≡ most_entries
  pub long_active : length k.active ≡ most_entries
  pub places : (i : ℕ) → i < k.depth → get_or k.active i 0 ≤ most_places

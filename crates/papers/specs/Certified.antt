-- A yes that can be printed (change request 2), the promise: an unambiguous answer of a goal that is clean can be derived from the clauses,
-- variants and wants included. Nothing is said about answers that are not found.
use Rattle.std.specs.Prelude.{ℕ, ◌≡◌, false, List}
use Rattle.std.proofs.Math.Option.{Option, none, some}
use Rattle.std.proofs.Math.ListN.{get_elem?}
use Rattle.definitions.specs.{TableIndex, CompleteAnswer}
use Rattle.definitions.specs.Book.{Book}
use Rattle.definitions.specs.Refusal.{Refusable, accepted}
use Rattle.definitions.specs.Table.{Table}
use Rattle.definitions.specs.Tables.{Forest}
use Rattle.definitions.specs.Turn.{Ending, found, fail, cut, stopped}
use Rattle.definitions.specs.Forest.{make}
use Rattle.definitions.specs.Desk.{make_at_desk}
use Rattle.definitions.specs.Calls.{Call, Reply, refusal, table, searched, peeked, future, sitting, Called, calls}
use Rattle.definitions.specs.Lists.{Each}
use Rattle.papers.specs.Claim.{Named, about, AboutSays}
use Rattle.papers.specs.Derive.{Derivable, Clean, CleanBook}
use Rattle.papers.specs.Spoilt.{spoiler_in, check_spoilers}

-- `C` is the clean set.
module _ (book : Book) (C : ℕ → Type 0) where
  -- every unambiguous answer that a forest has stored for a goal of the set
  abbrev pub StoredDerivable : Forest → Type 0
  StoredDerivable f =
      (t : TableIndex) (own : Table) → get_elem? f.tables t ≡ some own → C own.table_goal →
      Each (λ a. a.ambiguous ≡ false → Derivable book own.table_goal a.variant) own.answers

  -- an answer that a search or peek for table t found, f being the forest that it left
  abbrev pub FoundDerivable : Forest → TableIndex → CompleteAnswer → Type 0
  FoundDerivable f t a = Named f t (λ goal. C goal → a.ambiguous ≡ false → Derivable book goal a.variant)

  abbrev pub EndingDerivable : Forest → TableIndex → Ending → Type 0
  EndingDerivable f t (found a) = FoundDerivable f t a
  EndingDerivable f t (fail e) = Unit {0}
  EndingDerivable f t cut = Unit {0}
  EndingDerivable f t (stopped n) = Unit {0}

  abbrev pub ReplyDerivable : (at : Option (TableIndex × ℕ)) → Forest → Reply → Type 0
  ReplyDerivable at f (refusal n) = Unit {0}
  ReplyDerivable at f (table t) = Unit {0}
  ReplyDerivable at f (searched e turns) = AboutSays at (λ t i. EndingDerivable f t e)
  ReplyDerivable at f (peeked e i turns k) = AboutSays at (λ t asked. EndingDerivable f t e)
  ReplyDerivable at f (future b) = Unit {0}

  pub record CallDerivable (c : Called) : Type 0 where
    pub stored_derivable : StoredDerivable c.after.forest
    pub reply_derivable : ReplyDerivable (about c.before c.asked) c.after.forest c.reply

-- For every byte string that makes a forest, every clean set of its book and every list of calls.
abbrev pub CertifiedOf : ((bytes : List ℕ) → (clock_limit : ℕ) → Refusable Forest) → Type 1
CertifiedOf making =
    (bytes : List ℕ) (clock_limit : ℕ) (f : Forest) → making bytes clock_limit ≡ accepted f →
    (C : ℕ → Type 0) → Clean f.book C →
    (cs : List Call) → Each (CallDerivable f.book C) (calls (sitting f) cs)

abbrev pub Certified : Type 1
Certified = CertifiedOf make

-- through the desk
abbrev pub CertifiedAtDesk : Type 1
CertifiedAtDesk = CertifiedOf make_at_desk

-- What the change request says of a whole book, in short: of whatever goal an unambiguous answer is found, it can be derived.
abbrev pub BookCertified : Type 0
BookCertified =
    (bytes : List ℕ) (clock_limit : ℕ) (f : Forest) → make bytes clock_limit ≡ accepted f → CleanBook f.book →
    (cs : List Call) → Each (CallDerivable f.book (λ goal. Unit {0})) (calls (sitting f) cs)

-- What the check of a paper says beforehand: in a forest that is made at the desk, an unambiguous answer of a goal that nothing spoils can
-- be derived.
abbrev pub UnspoiltCertified : Type 0
UnspoiltCertified =
    (bytes : List ℕ) (ss : List (Option ℕ)) → check_spoilers bytes ≡ accepted ss →
    (clock_limit : ℕ) (f : Forest) → make_at_desk bytes clock_limit ≡ accepted f →
    (cs : List Call) → Each (CallDerivable f.book (λ goal. spoiler_in ss goal ≡ none)) (calls (sitting f) cs)

-- Reading a book: what holds before each command, that each command keeps it, and what it gives where reading stops.
use Prim.Native.Nat.{ℕ, suc, ◌+◌, ◌%◌, ◌≤◌, ◌<◌}
use native.Mathlib.Omega.{arith}
use mathlib.Core.Path.{◌≡◌, refl, sym, ap, ap₂, subst, ◌∙◌}
use mathlib.Core.Bool.{Bool, false}
use mathlib.Core.List.{List, [], ◌∷◌, ◌++◌}
use lib.ListN.{length, get_or, drop, length-replicate}
use lib.Dec.{ltb, leb, eqb, leb-zero}
use borrow.Author.Tests.{ltb-false, leb-false, eqb-false}
use Rattle.std.proofs.Common.{max, Ok, Err}
use Rattle.definitions.specs.Refusal.{◌refuses◌}
use Rattle.definitions.specs.Book as said
use Rattle.definitions.specs.Book.{goal, clause, positive, ranged, negative, end, unknown, command, width, byte, u16, bit0, crossed}
use Rattle.definitions.specs.Book.{want_of, between, Positive, Negative, add_clause, add_literal}
use Rattle.definitions.specs.Mend.{loose_from, read_loosely}
use Rattle.laws.proofs.Lists.{get_or_zeros}
use Rattle.definitions.proofs.Book.{want_straight}
use Rattle.book.specs.declared.Book.{Book}
use Rattle.book.specs.declared.decode.Operands.{Operands}
use Rattle.book.specs.declared.refusal.Refusal.{Refusal}
use Rattle.book.specs.declared.refusal.Refusal.TheVariants as why
use Rattle.book.specs.Refusals.{number}
use Rattle.book.specs.View.{numbered, view, kept, Full, Ranged, Sound, blank}
use Rattle.book.specs.Faults.{fault, marked, counts, next_fault, literal_tests}
use Rattle.book.specs.Naming.{ReadNamed}
use Rattle.book.specs.Operands.{kind_by, want_at, high_at, OperandsAt}
use Rattle.book.proofs.LiteralKinds.{kept_ends, positive_literal, ranged_literal, negative_literal, kind_small}
use Rattle.book.proofs.Tests.{OfLiteral, of_positive, of_ranged, of_negative, of_literal, byte_after, u16_after}
use Rattle.book.proofs.Held.{Held}
use Rattle.book.proofs.MoreGoals.{with_goal, bare_goal, goal_view, goal_held}
use Rattle.book.proofs.MoreClauses.{with_clause, bare_clause, clause_view, clause_held, ends as clauses_end}
use Rattle.book.proofs.MoreLiterals.{with_literal, literal_view, literal_held}
use Rattle.book.proofs.Turns.{passes, done, turn_refused, some_left, tests_passed, turn_end, turn_on}

-- no refusal has the number 0
numbered_some : (e : Refusal) → number e ≡ 0 → ⊥
numbered_some why.PartMissing h = absurd (omega arith)
numbered_some why.UnknownCommand h = absurd (omega arith)
numbered_some why.OutOfPlace h = absurd (omega arith)
numbered_some why.UnknownFlag h = absurd (omega arith)
numbered_some why.TooMany h = absurd (omega arith)
numbered_some why.NoSuchGoal h = absurd (omega arith)
numbered_some why.BehindEnd h = absurd (omega arith)
numbered_some why.NoGoal h = absurd (omega arith)
numbered_some why.CrossedRange h = absurd (omega arith)
numbered_some why.RepeatedClause h = absurd (omega arith)
numbered_some why.NotPlain h = absurd (omega arith)
numbered_some why.NotLevelled h = absurd (omega arith)
numbered_some why.NotText h = absurd (omega arith)

-- what the tests of a literal command leave
record Room (clauses literals : ℕ) (crossing : Bool) : Type 0 where
  some_clause : 0 < clauses
  few : literals < 8
  straight : crossing ≡ false

-- the arrays hold what was read before a place, and the rest of the bytes is still to be read
pub record SoFar (bs : List ℕ) (b : Book) (literals named at : ℕ) : Type 0 where
  pub held : Held b literals named
  pub rest : loose_from (drop at bs) 0 (view b) ≡ read_loosely bs

-- Where reading starts.

pub blank_full : Full blank
blank_full = record {
  goal_flags = length-replicate {A = ℕ} 64 0;
  goal_first = length-replicate {A = ℕ} 64 0;
  goal_len = length-replicate {A = ℕ} 64 0;
  clause_variant = length-replicate {A = ℕ} 256 0;
  clause_flags = length-replicate {A = ℕ} 256 0;
  clause_len = length-replicate {A = ℕ} 256 0;
  literal_kind = length-replicate {A = ℕ} 2048 0;
  literal_goal = length-replicate {A = ℕ} 2048 0;
  literal_want = length-replicate {A = ℕ} 2048 0;
}

blank_ranged : Ranged blank
blank_ranged = record {
  goal_flags = λ g. omega (arith, get_or_zeros 64 g);
  clause_flags = λ c. omega (arith, get_or_zeros 256 c);
  variants = λ c. omega (arith, get_or_zeros 256 c);
  kinds = λ i. omega (arith, get_or_zeros 2048 i);
  wants = λ i. omega (arith, get_or_zeros 2048 i);
  straight = λ i. ap (λ (n : ℕ). crossed (kept n n n)) (get_or_zeros 2048 i);
}

blank_held : Held blank 0 0
blank_held = record {
  full = blank_full;
  ranged = blank_ranged;
  few_goals = omega arith;
  few_clauses = omega arith;
  few_literals = λ c. omega (arith, get_or_zeros 256 c);
  tiles = refl;
  last = λ c e. get_or_zeros 256 c;
  none = λ e. refl;
  naming = λ n. sym (leb-zero n);
}

-- the book of a refusal
pub blank_sound : Sound blank
blank_sound = record {
  full = blank_full;
  ranged = blank_ranged;
  few_goals = blank_held.few_goals;
  few_clauses = blank_held.few_clauses;
  few_literals = blank_held.few_literals;
  tiles = blank_held.tiles;
  named = blank_held.naming 0;
}

pub start : (bs : List ℕ) (b : Book) → b ≡ blank → SoFar bs b 0 0 0
start bs b e = subst (λ (x : Book). SoFar bs x 0 0 0) (sym e) (record { held = blank_held; rest = refl })

module _ (bs : List ℕ) (b : Book) (literals named at : ℕ) (s : SoFar bs b literals named at) where
  -- a refusal
  pub stops : (e : Refusal) → number e ≡ next_fault (drop at bs) (counts b.goals b.clauses literals) → ReadNamed bs (Err e)
  stops e is = record {
    reads = record {
      means = sym (turn_refused b literals named s.held bs at (number e) (numbered_some e) (sym is)) ∙ s.rest;
      formed = tt;
    };
    naming = tt;
  }

  module _ (fine : 0 ≡ next_fault (drop at bs) (counts b.goals b.clauses literals)) where
    abbrev after : List ℕ
    after = drop (suc at) bs

    pub more_left : at < length bs
    more_left = some_left b literals named s.held bs at (sym fine)

    -- the end command
    module _ (is : byte bs at ≡ 0x45) where
      pub ends : ReadNamed bs (Ok (record { book = b; named = named }))
      ends =
          let h = s.held in
          record {
            reads = record {
              means = sym (turn_end b literals named h bs at (sym fine) end (ap command is) refl) ∙ s.rest;
              formed = record {
                full = h.full;
                ranged = h.ranged;
                few_goals = h.few_goals;
                few_clauses = h.few_clauses;
                few_literals = h.few_literals;
                tiles = h.tiles;
              };
            };
            naming = h.naming;
          }

    module _ (o : Operands) (ops : OperandsAt bs at o) where
      abbrev x : ℕ
      x = o.command

      ex : x ≡ byte bs at
      ex = ops.command_is

      code : (c : ℕ) → x ≡ c → command (byte bs at) ≡ command c
      code c e = ap command (sym ex ∙ e)

      -- a goal command
      module _ (is : x ≡ 0x47) where
        pub goal_room : b.goals < 64
        goal_room =
            let t = tests_passed b literals named s.held bs at (sym fine) goal (code 0x47 is) in
            let p = passes (ltb 3 (byte after 0) refuses 4) (leb 64 b.goals refuses 5 ∷ []) (omega arith) t in
            leb-false 64 b.goals (passes (leb 64 b.goals refuses 5) [] (omega arith) p.1).0

        goal_flags : o.flags ≡ byte after 0
        goal_flags = ops.flags_are ∙ ap (λ (y : ℕ). byte bs (at + marked (command y))) is ∙ sym (byte_after bs at 0 (at + 1) (omega arith))

        goal_known : o.flags ≤ 3
        goal_known =
            let t = tests_passed b literals named s.held bs at (sym fine) goal (code 0x47 is) in
            let p = passes (ltb 3 (byte after 0) refuses 4) (leb 64 b.goals refuses 5 ∷ []) (omega arith) t in
            omega (arith, ltb-false 3 (byte after 0) p.0, goal_flags)

        goal_seen : view (with_goal b o.flags) ≡ done goal after (view b)
        goal_seen =
            goal_view b o.flags literals named s.held goal_room goal_known ∙ ap (λ (f : ℕ). view b ++ (bare_goal f ∷ [])) goal_flags

        pub goal_again : SoFar bs (with_goal b o.flags) literals named o.next
        goal_again = record {
          held = goal_held b o.flags literals named s.held goal_room goal_known;
          rest = turn_on b literals named s.held bs at (sym fine) goal (code 0x47 is) refl (with_goal b o.flags) goal_seen o.next
              (ops.next_is ∙ ap (λ (y : ℕ). at + marked (command y) + 1) is) ∙ s.rest;
        }

      -- a clause command
      module _ (is : x ≡ 0x43) where
        pub clause_room : (0 < b.goals) × (b.clauses < 256)
        clause_room =
            let t = tests_passed b literals named s.held bs at (sym fine) clause (code 0x43 is) in
            let p =
            passes (eqb b.goals 0 refuses 3) (ltb 3 (byte after 2) refuses 4 ∷ leb 256 b.clauses refuses 5 ∷ []) (omega arith) t in
            let q = passes (ltb 3 (byte after 2) refuses 4) (leb 256 b.clauses refuses 5 ∷ []) (omega arith) p.1 in (
              omega (arith, eqb-false b.goals 0 p.0),
              leb-false 256 b.clauses (passes (leb 256 b.clauses refuses 5) [] (omega arith) q.1).0,
            )

        clause_flags : o.flags ≡ byte after 2
        clause_flags =
            ops.flags_are ∙ ap (λ (y : ℕ). byte bs (at + marked (command y))) is ∙ sym (byte_after bs at 2 (at + 3) (omega arith))

        clause_known : o.flags ≤ 3
        clause_known =
            let t = tests_passed b literals named s.held bs at (sym fine) clause (code 0x43 is) in
            let p =
            passes (eqb b.goals 0 refuses 3) (ltb 3 (byte after 2) refuses 4 ∷ leb 256 b.clauses refuses 5 ∷ []) (omega arith) t in
            let q = passes (ltb 3 (byte after 2) refuses 4) (leb 256 b.clauses refuses 5 ∷ []) (omega arith) p.1 in
            omega (arith, ltb-false 3 (byte after 2) q.0, clause_flags)

        module _ (g : ℕ) (last : b.goals ≡ suc g) where
          pub own_clauses : get_or b.goal_len g 0 < 256
          own_clauses =
              omega (
                arith,
                clauses_end b g o.number o.flags literals named s.held last clause_room.1 ops.number_fits
                    clause_known,
                clause_room.1,
              )

          clause_seen : view (with_clause b g o.number o.flags) ≡ done clause after (view b)
          clause_seen =
              let v : o.number ≡ u16 after 0 = ops.number_is ∙ sym (u16_after bs at 0 (at + 1) (omega arith)) in
              clause_view b g o.number o.flags literals named s.held last clause_room.1 ops.number_fits clause_known
              ∙ ap (λ (n : ℕ). add_clause (bare_clause n o.flags) (view b)) v
              ∙ ap (λ (n : ℕ). add_clause (bare_clause (u16 after 0) n) (view b)) clause_flags

          pub clause_again : SoFar bs (with_clause b g o.number o.flags) 0 named o.next
          clause_again = record {
            held = clause_held b g o.number o.flags literals named s.held last clause_room.1 ops.number_fits clause_known;
            rest =
                turn_on b literals named s.held bs at (sym fine) clause (code 0x43 is) refl (with_clause b g o.number o.flags)
                clause_seen o.next
                (ops.next_is ∙ ap (λ (y : ℕ). at + marked (command y) + 1) is) ∙ s.rest;
          }

      -- a literal command: any other
      module _ (no_goal : x ≡ 0x47 → ⊥) (no_clause : x ≡ 0x43 → ⊥) (no_end : x ≡ 0x45 → ⊥) where
        known : command x ≡ unknown → ⊥
        known e =
            let t : ◌≡◌ {A = ℕ} 2 0 = tests_passed b literals named s.held bs at (sym fine) unknown (ap command (sym ex) ∙ e) in
            omega arith

        which : OfLiteral x
        which = of_literal x no_goal no_clause no_end known

        room_by : (flags : ℕ) (crossing : Bool) → fault (literal_tests flags crossing b.clauses literals) ≡ 0
            → Room b.clauses literals crossing
        room_by flags crossing t =
            let p =
            passes (eqb b.clauses 0 refuses 3) (ltb 1 flags refuses 4 ∷ crossing refuses 32 ∷ leb 8 literals refuses 5 ∷ [])
            (omega arith) t in
            let q = passes (ltb 1 flags refuses 4) (crossing refuses 32 ∷ leb 8 literals refuses 5 ∷ []) (omega arith) p.1 in
            let r = passes (crossing refuses 32) (leb 8 literals refuses 5 ∷ []) (omega arith) q.1 in
            record {
              some_clause = omega (arith, eqb-false b.clauses 0 p.0);
              few = leb-false 8 literals (passes (leb 8 literals refuses 5) [] (omega arith) r.1).0;
              straight = r.0;
            }

        positive_room : x ≡ 0x50 → Room b.clauses literals false
        positive_room e = room_by (byte after 4) false (tests_passed b literals named s.held bs at (sym fine) positive (code 0x50 e))

        ranged_room : x ≡ 0x52 → Room b.clauses literals (ltb (u16 after 4) (u16 after 2))
        ranged_room e =
            room_by (byte after 6) (ltb (u16 after 4) (u16 after 2))
            (tests_passed b literals named s.held bs at (sym fine) ranged (code 0x52 e))

        negative_room : x ≡ 0x4E → Room b.clauses literals false
        negative_room e = room_by (byte after 2) false (tests_passed b literals named s.held bs at (sym fine) negative (code 0x4E e))

        room_of : OfLiteral x → (0 < b.clauses) × (literals < 8)
        room_of (of_positive e) = let r = positive_room e in (r.some_clause, r.few)
        room_of (of_ranged e) = let r = ranged_room e in (r.some_clause, r.few)
        room_of (of_negative e) = let r = negative_room e in (r.some_clause, r.few)

        pub literal_room : (0 < b.clauses) × (literals < 8)
        literal_room = room_of which

        -- the literal that is kept, by its command

        abbrev low_at : ℕ
        low_at = want_at bs at x

        abbrev top_at : ℕ
        top_at = high_at bs at x

        kind_at : (c : ℕ) → x ≡ c → o.kind ≡ kind_by (eqb c 0x4E) (eqb c 0x52) (byte bs (at + marked (command c)))
        kind_at c e = ops.kind_is ∙ ap (λ (y : ℕ). kind_by (eqb y 0x4E) (eqb y 0x52) (byte bs (at + marked (command y)))) e

        number_after : o.number ≡ u16 after 0
        number_after = ops.number_is ∙ sym (u16_after bs at 0 (at + 1) (omega arith))

        kept_by : (k : ℕ) → o.kind ≡ k → kept o.kind o.number o.want ≡ numbered k (u16 after 0) low_at top_at
        kept_by k e =
            ap (kept o.kind o.number) ops.want_is
            ∙ kept_ends o.kind o.number low_at top_at ops.low_fits
            ∙ ap₂ (λ (i j : ℕ). numbered i j low_at top_at) e number_after

        kept_positive : x ≡ 0x50
            → kept o.kind o.number o.want ≡ Positive (u16 after 0) (want_of (u16 after 2)) (bit0 (byte after 4))
        kept_positive e =
            let f = byte bs (at + 5) in
            let w : low_at ≡ u16 after 2 = ap (want_at bs at) e ∙ sym (u16_after bs at 2 (at + 3) (omega arith)) in
            kept_by (f % 2) (kind_at 0x50 e)
            ∙ positive_literal f (u16 after 0) low_at top_at
            ∙ ap₂ (λ (i j : ℕ). Positive (u16 after 0) (want_of i) (bit0 j)) w (sym (byte_after bs at 4 (at + 5) (omega arith)))

        kept_ranged : x ≡ 0x52
            → kept o.kind o.number o.want ≡ Positive (u16 after 0) (between (u16 after 2) (u16 after 4)) (bit0 (byte after 6))
        kept_ranged e =
            let f = byte bs (at + 7) in
            let w : low_at ≡ u16 after 2 = ap (want_at bs at) e ∙ sym (u16_after bs at 2 (at + 3) (omega arith)) in
            let h : top_at ≡ u16 after 4 = ap (high_at bs at) e ∙ sym (u16_after bs at 4 (at + 5) (omega arith)) in
            kept_by (f % 2 + 4) (kind_at 0x52 e)
            ∙ ranged_literal f (u16 after 0) low_at top_at
            ∙ ap₂ (λ (i j : ℕ). Positive (u16 after 0) (between i j) (bit0 f)) w h
            ∙ ap (λ (n : ℕ). Positive (u16 after 0) (between (u16 after 2) (u16 after 4)) (bit0 n))
            (sym (byte_after bs at 6 (at + 7) (omega arith)))

        kept_negative : x ≡ 0x4E → kept o.kind o.number o.want ≡ Negative (u16 after 0) (bit0 (byte after 2))
        kept_negative e =
            let f = byte bs (at + 3) in
            kept_by (f % 2 + 2) (kind_at 0x4E e)
            ∙ negative_literal f (u16 after 0) low_at top_at
            ∙ ap (λ (n : ℕ). Negative (u16 after 0) (bit0 n)) (sym (byte_after bs at 2 (at + 3) (omega arith)))

        straight_of : OfLiteral x → crossed (kept o.kind o.number o.want) ≡ false
        straight_of (of_positive e) = ap crossed (kept_positive e) ∙ want_straight (u16 after 2)
        straight_of (of_ranged e) = ap crossed (kept_ranged e) ∙ (ranged_room e).straight
        straight_of (of_negative e) = ap crossed (kept_negative e)

        module _ (c : ℕ) (last : b.clauses ≡ suc c) where
          kind_known : o.kind ≤ 5
          kind_known = omega (arith, ops.kind_is, kind_small (eqb x 0x4E) (eqb x 0x52) (byte bs (at + marked (command x))))

          want_fits : o.want < 4294967296
          want_fits = omega (arith, ops.want_is, ops.low_fits, ops.high_fits)

          abbrev grown : Book
          grown = with_literal b c literals o.kind o.number o.want

          seen : (l : said.Literal) → kept o.kind o.number o.want ≡ l → view grown ≡ add_literal l (view b)
          seen l e =
              literal_view b c literals o.kind o.number o.want named s.held last literal_room.1 kind_known want_fits
              (straight_of which)
              ∙ ap (λ (k : said.Literal). add_literal k (view b)) e

          goes_on : OfLiteral x → loose_from (drop o.next bs) 0 (view grown) ≡ loose_from (drop at bs) 0 (view b)
          goes_on (of_positive e) =
              turn_on b literals named s.held bs at (sym fine) positive (code 0x50 e) refl grown (seen _ (kept_positive e)) o.next
              (ops.next_is ∙ ap (λ (y : ℕ). at + marked (command y) + 1) e)
          goes_on (of_ranged e) =
              turn_on b literals named s.held bs at (sym fine) ranged (code 0x52 e) refl grown (seen _ (kept_ranged e)) o.next
              (ops.next_is ∙ ap (λ (y : ℕ). at + marked (command y) + 1) e)
          goes_on (of_negative e) =
              turn_on b literals named s.held bs at (sym fine) negative (code 0x4E e) refl grown (seen _ (kept_negative e)) o.next
              (ops.next_is ∙ ap (λ (y : ℕ). at + marked (command y) + 1) e)

          pub literal_again : SoFar bs grown (literals + 1) (max named (o.number + 1)) o.next
          literal_again = record {
            held =
                literal_held b c literals o.kind o.number o.want named s.held last literal_room.1 kind_known want_fits
                (straight_of which);
            rest = goes_on which ∙ s.rest;
          }

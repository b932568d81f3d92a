-- The turn of the loop of making.rt, and the ways out of `initial_strand` and `create_refinement_strand`.
use Prim.Native.Nat.{ℕ, ◌+◌, ◌<◌, min}
use native.Mathlib.Omega.{arith}
use mathlib.Core.Bool.{false}
use mathlib.Core.List.{List, [], ◌∷◌, map, map-append}
use mathlib.Core.Path.{◌≡◌, sym, ap, ap₂, ◌∙◌}
use lib.ListN.{length, take, set, get_or, replicate, length-map}
use lib.Seq.{sets, length-take-le}
use borrow.Author.Tests.{eq-eqb, ne_eqb}
use Rattle.std.specs.Prelude.{Some, None}
use Rattle.definitions.specs.Book.{bit0, bit1}
use Rattle.laws.proofs.Takes.{take_min, take_next, sets_one_more}
use Rattle.book.specs.declared.Literal.{Literal}
use Rattle.strands.specs.declared.Answer.{Answer}
use Rattle.strands.specs.declared.Strand.{Strand}
use Rattle.strands.specs.Fields.{no_literal}
use Rattle.strands.specs.Making.{new_strand, strand_of, wants_any, positives, refine_by, refine}

pub positives_next : (goals : List ℕ) (i : ℕ) (made : List Literal) → i < length goals → made ≡ positives (take i goals)
    → set made i (wants_any (get_or goals i 0)) ≡ positives (take (i + 1) goals)
positives_next goals i made i_in e =
    let l : Literal = wants_any (get_or goals i 0) in
    let first : List Literal = map wants_any (take i goals) in
    let long : i ≡ 0 + length first = omega (arith, length-map (take i goals) wants_any, length-take-le i goals (omega arith)) in
    ap (λ (ls : List Literal). set ls i l) e
    ∙ sets_one_more first (replicate 8 no_literal) 0 i l long
    ∙ ap (sets (replicate 8 no_literal) 0)
    (sym (ap (map wants_any) (take_next i goals 0 i_in) ∙ map-append wants_any (take i goals) (get_or goals i 0 ∷ [])))

pub refine_none : (a : Answer) → a.delayed_count ≡ 0 → refine a ≡ None
refine_none a p = ap (λ b. refine_by b a) (eq-eqb a.delayed_count 0 p)

pub refine_some : (a : Answer) → (a.delayed_count ≡ 0 → ⊥) → refine a ≡ refine_by false a
refine_some a p = ap (λ b. refine_by b a) (ne_eqb a.delayed_count 0 p)

-- The strand that is returned, made with a count n that is kept within the array.

pub says_initial : (variant flags : ℕ) (literals : List Literal) (count n : ℕ) (r : Strand) → n ≡ min count 8
    → r ≡ new_strand variant (bit1 flags) (bit0 flags) literals n → r ≡ strand_of variant flags literals count
says_initial variant flags literals count n r n_is e = e ∙ ap (λ (k : ℕ). new_strand variant (bit1 flags) (bit0 flags) literals k) n_is

pub says_refined : (a : Answer) (n : ℕ) (literals : List Literal) (r : Strand) → length a.delayed ≡ 8 → n ≡ min a.delayed_count 8
    → (a.delayed_count ≡ 0 → ⊥) → literals ≡ positives (take n a.delayed)
    → r ≡ new_strand a.variant false a.ambiguous literals n
    → Some r ≡ refine a
says_refined a n literals r long n_is some-delayed made e =
    ap (λ (s : Strand). Some s)
    (e
    ∙ ap₂ (λ (ls : List Literal) (k : ℕ). new_strand a.variant false a.ambiguous ls k)
    (made ∙ ap positives (take_min 8 a.delayed_count n a.delayed long n_is)) n_is)
    ∙ sym (refine_some a some-delayed)

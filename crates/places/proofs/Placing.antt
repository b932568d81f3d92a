-- What the proof of a place's words cites: each kind of place. Assumes nothing.
use Prim.Native.Nat.{ℕ}
use mathlib.Core.Path.{◌≡◌, sym, ap, ◌∙◌}
use mathlib.Core.Option.{some}
use mathlib.Core.List.{◌++◌}
use Rattle.definitions.specs.Text.{ascii, decimal}
use Rattle.paper_checks.specs.declared.Fault.{Fault}
use Rattle.paper_checks.specs.declared.NotPlain.{NotPlain}
use Rattle.paper_checks.specs.declared.NotPlain.TheVariants.{Goal, Clause, Literal}
use Rattle.paper_checks.specs.Places.{fault_seen, seen_place}
use Rattle.pen.specs.Pen.{Pen, put_all}
use Rattle.pen.proofs.Putting.{put_two}
use Rattle.places.specs.Words.{fault_words, literal_words, clause_words, place_line}

module _ (o : NotPlain) (g : ℕ) (fault : Fault) (p q : Pen) (e : q ≡ put_all (ascii "goal " ++ decimal g) p) where
  pub goal_said : (r : Pen) → o ≡ Goal g fault → r ≡ put_all (fault_words (some (fault_seen fault))) q
      → r ≡ put_all (place_line (some (seen_place o))) p
  goal_said r is x =
      put_two (ascii "goal " ++ decimal g) (fault_words (some (fault_seen fault))) p q r e x
      ∙ ap (λ (z : NotPlain). put_all (place_line (some (seen_place z))) p) (sym is)

  module _ (k : ℕ) (s : Pen) (d : s ≡ put_all (ascii ", clause " ++ decimal k) q) where
    pub clause_said : (r : Pen) → o ≡ Clause g k fault → r ≡ put_all (fault_words (some (fault_seen fault))) s
        → r ≡ put_all (place_line (some (seen_place o))) p
    clause_said r is x =
        put_two (ascii "goal " ++ decimal g) (clause_words k (fault_words (some (fault_seen fault)))) p q r e
        (put_two (ascii ", clause " ++ decimal k) (fault_words (some (fault_seen fault))) q s r d x)
        ∙ ap (λ (z : NotPlain). put_all (place_line (some (seen_place z))) p) (sym is)

    pub literal_said : (j : ℕ) (t r : Pen) → o ≡ Literal g k j fault → t ≡ put_all (ascii ", literal " ++ decimal j) s
        → r ≡ put_all (fault_words (some (fault_seen fault))) t → r ≡ put_all (place_line (some (seen_place o))) p
    literal_said j t r is y x =
        put_two (ascii "goal " ++ decimal g) (clause_words k (literal_words j (fault_seen fault))) p q r e
        (put_two (ascii ", clause " ++ decimal k) (literal_words j (fault_seen fault)) q s r d
        (put_two (ascii ", literal " ++ decimal j) (fault_words (some (fault_seen fault))) s t r y x))
        ∙ ap (λ (z : NotPlain). put_all (place_line (some (seen_place z))) p) (sym is)

-- What the proofs of `opened`, `next_index` and `told` cite: a lemma for each way out.
use Prim.Native.Nat.{ℕ, zero, suc}
use mathlib.Core.Bool.{Bool, true}
use mathlib.Core.List.{List}
use mathlib.Core.Path.{◌≡◌, refl, sym, ap, subst, ◌∙◌}
use Rattle.papers.specs.Listing.{Next, next_index, next_goal, the_end}
use Rattle.pen.specs.Pen.{Pen, put_all}
use Rattle.pen.proofs.Putting.{put_nothing}
use Rattle.search.specs.RootAnswer.{one_more}
use Rattle.forest.specs.declared.open.Opening.{Opening}
use Rattle.forest.specs.declared.open.Opening.TheVariants as openings
use Rattle.listing.specs.declared.goals.Place.{Place}
use Rattle.listing.specs.Lines.{reply_line, settled_word, next_line}
use Rattle.listing.specs.Goals.{ended_place, opened_place, opened_bytes, OpenedTo, next_of, skips, next_place, PeekedTo}

module _ (opening : Opening) (p : Place) (q : Pen) where
  opened_by : (z : Opening) (after : Pen) → opening ≡ z → after ≡ put_all (opened_bytes z p.goal) q
      → OpenedTo opening p q (opened_place z p) after
  opened_by z after e put = record {
    place = ap (λ (y : Opening). opened_place y p) (sym e);
    bytes = put ∙ ap (λ (y : Opening). put_all (opened_bytes y p.goal) q) (sym e);
  }

  pub opened_past : (n : ℕ) → opening ≡ openings.Refused n → OpenedTo opening p q (ended_place p.lines p) q
  opened_past n e = opened_by (openings.Refused n) q e (sym (put_nothing q))

  pub opened_table : (t : ℕ) → opening ≡ openings.Table t → OpenedTo opening p q (opened_place (openings.Table t) p) q
  opened_table t e = opened_by (openings.Table t) q e (sym (put_nothing q))

  pub opened_stops : (n lines : ℕ) (after : Pen) → opening ≡ openings.Stopped n → lines ≡ next_line p.lines
      → after ≡ put_all (reply_line p.goal 0 2 n) q → OpenedTo opening p q (ended_place lines p) after
  opened_stops n lines after e l put = rw l (opened_by (openings.Stopped n) after e put)

-- `skipped` is what `skips` gave, and `said` the number of the word that is written
module _ (word value index : ℕ) (p : Place) (q : Pen) (skipped : Bool) (flag : skipped ≡ skips p index) (said : ℕ)
    (settles : said ≡ settled_word word skipped) (after : Pen)
    (put : after ≡ put_all (reply_line p.goal index said value) q) where
  written : after ≡ put_all (reply_line p.goal index (settled_word word (skips p index)) value) q
  written = put ∙ ap (λ (w : ℕ). put_all (reply_line p.goal index w value) q) (settles ∙ ap (settled_word word) flag)

  told_by : (n : Next) → next_of word ≡ n → PeekedTo word value index p q (next_place n index p) after
  told_by next_index e = record { place = ap (λ (y : Next). next_place y index p) (sym e); bytes = written }
  told_by next_goal e = record { place = ap (λ (y : Next). next_place y index p) (sym e); bytes = written }
  told_by the_end e = record { place = ap (λ (y : Next). next_place y index p) (sym e); bytes = written }

  module _ (lines : ℕ) (one_on : lines ≡ next_line p.lines) where
    pub told_stop : word ≡ 2 → PeekedTo word value index p q (ended_place lines p) after
    told_stop e = rw one_on (told_by the_end (ap next_of e))

    pub told_none : (more : ℕ) → (word ≡ 2 → ⊥) → (word ≡ 3 → ⊥) → (word ≡ 4 → ⊥) → more ≡ one_more p.goal
        → PeekedTo word value index p q
        (record {
          lines = lines;
          skipped = p.skipped;
          over = p.over;
          opens = true;
          goal = more;
          table = p.table;
          index = p.index;
        }) after
    told_none more a b d m = rw (one_on, m) (told_by next_goal (by word a b d))
      where
        by : (w : ℕ) → (w ≡ 2 → ⊥) → (w ≡ 3 → ⊥) → (w ≡ 4 → ⊥) → next_of w ≡ next_goal
        by zero a b d = refl
        by (suc zero) a b d = refl
        by (suc (suc zero)) a b d = absurd (a refl)
        by (suc (suc (suc zero))) a b d = absurd (b refl)
        by (suc (suc (suc (suc zero)))) a b d = absurd (d refl)
        by (suc (suc (suc (suc (suc w))))) a b d = refl

pub next_index_is : (lines index more : ℕ) (skipped : Bool) (p : Place) → lines ≡ next_line p.lines → skipped ≡ skips p index
    → more ≡ one_more index → record {
      lines = lines;
      skipped = skipped;
      over = p.over;
      opens = p.opens;
      goal = p.goal;
      table = p.table;
      index = more;
    } ≡ next_place next_index index p
next_index_is lines index more skipped p l s e = rw (l, s, e)

module _ (word value index : ℕ) (p : Place) (q : Pen) (skipped : Bool) (flag : skipped ≡ skips p index) (said : ℕ)
    (settles : said ≡ settled_word word skipped) (after : Pen)
    (put : after ≡ put_all (reply_line p.goal index said value) q) (r : Place) (on : r ≡ next_place next_index index p) where
  told_on : next_of word ≡ next_index → PeekedTo word value index p q r after
  told_on e =
      subst (λ (z : Place). PeekedTo word value index p q z after) (sym on)
      (told_by word value index p q skipped flag said settles after put next_index e)

  pub told_yes : word ≡ 3 → PeekedTo word value index p q r after
  told_yes e = told_on (ap next_of e)

  pub told_maybe : word ≡ 4 → PeekedTo word value index p q r after
  told_maybe e = told_on (ap next_of e)

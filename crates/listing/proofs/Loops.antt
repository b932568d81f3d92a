-- The loop of the listing: what is left to be put down stays the same, call by call, and less is left to do.
use Prim.Native.Nat.{ℕ, suc, ◌+◌, ◌-◌, ◌*◌, ◌≤◌, ◌<◌}
use native.Mathlib.Omega.{arith}
use mathlib.Core.Bool.{Bool, true, false, ◌||◌, true≢false, false≢true}
use mathlib.Core.List.{List, [], ◌∷◌}
use mathlib.Core.Path.{◌≡◌, refl, sym, ap, subst, ◌∙◌}
use lib.Dec.{eqb, leb}
use lib.ListN.{length, get_or}
use borrow.Author.Tests.{lt-ltb}
use Rattle.definitions.specs.{MAX}
use Rattle.definitions.specs.Book.{Book}
use Rattle.definitions.specs.Forest as said
use Rattle.papers.specs.Listing.{Line, line, Next, next_index, next_goal, the_end, next}
use Rattle.papers.specs.Listing.{list_from, list_goals, page_line, blank_lines, lines_left, pages, refusal_bytes, listing, listing_clock}
use Rattle.definitions.specs.Refusal.{Refusable, refused, accepted, ◌refuses◌, unless}
use Rattle.definitions.specs.Tables as tables
use Rattle.definitions.specs.Turn.{stopped}
use Rattle.definitions.proofs.Refusal.{same_accepted, not_accepted}
use Rattle.pen.specs.Pen.{Pen, put_all}
use Rattle.pen.specs.Refusals.{refusal_line}
use Rattle.pen.proofs.Putting.{put_nothing, put_all_append}
use Rattle.search.specs.RootAnswer.{one_more_by, one_more}
use Rattle.forest.specs.declared.Forest.{Forest}
use Rattle.forest.specs.declared.make.Made.{Made}
use Rattle.forest.specs.declared.make.Making.{Making}
use Rattle.forest.specs.declared.make.Making.TheVariants as makings
use Rattle.forest.specs.declared.open.Opened.{Opened}
use Rattle.forest.specs.declared.open.Opening.{Opening}
use Rattle.forest.specs.declared.open.Opening.TheVariants as openings
use Rattle.forest.specs.Make.{MadeSays, MakeAtDeskSays, made_by}
use Rattle.forest.specs.Open.{OpenSays}
use Rattle.forest.specs.ServeCalls.{ServeCallsSays}
use Rattle.forest.specs.View.{view, Sound}
use Rattle.listing.specs.declared.goals.Place.{Place}
use Rattle.listing.specs.Lines.{reply_line, settled_word, next_line, pages_behind}
use Rattle.listing.specs.Goals.{Ready, Stands, goal_count, rest_lines, first_place, ended_place, opened_place, opened_bytes, OpenedTo}
use Rattle.listing.specs.Goals.{peek_put, skips, next_place, ToldTo}
use Rattle.listing.proofs.Listing.{goals_on, lines_behind, peeked_lines}
use Rattle.listing.proofs.Opens.{goal_past, goal_stops, goal_stands, goal_named, same_count, goal_lists}
use Rattle.listing.proofs.Told.{asks_room, tells_room, one_peek, PeekTells, peek_tells}
use Rattle.listing.proofs.Pages.{few_lines, behind_next, behind_last, behind_none}
use Rattle.listing.proofs.Replies.{stop_line}

-- WHERE THE LISTING IS: f, s at the start; g, q now

-- all that is to be put down
abbrev whole : Forest → Pen → Pen
whole f s = put_all (pages (rest_lines 0 f)) s

-- these lines are left, and so many are on the page
abbrev Left : Forest → Pen → (lines : ℕ) → List Line → Pen → Type 0
Left f s lines ls q = put_all (pages_behind lines ls) q ≡ whole f s

-- between two goals
pub record Amid (f : Forest) (s : Pen) (g : Forest) (goal lines : ℕ) (q : Pen) : Type 0 where
  pub ready : Ready g
  pub same_goals : goal_count g ≡ goal_count f
  pub same_bytes : Left f s lines (rest_lines goal g) q

-- between two lines of a goal: the rest of them, whatever the bound that is left, and behind it the goals after this one
pub record Midway (f : Forest) (s : Pen) (g : Forest) (goal table index : ℕ) (skipped : Bool) (lines : ℕ) (q : Pen) : Type 0 where
  pub stands : Stands g table index
  pub same_goals : goal_count g ≡ goal_count f
  pub named : goal < goal_count f
  pub more : ℕ
  pub enough : 257 ≤ index + more
  pub same_bytes : Left f s lines (goals_on (goal_count f - (goal + 1)) goal (list_from more goal table index skipped (view g))) q

-- at a place; the page is never full
pub record Along (f : Forest) (s : Pen) (g : Forest) (p : Place) (q : Pen) : Type 0 where
  pub few : p.lines < 60
  pub over : p.over ≡ true → Left f s p.lines [] q
  pub opens : p.over ≡ false → p.opens ≡ true → Amid f s g p.goal p.lines q
  pub peeks : p.over ≡ false → p.opens ≡ false → Midway f s g p.goal p.table p.index p.skipped p.lines q

pub along_start : (f : Forest) (s : Pen) (p : Place) → Ready f → p ≡ first_place → Along f s f p s
along_start f s p x e = rw e (record {
  few = omega arith;
  over = λ z. absurd (false≢true z);
  opens = λ y z. record {
    ready = x;
    same_goals = refl;
    same_bytes = ap (λ (w : List ℕ). put_all w s) (behind_none (rest_lines 0 f));
  };
  peeks = λ y z. absurd (true≢false z);
})

-- at the end the page is filled up
pub along_over : (f : Forest) (s : Pen) (g : Forest) (p : Place) (q r : Pen) → Along f s g p q → p.over ≡ true
    → r ≡ put_all (blank_lines (lines_left p.lines)) q → r ≡ whole f s
along_over f s g p q r a e fills = fills ∙ sym (ap (λ (w : List ℕ). put_all w q) (behind_last p.lines)) ∙ a.over e

-- WHAT IS LEFT TO DO: for each goal at most an open, and a peek at each of 257 indices
abbrev left_by : (over opens : Bool) → (goals index : ℕ) → ℕ
left_by true opens goals index = 0
left_by false true goals index = goals * 259 + 259
left_by false false goals index = goals * 259 + (258 - index)

abbrev pub left_at : Forest → Place → ℕ
left_at f p = left_by p.over p.opens (goal_count f - p.goal) p.index

left_opens : (over opens : Bool) (goals index : ℕ) → over ≡ false → opens ≡ true → left_by over opens goals index ≡ goals * 259 + 259
left_opens over opens goals index e f = rw (e, f)

left_peeks : (over opens : Bool) (goals index : ℕ) → over ≡ false → opens ≡ false
    → left_by over opens goals index ≡ goals * 259 + (258 - index)
left_peeks over opens goals index e f = rw (e, f)

-- one step: from the place p to the place r
pub record Moved (f : Forest) (s : Pen) (p : Place) (h : Forest) (r : Place) (q : Pen) : Type 0 where
  pub along : Along f s h r q
  pub less : left_at f r < left_at f p

moved_end : (f : Forest) (s : Pen) (p : Place) (h : Forest) (lines : ℕ) (q : Pen) → 0 < left_at f p → lines < 60
    → Left f s lines [] q → Moved f s p h (ended_place lines p) q
moved_end f s p h lines q o few e = record {
  along = record { few = few; over = λ z. e; opens = λ y z. absurd (true≢false y); peeks = λ y z. absurd (true≢false y) };
  less = o;
}

-- a line is put down, and what is behind it is left
line_put : (f : Forest) (s : Pen) (lines : ℕ) (here : Line) (rest : List Line) (bytes : List ℕ) (q after : Pen) → lines < 60
    → bytes ≡ page_line here → after ≡ put_all bytes q → Left f s lines (here ∷ rest) q → Left f s (next_line lines) rest after
line_put f s lines here rest bytes q after few e put left =
    ap (put_all (pages_behind (next_line lines) rest)) (put ∙ ap (λ (w : List ℕ). put_all w q) e)
    ∙ sym (put_all_append (page_line here) (pages_behind (next_line lines) rest) q)
    ∙ sym (ap (λ (w : List ℕ). put_all w q) (behind_next lines here rest few))
    ∙ left

one_up : (n : ℕ) → n + 1 ≡ suc n
one_up n = omega arith

-- small numbers have one more
one_more_is : (n : ℕ) → n < 256 → one_more n ≡ n + 1
one_more_is n h = ap (λ (b : Bool). one_more_by b n) (lt-ltb n MAX (omega arith)) ∙ sym (one_up n)

module _ (f : Forest) (s : Pen) (g : Forest) (p : Place) (q : Pen) (a : Along f s g p q) (live : p.over ≡ false) where
  abbrev goal : ℕ
  goal = p.goal

  abbrev goals_left : ℕ
  goals_left = goal_count f - goal

  -- AN OPEN
  module _ (opening : p.opens ≡ true) (o : Opened) (says : OpenSays g p.goal o) where
    amid : Amid f s g goal p.lines q
    amid = a.opens live opening

    left_now : left_at f p ≡ goals_left * 259 + 259
    left_now = left_opens p.over p.opens goals_left p.index live opening

    left_as : (ls : List Line) → rest_lines goal g ≡ ls → Left f s p.lines ls q
    left_as ls e = subst (λ (z : List Line). Left f s p.lines z q) e amid.same_bytes

    opened_by_case : (z : Opening) (after : Pen) → o.opening ≡ z → after ≡ put_all (opened_bytes z goal) q
        → Moved f s p o.forest (opened_place z p) after
    opened_by_case (openings.Refused n) after e put =
        let now = left_now in
        moved_end f s p o.forest p.lines after (omega arith) a.few
        (ap (put_all _) (put ∙ put_nothing q) ∙ left_as [] (goal_past g amid.ready goal o says n e))
    opened_by_case (openings.Stopped n) after e put =
        let now = left_now in
        moved_end f s p o.forest (next_line p.lines) after (omega arith) (few_lines p.lines)
        (line_put f s p.lines (line goal 0 (stopped n) false) [] _ q after a.few (stop_line goal n) put
        (left_as (line goal 0 (stopped n) false ∷ []) (goal_stops g amid.ready goal o says n e)))
    opened_by_case (openings.Table t) after e put =
        let x = amid.ready in
        let lists = goal_lists g x goal o says t e in
        let is-named = goal_named g x goal o says t e in
        let same = amid.same_goals in
        let now = left_now in
        let then = left_peeks p.over false goals_left 0 live refl in
        record {
          along = record {
            few = a.few;
            over = λ z. absurd (true≢false (sym z ∙ live));
            opens = λ y z. absurd (false≢true z);
            peeks = λ y z. record {
              stands = goal_stands g x goal o says t e;
              same_goals = same_count g x goal o says t e ∙ same;
              named = omega arith;
              more = 257;
              enough = omega arith;
              same_bytes =
                  ap (put_all _) (put ∙ put_nothing q)
                  ∙ ap (λ (n : ℕ). put_all (pages_behind p.lines
                  (goals_on (n - (goal + 1)) goal (list_from 257 goal t 0 false (view o.forest)))) q) (sym same)
                  ∙ left_as _ lists;
            };
          };
          less = omega arith;
        }

    opened_moves : (r : Place) (after : Pen) → OpenedTo o.opening p q r after → Moved f s p o.forest r after
    opened_moves r after to =
        subst (λ (z : Place). Moved f s p o.forest z after) (sym to.place)
        (opened_by_case o.opening after refl to.bytes)

    pub along_opened : (r : Place) (after : Pen) → OpenedTo o.opening p q r after → Along f s o.forest r after
    along_opened r after to = (opened_moves r after to).along

    pub less_opened : (r : Place) (after : Pen) → OpenedTo o.opening p q r after → left_at f r < left_at f p
    less_opened r after to = (opened_moves r after to).less

  -- A PEEK
  module _ (peeking : p.opens ≡ false) (h : Forest) (replies : List ℕ) where
    midway : Midway f s g goal p.table p.index p.skipped p.lines q
    midway = a.peeks live peeking

    abbrev fewer : ℕ
    fewer = midway.more - 1

    has_more : midway.more ≡ suc fewer
    has_more = let a = midway.enough in let b = midway.stands.few in omega arith

    abbrev others : ℕ
    others = goal_count f - (goal + 1)

    few_goals : goal < 64
    few_goals =
        let n = midway.same_goals in
        let k = midway.stands.ready.sound.forest.goals in
        let few = midway.stands.ready.sound.forest.few_goals in
        let lt = midway.named in
        omega arith

    left_then : left_at f p ≡ goals_left * 259 + (258 - p.index)
    left_then = left_peeks p.over p.opens goals_left p.index live peeking

    module _ (x : PeekTells g p.table p.index h replies) where
      abbrev here : Line
      here = line goal x.made.index x.made.ending (skips p x.made.index)

      says_here :
          reply_line goal (get_or replies 2 0) (settled_word (get_or replies 0 0) (skips p (get_or replies 2 0))) (get_or replies 1 0)
          ≡ page_line here
      says_here =
          x.says_line goal (skips p (get_or replies 2 0))
          ∙ ap (λ (k : ℕ). page_line (line goal x.made.index x.made.ending (skips p k))) x.ended_at

      behind_put : (rest : List Line) (after : Pen)
          → after ≡ put_all (reply_line goal (get_or replies 2 0) (settled_word (get_or replies 0 0) (skips p (get_or replies 2 0)))
          (get_or replies 1 0)) q
          → goals_on others goal (list_from (suc fewer) goal p.table p.index p.skipped (view g)) ≡ here ∷ rest
          → Left f s (next_line p.lines) rest after
      behind_put rest after put e =
          line_put f s p.lines here rest _ q after a.few says_here put
          (ap (λ (ls : List Line). put_all (pages_behind p.lines ls) q) (sym e)
          ∙ ap (λ (k : ℕ). put_all (pages_behind p.lines
          (goals_on others goal (list_from k goal p.table p.index p.skipped (view g)))) q) (sym has_more)
          ∙ midway.same_bytes)

      abbrev behind : Next → List Line
      behind n = lines_behind others fewer goal p.table p.index p.skipped x.made n

      peeked_by_case : (n : Next) (index : ℕ) (after : Pen) → next x.made.ending ≡ n → index ≡ x.made.index
          → Left f s (next_line p.lines) (behind n) after → Moved f s p h (next_place n index p) after
      peeked_by_case the_end index after e i left =
          let now = left_then in
          let few = midway.stands.few in
          moved_end f s p h (next_line p.lines) after (omega arith) (few_lines p.lines) left
      peeked_by_case next_goal index after e i left =
          let now = left_then in
          let few = midway.stands.few in
          let is-named = midway.named in
          let next = one_more_is goal (let o = few_goals in omega arith) in
          let then = left_opens p.over true (goal_count f - one_more goal) p.index live refl in
          let same = x.same_goals ∙ midway.same_goals in
          record {
            along = record {
              few = few_lines p.lines;
              over = λ z. absurd (true≢false (sym z ∙ live));
              opens = λ y z. record {
                ready = x.ready e;
                same_goals = same;
                same_bytes =
                    ap (λ (ls : List Line). put_all (pages_behind (next_line p.lines) ls) after)
                    (ap (λ (k : ℕ). list_goals (k - one_more goal) (one_more goal) (view h)) same
                    ∙ ap (λ (k : ℕ). list_goals (goal_count f - k) k (view h)) next
                    ∙ ap (λ (k : ℕ). list_goals others k (view h)) (one_up goal)
                    ∙ ap (λ (k : tables.Forest). list_goals others (suc goal) k) (sym x.left))
                    ∙ left;
              };
              peeks = λ y z. absurd (true≢false z);
            };
            less = omega arith;
          }
      peeked_by_case next_index index after e i left =
          let now = left_then in
          let few = midway.stands.few in
          let stands_next = x.stands e in
          let few-next = stands_next.few in
          let next : one_more index ≡ x.made.index + 1 =
          ap one_more i ∙ one_more_is x.made.index (omega arith) in
          let then = left_peeks p.over p.opens goals_left (one_more index) live peeking in
          let later = x.not_before in
          let enough = midway.enough in
          let more = has_more in
          record {
            along = record {
              few = few_lines p.lines;
              over = λ z. absurd (true≢false (sym z ∙ live));
              opens = λ y z. absurd (true≢false (sym z ∙ peeking));
              peeks = λ y z. record {
                stands = subst (λ (k : ℕ). Stands h p.table k) (sym next) stands_next;
                same_goals = x.same_goals ∙ midway.same_goals;
                named = midway.named;
                more = fewer;
                enough = omega arith;
                same_bytes =
                    ap (λ (ls : List Line). put_all (pages_behind (next_line p.lines) ls) after)
                    (ap (λ (k : ℕ). goals_on others goal (list_from fewer goal p.table k (skips p index) (view h)))
                    (next ∙ one_up x.made.index)
                    ∙ ap (λ (k : ℕ). goals_on others goal (list_from fewer goal p.table (suc x.made.index) (skips p k) (view h))) i
                    ∙ ap (λ (k : tables.Forest).
                    goals_on others goal (list_from fewer goal p.table (suc x.made.index) (skips p x.made.index) k))
                    (sym x.left))
                    ∙ left;
              };
            };
            less = omega arith;
          }

      peeked_moves : (r : Place) (after : Pen) → ToldTo replies p q r after → Moved f s p h r after
      peeked_moves r after to =
          subst (λ (z : Place). Moved f s p h z after)
          (sym (to.place ∙ ap (λ (n : Next). next_place n (get_or replies 2 0) p) x.follows))
          (peeked_by_case (next x.made.ending) (get_or replies 2 0) after refl x.ended_at
          (behind_put (behind (next x.made.ending)) after to.bytes
          (peeked_lines others fewer goal p.table p.index p.skipped x.made (view g) x.is_made)))

    module _ (l calls before : List ℕ) (room : 5 ≤ length l) (room_too : 3 ≤ length before)
        (asks : calls ≡ peek_put p.table p.index l) (says : Sound g → ServeCallsSays g 1 calls before h replies) where
      told_moves : (r : Place) (after : Pen) → ToldTo replies p q r after → Moved f s p h r after
      told_moves r after to =
          peeked_moves (peek_tells g p.table p.index h replies midway.stands
          (one_peek g p.table p.index before h replies room_too l calls room asks (says midway.stands.ready.sound)))
          r after to

      -- the arrays keep their lengths
      pub turn_told : (r : Place) (after : Pen) → ToldTo replies p q r after
          → (5 ≤ length calls) × (3 ≤ length replies) × Along f s h r after
      turn_told r after to = (
        asks_room p.table p.index l calls asks room,
        tells_room g 1 calls before h replies (says midway.stands.ready.sound) room_too,
        (told_moves r after to).along,
      )

      pub less_told : (r : Place) (after : Pen) → ToldTo replies p q r after → left_at f r < left_at f p
      less_told r after to = (told_moves r after to).less

-- A BYTE STRING

-- what is printed, by what making gave
abbrev listing_of : Refusable tables.Forest → List ℕ
listing_of m = elim (elim m as (λ _. Refusable (List Line)) [
  | refused n ↦ refused n
  | accepted f ↦ accepted (list_goals (length f.book) 0 f)
]) [
  | refused n ↦ refusal_bytes n
  | accepted ls ↦ pages ls
]

made_unmarked : (given : Refusable Book) (limit : ℕ) (f : tables.Forest) → said.make_of given limit ≡ accepted f → f.mark ≡ 0
made_unmarked given limit f e = on given (eqb limit 0 || leb MAX limit) e
  where
    on : (r : Refusable Book) (b : Bool) → elim r as (λ _. Refusable tables.Forest) [
      | refused n ↦ refused n
      | accepted book ↦ unless (b refuses 13 ∷ []) (record { book = book; clock_limit = limit; mark = 0; tables = []; clock = 0 })
    ] ≡ accepted f → f.mark ≡ 0
    on (refused n) b k = absurd (not_accepted k)
    on (accepted book) true k = absurd (not_accepted k)
    on (accepted book) false k = ap (λ (g : tables.Forest). g.mark) (sym (same_accepted k))

-- by either entry
pub made_ready : (given : Refusable Book) (r : Made) → MadeSays (said.make_of given listing_clock) r → r.making ≡ makings.Made
    → Ready r.forest
made_ready given r says e = record {
  sound = says.sound;
  unmarked = made_unmarked given listing_clock (view r.forest)
      (sym says.says ∙ ap (λ (m : Making). made_by m (view r.forest)) e);
}

module _ (bytes : List ℕ) (r : Made) (says : MakeAtDeskSays bytes listing_clock r) (p q : Pen) where
  pub listing_made : r.making ≡ makings.Made → q ≡ put_all (pages (rest_lines 0 r.forest)) p → q ≡ put_all (listing bytes) p
  listing_made e put =
      put ∙ ap (λ (n : ℕ). put_all (pages (list_goals n 0 (view r.forest))) p) (all_of (goal_count r.forest))
      ∙ ap (λ (m : Refusable tables.Forest). put_all (listing_of m) p)
      (sym (ap (λ (m : Making). made_by m (view r.forest)) e) ∙ says.says)
    where
      all_of : (n : ℕ) → n - 0 ≡ n
      all_of n = omega arith

  pub listing_refused : (n : ℕ) → r.making ≡ makings.Refused n → q ≡ put_all (refusal_line n) p → q ≡ put_all (listing bytes) p
  unfolding refusal_line
  listing_refused n e put =
      put ∙ ap (λ (m : Refusable tables.Forest). put_all (listing_of m) p)
      (sym (ap (λ (m : Making). made_by m (view r.forest)) e) ∙ says.says)

-- The bytes that were written are those of the text's book, and the desk says of them what it says of the text.
use Rattle.std.specs.Prelude.{Result, IfOk, Some}
use Rattle.std.specs.declared.option.Option as found
use Prim.Native.Nat.{ℕ, ◌+◌, ◌-◌, ◌≤◌}
use native.Mathlib.Omega.{arith}
use mathlib.Core.Path.{◌≡◌, refl, sym, ap, subst, ◌∙◌}
use mathlib.Core.Bool.{Bool, true, false, not}
use mathlib.Core.Option.{Option}
use mathlib.Core.List.{List, [], ◌∷◌, ◌++◌, map}
use lib.Dec.{ltb, eqb}
use lib.ListN.{length, take, length-map}
use borrow.Author.Tests.{le-ltb}
use Rattle.definitions.specs.Refusal.{Refusable, refused, accepted, ◌refuses◌, unless}
use Rattle.definitions.specs.Lists.{any_passes}
use Rattle.definitions.specs.Book as said
use Rattle.definitions.specs.Book.{write, end_command, goals_name, clause_count}
use Rattle.definitions.specs.Desk.{at_desk, desk}
use Rattle.papers.specs.Xsb.{Rule, State, start, is_long, goals_for, book_of, parsed_book, bytes_of, check_import}
use Rattle.definitions.proofs.Refusal.{all_pass}
use Rattle.definitions.proofs.Desk.{desk_took}
use Rattle.definitions.proofs.RoundTrip.{read_written}
use Rattle.papers.proofs.XsbBooks.{goals_for_length, rules_back}
use Rattle.laws.specs.All.{All}
use Rattle.papers.specs.XsbForm.{BareRule, Ordered}
use Rattle.papers.proofs.XsbCapped.{goals_names, goals_same, ordered_capped}
use Rattle.papers.proofs.XsbOrder.{RulesFit, parse_fits}
use Rattle.papers.proofs.Xsb.{rules_length}
use Rattle.book.specs.declared.refusal.Refusal.{Refusal}
use Rattle.xsb_import.specs.declared.Spot.{Spot}
use Rattle.xsb_import.specs.declared.Kept.{Kept}
use Rattle.xsb_import.specs.declared.Reader.{Reader}
use Rattle.xsb_import.specs.declared.Imported.{Imported}
use Rattle.xsb_import.specs.Keeping.{capped_rule, goal_bytes, flat, goals_after, Whole, Within, Writes}
use Rattle.xsb_import.specs.Reading.{begun_rules}
use Rattle.xsb_import.specs.Importing.{Reads, line_of, taken_by, Desks, Sized, Imports}
use Rattle.xsb_import.proofs.Holding.{length_goal_bytes, goals_after_capped}
use Rattle.xsb_import.proofs.Writing.{flat_written}
use Rattle.xsb_import.proofs.Capping.{goals_within}
use Rattle.xsb_import.proofs.Finishing.{parsed_of}

-- The tests at a book's end, which the numbers above all that can be named do not change.

-- a book comes out as it is
taken_own : (book : said.Book) (x : Refusable said.Book) → ((b : said.Book) → x ≡ accepted b → book ≡ b)
    → taken_by x (write book) ≡ bytes_of x
taken_own book (refused n) f = refl
taken_own book (accepted b) f = ap (λ (c : said.Book). accepted (write c)) (f b refl)

end_keeps : (book b : said.Book) → at_desk (end_command [] book) ≡ accepted b → book ≡ b
end_keeps book b e =
    (all_pass
    (ltb 0 0 refuses 7
    ∷ eqb (length book) 0 refuses 8
    ∷ not (goals_name (length book) book) refuses 6
    ∷ []) book b (desk_took (end_command [] book) b e).0).1

-- with a literal that names no goal
unnamed : (n : ℕ) (book : said.Book) → length book ≡ n → goals_name n book ≡ false
    → end_command [] book ≡ elim (eqb n 0) [ true ↦ refused 8 | false ↦ refused 6 ]
unnamed n book l e =
    ap (λ (k : ℕ). unless (false refuses 7 ∷ eqb k 0 refuses 8 ∷ not (goals_name k book) refuses 6 ∷ []) book) l
    ∙ ap (λ (b : Bool). unless (false refuses 7 ∷ eqb n 0 refuses 8 ∷ not b refuses 6 ∷ []) book) e
    ∙ on (eqb n 0)
  where
    on : (c : Bool) → unless (false refuses 7 ∷ c refuses 8 ∷ true refuses 6 ∷ []) book ≡ elim c [ true ↦ refused 8 | false ↦ refused 6 ]
    on true = refl
    on false = refl

same_desk : (n : ℕ) (rs : List Rule) → n ≤ 65535
    → taken_by (at_desk (end_command [] (goals_for 0 n (map capped_rule rs)))) (write (goals_for 0 n (map capped_rule rs)))
    ≡ bytes_of (at_desk (end_command [] (goals_for 0 n rs)))
same_desk n rs h = on (goals_name n (goals_for 0 n rs)) refl
  where
    on : (b : Bool) → goals_name n (goals_for 0 n rs) ≡ b
        → taken_by (at_desk (end_command [] (goals_for 0 n (map capped_rule rs)))) (write (goals_for 0 n (map capped_rule rs)))
        ≡ bytes_of (at_desk (end_command [] (goals_for 0 n rs)))
    on true e =
        ap (λ (b : said.Book). taken_by (at_desk (end_command [] b)) (write b)) (goals_same 65535 n 0 n rs h e)
        ∙ taken_own (goals_for 0 n rs) (at_desk (end_command [] (goals_for 0 n rs))) (end_keeps (goals_for 0 n rs))
    on false e =
        ap (λ (x : Refusable said.Book). taken_by (at_desk x) (write (goals_for 0 n (map capped_rule rs))))
        (unnamed n (goals_for 0 n (map capped_rule rs)) (goals_for_length 0 n (map capped_rule rs)) (goals_names 65535 n 0 n rs h ∙ e))
        ∙ either (eqb n 0)
        ∙ sym (ap (λ (x : Refusable said.Book). bytes_of (at_desk x)) (unnamed n (goals_for 0 n rs) (goals_for_length 0 n rs) e))
      where
        either : (c : Bool)
            → taken_by (at_desk (elim c [ true ↦ refused 8 | false ↦ refused 6 ])) (write (goals_for 0 n (map capped_rule rs)))
            ≡ bytes_of (at_desk (elim c [ true ↦ refused 8 | false ↦ refused 6 ]))
        either true = refl
        either false = refl

-- the desk's own tests, where no limit is passed
book_ends : (n : ℕ) (rs : List Rule) → n ≤ 64 → length rs ≤ 256 → any_passes is_long rs ≡ false
    → book_of n rs ≡ end_command [] (goals_for 0 n rs)
book_ends n rs few fewer short =
    let b = goals_for 0 n rs in
    ap (λ (p : Bool). unless (p refuses 5 ∷ ltb 256 (length rs) refuses 5 ∷ any_passes is_long rs refuses 5 ∷ eqb n 0 refuses 8
    ∷ not (goals_name n b) refuses 6 ∷ []) b) (le-ltb 64 n few)
    ∙ ap (λ (p : Bool). unless (p refuses 5 ∷ any_passes is_long rs refuses 5 ∷ eqb n 0 refuses 8
    ∷ not (goals_name n b) refuses 6 ∷ []) b) (le-ltb 256 (length rs) fewer)
    ∙ ap (λ (p : Bool). unless (p refuses 5 ∷ eqb n 0 refuses 8 ∷ not (goals_name n b) refuses 6 ∷ []) b) short
    ∙ ap (λ (k : ℕ). unless (eqb k 0 refuses 8 ∷ not (goals_name k b) refuses 6 ∷ []) b) (sym (goals_for_length 0 n rs))

-- The bytes.

-- as they are read
capped_read : (n : ℕ) (rs : List Rule) → n ≤ 64 → length rs ≤ 256 → any_passes is_long rs ≡ false → (s : State) → RulesFit s
    → s.tables ≡ n → s.rules ≡ rs
    → said.read (write (goals_for 0 n (map capped_rule rs))) ≡ end_command [] (goals_for 0 n (map capped_rule rs))
capped_read n rs few fewer short s f t e =
    let ordered : Ordered n 0 (map capped_rule rs)
    = ordered_capped 65535 (subst (λ (k : ℕ). Ordered k 0 rs) t (subst (Ordered s.tables 0) e f.in_order)) in
    let book = goals_for 0 n (map capped_rule rs) in
    let count : clause_count book ≡ length rs
    = sym (rules_length 0 book) ∙ ap length (rules_back n (map capped_rule rs) ordered) ∙ length-map rs capped_rule in
    let size = goals_for_length 0 n (map capped_rule rs) in
    read_written 65536 book (goals_within 0 n rs (subst (λ (qs : List Rule). All BareRule qs) e f.bare) short) (omega arith)
    (omega arith)

-- all that was written
written_whole : (n : ℕ) (rs : List Rule) (k : Kept) (a b c : List ℕ) (u v : ℕ) → length a ≡ 13441 → Whole rs k a → n ≤ 64
    → Ordered n 0 (map capped_rule rs) → Writes a k.used (goal_bytes (n - k.goals)) b u → Writes b u (0x45 ∷ []) c v
    → (take v c ≡ write (goals_for 0 n (map capped_rule rs))) × (v ≤ 13441) × (length c ≡ 13441)
written_whole n rs k a b c u v room w few o f g =
    let size = length_goal_bytes (n - k.goals) in
    let i = w.inside in
    let x = w.few_goals in
    let y = w.few_clauses in
    let z = w.few_literals in
    let fits : k.used + length (goal_bytes (n - k.goals)) ≤ length a = omega arith in
    let u-is = f.ends fits in
    let same = f.same in
    let fits-too : u + 1 ≤ length b = omega arith in
    let v-is = g.ends fits-too in
    let after : goals_after 0 (map capped_rule rs) ≡ k.goals = goals_after_capped 0 rs ∙ sym w.goals_are in (
      g.written fits-too
          ∙ ap (λ (t : List ℕ). t ++ (0x45 ∷ [])) (f.written fits
          ∙ ap (λ (t : List ℕ). t ++ goal_bytes (n - k.goals)) w.held
          ∙ ap (λ (j : ℕ). flat 0 (map capped_rule rs) ++ goal_bytes (n - j)) (sym after)
          ∙ flat_written n n 0 (map capped_rule rs) (omega arith) o),
      omega arith,
      g.same ∙ same ∙ room,
    )

pub finish_book : (text : List ℕ) (rd : Reader) (s : Spot) (k : Kept) (own b c : List ℕ) (u v : ℕ) (r : Result Imported Refusal)
    → line_of rd.spot ≡ Some s → rd.kept ≡ Some k → s.tables ≤ 64
    → (length own ≡ 13441) × (length rd.bytes ≡ 13441 → own ≡ rd.bytes)
    → Writes own k.used (goal_bytes (s.tables - k.goals)) b u → Writes b u (0x45 ∷ []) c v
    → IfOk r Sized × (v ≤ 13441 → Desks c v r) → Reads text rd → Imports text r
finish_book text rd s k own b c u v r at o few e f g d h =
    let p = parsed_of text rd s at h in
    let st = p.state in
    let fit = parse_fits text st p.ends in
    let n = st.tables in
    let rs = st.rules in
    let t : s.tables ≡ n = p.held.follows.tables_are in
    let same : own ≡ rd.bytes = e.1 p.held.keeps.room in
    let kept : Whole rs k own
    = subst (Whole rs k) (sym same) (subst (λ (qs : List Rule). Whole qs k rd.bytes) p.at_rest
    (subst (λ (x : found.Option Kept). Within n (begun_rules st) x rd.bytes) o p.held.keeps.within)) in
    let all = written_whole n rs k own b c u v e.0 kept (omega arith) (ordered_capped 65535 fit.in_order)
    (subst (λ (x : ℕ). Writes own k.used (goal_bytes (x - k.goals)) b u) t f) g in
    let desks = d.1 all.1 in
    let few_rules : length rs ≤ 256 = omega (arith, kept.clauses_are, kept.few_clauses) in
    let text_says : check_import text ≡ bytes_of (at_desk (end_command [] (goals_for 0 n rs)))
    = ap (λ (x : Option State). bytes_of (parsed_book x)) p.ends
    ∙ ap (λ (x : Refusable said.Book). bytes_of (at_desk x)) (book_ends n rs (omega arith) few_rules kept.short) in
    let bytes-say : taken_by (desk (take v c)) (take v c) ≡ check_import text
    = ap (λ (x : List ℕ). taken_by (desk x) x) all.0
    ∙ ap (λ (x : Refusable said.Book). taken_by (at_desk x) (write (goals_for 0 n (map capped_rule rs))))
    (capped_read n rs (omega arith) few_rules kept.short st fit refl refl)
    ∙ same_desk n rs (omega arith)
    ∙ sym text_says in
    record { means = desks ∙ bytes-say; sized = d.0 }

-- A text as a whole.

pub imported : (text : List ℕ) (a b : Reader) (r : Result Imported Refusal) → Reads [] a → ((t : List ℕ) → Reads t a → Reads (t ++ text) b)
    → IfOk r Sized × ((t : List ℕ) → Reads t b → Imports t r) → Imports text r
imported text a b r start feed finish = finish.1 text (feed [] start)

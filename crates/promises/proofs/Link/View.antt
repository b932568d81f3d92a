-- How a plain state of the definitions stands beside a state of the plain machine: a strand beside a strand, a table beside what the
-- machine holds at its goal, an entry of the stack beside an entry. `gs` lists the goals of the tables, in the order of their making.
use Prim.Native.Nat.{ℕ, ◌<◌}
use mathlib.Core.Path.{◌≡◌}
use mathlib.Core.Bool.{Bool, true, false}
use mathlib.Core.Option.{Option, none, some}
use mathlib.Core.List.{List, [], ◌∷◌, ◌++◌}
use lib.ListN.{length, get_elem?}
use Rattle.definitions.specs.{ExClause, Answer, AnswerMode, Complete, Ambiguous}
use Rattle.definitions.specs.Book.{any, Literal, Positive, Negative}
use Rattle.definitions.specs.Strand.{SelectedSubgoal, Strand}
use Rattle.definitions.specs.Table.{Table}
use Rattle.definitions.specs.Tables.{Tables, Forest}
use Rattle.definitions.specs.Stack.{StackEntry, Stack}
use Rattle.promises.proofs.Plain.Model.{Lit, pos, neg, Body, literal_goal}
use Rattle.promises.proofs.Plain.Machine as M

-- A body's chosen literal stands first, a strand's last.

abbrev pub literal : Lit → Literal
literal (pos h) = Positive h any false
literal (neg h) = Negative h false

abbrev pub literals : Body → List Literal
literals [] = []
literals (l ∷ b) = literals b ++ (literal l ∷ [])

-- every literal names one of the first n goals
pub data Names (n : ℕ) : Body → Type 0 where
  names_end : Names n []
  names : {l : Lit} {b : Body} → literal_goal l < n → Names n b → Names n (l ∷ b)

abbrev pub ex_clause_of : (answer_time : ℕ) → Body → ExClause
ex_clause_of a b = record {
  subst = record { variant = 0; outsized = false };
  ambiguous = false;
  subgoals = literals b;
  delayed_subgoals = [];
  answer_time = a;
  floundered_subgoals = [];
}

abbrev pub strand_of : (answer_time : ℕ) → Body → Option SelectedSubgoal → (time : ℕ) → Strand
strand_of a b sel t = record { ex_clause = ex_clause_of a b; selected_subgoal = sel; last_pursued_time = t }

-- the last literal is selected, b are the others
abbrev pub selection : (table : ℕ) → (b : Body) → SelectedSubgoal
selection i b = record { subgoal_index = length (literals b); subgoal_table = i; answer_index = 0 }

abbrev pub machine_strand : Body → Bool → ℕ → M.Strand
machine_strand b c t = record { lits = b; chosen = c; time = t }

-- a strand beside the machine's
pub data StrandIs (n : ℕ) (gs : List ℕ) : Strand → M.Strand → Type 0 where
  free : (a : ℕ) (b : Body) (t : ℕ) → Names n b → StrandIs n gs (strand_of a b none t) (machine_strand b false t)
  bound : (a : ℕ) (l : Lit) (b : Body) (t i : ℕ) → Names n (l ∷ b) → get_elem? gs i ≡ some (literal_goal l)
      → StrandIs n gs (strand_of a (l ∷ b) (some (selection i b)) t) (machine_strand (l ∷ b) true t)

pub data QueueIs (n : ℕ) (gs : List ℕ) : List Strand → List M.Strand → Type 0 where
  q_end : QueueIs n gs [] []
  q_more : {s : Strand} {ss : List Strand} {m : M.Strand} {ms : List M.Strand} → StrandIs n gs s m → QueueIs n gs ss ms
      → QueueIs n gs (s ∷ ss) (m ∷ ms)

abbrev pub answers_of : Bool → List Answer
answers_of true = record { variant = 0; delayed_subgoals = []; ambiguous = false } ∷ []
answers_of false = []

abbrev pub mode_of : Bool → AnswerMode
mode_of true = Complete
mode_of false = Ambiguous

abbrev pub table_of : (goal : ℕ) (answered first : Bool) → List Strand → Table
table_of g a m ss = record {
  table_goal = g;
  coinductive_goal = false;
  floundered = false;
  answers = answers_of a;
  strands = ss;
  answer_mode = mode_of m;
}

-- a table beside what the machine holds at its goal
pub data TableIs (n : ℕ) (gs : List ℕ) (g : ℕ) (a m : Bool) (q : List M.Strand) : Table → Type 0 where
  table_is : (ss : List Strand) → QueueIs n gs ss q → TableIs n gs g a m q (table_of g a m ss)

abbrev pub TableAt : (n : ℕ) (gs : List ℕ) → M.Forest → (g : ℕ) → Table → Type 0
TableAt n gs p g t = TableIs n gs g (p.answered g) (p.first g) (p.queue g) t

pub data TablesAre (n : ℕ) (gs : List ℕ) (p : M.Forest) : List ℕ → Tables → Type 0 where
  t_end : TablesAre n gs p [] []
  t_more : {g : ℕ} {hs : List ℕ} {t : Table} {ts : Tables} → TableAt n gs p g t → TablesAre n gs p hs ts
      → TablesAre n gs p (g ∷ hs) (t ∷ ts)

pub data ActiveIs (n : ℕ) (gs : List ℕ) : Option Strand → Option M.Strand → Type 0 where
  no_active : ActiveIs n gs none none
  an_active : {s : Strand} {m : M.Strand} → StrandIs n gs s m → ActiveIs n gs (some s) (some m)

abbrev pub entry_of : (table clock p n : ℕ) → Option Strand → StackEntry
entry_of i c p n a = record { table = i; clock = c; cyclic_minimums = record { positive = p; negative = n }; active_strand = a }

abbrev pub machine_entry : (goal clock p n : ℕ) → Option M.Strand → M.Entry
machine_entry g c p n a = record { goal = g; clock = c; positive_min = p; negative_min = n; active = a }

pub data StackIs (n : ℕ) (gs : List ℕ) : Stack → List M.Entry → Type 0 where
  s_end : StackIs n gs [] []
  s_more : {ds : Stack} {es : List M.Entry} {a : Option Strand} {b : Option M.Strand} (i g c p r : ℕ) → get_elem? gs i ≡ some g
      → ActiveIs n gs a b → StackIs n gs ds es → StackIs n gs (entry_of i c p r a ∷ ds) (machine_entry g c p r b ∷ es)

-- What unwinding does to the rings of the strands' places: the entries' active strands go to the ends of their tables' queues.
use Rattle.std.specs.Prelude.{ℕ, zero, suc, ◌-◌, ◌≡◌, Bool, true, false, List, get_or, ltb}
use Rattle.stores.specs.declared.places.Places.{Places}
use Rattle.stores.specs.declared.queue.Strands.{Strands}
use Rattle.stores.specs.declared.stack.Stack.{Stack}
use Rattle.stores.specs.Numbers.{within}
use Rattle.stores.specs.Places.{places, enqueued}
use Rattle.stores.specs.Queue.{with_places}

-- what a function leaves that moves places among rings, wherever the places that were never used begin
abbrev pub Rings : (Places → Places) → (next tail len next' tail' len' : List ℕ) → Type 0
Rings change next tail len next' tail' len' = (top : ℕ) → places next' tail' len' top ≡ change (places next tail len top)

-- `enqueue_active`
abbrev pub enqueued_if : (any : Bool) → (t q : ℕ) → Places → Places
enqueued_if true t q p = enqueued t q p
enqueued_if false t q p = p

abbrev pub enqueued_back : (t q : ℕ) → Places → Places
enqueued_back t q p = enqueued_if (ltb q 256) t q p

-- `enqueue_below`: the active strands of the lowest n entries, the topmost first
abbrev pub all_back : (table active : List ℕ) → (n : ℕ) → Places → Places
all_back table active zero p = p
all_back table active (suc n) p = all_back table active n (enqueued_back (get_or table n 0) (get_or active n 0) p)

-- THE MODELS on the records
abbrev pub unwound : Stack → Strands → Strands
unwound k s = with_places s (all_back k.table k.active (within (k.depth - 1)) s.places)

abbrev pub put_back : Stack → Strands → Strands
put_back k s = with_places s (all_back k.table k.active (within k.depth) s.places)

-- What `show` gives.
use Rattle.forest.specs.declared.Forest.{Forest}
use Rattle.forest.specs.declared.shown.Shown.{Shown}

-- THE CONTRACT, for every forest: the fields of these names, as they are.
abbrev pub shown : Forest → Shown
shown f =
    record {
      clock = f.clock;
      mark = f.mark;
      count = f.stores.tables.count;
      goal = f.stores.tables.goal;
      floundered = f.stores.tables.floundered;
      complete = f.stores.tables.complete;
      strands = f.stores.strands.strands;
      next = f.stores.strands.places.next;
      tail = f.stores.strands.places.tail;
      len = f.stores.strands.places.len;
      time = f.stores.strands.time;
      waits = f.stores.strands.waits;
      wants = f.stores.strands.wants;
      answers = f.stores.answers.answers;
      answer_next = f.stores.answers.places.next;
      answer_tail = f.stores.answers.places.tail;
      answer_len = f.stores.answers.places.len;
      clause_variant = f.book.clause_variant;
      clause_flags = f.book.clause_flags;
      clause_len = f.book.clause_len;
      literal_kind = f.book.literal_kind;
      literal_goal = f.book.literal_goal;
      literal_want = f.book.literal_want;
    }

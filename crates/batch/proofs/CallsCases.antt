-- The ways out of the functions of calls.rt, over variables: a reply is its model at the variant that was met.
use Prim.Native.Nat.{ℕ}
use mathlib.Core.Path.{◌≡◌, sym, ap, ap₂, ◌∙◌}
use Rattle.search.specs.declared.course.Course.{Course}
use Rattle.search.specs.declared.course.Ending.{Ending}
use Rattle.batch.specs.declared.calls.Reply.{Reply}
use Rattle.batch.specs.declared.calls.Said.{Said}
use Rattle.batch.specs.Calls.{reply, word_of, value_of, reply_of}

abbrev plain : (word value : ℕ) → Reply
plain word value = reply word value 0 0 0

abbrev pub ended_so : Ending → Reply
ended_so e = plain (word_of e) (value_of e)

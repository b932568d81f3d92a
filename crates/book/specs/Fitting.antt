-- A strand's substitution as the code has it, and what it means.
use Rattle.definitions.specs.Fitting as said
use Rattle.book.specs.declared.Subst.{Subst}

abbrev pub subst_of : Subst → said.Subst
subst_of s = record { variant = s.variant; outsized = s.outsized }

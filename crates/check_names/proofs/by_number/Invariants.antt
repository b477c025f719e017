-- The names that r has passed are noted, and what is left to tell decides the whole.
use Rattle.check_names.proofs.NewNames.{Left}
use Rattle.check_names.proofs.by_number.Given as goal

abbrev pub invariant-loop-r : goal.invariant-loop-r
invariant-loop-r l = Left l.words l.slots l.weights l.met l.r

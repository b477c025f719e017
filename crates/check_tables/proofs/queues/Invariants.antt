-- what was found so far, and what the resources from r on have, is the whole
use Rattle.check_tables.proofs.ResourceSums.{Left}
use Rattle.check_tables.proofs.queues.Given as goal

abbrev pub invariant-loop-r : goal.invariant-loop-r
invariant-loop-r l = Left l.words l.slots l.others l.denied l.met l.blocked l.noticed l.free l.r

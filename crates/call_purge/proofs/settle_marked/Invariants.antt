use Rattle.call_purge.proofs.MarkedResources.{Going}
use Rattle.call_purge.proofs.settle_marked.Given as goal

abbrev pub invariant-loop-r : goal.invariant-loop-r
invariant-loop-r l = Going l.marks l.r l.initial.words l.initial.slots l.words l.slots

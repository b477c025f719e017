use Rattle.call_purge.proofs.ClientLocks.{Going}
use Rattle.call_purge.proofs.purge_locks.Given as goal

abbrev pub invariant-loop-k : goal.invariant-loop-k
invariant-loop-k l = Going l.client l.k l.initial.words l.initial.slots l.initial.marks l.words l.slots l.marks l.counts

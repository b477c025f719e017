use Rattle.deadlock_prune.proofs.FreeLines.{Finding}
use lib.ListN.{length}
use Rattle.deadlock_graph.specs.Holders.{holders_since}
use Rattle.deadlock_prune.proofs.is_noted.Given as goal

abbrev pub invariant-loop-k : goal.invariant-loop-k
invariant-loop-k l = Finding l.words l.filter l.r l.k

abbrev pub decreases-loop-k : goal.decreases-loop-k
decreases-loop-k l = length (holders_since l.words l.r l.k)

use Rattle.deadlock_owners.proofs.ListedOwners.{Finding}
use Rattle.deadlock_graph.proofs.LinkLaws.{turns}
use Rattle.deadlock_owners.proofs.find_owner.Given as goal

abbrev pub invariant-loop-k : goal.invariant-loop-k
invariant-loop-k l = Finding l.words l.lists l.others l.j l.k

abbrev pub decreases-loop-k : goal.decreases-loop-k
decreases-loop-k l = turns l.words l.k

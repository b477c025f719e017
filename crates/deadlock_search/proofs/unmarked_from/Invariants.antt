use Rattle.deadlock_search.proofs.OwnerLists.{Popping}
use Rattle.deadlock_graph.proofs.LinkLaws.{turns}
use Rattle.deadlock_search.proofs.unmarked_from.Given as goal

abbrev pub invariant-loop-b : goal.invariant-loop-b
invariant-loop-b l = Popping l.words l.links l.marks l.first l.b

abbrev pub decreases-loop-b : goal.decreases-loop-b
decreases-loop-b l = turns l.words l.b

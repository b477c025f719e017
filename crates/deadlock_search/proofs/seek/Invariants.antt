use Rattle.deadlock_search.proofs.OwnerLists.{Seeking}
use Rattle.tables.specs.State.{lock}
use lib.ListN.{length}
use Rattle.deadlock_graph.specs.Promises.{seen}
use Rattle.deadlock_graph.specs.Holders.{holders_since}
use Rattle.deadlock_search.proofs.seek.Given as goal

abbrev pub invariant-loop-j : goal.invariant-loop-j
invariant-loop-j l = Seeking l.words l.links l.a l.at l.initial.heads l.heads l.marks l.j

abbrev pub decreases-loop-j : goal.decreases-loop-j
decreases-loop-j l = length (holders_since l.words (lock (seen l.words) l.a).resource l.j)

use Rattle.deadlock_prune.proofs.WantedOwners.{Wanting}
use lib.ListN.{length}
use Rattle.tables.specs.State.{lock}
use Rattle.deadlock_graph.specs.Promises.{seen}
use Rattle.deadlock_graph.specs.Holders.{holders_since}
use Rattle.deadlock_prune.proofs.want_owners.Given as goal

abbrev pub invariant-loop-j : goal.invariant-loop-j
invariant-loop-j l = Wanting l.words l.links l.initial.wanted l.wanted l.k l.j

abbrev pub decreases-loop-j : goal.decreases-loop-j
decreases-loop-j l = length (holders_since l.words (lock (seen l.words) l.k).resource l.j)

use Rattle.deadlock_prune.proofs.FrontPasses.{Hindering}
use lib.ListN.{length}
use Rattle.tables.specs.State.{lock}
use Rattle.deadlock_graph.specs.Promises.{seen}
use Rattle.deadlock_graph.specs.Holders.{holders_since}
use Rattle.deadlock_prune.proofs.hindered.Given as goal

abbrev pub invariant-loop-j : goal.invariant-loop-j
invariant-loop-j l = Hindering l.words l.links l.busy l.k l.j

abbrev pub decreases-loop-j : goal.decreases-loop-j
decreases-loop-j l = length (holders_since l.words (lock (seen l.words) l.k).resource l.j)

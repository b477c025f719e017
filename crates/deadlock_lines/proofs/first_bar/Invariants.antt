use lib.ListN.{length}
use Rattle.tables.specs.State.{lock}
use Rattle.deadlock_graph.specs.Promises.{seen}
use Rattle.deadlock_graph.specs.Holders.{holders_since}
use Rattle.deadlock_lines.proofs.LinkedLines.{Seeking}
use Rattle.deadlock_lines.proofs.first_bar.Given as goal

abbrev pub invariant-loop-j : goal.invariant-loop-j
invariant-loop-j l = Seeking l.words l.k l.j

abbrev pub decreases-loop-j : goal.decreases-loop-j
decreases-loop-j l = length (holders_since l.words (lock (seen l.words) l.k).resource l.j)

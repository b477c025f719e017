use Rattle.deadlock_owners.proofs.NumberedHolders.{HoldersTo}
use Rattle.deadlock_graph.specs.Holders.{holders_since}
use lib.ListN.{length}
use Rattle.deadlock_owners.proofs.number_holders.Given as goal

abbrev pub invariant-loop-j : goal.invariant-loop-j
invariant-loop-j l = HoldersTo l.words l.lists l.others l.r l.initial.links l.links l.last l.j

abbrev pub decreases-loop-j : goal.decreases-loop-j
decreases-loop-j l = length (holders_since l.words l.r l.j)

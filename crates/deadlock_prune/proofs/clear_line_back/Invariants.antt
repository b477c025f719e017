use Rattle.deadlock_prune.proofs.BackPasses.{Backing}
use lib.ListN.{length}
use Rattle.tables.specs.Lists.{from}
use Rattle.deadlock_graph.specs.Marks.{unmarked}
use Rattle.deadlock_prune.proofs.clear_line_back.Given as goal

abbrev pub invariant-loop-k : goal.invariant-loop-k
invariant-loop-k l = Backing l.links l.wanted l.last l.initial.cleared l.cleared l.k

abbrev pub decreases-loop-k : goal.decreases-loop-k
decreases-loop-k l = unmarked (from 1 (length l.cleared)) l.cleared

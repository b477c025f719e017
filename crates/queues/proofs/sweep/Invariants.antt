use lib.ListN.{length}
use Rattle.queues.proofs.GrantTurns.{Going, line_in}
use Rattle.queues.proofs.sweep.Given as goal

abbrev pub invariant-loop-k : goal.invariant-loop-k
invariant-loop-k l = Going l.r l.initial.words l.words

abbrev pub decreases-loop-k : goal.decreases-loop-k
decreases-loop-k l = length (line_in l.r l.words)

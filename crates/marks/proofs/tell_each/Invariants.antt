use lib.ListN.{length}
use Rattle.tables.specs.Layout.{onward}
use Rattle.marks.proofs.ToldQueues.{Telling}
use Rattle.marks.proofs.tell_each.Given as goal

abbrev pub invariant-loop-j : goal.invariant-loop-j
invariant-loop-j l = Telling l.k l.first l.initial.words l.words l.last l.j

abbrev pub decreases-loop-j : goal.decreases-loop-j
decreases-loop-j l = length (onward l.words 0 l.j)

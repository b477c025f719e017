-- The records before the one whose link stands at `at` name the one after.
use Rattle.call_start.proofs.UpwardLinks.{Linking}
use Rattle.call_start.proofs.chain_up.Given as goal

abbrev pub invariant-loop-next : goal.invariant-loop-next
invariant-loop-next l = Linking l.first l.width l.initial.words l.words l.at l.next

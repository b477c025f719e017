use Rattle.deadlock_owners.proofs.NumberedHolders.{LinesTo}
use Rattle.deadlock_owners.proofs.number_lines.Given as goal

abbrev pub invariant-loop-r : goal.invariant-loop-r
invariant-loop-r l = LinesTo l.words l.lasts l.lists l.others l.initial.links l.links l.r

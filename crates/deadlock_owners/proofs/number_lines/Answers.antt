use Rattle.deadlock_owners.proofs.NumberedHolders.{lines_again}
use Rattle.deadlock_owners.proofs.number_lines.Goals as goal

pub loop-r-preserved : goal.loop-r-preserved
loop-r-preserved c = lines_again c.loop-r.invariant c.number_line.ensures c.number_line.auto.links

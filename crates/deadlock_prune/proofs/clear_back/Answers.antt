use Rattle.deadlock_prune.proofs.BackPasses.{back_line, back_again}
use Rattle.deadlock_prune.proofs.clear_back.Goals as goal

pub clear_line_back-stop-requires : goal.clear_line_back-stop-requires
clear_line_back-stop-requires c = back_line c.loop-r.invariant c.resource_count-n.ensures c.loop-r-test.true

pub loop-r-preserved : goal.loop-r-preserved
loop-r-preserved c = back_again c.loop-r.invariant c.resource_count-n.ensures c.loop-r-test.true c.clear_line_back-stop.ensures

use Rattle.deadlock_prune.proofs.FreeLines.{lines_again, lines_end}
use Rattle.deadlock_prune.proofs.clear_free_lines.Goals as goal

pub loop-r-preserved : goal.loop-r-preserved
loop-r-preserved c = lines_again c.loop-r.invariant c.clear_line-all.ensures

pub returns : goal.returns
returns c = lines_end c.loop-r.invariant c.resource_count-n.ensures c.loop-r-test.false

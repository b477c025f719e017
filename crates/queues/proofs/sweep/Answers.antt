use Rattle.queues.proofs.GrantTurns.{sweep_laws}
use Rattle.queues.proofs.sweep.Goals as goal

pub loop-k-init : goal.loop-k-init
loop-k-init c = search sweep_laws

pub grant_next-requires : goal.grant_next-requires
grant_next-requires c = search sweep_laws

pub loop-k-smaller : goal.loop-k-smaller
loop-k-smaller c = search sweep_laws

pub loop-k-preserved : goal.loop-k-preserved
loop-k-preserved c = search sweep_laws

pub returns : goal.returns
returns c = search sweep_laws

use Rattle.call_purge.proofs.LockCounts.{one_counted}
use Rattle.call_purge.proofs.counts_of.Goals as goal

pub returns : goal.returns
returns c = search one_counted

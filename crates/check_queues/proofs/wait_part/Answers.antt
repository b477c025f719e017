use mathlib.Core.Bool.{not}
use mathlib.Core.Path.{ap}
use Rattle.check_queues.proofs.ResourceQueues.{heads, all_three}
use Rattle.check_queues.proofs.wait_part.Goals as goal

pub heads_wait-requires-clause-heads : goal.heads_wait-requires-clause-heads
heads_wait-requires-clause-heads c = heads _ _ c.requires.holders_walked (rw c.in_ok-w.was at c.waiting_met.ensures)

pub returns : goal.returns
returns c = all_three _ _ c.requires.holders_walked (rw c.in_ok-w.was at c.waiting_met.ensures) c.heads_wait.ensures c.requires.fine.some (ap not c.if-not-heads_wait.false)

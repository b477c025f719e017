use Rattle.check_tables.proofs.ResourceSums.{housed_all}
use Rattle.check_tables.proofs.homes.Goals as goal

pub returns : goal.returns
returns c =
    let free = rw c.in_ok-free.was at c.free_locks_met.ensures.is in
    let denied = rw c.in_ok-denied.was at c.denied_met.ensures.is in
    housed_all _ _ c.requires.fine free denied c.queues.ensures

use Rattle.deadlock_graph.proofs.SeenChains.{walk_meets, walk_over}
use Rattle.deadlock_owners.proofs.NumberedLocks.{blocked_starts, blocked_ends, blocked_numbers, blocked_again}
use Rattle.deadlock_owners.proofs.number_blocked.Goals as goal

pub loop-k-init : goal.loop-k-init
loop-k-init c =
    rw c.into_iter-k-iterator.ensures.into_iter_gives
    (record { same = c.blocked_locks-k-items.ensures.same; at = blocked_starts c.requires c.blocked_locks-k-items.ensures.starts })

pub number_lock-requires : goal.number_lock-requires
number_lock-requires c =
    let m = walk_meets c.loop-k.invariant.same c.in-Some.ensures.steps in
    blocked_numbers (rw m.0 at c.loop-k.invariant.at) m.1

pub loop-k-preserved : goal.loop-k-preserved
loop-k-preserved c =
    let m = walk_meets c.loop-k.invariant.same c.in-Some.ensures.steps in
    record { same = m.3; at = blocked_again (rw m.0 at c.loop-k.invariant.at) m.1 c.number_lock.ensures c.number_lock.auto.lists c.number_lock.auto.others c.number_lock.auto.links c.number_lock.auto.heads m.2 }

pub returns : goal.returns
returns c = blocked_ends c.loop-k.invariant.at (walk_over c.in-None.ensures.steps)

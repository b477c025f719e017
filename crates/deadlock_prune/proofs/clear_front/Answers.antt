use Rattle.deadlock_graph.proofs.SeenChains.{walk_meets}
use Rattle.deadlock_prune.proofs.BlockedWalks.{along_blocked}
use Rattle.deadlock_prune.proofs.FrontPasses.{front_starts, front_again, front_ends}
use Rattle.deadlock_prune.proofs.clear_front.Goals as goal

pub loop-k-init : goal.loop-k-init
loop-k-init c =
    rw c.into_iter-k-iterator.ensures.into_iter_gives
    (record { same = c.blocked_locks-k-items.ensures.same; at = front_starts c.requires c.busy_owners.ensures c.blocked_locks-k-items.ensures.starts })

pub clear_if_free-more-requires-clause-blocked : goal.clear_if_free-more-requires-clause-blocked
clear_if_free-more-requires-clause-blocked c =
    let m = walk_meets c.loop-k.invariant.same c.in-Some.ensures.steps in
    along_blocked (rw m.0 at c.loop-k.invariant.at).along m.1

pub loop-k-preserved : goal.loop-k-preserved
loop-k-preserved c =
    let m = walk_meets c.loop-k.invariant.same c.in-Some.ensures.steps in
    record { same = m.3; at = front_again (rw m.0 at c.loop-k.invariant.at) m.1 c.clear_if_free-more.ensures m.2 }

pub returns : goal.returns
returns c = front_ends c.loop-k.invariant.at

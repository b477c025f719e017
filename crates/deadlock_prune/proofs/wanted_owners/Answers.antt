use Rattle.deadlock_graph.proofs.SeenChains.{walk_meets, walk_over}
use Rattle.deadlock_prune.proofs.BlockedWalks.{along_blocked}
use Rattle.deadlock_prune.proofs.WantedOwners.{wanted_starts, wanted_again, wanted_ends}
use Rattle.deadlock_prune.proofs.wanted_owners.Goals as goal

pub loop-k-init : goal.loop-k-init
loop-k-init c =
    rw c.into_iter-k-iterator.ensures.into_iter_gives
    (record { same = c.blocked_locks-k-items.ensures.same; at = wanted_starts _ c.requires c.told-wanted c.blocked_locks-k-items.ensures.starts })

pub want_owners-requires-clause-blocked : goal.want_owners-requires-clause-blocked
want_owners-requires-clause-blocked c =
    let m = walk_meets c.loop-k.invariant.same c.in-Some.ensures.steps in
    along_blocked (rw m.0 at c.loop-k.invariant.at).along m.1

pub loop-k-preserved : goal.loop-k-preserved
loop-k-preserved c =
    let m = walk_meets c.loop-k.invariant.same c.in-Some.ensures.steps in
    record { same = m.3; at = wanted_again (rw m.0 at c.loop-k.invariant.at) m.1 c.want_owners.ensures c.want_owners.array_long m.2 }

pub returns : goal.returns
returns c = wanted_ends c.loop-k.invariant.at (walk_over c.in-None.ensures.steps)

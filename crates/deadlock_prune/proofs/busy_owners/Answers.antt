use Rattle.deadlock_graph.proofs.SeenChains.{walk_meets, walk_over}
use Rattle.deadlock_prune.proofs.FrontPasses.{busy_starts, busy_placed, busy_again, busy_ends}
use Rattle.deadlock_prune.proofs.busy_owners.Goals as goal

pub loop-k-init : goal.loop-k-init
loop-k-init c =
    rw c.into_iter-k-iterator.ensures.into_iter_gives
    (record { same = c.blocked_locks-k-items.ensures.same; at = busy_starts _ c.requires c.told-busy c.blocked_locks-k-items.ensures.starts })

pub note_busy-requires : goal.note_busy-requires
note_busy-requires c =
    let m = walk_meets c.loop-k.invariant.same c.in-Some.ensures.steps in
    busy_placed (rw m.0 at c.loop-k.invariant.at) c.requires m.1

pub loop-k-preserved : goal.loop-k-preserved
loop-k-preserved c =
    let m = walk_meets c.loop-k.invariant.same c.in-Some.ensures.steps in
    record { same = m.3; at = busy_again (rw m.0 at c.loop-k.invariant.at) m.1 c.note_busy.ensures c.note_busy.array_long m.2 }

pub returns : goal.returns
returns c = busy_ends c.loop-k.invariant.at (walk_over c.in-None.ensures.steps)

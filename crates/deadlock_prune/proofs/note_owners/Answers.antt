use Rattle.deadlock_graph.proofs.SeenChains.{walk_meets, walk_over}
use Rattle.deadlock_prune.proofs.BlockedWalks.{along_at}
use Rattle.deadlock_prune.proofs.FreeLines.{noting_starts, noting_again, noting_ends}
use Rattle.deadlock_prune.proofs.note_owners.Goals as goal

pub loop-k-init : goal.loop-k-init
loop-k-init c =
    rw c.into_iter-k-iterator.ensures.into_iter_gives
    (record {
      same = c.blocked_locks-k-items.ensures.same;
      at = noting_starts c.requires c.told-filter c.blocked_locks-k-items.ensures.starts;
    })

pub owner_of-requires : goal.owner_of-requires
owner_of-requires c =
    let m = walk_meets c.loop-k.invariant.same c.in-Some.ensures.steps in
    along_at (rw m.0 at c.loop-k.invariant.at).along m.1

pub loop-k-preserved : goal.loop-k-preserved
loop-k-preserved c =
    let m = walk_meets c.loop-k.invariant.same c.in-Some.ensures.steps in
    record { same = m.3; at = noting_again (rw m.0 at c.loop-k.invariant.at) m.1 c.owner_of.ensures m.2 }

pub returns : goal.returns
returns c = noting_ends c.loop-k.invariant.at (walk_over c.in-None.ensures.steps)

use Rattle.deadlock_graph.proofs.SeenChains.{walk_meets, walk_over}
use Rattle.deadlock_lines.proofs.LinkedLines.{linking_starts, linking_faces, linking_again, linking_ends}
use Rattle.deadlock_lines.proofs.link_chain.Goals as goal

pub loop-k-init : goal.loop-k-init
loop-k-init c =
    let items = c.locks_from-k-items.ensures in
    let p = c.requires in
    rw c.into_iter-k-iterator.ensures.into_iter_gives
    (record { same = items.same; at = rw items.starts (linking_starts _ _ p.chain_faces c.told-met p.roomy) })

pub link_lock-requires-clause-faces : goal.link_lock-requires-clause-faces
link_lock-requires-clause-faces c =
    let m = walk_meets c.loop-k.invariant.same c.in-Some.ensures.steps in
    linking_faces (rw m.0 at c.loop-k.invariant.at) m.1

pub loop-k-preserved : goal.loop-k-preserved
loop-k-preserved c =
    let m = walk_meets c.loop-k.invariant.same c.in-Some.ensures.steps in
    record { same = m.3; at = linking_again (rw m.0 at c.loop-k.invariant.at) m.1 c.link_lock.ensures m.2 }

pub returns : goal.returns
returns c = linking_ends c.loop-k.invariant.at (walk_over c.in-None.ensures.steps)

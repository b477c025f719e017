use Rattle.deadlock_graph.proofs.SeenChains.{walk_meets, walk_over}
use Rattle.deadlock_lines.proofs.AllLines.{lines_start, lines_blocked, lines_again, lines_end}
use Rattle.deadlock_lines.proofs.link_lines.Goals as goal

pub loop-k-init : goal.loop-k-init
loop-k-init c =
    rw c.into_iter-k-iterator.ensures.into_iter_gives
    (record { same = c.blocked_locks-k-items.ensures.same; at = lines_start c.requires c.blocked_locks-k-items.ensures.starts })

pub link_for-requires-clause-blocked : goal.link_for-requires-clause-blocked
link_for-requires-clause-blocked c =
    let m = walk_meets c.loop-k.invariant.same c.in-Some.ensures.steps in
    lines_blocked (rw m.0 at c.loop-k.invariant.at) m.1

pub loop-k-preserved : goal.loop-k-preserved
loop-k-preserved c =
    let m = walk_meets c.loop-k.invariant.same c.in-Some.ensures.steps in
    record { same = m.3; at = lines_again (rw m.0 at c.loop-k.invariant.at) m.1 c.link_for.ensures c.link_for.auto.links c.link_for.auto.lasts m.2 }

pub returns : goal.returns
returns c = lines_end c.loop-k.invariant.at (walk_over c.in-None.ensures.steps)

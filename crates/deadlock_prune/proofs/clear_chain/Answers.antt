use Rattle.deadlock_graph.proofs.SeenChains.{walk_meets, walk_over}
use Rattle.deadlock_prune.proofs.FreeLines.{chain_starts, chain_place, chain_again, chain_ends}
use Rattle.deadlock_prune.proofs.clear_chain.Goals as goal

pub loop-k-init : goal.loop-k-init
loop-k-init c =
    let items = c.locks_from-k-items.ensures in
    rw c.into_iter-k-iterator.ensures.into_iter_gives (record { same = items.same; at = rw items.starts (chain_starts c.requires) })

pub bounds-cleared-k : goal.bounds-cleared-k
bounds-cleared-k c =
    let m = walk_meets c.loop-k.invariant.same c.in-Some.ensures.steps in
    chain_place (rw m.0 at c.loop-k.invariant.at) m.1

pub loop-k-preserved : goal.loop-k-preserved
loop-k-preserved c =
    let m = walk_meets c.loop-k.invariant.same c.in-Some.ensures.steps in
    record { same = m.3; at = chain_again (rw m.0 at c.loop-k.invariant.at) m.1 m.2 }

pub returns : goal.returns
returns c = chain_ends c.loop-k.invariant.at (walk_over c.in-None.ensures.steps)

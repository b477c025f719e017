use Rattle.deadlock_graph.proofs.SeenChains.{walk_meets, walk_over}
use Rattle.deadlock_search.proofs.FirstVictim.{ready_some, seeking_starts, seeking_tries, seeking_place, seeking_found, seeking_again, seeking_ends}
use Rattle.deadlock_search.proofs.first_on_cycle.Goals as goal

pub blocked_locks-k-items-requires : goal.blocked_locks-k-items-requires
blocked_locks-k-items-requires c = ready_some c.requires.ready

pub loop-k-init : goal.loop-k-init
loop-k-init c =
    rw c.into_iter-k-iterator.ensures.into_iter_gives
    (record { same = c.blocked_locks-k-items.ensures.same; at = seeking_starts c.requires.ready c.requires.heads_len c.blocked_locks-k-items.ensures.starts })

pub on_cycle-requires-clause-trying : goal.on_cycle-requires-clause-trying
on_cycle-requires-clause-trying c =
    let m = walk_meets c.loop-k.invariant.same c.in-Some.ensures.steps in
    seeking_tries (rw m.0 at c.loop-k.invariant.at) m.1

pub returns-then-on_cycle : goal.returns-then-on_cycle
returns-then-on_cycle c =
    let m = walk_meets c.loop-k.invariant.same c.in-Some.ensures.steps in
    seeking_found (rw m.0 at c.loop-k.invariant.at) m.1 c.on_cycle.ensures c.if-on_cycle.true c.from.ensures

pub bounds-cleared-k : goal.bounds-cleared-k
bounds-cleared-k c =
    let m = walk_meets c.loop-k.invariant.same c.in-Some.ensures.steps in
    seeking_place (rw m.0 at c.loop-k.invariant.at) m.1

pub loop-k-preserved : goal.loop-k-preserved
loop-k-preserved c =
    let m = walk_meets c.loop-k.invariant.same c.in-Some.ensures.steps in
    record { same = m.3; at = seeking_again (rw m.0 at c.loop-k.invariant.at) m.1 c.on_cycle.ensures c.if-on_cycle.false m.2 c.on_cycle.auto.heads }

pub returns : goal.returns
returns c = seeking_ends c.loop-k.invariant.at (walk_over c.in-None.ensures.steps)

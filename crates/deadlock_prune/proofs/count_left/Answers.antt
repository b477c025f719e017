use borrow.Author.Rules.{rules}
use Rattle.deadlock_graph.proofs.SeenChains.{walk_meets, walk_over}
use Rattle.deadlock_prune.proofs.LocksLeft.{counting_starts, counting_place, counting_past, counting_fits, counting_again, counting_ends}
use Rattle.deadlock_prune.proofs.count_left.Goals as goal

pub loop-k-init : goal.loop-k-init
loop-k-init c =
    rw c.into_iter-k-iterator.ensures.into_iter_gives
    (record { same = c.blocked_locks-k-items.ensures.same; at = counting_starts _ c.requires c.blocked_locks-k-items.ensures.starts })

pub bounds-cleared-k : goal.bounds-cleared-k
bounds-cleared-k c =
    let m = walk_meets c.loop-k.invariant.same c.in-Some.ensures.steps in
    counting_place (rw m.0 at c.loop-k.invariant.at) m.1

pub overflow_add-n : goal.overflow_add-n
overflow_add-n c =
    let m = walk_meets c.loop-k.invariant.same c.in-Some.ensures.steps in
    let fits = counting_fits (rw m.0 at c.loop-k.invariant.at) m.1 m.2 c.if-not-cleared-k.true in
    search rules

pub loop-k-preserved-then-not-cleared-k : goal.loop-k-preserved-then-not-cleared-k
loop-k-preserved-then-not-cleared-k c =
    let m = walk_meets c.loop-k.invariant.same c.in-Some.ensures.steps in
    record { same = m.3; at = counting_again (rw m.0 at c.loop-k.invariant.at) m.1 m.2 c.if-not-cleared-k.true }

pub loop-k-preserved : goal.loop-k-preserved
loop-k-preserved c =
    let m = walk_meets c.loop-k.invariant.same c.in-Some.ensures.steps in
    record { same = m.3; at = counting_past (rw m.0 at c.loop-k.invariant.at) m.1 m.2 c.if-not-cleared-k.false }

pub returns : goal.returns
returns c = counting_ends c.loop-k.invariant.at (walk_over c.in-None.ensures.steps)

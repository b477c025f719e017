use Rattle.queues.proofs.GrantTurns.{grant_laws}
use Rattle.queues.proofs.grant_next.Goals as goal

pub returns-in_err-k : goal.returns-in_err-k
returns-in_err-k c = search grant_laws

pub lock_at-l-requires : goal.lock_at-l-requires
lock_at-l-requires c = search (grant_laws, c.in_ok-k.ensures)

pub counts_at-requires : goal.counts_at-requires
counts_at-requires c = search grant_laws

pub admits_head-requires : goal.admits_head-requires
admits_head-requires c = search (grant_laws, c.in_ok-k.ensures)

pub returns-then-not-admits_head : goal.returns-then-not-admits_head
returns-then-not-admits_head c = search (grant_laws, c.in_ok-k.ensures)

pub move_lock-requires : goal.move_lock-requires
move_lock-requires c = search (grant_laws, c.in_ok-k.ensures)

pub returns : goal.returns
returns c = search (grant_laws, c.in_ok-k.ensures)

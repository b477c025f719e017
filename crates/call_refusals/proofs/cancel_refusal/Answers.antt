use Rattle.call_refusals.proofs.LockRefusals.{own_there, cancel_client, cancel_lock, cancel_unread, cancel_state, cancel_passes}
use borrow.Author.Rules.{rules}
use Rattle.call_refusals.proofs.cancel_refusal.Goals as goal

pub returns-in_err-client_refusal : goal.returns-in_err-client_refusal
returns-in_err-client_refusal c = search (cancel_client, c.in_err-client_refusal.ensures)

pub returns-then-not-own : goal.returns-then-not-own
returns-then-not-own c = search (cancel_lock, c.in_ok-client_refusal.ensures)

pub lock_at-waiter-requires-clause-sized : goal.lock_at-waiter-requires-clause-sized
lock_at-waiter-requires-clause-sized c = (own_there _ _ _ _ c.own.ensures (search rules) (search rules)).0

pub lock_at-waiter-requires-clause-le_k : goal.lock_at-waiter-requires-clause-le_k
lock_at-waiter-requires-clause-le_k c = (own_there _ _ _ _ c.own.ensures (search rules) (search rules)).1

pub returns-then-waiter-ne-COMPLETION_NONE : goal.returns-then-waiter-ne-COMPLETION_NONE
returns-then-waiter-ne-COMPLETION_NONE c = search (cancel_unread, c.in_ok-client_refusal.ensures)

pub returns-then-waiter : goal.returns-then-waiter
returns-then-waiter c = search (cancel_state, c.in_ok-client_refusal.ensures)

pub returns : goal.returns
returns c = search (cancel_passes, c.in_ok-client_refusal.ensures)

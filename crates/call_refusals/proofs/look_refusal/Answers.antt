use Rattle.call_refusals.proofs.LockRefusals.{own_there, look_client, look_lock, look_state, look_passes}
use borrow.Author.Rules.{rules}
use Rattle.call_refusals.proofs.look_refusal.Goals as goal

pub returns-in_err-client_refusal : goal.returns-in_err-client_refusal
returns-in_err-client_refusal c = search (look_client, c.in_err-client_refusal.ensures)

pub returns-then-not-own : goal.returns-then-not-own
returns-then-not-own c = search (look_lock, c.in_ok-client_refusal.ensures)

pub lock_at-lock-requires-clause-sized : goal.lock_at-lock-requires-clause-sized
lock_at-lock-requires-clause-sized c = (own_there _ _ _ _ c.own.ensures (search rules) (search rules)).0

pub lock_at-lock-requires-clause-le_k : goal.lock_at-lock-requires-clause-le_k
lock_at-lock-requires-clause-le_k c = (own_there _ _ _ _ c.own.ensures (search rules) (search rules)).1

pub returns-then-lock : goal.returns-then-lock
returns-then-lock c = search (look_state, c.in_ok-client_refusal.ensures)

pub returns : goal.returns
returns c = search (look_passes, c.in_ok-client_refusal.ensures)

use Rattle.call_refusals.proofs.LockRefusals.{own_there, granted_lock, granted_unread, granted_state, granted_passes}
use borrow.Author.Rules.{rules}
use Rattle.call_refusals.proofs.granted_refusal.Goals as goal

pub returns-then-not-own : goal.returns-then-not-own
returns-then-not-own c = search granted_lock

pub lock_at-holder-requires-clause-sized : goal.lock_at-holder-requires-clause-sized
lock_at-holder-requires-clause-sized c = (own_there _ _ _ _ c.own.ensures (search rules) (search rules)).0

pub lock_at-holder-requires-clause-le_k : goal.lock_at-holder-requires-clause-le_k
lock_at-holder-requires-clause-le_k c = (own_there _ _ _ _ c.own.ensures (search rules) (search rules)).1

pub returns-then-holder-ne-COMPLETION_NONE : goal.returns-then-holder-ne-COMPLETION_NONE
returns-then-holder-ne-COMPLETION_NONE c = search granted_unread

pub returns-then-holder-ne-STATE_GRANTED : goal.returns-then-holder-ne-STATE_GRANTED
returns-then-holder-ne-STATE_GRANTED c = search granted_state

pub returns : goal.returns
returns c = search granted_passes

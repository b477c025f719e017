use Rattle.call_notice.proofs.NoticeTaken.{take_laws}
use Rattle.call_notice.proofs.take_notice.Goals as goal

pub lock_at-l-requires : goal.lock_at-l-requires
lock_at-l-requires c = search take_laws

pub free_lock-requires : goal.free_lock-requires
free_lock-requires c = search take_laws

pub returns-then-l-eq-COMPLETION_DENIED : goal.returns-then-l-eq-COMPLETION_DENIED
returns-then-l-eq-COMPLETION_DENIED c = search take_laws

pub move_lock-requires : goal.move_lock-requires
move_lock-requires c = search take_laws

pub returns-then-l-eq-COMPLETION_GRANTED : goal.returns-then-l-eq-COMPLETION_GRANTED
returns-then-l-eq-COMPLETION_GRANTED c = search take_laws

pub returns-then-l-eq-COMPLETION_CONVERSION_DENIED : goal.returns-then-l-eq-COMPLETION_CONVERSION_DENIED
returns-then-l-eq-COMPLETION_CONVERSION_DENIED c = search take_laws

pub returns : goal.returns
returns c = search take_laws

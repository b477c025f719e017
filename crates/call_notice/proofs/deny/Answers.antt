use Rattle.call_notice.proofs.Denial.{deny_laws}
use Rattle.call_notice.proofs.deny.Goals as goal

pub lock_at-l-requires : goal.lock_at-l-requires
lock_at-l-requires c = search deny_laws

pub restore-requires : goal.restore-requires
restore-requires c = search deny_laws

pub returns-then-l-eq-STATE_CONVERTING : goal.returns-then-l-eq-STATE_CONVERTING
returns-then-l-eq-STATE_CONVERTING c = search deny_laws

pub move_lock-requires : goal.move_lock-requires
move_lock-requires c = search deny_laws

pub sweep-requires : goal.sweep-requires
sweep-requires c = search deny_laws

pub returns : goal.returns
returns c = search deny_laws

use Rattle.call_release.proofs.RestoredLock.{cancel_laws}
use Rattle.call_release.proofs.cancel_change.Goals as goal

pub lock_at-l-requires : goal.lock_at-l-requires
lock_at-l-requires c = search cancel_laws

pub restore-requires : goal.restore-requires
restore-requires c = search cancel_laws

pub shape_of-words-then-l-eq-STATE_CONVERTING : goal.shape_of-words-then-l-eq-STATE_CONVERTING
shape_of-words-then-l-eq-STATE_CONVERTING c = search cancel_laws

pub returns-then-l-eq-STATE_CONVERTING : goal.returns-then-l-eq-STATE_CONVERTING
returns-then-l-eq-STATE_CONVERTING c = search cancel_laws

pub free_lock-requires : goal.free_lock-requires
free_lock-requires c = search cancel_laws

pub sweep-requires : goal.sweep-requires
sweep-requires c = search cancel_laws

pub shape_of-words : goal.shape_of-words
shape_of-words c = search cancel_laws

pub returns : goal.returns
returns c = search cancel_laws

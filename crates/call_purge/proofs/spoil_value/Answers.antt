use Rattle.call_purge.proofs.OneLock.{spoil_laws}
use Rattle.call_purge.proofs.spoil_value.Goals as goal

pub lock_at-l-requires : goal.lock_at-l-requires
lock_at-l-requires c = search spoil_laws

pub returns-then-l : goal.returns-then-l
returns-then-l c = search spoil_laws

pub leave_value-requires : goal.leave_value-requires
leave_value-requires c = search spoil_laws

pub returns : goal.returns
returns c = search spoil_laws

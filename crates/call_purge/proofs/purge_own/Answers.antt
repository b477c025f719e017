use Rattle.call_purge.proofs.ClientLocks.{own_laws}
use Rattle.call_purge.proofs.purge_own.Goals as goal

pub lock_at-l-requires-clause-sized : goal.lock_at-l-requires-clause-sized
lock_at-l-requires-clause-sized c = search own_laws

pub lock_at-l-requires-clause-le_k : goal.lock_at-l-requires-clause-le_k
lock_at-l-requires-clause-le_k c = search own_laws

pub returns-then-l-client : goal.returns-then-l-client
returns-then-l-client c = search own_laws

pub bounds-marks-l : goal.bounds-marks-l
bounds-marks-l c = search own_laws

pub returns : goal.returns
returns c = search own_laws

use Rattle.deadlock_owners.proofs.NumberedLocks.{lock_laws}
use Rattle.deadlock_owners.proofs.number_lock.Goals as goal

pub list_lock-requires : goal.list_lock-requires
list_lock-requires c = search lock_laws

pub returns : goal.returns
returns c = search lock_laws

use Rattle.entry_list.proofs.ListCore.{lock_laws}
use Rattle.entry_list.proofs.entry_of.Goals as goal

pub lock_at-lock-requires-clause-sized : goal.lock_at-lock-requires-clause-sized
lock_at-lock-requires-clause-sized c = search lock_laws

pub lock_at-lock-requires-clause-le_k : goal.lock_at-lock-requires-clause-le_k
lock_at-lock-requires-clause-le_k c = search lock_laws

pub returns : goal.returns
returns c = search lock_laws

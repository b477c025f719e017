use Rattle.entry_list.proofs.ListCore.{lock_laws}
use Rattle.entry_list.proofs.resource_of.Goals as goal

pub lock_word-requires-clause-sized : goal.lock_word-requires-clause-sized
lock_word-requires-clause-sized c = search lock_laws

pub lock_word-requires-clause-le_k : goal.lock_word-requires-clause-le_k
lock_word-requires-clause-le_k c = search lock_laws

pub returns : goal.returns
returns c = search lock_laws

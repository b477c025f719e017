use Rattle.entry_holder.proofs.ExclusiveLock.{ex_locking}
use Rattle.entry_holder.proofs.Image.ex_lock.Goals as goal

pub resource_word-granted-requires : goal.resource_word-granted-requires
resource_word-granted-requires c = search ex_locking

pub ex_from-requires : goal.ex_from-requires
ex_from-requires c = search ex_locking

pub returns-in-Some : goal.returns-in-Some
returns-in-Some c = search ex_locking

pub resource_word-converting-requires : goal.resource_word-converting-requires
resource_word-converting-requires c = search ex_locking

pub ex_from-requires-2 : goal.ex_from-requires-2
ex_from-requires-2 c = search ex_locking

pub returns : goal.returns
returns c = search ex_locking

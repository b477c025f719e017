use Rattle.call_arguments.proofs.OwnLock.{owning}
use Rattle.call_arguments.proofs.own.Goals as goal

pub returns-then-k-eq0 : goal.returns-then-k-eq0
returns-then-k-eq0 c = search owning

pub bounds-words-1 : goal.bounds-words-1
bounds-words-1 c = search owning

pub returns-then-words-k : goal.returns-then-words-k
returns-then-words-k c = search owning

pub lock_at-lock-requires : goal.lock_at-lock-requires
lock_at-lock-requires c = search owning

pub returns : goal.returns
returns c = search owning

use Rattle.list_walker.proofs.WalkerReads.{follow_laws}
use Rattle.list_walker.proofs.following.Goals as goal

pub lock_word-next-requires : goal.lock_word-next-requires
lock_word-next-requires c = search follow_laws

pub returns-then-next-ne0 : goal.returns-then-next-ne0
returns-then-next-ne0 c = search follow_laws

pub lock_at-lock-requires : goal.lock_at-lock-requires
lock_at-lock-requires c = search follow_laws

pub first_past-requires : goal.first_past-requires
first_past-requires c = search follow_laws

pub returns : goal.returns
returns c = search follow_laws

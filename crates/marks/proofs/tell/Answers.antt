use Rattle.marks.proofs.ToldQueues.{tell_laws}
use Rattle.marks.proofs.tell.Goals as goal

pub in_the_way-requires : goal.in_the_way-requires
in_the_way-requires c = search tell_laws

pub returns-then-not-in_the_way : goal.returns-then-not-in_the_way
returns-then-not-in_the_way c = search tell_laws

pub lock_word-mode-requires : goal.lock_word-mode-requires
lock_word-mode-requires c = search tell_laws

pub mark_lock-requires : goal.mark_lock-requires
mark_lock-requires c = search tell_laws

pub returns : goal.returns
returns c = search tell_laws

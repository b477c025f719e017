use Rattle.deadlock_search.proofs.FirstVictim.{victim_laws}
use Rattle.deadlock_search.proofs.victim.Goals as goal

pub clear_free_lines-requires : goal.clear_free_lines-requires
clear_free_lines-requires c = search victim_laws

pub returns-then-clear_free_lines : goal.returns-then-clear_free_lines
returns-then-clear_free_lines c = search victim_laws

pub lock_count-locks-requires : goal.lock_count-locks-requires
lock_count-locks-requires c = search victim_laws

pub returns-then-locks-lt-SMALL_PLACES : goal.returns-then-locks-lt-SMALL_PLACES
returns-then-locks-lt-SMALL_PLACES c = search victim_laws

pub returns-then-locks-lt-MIDDLE_PLACES : goal.returns-then-locks-lt-MIDDLE_PLACES
returns-then-locks-lt-MIDDLE_PLACES c = search victim_laws

pub victim_sized-requires-2-clause-free : goal.victim_sized-requires-2-clause-free
victim_sized-requires-2-clause-free c = search victim_laws

pub returns : goal.returns
returns c = search victim_laws

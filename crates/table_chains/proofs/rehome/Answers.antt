use Rattle.table_chains.proofs.LockMoves.{home_laws}
use Rattle.table_chains.proofs.rehome.Goals as goal

pub home_cells-old-requires : goal.home_cells-old-requires
home_cells-old-requires c = search home_laws

pub at_home-before-requires : goal.at_home-before-requires
at_home-before-requires c = search home_laws

pub leave-requires : goal.leave-requires
leave-requires c = search home_laws

pub put_lock-requires : goal.put_lock-requires
put_lock-requires c = search home_laws

pub home_cells-new-requires : goal.home_cells-new-requires
home_cells-new-requires c = search home_laws

pub push-requires : goal.push-requires
push-requires c = search home_laws

pub returns-then-m-eq-STATE_FREE : goal.returns-then-m-eq-STATE_FREE
returns-then-m-eq-STATE_FREE c = search home_laws

pub at_home-last-requires : goal.at_home-last-requires
at_home-last-requires c = search home_laws

pub join-requires : goal.join-requires
join-requires c = search home_laws

pub returns : goal.returns
returns c = search home_laws

use Rattle.table_chains.proofs.LockMoves.{move_laws}
use Rattle.table_chains.proofs.move_lock.Goals as goal

pub lock_at-o-requires : goal.lock_at-o-requires
lock_at-o-requires c = search move_laws

pub uncount-requires : goal.uncount-requires
uncount-requires c = search move_laws

pub count-requires : goal.count-requires
count-requires c = search move_laws

pub relink-requires : goal.relink-requires
relink-requires c = search move_laws

pub shape_of-words : goal.shape_of-words
shape_of-words c = search move_laws

pub returns : goal.returns
returns c = search move_laws

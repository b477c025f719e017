use Rattle.table_chains.proofs.LockMoves.{relink_laws}
use Rattle.table_chains.proofs.relink.Goals as goal

pub shift_sides-requires : goal.shift_sides-requires
shift_sides-requires c = search relink_laws

pub keeps_home-requires : goal.keeps_home-requires
keeps_home-requires c = search relink_laws

pub put_lock-requires : goal.put_lock-requires
put_lock-requires c = search relink_laws

pub rehome-requires : goal.rehome-requires
rehome-requires c = search relink_laws

pub shape_of-words-then-keeps_home : goal.shape_of-words-then-keeps_home
shape_of-words-then-keeps_home c = search relink_laws

pub returns-then-keeps_home : goal.returns-then-keeps_home
returns-then-keeps_home c = search relink_laws

pub shape_of-words-else-keeps_home : goal.shape_of-words-else-keeps_home
shape_of-words-else-keeps_home c = search relink_laws

pub returns-else-keeps_home : goal.returns-else-keeps_home
returns-else-keeps_home c = search relink_laws

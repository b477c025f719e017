use Rattle.table_chains.proofs.LockMoves.{side_laws}
use Rattle.table_chains.proofs.shift_sides.Goals as goal

pub lock_cells-blocked-requires : goal.lock_cells-blocked-requires
lock_cells-blocked-requires c = search side_laws

pub shift-requires : goal.shift-requires
shift-requires c = search side_laws

pub lock_cells-notices-requires : goal.lock_cells-notices-requires
lock_cells-notices-requires c = search side_laws

pub with_notice-near-requires : goal.with_notice-near-requires
with_notice-near-requires c = search side_laws

pub shift-requires-2 : goal.shift-requires-2
shift-requires-2 c = search side_laws

pub returns : goal.returns
returns c = search side_laws

use Rattle.table_chains.proofs.CellWalks.{join_laws}
use Rattle.table_chains.proofs.Cells.join.Goals as goal

pub holding_near-at-requires : goal.holding_near-at-requires
holding_near-at-requires c = search join_laws

pub offset_bounds-words-at : goal.offset_bounds-words-at
offset_bounds-words-at c = search join_laws

pub bounds-words-at : goal.bounds-words-at
bounds-words-at c = search join_laws

pub returns : goal.returns
returns c = search join_laws

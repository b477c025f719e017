use native.Mathlib.Omega.{arith}
use Rattle.table_chains.proofs.CellWalks.{left_inside, leave_laws}
use Rattle.table_chains.proofs.Cells.leave.Goals as goal

pub holding_near-at-requires : goal.holding_near-at-requires
holding_near-at-requires c = search leave_laws

pub cell-own-requires : goal.cell-own-requires
cell-own-requires c = search leave_laws

pub offset_bounds-words-at : goal.offset_bounds-words-at
offset_bounds-words-at c = omega (arith, left_inside _ _ _ c.requires.leaves _ c.holding_near-at.ensures)

pub bounds-words-at : goal.bounds-words-at
bounds-words-at c = omega (arith, left_inside _ _ _ c.requires.leaves _ c.holding_near-at.ensures)

pub returns : goal.returns
returns c = search leave_laws

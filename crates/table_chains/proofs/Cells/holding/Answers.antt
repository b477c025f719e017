use native.Mathlib.Omega.{arith}
use Rattle.table_chains.proofs.CellWalks.{walk_fits, walk_laws}
use Rattle.table_chains.proofs.Cells.holding.Goals as goal

pub loop-init : goal.loop-init
loop-init c = search walk_laws

pub offset_bounds-words-at : goal.offset_bounds-words-at
offset_bounds-words-at c = search walk_laws

pub bounds-words-at : goal.bounds-words-at
bounds-words-at c = search walk_laws

pub returns-then-next-k : goal.returns-then-next-k
returns-then-next-k c = search walk_laws

pub cell-at-requires-clause-low : goal.cell-at-requires-clause-low
cell-at-requires-clause-low c = search walk_laws

pub cell-at-requires-clause-fits : goal.cell-at-requires-clause-fits
cell-at-requires-clause-fits c = omega (arith, walk_fits _ _ _ _ _ c.loop.invariant c.loop-test.true c.if-next-k.false)

pub loop-preserved : goal.loop-preserved
loop-preserved c = search walk_laws

pub returns : goal.returns
returns c = search walk_laws

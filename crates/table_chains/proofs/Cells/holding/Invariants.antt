use Rattle.table_chains.proofs.CellWalks.{Walking}
use Rattle.table_chains.proofs.Cells.holding.Given as goal

abbrev pub invariant-loop : goal.invariant-loop
invariant-loop l = Walking l.words l.self l.k l.counter l.at

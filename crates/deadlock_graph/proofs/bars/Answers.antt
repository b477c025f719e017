use borrow.Author.Rules.{rules}
use Rattle.table_chains.proofs.LockLimits.{held_mode, asked_mode}
use Rattle.deadlock_graph.proofs.bars.Goals as goal

pub goes_with-requires : goal.goes_with-requires
goes_with-requires c = search (rules, held_mode, asked_mode)

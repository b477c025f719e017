use native.Mathlib.Omega.{arith}
use Rattle.table_chains.proofs.ChainWalks.{blocked_walks}
use Rattle.deadlock_graph.proofs.blocked_locks.Goals as goal

pub returns-clause-walks : goal.returns-clause-walks
returns-clause-walks c = record { field = omega arith; walks = blocked_walks c.requires c.header_word.ensures }

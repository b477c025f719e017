use Rattle.deadlock_graph.proofs.HolderWalks.{stands_on}
use Rattle.deadlock_graph.proofs.resource_of.Goals as goal

pub returns : goal.returns
returns c = stands_on c.requires c.lock_word.ensures

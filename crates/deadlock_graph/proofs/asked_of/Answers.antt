use Rattle.deadlock_graph.proofs.HolderWalks.{asks_known}
use Rattle.deadlock_graph.proofs.asked_of.Goals as goal

pub returns : goal.returns
returns c = asks_known c.requires c.lock_word.ensures

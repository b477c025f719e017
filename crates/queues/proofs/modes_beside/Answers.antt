use borrow.Author.Rules.{rules}
use Rattle.queues.specs.Holders.{modes_beside}
use Rattle.queues.proofs.modes_beside.Goals as goal

pub returns : goal.returns
unfolding modes_beside
returns c = (cc, search rules)

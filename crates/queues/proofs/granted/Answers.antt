use borrow.Author.Rules.{rules}
use Rattle.rules.specs.Queues.{granted_lock}
use Rattle.queues.proofs.granted.Goals as goal

pub returns : goal.returns
unfolding granted_lock
returns c = search rules

use Rattle.list_walker.proofs.WalkerReads.{walker_laws}
use Rattle.list_walker.proofs.WalkerIterator.next.Goals as goal

pub step-requires : goal.step-requires
step-requires c = search walker_laws

pub overflow_add-self : goal.overflow_add-self
overflow_add-self c = search walker_laws

pub returns-clause-steps : goal.returns-clause-steps
returns-clause-steps c = search walker_laws

pub returns-clause-goes : goal.returns-clause-goes
returns-clause-goes c = search walker_laws

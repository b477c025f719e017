use Rattle.queues.proofs.QueueReads.{next_laws}
use Rattle.queues.proofs.next_up.Goals as goal

pub resource_word-converting-requires : goal.resource_word-converting-requires
resource_word-converting-requires c = search next_laws

pub returns-then-converting-ne0 : goal.returns-then-converting-ne0
returns-then-converting-ne0 c = search next_laws

pub resource_word-waiting-requires : goal.resource_word-waiting-requires
resource_word-waiting-requires c = search next_laws

pub returns : goal.returns
returns c = search next_laws

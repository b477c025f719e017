use Rattle.queues.proofs.ResourceRecord.{empty_laws}
use Rattle.queues.proofs.is_empty.Goals as goal

pub resource_word-granted-requires : goal.resource_word-granted-requires
resource_word-granted-requires c = search empty_laws

pub resource_word-converting-requires : goal.resource_word-converting-requires
resource_word-converting-requires c = search empty_laws

pub resource_word-waiting-requires : goal.resource_word-waiting-requires
resource_word-waiting-requires c = search empty_laws

pub returns : goal.returns
returns c = search empty_laws

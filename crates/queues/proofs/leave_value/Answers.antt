use Rattle.queues.proofs.ResourceRecord.{leave_laws}
use Rattle.queues.proofs.leave_value.Goals as goal

pub returns-then-not-acts : goal.returns-then-not-acts
returns-then-not-acts c = search leave_laws

pub resource_word-length-requires : goal.resource_word-length-requires
resource_word-length-requires c = search leave_laws

pub store_value-requires : goal.store_value-requires
store_value-requires c = search leave_laws

pub returns-then-stores : goal.returns-then-stores
returns-then-stores c = search leave_laws

pub returns-then-spoils : goal.returns-then-spoils
returns-then-spoils c = search leave_laws

pub returns-else-spoils : goal.returns-else-spoils
returns-else-spoils c = search leave_laws

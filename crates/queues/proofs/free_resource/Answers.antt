use Rattle.queues.proofs.ResourceRecord.{vacant_laws}
use Rattle.queues.proofs.free_resource.Goals as goal

pub clear_slot-requires : goal.clear_slot-requires
clear_slot-requires c = search vacant_laws

pub returns : goal.returns
returns c = search vacant_laws

use Rattle.queues.proofs.ResourceRecord.{takes_laws}
use Rattle.queues.proofs.take_resource.Goals as goal

pub store_name-requires : goal.store_name-requires
store_name-requires c = search takes_laws

pub returns : goal.returns
returns c = search takes_laws

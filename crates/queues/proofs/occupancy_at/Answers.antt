use Rattle.queues.specs.Decisions.{read_occupancy}
use Rattle.queues.proofs.Decisions.{occupancy_laws}
use Rattle.queues.proofs.occupancy_at.Goals as goal

pub resource_word-requires : goal.resource_word-requires
resource_word-requires c = search occupancy_laws

pub resource_word-requires-2 : goal.resource_word-requires-2
resource_word-requires-2 c = search occupancy_laws

pub counts_at-requires : goal.counts_at-requires
counts_at-requires c = search occupancy_laws

pub returns : goal.returns
unfolding read_occupancy
returns c = cc

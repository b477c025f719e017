use Rattle.table_chains.proofs.ResourceWords.{resource_laws}
use Rattle.table_chains.proofs.move_resource_words.Goals as goal

pub resource_at-old-requires : goal.resource_at-old-requires
resource_at-old-requires c = search resource_laws

pub resource_cells-free-requires : goal.resource_cells-free-requires
resource_cells-free-requires c = search resource_laws

pub shift-requires : goal.shift-requires
shift-requires c = search resource_laws

pub put_resource-requires : goal.put_resource-requires
put_resource-requires c = search resource_laws

pub returns : goal.returns
returns c = search resource_laws

use Rattle.table_names.proofs.SlotStores.{store_laws}
use Rattle.table_names.proofs.store_value.Goals as goal

pub returns : goal.returns
returns c = search store_laws

use Rattle.list_walker.proofs.WalkerReads.{first_laws}
use Rattle.list_walker.proofs.first_on.Goals as goal

pub first_past-requires : goal.first_past-requires
first_past-requires c = search first_laws

pub returns : goal.returns
returns c = search first_laws

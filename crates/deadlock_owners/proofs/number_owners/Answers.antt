use Rattle.deadlock_owners.proofs.NumberedHolders.{owners_laws}
use Rattle.deadlock_owners.proofs.number_owners.Goals as goal

pub number_blocked-requires : goal.number_blocked-requires
number_blocked-requires c = search owners_laws

pub returns : goal.returns
returns c = search owners_laws

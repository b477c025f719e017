use Rattle.deadlock_owners.proofs.ListedOwners.{note_laws}
use Rattle.deadlock_owners.proofs.note_owner.Goals as goal

pub find_owner-found-requires : goal.find_owner-found-requires
find_owner-found-requires c = search note_laws

pub returns-then-found-ne0 : goal.returns-then-found-ne0
returns-then-found-ne0 c = search note_laws

pub owner_of-list-requires : goal.owner_of-list-requires
owner_of-list-requires c = search note_laws

pub bounds-others-k : goal.bounds-others-k
bounds-others-k c = search note_laws

pub returns : goal.returns
returns c = search note_laws

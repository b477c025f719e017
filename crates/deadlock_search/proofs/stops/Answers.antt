use Rattle.deadlock_search.proofs.OwnerLists.{stops_laws}
use Rattle.deadlock_search.proofs.stops.Goals as goal

pub first_of-first-requires : goal.first_of-first-requires
first_of-first-requires c = search stops_laws

pub returns-then-first-eq0 : goal.returns-then-first-eq0
returns-then-first-eq0 c = search stops_laws

pub unmarked_from-b-requires : goal.unmarked_from-b-requires
unmarked_from-b-requires c = search stops_laws

pub link-owner-requires : goal.link-owner-requires
link-owner-requires c = search stops_laws

pub bounds-heads-owner : goal.bounds-heads-owner
bounds-heads-owner c = search stops_laws

pub returns-then-b-eq0 : goal.returns-then-b-eq0
returns-then-b-eq0 c = search stops_laws

pub bars-requires : goal.bars-requires
bars-requires c = search stops_laws

pub returns : goal.returns
returns c = search stops_laws

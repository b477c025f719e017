use Rattle.deadlock_search.proofs.OwnerLists.{list_laws}
use Rattle.deadlock_search.proofs.unmarked_from.Goals as goal

pub loop-b-init : goal.loop-b-init
loop-b-init c = search list_laws

pub overflow_cast-b : goal.overflow_cast-b
overflow_cast-b c = search list_laws

pub bounds-marks-b : goal.bounds-marks-b
bounds-marks-b c = search list_laws

pub returns-then-not-marks-b : goal.returns-then-not-marks-b
returns-then-not-marks-b c = search list_laws

pub link-b-requires : goal.link-b-requires
link-b-requires c = search list_laws

pub loop-b-smaller : goal.loop-b-smaller
loop-b-smaller c = search list_laws

pub loop-b-preserved : goal.loop-b-preserved
loop-b-preserved c = search list_laws

pub returns : goal.returns
returns c = search list_laws

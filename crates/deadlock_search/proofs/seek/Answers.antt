use Rattle.deadlock_search.proofs.OwnerLists.{seek_laws}
use Rattle.deadlock_search.proofs.seek.Goals as goal

pub loop-j-init : goal.loop-j-init
loop-j-init c = search seek_laws

pub stops-requires : goal.stops-requires
stops-requires c = search seek_laws

pub shape_of-heads-then-stops : goal.shape_of-heads-then-stops
shape_of-heads-then-stops c = search seek_laws

pub returns-then-stops : goal.returns-then-stops
returns-then-stops c = search seek_laws

pub link-j-requires : goal.link-j-requires
link-j-requires c = search seek_laws

pub loop-j-smaller : goal.loop-j-smaller
loop-j-smaller c = search seek_laws

pub loop-j-preserved : goal.loop-j-preserved
loop-j-preserved c = search seek_laws

pub shape_of-heads : goal.shape_of-heads
shape_of-heads c = search seek_laws

pub returns : goal.returns
returns c = search seek_laws

use Rattle.marks.proofs.NobodyTold.{way_laws}
use Rattle.marks.proofs.tell_obstacles.Goals as goal

pub unhindered-requires : goal.unhindered-requires
unhindered-requires c = search way_laws

pub shape_of-words-then-unhindered : goal.shape_of-words-then-unhindered
shape_of-words-then-unhindered c = search way_laws

pub returns-then-unhindered : goal.returns-then-unhindered
returns-then-unhindered c = search way_laws

pub tell_all-requires : goal.tell_all-requires
tell_all-requires c = search way_laws

pub shape_of-words : goal.shape_of-words
shape_of-words c = search way_laws

pub returns : goal.returns
returns c = search way_laws

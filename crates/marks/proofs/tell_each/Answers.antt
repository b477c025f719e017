use Rattle.marks.proofs.ToldQueues.{telling_laws}
use Rattle.marks.proofs.tell_each.Goals as goal

pub loop-j-init : goal.loop-j-init
loop-j-init c = search telling_laws

pub tell-last-requires : goal.tell-last-requires
tell-last-requires c = search telling_laws

pub lock_word-j-requires : goal.lock_word-j-requires
lock_word-j-requires c = search telling_laws

pub loop-j-smaller : goal.loop-j-smaller
loop-j-smaller c = search telling_laws

pub loop-j-preserved : goal.loop-j-preserved
loop-j-preserved c = search telling_laws

pub shape_of-words : goal.shape_of-words
shape_of-words c = search telling_laws

pub returns : goal.returns
returns c = search telling_laws

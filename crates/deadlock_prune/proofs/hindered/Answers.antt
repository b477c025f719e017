use Rattle.deadlock_prune.proofs.FrontPasses.{hindering_laws}
use Rattle.deadlock_prune.proofs.hindered.Goals as goal

pub link-j-requires : goal.link-j-requires
link-j-requires c = search hindering_laws

pub loop-j-init : goal.loop-j-init
loop-j-init c = search hindering_laws

pub hinders-requires : goal.hinders-requires
hinders-requires c = search hindering_laws

pub returns-then-hinders : goal.returns-then-hinders
returns-then-hinders c = search hindering_laws

pub link-j-requires-in-loop-j : goal.link-j-requires-in-loop-j
link-j-requires-in-loop-j c = search hindering_laws

pub loop-j-smaller : goal.loop-j-smaller
loop-j-smaller c = search hindering_laws

pub loop-j-preserved : goal.loop-j-preserved
loop-j-preserved c = search hindering_laws

pub returns : goal.returns
returns c = search hindering_laws

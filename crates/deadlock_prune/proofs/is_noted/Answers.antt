use Rattle.deadlock_prune.proofs.FreeLines.{finding_laws}
use Rattle.deadlock_prune.proofs.is_noted.Goals as goal

pub first_holder-k-requires : goal.first_holder-k-requires
first_holder-k-requires c = search finding_laws

pub loop-k-init : goal.loop-k-init
loop-k-init c = search finding_laws

pub counts-requires : goal.counts-requires
counts-requires c = search finding_laws

pub returns-then-counts : goal.returns-then-counts
returns-then-counts c = search finding_laws

pub next_holder-k-requires : goal.next_holder-k-requires
next_holder-k-requires c = search finding_laws

pub loop-k-smaller : goal.loop-k-smaller
loop-k-smaller c = search finding_laws

pub loop-k-preserved : goal.loop-k-preserved
loop-k-preserved c = search finding_laws

pub returns : goal.returns
returns c = search finding_laws

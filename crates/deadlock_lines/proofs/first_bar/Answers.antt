use Rattle.deadlock_lines.proofs.LinkedLines.{bar_laws}
use Rattle.deadlock_lines.proofs.first_bar.Goals as goal

pub loop-j-init : goal.loop-j-init
loop-j-init c = search bar_laws

pub bars-requires : goal.bars-requires
bars-requires c = search bar_laws

pub returns-then-bars : goal.returns-then-bars
returns-then-bars c = search bar_laws

pub next_holder-j-requires : goal.next_holder-j-requires
next_holder-j-requires c = search bar_laws

pub loop-j-smaller : goal.loop-j-smaller
loop-j-smaller c = search bar_laws

pub loop-j-preserved : goal.loop-j-preserved
loop-j-preserved c = search bar_laws

pub returns : goal.returns
returns c = search bar_laws

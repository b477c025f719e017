use Rattle.modes.specs.Modes.{matrix, compatible}
use Rattle.modes.proofs.Kept.{kept_none, kept_next, lost, kept_all}
use Rattle.modes.proofs.down.Goals as goal

pub loop-mode-init : goal.loop-mode-init
loop-mode-init c = search kept_none

pub returns-then-old-mode : goal.returns-then-old-mode
unfolding compatible matrix
returns-then-old-mode c = search lost

pub loop-mode-preserved : goal.loop-mode-preserved
unfolding compatible matrix
loop-mode-preserved c = search kept_next

pub returns : goal.returns
returns c = search kept_all

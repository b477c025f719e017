-- `modes::down` meets its contract: each mode passed by the loop is compatible with the new mode if it is with the old.
-- Assumes nothing.
use Rattle.modes.proofs.Kept.{Kept}
use Rattle.modes.proofs.down.Given as goal

abbrev pub invariant-loop-mode : goal.invariant-loop-mode
invariant-loop-mode l = Kept l.old l.new l.mode

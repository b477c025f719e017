use Rattle.deadlock_prune.proofs.FreeLines.{FreeAt}
use Rattle.deadlock_prune.proofs.clear_free_lines.Given as goal

abbrev pub invariant-loop-r : goal.invariant-loop-r
invariant-loop-r l = FreeAt l.words l.filter l.cleared l.all l.r

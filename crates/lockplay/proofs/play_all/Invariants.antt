-- `play_all`: the buffer has room for the line.
use Rattle.play_lines.specs.InputLines.{Room}
use Rattle.lockplay.proofs.play_all.Given as goal

abbrev pub invariant-loop : goal.invariant-loop
invariant-loop g l = Room l.buffer l.line

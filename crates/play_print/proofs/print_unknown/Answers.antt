-- `print_unknown`: two writes.
use native.Mathlib.Omega.{arith}
use Rattle.play_print.proofs.BufferWrites.{print_rules}
use Rattle.play_print.proofs.print_unknown.Goals as goal

pub returns : goal.returns
returns c = (search print_rules, omega arith)

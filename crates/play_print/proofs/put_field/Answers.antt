-- `put_field`: a number after a space.
use native.Mathlib.Omega.{arith}
use Rattle.play_print.proofs.BufferWrites.{print_rules}
use Rattle.play_print.proofs.put_field.Goals as goal

pub returns : goal.returns
returns c = (search print_rules, omega arith)

-- `digit_count`: each turn takes one digit off.
use Prim.Native.Nat.{◌≤◌, ◌+◌}
use mathlib.Core.Path.{◌≡◌}
use lib.ListN.{length}
use Rattle.play_print.specs.Decimal.{decimal}
use Rattle.play_print.specs.PrintedLines.{number_width}
use Rattle.play_print.proofs.digit_count.Given as goal

abbrev pub invariant-loop-m : goal.invariant-loop-m
invariant-loop-m l = (l.k + length (decimal l.m) ≡ 1 + length (decimal l.n)) × (length (decimal l.n) ≤ number_width)

abbrev pub decreases-loop-m : goal.decreases-loop-m
decreases-loop-m l = l.m

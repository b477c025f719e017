-- What is left to test from i on decides the whole.
use mathlib.Core.Path.{◌≡◌}
use lib.ListN.{drop}
use Rattle.tables.specs.Sound.{all_zero}
use Rattle.table_names.proofs.zero_bytes.Given as goal

abbrev pub invariant-loop-i : goal.invariant-loop-i
invariant-loop-i l = all_zero l.a ≡ all_zero (drop l.i l.a)

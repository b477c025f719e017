-- What is left to test in front of the last p pairs decides the whole.
use mathlib.Core.Path.{◌≡◌}
use Prim.Native.Nat.{◌*◌, ◌-◌}
use lib.ListN.{length, take}
use Rattle.tables.specs.Sound.{all_zero}
use Rattle.table_names.proofs.zero_rest.Given as goal

abbrev pub invariant-loop-p : goal.invariant-loop-p
invariant-loop-p l = all_zero l.a ≡ all_zero (take (length l.a - 8 * l.p) l.a)

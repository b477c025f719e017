-- What is left to compare in front of the last w words decides the whole.
use mathlib.Core.Path.{◌≡◌}
use Prim.Native.Nat.{◌*◌, ◌-◌}
use lib.ListN.{length, take}
use Rattle.tables.specs.Lists.{same}
use Rattle.table_names.proofs.same.Given as goal

abbrev pub invariant-loop-w : goal.invariant-loop-w
invariant-loop-w l = same l.a l.b ≡ same (take (length l.a - 4 * l.w) l.a) (take (length l.a - 4 * l.w) l.b)

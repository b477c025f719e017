-- The bytes of i words stand there, and the others are as they were.
use mathlib.Core.Path.{◌≡◌}
use mathlib.Core.List.{◌++◌}
use Prim.Native.Nat.{◌*◌}
use lib.ListN.{take, drop}
use Rattle.table_bytes.specs.Bytes.{encoded}
use Rattle.table_bytes.proofs.encode.Given as goal

abbrev pub invariant-loop-i : goal.invariant-loop-i
invariant-loop-i l = l.area ≡ encoded (take l.i l.words) ++ drop (4 * l.i) l.initial.area

-- The sum so far is that of the first i words.
use mathlib.Core.Path.{◌≡◌}
use Prim.Native.Nat.{◌*◌, ◌≤◌}
use Rattle.check_names.specs.Numbers.{weighed}
use Rattle.check_names.proofs.NameNumbers.{heaviest}
use Rattle.check_names.proofs.weigh.Given as goal

abbrev pub invariant-loop-i : goal.invariant-loop-i
invariant-loop-i l = (l.sum ≤ l.i * heaviest) × (l.sum ≡ weighed l.weights l.bytes l.i)

-- A pass over records: each that is looked at is counted or not.
use mathlib.Core.Path.{◌≡◌}
use mathlib.Core.Bool.{Bool, true, false, cond}
use mathlib.Core.List.{List, ◌∷◌}
use Prim.Native.Nat.{ℕ, ◌+◌}
use native.Mathlib.Omega.{arith}
use lib.ListN.{length}
use Rattle.tables.specs.Lists.{bit}

pub count_one : (b : Bool) (k : ℕ) (ks : List ℕ) (n : ℕ) → n + length (cond b (k ∷ ks) ks) ≡ n + bit b + length ks
count_one true k ks n = omega arith
count_one false k ks n = omega arith

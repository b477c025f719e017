-- A mode's number, as the code has it.
use mathlib.Core.Path.{◌≡◌, refl}
use Prim.Native.Nat.{◌<◌}
use native.Mathlib.Omega.{arith}
use denote.Enum.Declared.{tag_of}
use Rattle.modes.specs.declared.Mode.{Mode}
use Rattle.modes.specs.declared.Mode.TheVariants as modes
use Rattle.modes.specs.contracts.Mode.{the_type}
use Rattle.modes.specs.Made.{mode_number}

pub tag_is : (m : Mode) → tag_of the_type m ≡ mode_number m
tag_is modes.Null = refl
tag_is modes.ConcurrentRead = refl
tag_is modes.ConcurrentWrite = refl
tag_is modes.ProtectedRead = refl
tag_is modes.ProtectedWrite = refl
tag_is modes.Exclusive = refl

pub mode_below : (m : Mode) → mode_number m < 6
mode_below modes.Null = omega arith
mode_below modes.ConcurrentRead = omega arith
mode_below modes.ConcurrentWrite = omega arith
mode_below modes.ProtectedRead = omega arith
mode_below modes.ProtectedWrite = omega arith
mode_below modes.Exclusive = omega arith

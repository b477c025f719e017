-- `read_number`: the digits read so far have a value, and what is left to read decides.
use Prim.Native.Nat.{◌<◌, ◌^◌}
use mathlib.Core.Path.{◌≡◌}
use lib.ListN.{drop}
use Rattle.play_numbers.specs.Steps.{number_in}
use Rattle.play_numbers.proofs.Numerals.{reads as reads_on}
use Rattle.play_numbers.proofs.read_number.Given as goal

abbrev pub invariant-loop-b : goal.invariant-loop-b
invariant-loop-b l = (l.value < 10 ^ l.b-index) × (number_in l.field ≡ reads_on l.value (drop l.b-index l.field))

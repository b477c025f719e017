-- `modes::goes_with` meets its contract: the code's rows are the definition's. Assumes nothing.
use mathlib.Core.Path.{refl}
use Rattle.modes.specs.Modes.{matrix, compatible}
use Rattle.modes.proofs.goes_with.Goals as goal

pub returns : goal.returns
unfolding compatible matrix
returns c = refl

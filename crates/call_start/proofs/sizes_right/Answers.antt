use mathlib.Core.Path.{refl}
use Rattle.rules.specs.Entries.{start_accepts}
use Rattle.call_start.proofs.sizes_right.Goals as goal

pub returns : goal.returns
unfolding start_accepts
returns c = refl

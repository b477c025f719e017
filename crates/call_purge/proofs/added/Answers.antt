use mathlib.Core.Path.{refl}
use Rattle.call_purge.specs.PurgedLocks.{added}
use Rattle.call_purge.proofs.added.Goals as goal

pub returns : goal.returns
unfolding added
returns c = refl

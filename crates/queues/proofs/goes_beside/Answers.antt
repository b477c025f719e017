use Rattle.queues.proofs.ModeNumbers.{tag_is}
use Rattle.queues.proofs.HeldModes.{mode_goes}
use Rattle.queues.proofs.goes_beside.Goals as goal

pub returns : goal.returns
returns c = mode_goes _ _ _ _ c.modes_beside.ensures.0 _ (tag_is _) _ c.fits.ensures

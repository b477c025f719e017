use mathlib.Core.Bool.{not}
use mathlib.Core.Path.{ap}
use Rattle.modes.specs.Sets.{fits_set}
use Rattle.check_queues.proofs.HolderWalks.{modes_clash}
use Rattle.check_queues.proofs.grant_walk.Goals as goal

pub returns-then-not-fits_by_masks : goal.returns-then-not-fits_by_masks
returns-then-not-fits_by_masks c =
    let loop = c.loop-k in
    modes_clash _ 1 _ fits_set _ _ _ loop.invariant.1.1.1.1 c.loop-k-test.true c.if-n-met.false c.if-n-k.false
    c.stands_granted.ensures (ap not c.if-not-stands_granted.false) c.lock_word-held.ensures c.fits_by_masks.ensures (ap not c.if-not-fits_by_masks.true)

use Rattle.marks.proofs.NobodyTold.{way_laws}
use Rattle.marks.proofs.unhindered.Goals as goal

pub lock_at-l-requires : goal.lock_at-l-requires
lock_at-l-requires c = search way_laws

pub counts_at-requires : goal.counts_at-requires
counts_at-requires c = search way_laws

pub modes_of_others-requires : goal.modes_of_others-requires
modes_of_others-requires c = search way_laws

pub fits_by_masks-requires : goal.fits_by_masks-requires
fits_by_masks-requires c = search way_laws

pub returns : goal.returns
returns c = search way_laws

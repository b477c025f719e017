use Rattle.check_queues.proofs.HolderWalks.{modes_clash}
use Rattle.check_queues.proofs.tail_walk.Goals as goal

pub returns-then-not-fits_beside : goal.returns-then-not-fits_beside
returns-then-not-fits_beside c = search modes_clash

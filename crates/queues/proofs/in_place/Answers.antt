use Rattle.queues.proofs.ConversionInPlace.{placing}
use Rattle.queues.proofs.in_place.Goals as goal

pub lock_at-lock-requires : goal.lock_at-lock-requires
lock_at-lock-requires c = search placing

pub occupancy_at-requires : goal.occupancy_at-requires
occupancy_at-requires c = search placing

pub admits_conversion-requires : goal.admits_conversion-requires
admits_conversion-requires c = search placing

pub returns : goal.returns
returns c = search placing

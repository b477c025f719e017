use mathlib.Core.Bool.{not}
use mathlib.Core.Path.{ap}
use Rattle.check_tables.proofs.CheckPasses.{sound_sides, all_sound, checked}
use Rattle.check_tables.proofs.all_fine.Goals as goal

pub sides-requires : goal.sides-requires
sides-requires c = checked _ _ c.sizes_right.ensures (ap not c.if-not-sizes_right.false) (rw c.in_ok-found.was at c.homes.ensures)

pub returns-then-not-sides : goal.returns-then-not-sides
returns-then-not-sides c =
    sound_sides _ _ c.sizes_right.ensures (ap not c.if-not-sizes_right.false) c.header_fine.ensures (ap not c.if-not-header_fine.false) (rw c.in_ok-found.was at c.homes.ensures) c.sides.ensures (ap not c.if-not-sides.true)

pub returns : goal.returns
returns c =
    all_sound _ _ c.sizes_right.ensures (ap not c.if-not-sizes_right.false) c.header_fine.ensures (ap not c.if-not-header_fine.false) (rw c.in_ok-found.was at c.homes.ensures) c.sides.ensures (ap not c.if-not-sides.false)

use Rattle.deadlock_lines.proofs.LinkedLines.{lock_laws}
use Rattle.deadlock_lines.proofs.link_lock.Goals as goal

pub put_link-requires : goal.put_link-requires
put_link-requires c = search lock_laws

pub asked_of-asked-requires : goal.asked_of-asked-requires
asked_of-asked-requires c = search lock_laws

pub offset_bounds-met-asked : goal.offset_bounds-met-asked
offset_bounds-met-asked c = search lock_laws

pub bounds-met-asked : goal.bounds-met-asked
bounds-met-asked c = search lock_laws

pub shape_of-links-then-before-ge-LOOKERS : goal.shape_of-links-then-before-ge-LOOKERS
shape_of-links-then-before-ge-LOOKERS c = search lock_laws

pub returns-then-before-ge-LOOKERS : goal.returns-then-before-ge-LOOKERS
returns-then-before-ge-LOOKERS c = search lock_laws

pub overflow_add-met : goal.overflow_add-met
overflow_add-met c = search lock_laws

pub offset_bounds-met-asked-2 : goal.offset_bounds-met-asked-2
offset_bounds-met-asked-2 c = search lock_laws

pub bounds-met-asked-2 : goal.bounds-met-asked-2
bounds-met-asked-2 c = search lock_laws

pub first_bar-bar-requires : goal.first_bar-bar-requires
first_bar-bar-requires c = search lock_laws

pub put_link-requires-2 : goal.put_link-requires-2
put_link-requires-2 c = search lock_laws

pub shape_of-links : goal.shape_of-links
shape_of-links c = search lock_laws

pub returns : goal.returns
returns c = search lock_laws

use Rattle.table_chains.proofs.CellWalks.{shift_laws}
use Rattle.table_chains.proofs.Cells.shift.Goals as goal

pub returns-then-is : goal.returns-then-is
returns-then-is c = search shift_laws

pub returns-in-true-false-default : goal.returns-in-true-false-default
returns-in-true-false-default c = search shift_laws

pub returns-in-false-true-Front : goal.returns-in-false-true-Front
returns-in-false-true-Front c = search shift_laws

pub returns-in-false-true-Back : goal.returns-in-false-true-Back
returns-in-false-true-Back c = search shift_laws

pub returns-else-this : goal.returns-else-this
returns-else-this c = search shift_laws

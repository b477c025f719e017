use Rattle.marks.proofs.MarkedWords.{end_laws}
use Rattle.marks.proofs.notices_end.Goals as goal

pub lock_cells-cells-requires : goal.lock_cells-cells-requires
lock_cells-cells-requires c = search end_laws

pub holding-requires : goal.holding-requires
holding-requires c = search end_laws

pub returns : goal.returns
returns c = search end_laws

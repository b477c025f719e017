use Rattle.call_purge.proofs.WholePurge.{change_laws}
use Rattle.call_purge.proofs.purge_change.Goals as goal

pub settle_marked-requires : goal.settle_marked-requires
settle_marked-requires c = search change_laws

pub returns : goal.returns
returns c = search change_laws

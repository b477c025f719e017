use Rattle.list_walker.proofs.WalkerReads.{new_laws}
use Rattle.list_walker.proofs.Walker.new.Goals as goal

pub returns : goal.returns
returns c = search new_laws

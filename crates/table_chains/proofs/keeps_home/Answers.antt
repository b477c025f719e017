use Rattle.tables.specs.Stores.{stays}
use Rattle.table_chains.proofs.keeps_home.Goals as goal

pub returns : goal.returns
unfolding stays
returns c = cc

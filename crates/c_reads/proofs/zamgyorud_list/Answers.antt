use Rattle.c_reads.proofs.PackedReads.{list_small, list_packed}
use Rattle.c_reads.proofs.zamgyorud_list.Goals as goal

pub pack-requires : goal.pack-requires
pack-requires c = list_small _ _ _ _ _ _ _ c.list.ensures _ c.said.ensures

pub returns : goal.returns
returns c = list_packed _ _ _ _ _ _ _ c.list.ensures _ c.said.ensures _ c.pack.ensures

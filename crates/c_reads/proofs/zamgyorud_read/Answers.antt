use mathlib.Core.Path.{refl}
use Rattle.std.proofs.Common.{Ok}
use Rattle.c_reads.proofs.PackedReads.{read_small, read_refused, read_carried}
use Rattle.c_reads.proofs.zamgyorud_read.Goals as goal

pub returns-in_default : goal.returns-in_default
returns-in_default c = read_refused _ _ _ _ _ c.read-found.ensures _ c.said.ensures _ c.pack.ensures _ c.in_default.not-Ok

pub pack-requires-2 : goal.pack-requires-2
pack-requires-2 c = read_small _ _ _ _ (Ok c.in-Ok.read) c.in-Ok.ensures _ c.said-2.ensures

pub returns : goal.returns
returns c = read_carried _ _ _ _ (Ok c.in-Ok.read) c.in-Ok.ensures _ c.said-2.ensures _ c.pack-2.ensures _ _ _ refl c.put_front.ensures

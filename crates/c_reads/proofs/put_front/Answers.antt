use Rattle.c_reads.proofs.AreaFronts.{front_full, front_rest}
use Rattle.c_reads.proofs.put_front.Goals as goal

pub returns-then-room-bytes : goal.returns-then-room-bytes
returns-then-room-bytes c = front_full _ _ c.if-room-bytes.true _ c.copy_from_slice.ensures.after

pub returns : goal.returns
returns c = front_rest _ _ c.if-room-bytes.false _ c.copy_from_slice-2.ensures.after

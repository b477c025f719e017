use Rattle.call_release.proofs.RestoredLock.{restore_laws}
use Rattle.call_release.proofs.restore.Goals as goal

pub lock_at-old-requires : goal.lock_at-old-requires
lock_at-old-requires c = search restore_laws

pub restored-requires : goal.restored-requires
restored-requires c = search restore_laws

pub move_lock-requires : goal.move_lock-requires
move_lock-requires c = search restore_laws

pub sweep-requires : goal.sweep-requires
sweep-requires c = search restore_laws

pub shape_of-words : goal.shape_of-words
shape_of-words c = search restore_laws

pub returns : goal.returns
returns c = search restore_laws

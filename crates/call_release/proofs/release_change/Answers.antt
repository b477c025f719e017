use Rattle.call_release.proofs.ReleasedLock.{release_resourced, release_laws}
use Rattle.call_release.proofs.release_change.Goals as goal

pub lock_at-l-requires : goal.lock_at-l-requires
lock_at-l-requires c = search release_laws

pub leave_value-requires : goal.leave_value-requires
leave_value-requires c = search release_laws

pub free_lock-requires : goal.free_lock-requires
free_lock-requires c = search release_laws

pub settle-requires : goal.settle-requires
settle-requires c =
    release_resourced _ _ _ _ _ _
    c.lock_at-l.ensures _ _ _
    c.leave_value.ensures _
    c.free_lock.ensures
    c.requires

pub returns : goal.returns
returns c = search release_laws

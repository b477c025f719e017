use Rattle.call_request.proofs.NewLock.{enter_begins, enter_waits, enter_laws}
use Rattle.call_request.proofs.enter.Goals as goal

pub at_once-requires : goal.at_once-requires
at_once-requires c = search enter_laws

pub move_lock-requires : goal.move_lock-requires
move_lock-requires c = search enter_laws

pub returns-then-at_once : goal.returns-then-at_once
returns-then-at_once c = search enter_laws

pub move_lock-requires-2 : goal.move_lock-requires-2
move_lock-requires-2 c = search enter_laws

pub tell_obstacles-requires : goal.tell_obstacles-requires
tell_obstacles-requires c =
    enter_begins _ _ _ _ _ _ _ _ c.move_lock-2.ensures.moved c.queued.ensures c.requires

pub returns : goal.returns
returns c =
    enter_waits _ _ _ _ _ _ _ _ c.move_lock-2.ensures.moved _ c.at_once.ensures c.if-at_once.false c.queued.ensures _ c.tell_obstacles.ensures

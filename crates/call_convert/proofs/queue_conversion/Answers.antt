use Rattle.call_convert.proofs.ConversionWords.{asks_laws}
use Rattle.call_convert.proofs.queue_conversion.Goals as goal

pub lock_at-l-requires : goal.lock_at-l-requires
lock_at-l-requires c = search asks_laws

pub move_lock-requires : goal.move_lock-requires
move_lock-requires c = search asks_laws

pub tell_obstacles-requires : goal.tell_obstacles-requires
tell_obstacles-requires c = search asks_laws

pub returns : goal.returns
returns c = search asks_laws

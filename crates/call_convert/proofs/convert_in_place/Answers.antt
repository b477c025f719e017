use Rattle.call_convert.proofs.ConversionWords.{placed_laws}
use Rattle.call_convert.proofs.convert_in_place.Goals as goal

pub lock_at-l-requires : goal.lock_at-l-requires
lock_at-l-requires c = search placed_laws

pub leave_value-requires : goal.leave_value-requires
leave_value-requires c = search placed_laws

pub move_lock-requires : goal.move_lock-requires
move_lock-requires c = search placed_laws

pub sweep-requires : goal.sweep-requires
sweep-requires c = search placed_laws

pub returns : goal.returns
returns c = search placed_laws

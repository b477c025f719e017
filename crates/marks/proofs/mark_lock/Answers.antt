use Rattle.marks.proofs.MarkedWords.{mark_laws}
use Rattle.marks.proofs.mark_lock.Goals as goal

pub lock_at-l-requires : goal.lock_at-l-requires
lock_at-l-requires c = search mark_laws

pub put_lock-requires : goal.put_lock-requires
put_lock-requires c = search mark_laws

pub returns-then-is_noticed : goal.returns-then-is_noticed
returns-then-is_noticed c = search mark_laws

pub offset_bounds-words-end : goal.offset_bounds-words-end
offset_bounds-words-end c = search mark_laws

pub bounds-words-end : goal.bounds-words-end
bounds-words-end c = search mark_laws

pub put_lock-requires-2 : goal.put_lock-requires-2
put_lock-requires-2 c = search mark_laws

pub lock_start-requires : goal.lock_start-requires
lock_start-requires c = search mark_laws

pub shape_of-words : goal.shape_of-words
shape_of-words c = search mark_laws

pub returns : goal.returns
returns c = search mark_laws

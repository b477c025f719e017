use Rattle.call_refusals.proofs.RequestRoom.{room_longer, room_none, room_long, room_locks, room_new, room_queues, room_resourced, room_at_once, room_blocks}
use Rattle.call_refusals.proofs.room_refusal.Goals as goal

pub bounds-words-2 : goal.bounds-words-2
bounds-words-2 c = search room_longer

pub returns-then-is_none-words : goal.returns-then-is_none-words
returns-then-is_none-words c = search room_none

pub bounds-words-3 : goal.bounds-words-3
bounds-words-3 c = search room_long

pub returns-then-words-eq0 : goal.returns-then-words-eq0
returns-then-words-eq0 c = search room_locks

pub returns-in_default : goal.returns-in_default
returns-in_default c = search room_new

pub returns-then-not-no_queue : goal.returns-then-not-no_queue
returns-then-not-no_queue c = search room_queues

pub granted_at_once-requires : goal.granted_at_once-requires
granted_at_once-requires c = search room_resourced

pub returns-then-granted_at_once : goal.returns-then-granted_at_once
returns-then-granted_at_once c = search room_at_once

pub returns : goal.returns
returns c = search room_blocks

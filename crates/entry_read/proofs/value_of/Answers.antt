use Rattle.entry_read.proofs.ReadValue.{placed_resource, placed_slot, placing}
use Rattle.entry_read.proofs.value_of.Goals as goal

pub lock_word-r-requires : goal.lock_word-r-requires
lock_word-r-requires c = search placing

pub value_at-requires : goal.value_at-requires
value_at-requires c = placed_slot _ _ _ _ c.lock_word-r.ensures c.requires

pub resource_word-requires : goal.resource_word-requires
resource_word-requires c = let there = placed_resource _ _ _ _ c.lock_word-r.ensures c.requires in search placing

pub returns : goal.returns
returns c = search placing

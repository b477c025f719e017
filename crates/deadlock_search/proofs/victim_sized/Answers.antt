use Rattle.deadlock_search.proofs.FirstVictim.{free_room}
use Rattle.deadlock_search.proofs.victim_sized.Goals as goal

pub victim_in-requires : goal.victim_in-requires
victim_in-requires g c = free_room _ _ c.requires.free c.requires.rows

use Rattle.deadlock_search.proofs.FirstVictim.{room_laws, room_owners, room_prunes, room_ready, all_free}
use Rattle.std.proofs.Common.{rules, arith}
use Rattle.deadlock_search.proofs.victim_in.Goals as goal

pub link_lines-requires : goal.link_lines-requires
link_lines-requires c = search room_laws

pub number_owners-requires : goal.number_owners-requires
number_owners-requires c = room_owners c.requires c.link_lines.ensures

pub clear_ends-left-requires : goal.clear_ends-left-requires
clear_ends-left-requires c = room_prunes c.requires c.link_lines.ensures (search rules) c.number_owners.ensures

pub returns-then-left-eq0 : goal.returns-then-left-eq0
returns-then-left-eq0 c = all_free c.clear_ends-left.ensures c.if-left-eq0.true

pub first_on_cycle-requires-clause-ready : goal.first_on_cycle-requires-clause-ready
first_on_cycle-requires-clause-ready c = room_ready c.requires c.link_lines.ensures (search rules) c.number_owners.ensures c.clear_ends-left.ensures

pub first_on_cycle-requires-clause-heads_len : goal.first_on_cycle-requires-clause-heads_len
first_on_cycle-requires-clause-heads_len c = omega (arith, c.requires.same)

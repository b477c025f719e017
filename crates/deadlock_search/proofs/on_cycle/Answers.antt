use Rattle.deadlock_search.proofs.FirstVictim.{cycle_laws, cycle_searches, cycle_known}
use Rattle.deadlock_search.proofs.on_cycle.Goals as goal

pub bounds-cleared-a : goal.bounds-cleared-a
bounds-cleared-a c = search cycle_laws

pub returns-then-cleared-a : goal.returns-then-cleared-a
returns-then-cleared-a c = search cycle_laws

pub search-requires : goal.search-requires
search-requires c = cycle_searches c.requires.trying c.if-cleared-a.false c.copy_numbers.ensures

pub returns : goal.returns
returns c = cycle_known c.requires.trying c.if-cleared-a.false c.search.ensures

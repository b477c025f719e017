use Rattle.deadlock_prune.proofs.FrontPasses.{free_laws, front_clears}
use Rattle.deadlock_prune.proofs.clear_if_free.Goals as goal

pub bounds-cleared-k : goal.bounds-cleared-k
bounds-cleared-k c = search free_laws

pub returns-then-cleared-k : goal.returns-then-cleared-k
returns-then-cleared-k c = search free_laws

pub link-ahead-requires : goal.link-ahead-requires
link-ahead-requires c = search free_laws

pub overflow_cast-ahead : goal.overflow_cast-ahead
overflow_cast-ahead c = search free_laws

pub bounds-cleared-ahead : goal.bounds-cleared-ahead
bounds-cleared-ahead c = search free_laws

pub returns-then-ahead-cleared : goal.returns-then-ahead-cleared
returns-then-ahead-cleared c = search free_laws

pub hindered-requires : goal.hindered-requires
hindered-requires c = search free_laws

pub returns-then-hindered : goal.returns-then-hindered
returns-then-hindered c = search free_laws

pub bounds-cleared-k-2 : goal.bounds-cleared-k-2
bounds-cleared-k-2 c = search free_laws

pub returns : goal.returns
returns c =
    let p = c.requires in
    front_clears p.front_pass p.blocked c.if-cleared-k.false c.link-ahead.ensures c.if-ahead-cleared.false c.hindered.ensures c.if-hindered.false

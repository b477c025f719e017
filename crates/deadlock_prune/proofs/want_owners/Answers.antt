use Rattle.deadlock_prune.proofs.WantedOwners.{wanting_laws, wanting_row}
use Rattle.deadlock_prune.proofs.want_owners.Goals as goal

pub bounds-cleared-k : goal.bounds-cleared-k
bounds-cleared-k c = search wanting_laws

pub returns-then-cleared-k : goal.returns-then-cleared-k
returns-then-cleared-k c = search wanting_laws

pub link-j-requires : goal.link-j-requires
link-j-requires c = search wanting_laws

pub loop-j-init : goal.loop-j-init
loop-j-init c = search wanting_laws

pub want_owner-requires : goal.want_owner-requires
want_owner-requires c = search wanting_laws

pub link-j-requires-in-loop-j-clause-field_in_bounds : goal.link-j-requires-in-loop-j-clause-field_in_bounds
link-j-requires-in-loop-j-clause-field_in_bounds c = search wanting_row

pub loop-j-smaller : goal.loop-j-smaller
loop-j-smaller c = search wanting_laws

pub loop-j-preserved : goal.loop-j-preserved
loop-j-preserved c = search wanting_laws

pub returns : goal.returns
returns c = search wanting_laws

use Rattle.deadlock_owners.proofs.NumberedHolders.{holders_laws}
use Rattle.deadlock_owners.proofs.number_holders.Goals as goal

pub first_holder-j-requires : goal.first_holder-j-requires
first_holder-j-requires c = search holders_laws

pub loop-j-init : goal.loop-j-init
loop-j-init c = search holders_laws

pub find_owner-number-requires : goal.find_owner-number-requires
find_owner-number-requires c = search holders_laws

pub put_link-requires : goal.put_link-requires
put_link-requires c = search holders_laws

pub append-last-requires : goal.append-last-requires
append-last-requires c = search holders_laws

pub next_holder-j-requires : goal.next_holder-j-requires
next_holder-j-requires c = search holders_laws

pub loop-j-smaller : goal.loop-j-smaller
loop-j-smaller c = search holders_laws

pub loop-j-preserved : goal.loop-j-preserved
loop-j-preserved c = search holders_laws

pub put_link-requires-2 : goal.put_link-requires-2
put_link-requires-2 c = search holders_laws

pub shape_of-links : goal.shape_of-links
shape_of-links c = search holders_laws

pub returns : goal.returns
returns c = search holders_laws

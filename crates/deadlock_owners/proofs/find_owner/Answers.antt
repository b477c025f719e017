use Rattle.deadlock_owners.proofs.ListedOwners.{find_laws, finding_place}
use borrow.Author.Rules.{rules}
use Rattle.deadlock_owners.proofs.find_owner.Goals as goal

pub owner_of-owner-requires : goal.owner_of-owner-requires
owner_of-owner-requires c = search find_laws

pub offset_bounds-lists-owner : goal.offset_bounds-lists-owner
offset_bounds-lists-owner c = search find_laws

pub bounds-lists-owner : goal.bounds-lists-owner
bounds-lists-owner c = search find_laws

pub loop-k-init : goal.loop-k-init
loop-k-init c = search find_laws

pub owner_of-requires : goal.owner_of-requires
owner_of-requires c = search find_laws

pub returns-then-owner_of-owner : goal.returns-then-owner_of-owner
returns-then-owner_of-owner c = search find_laws

pub overflow_cast-k : goal.overflow_cast-k
overflow_cast-k c = search find_laws

pub offset_bounds-others-k : goal.offset_bounds-others-k
offset_bounds-others-k c = search find_laws

pub bounds-others-k : goal.bounds-others-k
bounds-others-k c =
    let inside = finding_place c.loop-k.invariant c.loop-k-test.true in
    search rules

pub loop-k-smaller : goal.loop-k-smaller
loop-k-smaller c = search find_laws

pub loop-k-preserved : goal.loop-k-preserved
loop-k-preserved c = search find_laws

pub returns : goal.returns
returns c = search find_laws

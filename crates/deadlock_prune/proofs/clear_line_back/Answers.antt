use Rattle.deadlock_prune.proofs.BackPasses.{backing_laws}
use Rattle.deadlock_prune.proofs.clear_line_back.Goals as goal

pub loop-k-init : goal.loop-k-init
loop-k-init c = search backing_laws

pub overflow_cast-k : goal.overflow_cast-k
overflow_cast-k c = search backing_laws

pub bounds-cleared-k : goal.bounds-cleared-k
bounds-cleared-k c = search backing_laws

pub returns-then-cleared-k : goal.returns-then-cleared-k
returns-then-cleared-k c = search backing_laws

pub link-owner-requires : goal.link-owner-requires
link-owner-requires c = search backing_laws

pub overflow_cast-owner : goal.overflow_cast-owner
overflow_cast-owner c = search backing_laws

pub bounds-wanted-owner : goal.bounds-wanted-owner
bounds-wanted-owner c = search backing_laws

pub returns-then-wanted-owner : goal.returns-then-wanted-owner
returns-then-wanted-owner c = search backing_laws

pub overflow_cast-cleared : goal.overflow_cast-cleared
overflow_cast-cleared c = search backing_laws

pub bounds-cleared-k-in-loop-k : goal.bounds-cleared-k-in-loop-k
bounds-cleared-k-in-loop-k c = search backing_laws

pub link-k-requires : goal.link-k-requires
link-k-requires c = search backing_laws

pub loop-k-smaller : goal.loop-k-smaller
loop-k-smaller c = search backing_laws

pub loop-k-preserved : goal.loop-k-preserved
loop-k-preserved c = search backing_laws

pub returns : goal.returns
returns c = search backing_laws

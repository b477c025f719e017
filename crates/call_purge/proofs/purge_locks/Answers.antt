use native.Mathlib.Omega.{arith}
use borrow.Author.Rules.{rules}
use Rattle.call_purge.proofs.ClientLocks.{lent_sized, purged_few, purge_again, purges_laws}
use Rattle.call_purge.proofs.purge_locks.Goals as goal

pub lock_count-k-end-requires : goal.lock_count-k-end-requires
lock_count-k-end-requires c = search purges_laws

pub overflow_add-k-end : goal.overflow_add-k-end
overflow_add-k-end c = record { fits = omega (arith, (lent_sized _ _ c.requires.some_tables).few_locks) }

pub loop-k-init : goal.loop-k-init
loop-k-init c = search purges_laws

pub added-counts-requires-clause-few_2 : goal.added-counts-requires-clause-few_2
added-counts-requires-clause-few_2 c = purged_few _ _ _ _ _ _ _ _ _ c.loop-k.invariant (omega arith) _ _ _ _ c.purge_own-own.ensures

pub loop-k-preserved : goal.loop-k-preserved
loop-k-preserved c =
    purge_again _ _ _ _ _ _ _ _ _ c.loop-k.invariant (omega arith) _ _ _ _ c.purge_own-own.ensures _ (search rules) c.added-counts.ensures

pub returns : goal.returns
returns c = search purges_laws

use native.Mathlib.Omega.{arith}
use Rattle.call_purge.proofs.ClientLocks.{lent_sized}
use Rattle.call_purge.proofs.MarkedResources.{settle_resourced, settle_place, settle_again, settles_laws}
use Rattle.call_purge.proofs.settle_marked.Goals as goal

pub resource_count-r-end-requires : goal.resource_count-r-end-requires
resource_count-r-end-requires c = search settles_laws

pub overflow_add-r-end : goal.overflow_add-r-end
overflow_add-r-end c = record { fits = omega (arith, (lent_sized _ _ c.requires.some_tables).few_resources) }

pub loop-r-init : goal.loop-r-init
loop-r-init c = search settles_laws

pub settle_if_marked-requires-clause-some_tables : goal.settle_if_marked-requires-clause-some_tables
settle_if_marked-requires-clause-some_tables c = settle_resourced _ _ _ _ _ _ c.loop-r.invariant (omega arith)

pub settle_if_marked-requires-clause-r_in_bounds : goal.settle_if_marked-requires-clause-r_in_bounds
settle_if_marked-requires-clause-r_in_bounds c = settle_place _ _ _ _ _ _ c.loop-r.invariant (omega arith)

pub loop-r-preserved : goal.loop-r-preserved
loop-r-preserved c = settle_again _ _ _ _ _ _ c.loop-r.invariant (omega arith) _ _ c.settle_if_marked.ensures

pub returns : goal.returns
returns c = search settles_laws

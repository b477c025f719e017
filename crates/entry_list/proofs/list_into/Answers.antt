use native.Mathlib.Omega.{arith}
use Rattle.entry_list.proofs.FilledList.{filling_starts, filling_queued, filling_few, filling_small, filling_full, filling_goes, filling_ends}
use Rattle.entry_list.proofs.list_into.Goals.{then-count-entries, else-count-entries}
use Rattle.entry_list.proofs.list_into.Goals as goal

pub loop-k-init : goal.loop-k-init
loop-k-init c = rw c.into_iter-k-iterator.ensures.into_iter_gives (filling_starts _ _ _ _ c.requires c.new-k-items.ensures)

pub entry_of-requires : goal.entry_of-requires
entry_of-requires c = filling_queued _ _ _ _ _ _ c.loop-k.invariant _ _ c.in-Some.ensures.steps

pub overflow_add-count : goal.overflow_add-count
overflow_add-count c = omega (arith, filling_few _ _ _ _ _ _ c.loop-k.invariant _ _ c.in-Some.ensures.steps)

pub loop-k-preserved : goal.loop-k-preserved
loop-k-preserved c =
    elim c.if-count-entries.branch [
      | then-count-entries w ↦ filling_goes _ _ _ _ _ _ c.loop-k.invariant _ _ c.in-Some.ensures.steps _ _ w.entries-is (omega (arith, c.loop-k.auto.entries, w.if-count-entries.true)) w.entry_of.ensures
      | else-count-entries w ↦ filling_full _ _ _ _ _ _ c.loop-k.invariant _ _ c.in-Some.ensures.steps _ w.entries-is (omega (arith, c.loop-k.auto.entries, w.if-count-entries.false))
    ]

pub overflow_cast-result : goal.overflow_cast-result
overflow_cast-result c = omega (arith, filling_small _ _ _ _ _ _ c.loop-k.invariant)

pub returns : goal.returns
returns c = filling_ends _ _ _ _ _ _ c.loop-k.invariant _ c.in-None.ensures.steps

use Rattle.call_refusals.proofs.Arguments.{conversion_refused, conversion_queues, conversion_held, conversion_placed, conversion_blocks}
use Rattle.call_refusals.proofs.conversion_refusal.Goals as goal

pub returns-in_err-granted_refusal : goal.returns-in_err-granted_refusal
returns-in_err-granted_refusal c = search (conversion_refused, c.in_err-granted_refusal.ensures)

pub returns-then-not-no_queue : goal.returns-then-not-no_queue
returns-then-not-no_queue c = search (conversion_queues, c.in_ok-granted_refusal.ensures)

pub in_place-requires : goal.in_place-requires
in_place-requires c = search (conversion_held, c.in_ok-granted_refusal.ensures)

pub returns-then-in_place : goal.returns-then-in_place
returns-then-in_place c = search (conversion_placed, c.in_ok-granted_refusal.ensures)

pub returns : goal.returns
returns c = search (conversion_blocks, c.in_ok-granted_refusal.ensures)

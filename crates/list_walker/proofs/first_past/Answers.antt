use Rattle.list_walker.proofs.WalkerReads.{past_laws}
use Rattle.list_walker.proofs.first_past.Goals as goal

pub resource_word-granted-requires : goal.resource_word-granted-requires
resource_word-granted-requires c = search past_laws

pub returns-then-state-granted : goal.returns-then-state-granted
returns-then-state-granted c = search past_laws

pub resource_word-converting-requires : goal.resource_word-converting-requires
resource_word-converting-requires c = search past_laws

pub returns-then-state-converting : goal.returns-then-state-converting
returns-then-state-converting c = search past_laws

pub resource_word-requires : goal.resource_word-requires
resource_word-requires c = search past_laws

pub returns-then-state-lt-STATE_WAITING : goal.returns-then-state-lt-STATE_WAITING
returns-then-state-lt-STATE_WAITING c = search past_laws

pub returns : goal.returns
returns c = search past_laws

use Rattle.call_refusals.proofs.LockRefusals.{client_passes, client_wrong}
use Rattle.call_refusals.proofs.client_refusal.Goals as goal

pub returns-then-client_right : goal.returns-then-client_right
returns-then-client_right c = search client_passes

pub returns : goal.returns
returns c = search client_wrong

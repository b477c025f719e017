use Rattle.queues.proofs.Decisions.{request_told}
use Rattle.queues.proofs.granted_at_once.Goals as goal

pub returns : goal.returns
returns c = request_told _ _ _ _ c.occupancy_at.ensures _ c.admits_request.ensures

use Rattle.call_refusals.proofs.AskedModes.{asked_is}
use Rattle.call_refusals.proofs.asked_mode.Goals as goal

pub returns : goal.returns
returns c = asked_is _ _ _ c.from_number.ensures c.ok_or.ensures.value

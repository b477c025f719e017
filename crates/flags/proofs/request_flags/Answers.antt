use Rattle.rules.specs.Calls.{request_flags}
use Rattle.flags.proofs.request_flags.Goals as goal

pub returns : goal.returns
unfolding request_flags
returns c = cc

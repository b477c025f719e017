use Rattle.rules.specs.Calls.{release_flags}
use Rattle.flags.proofs.release_flags.Goals as goal

pub returns : goal.returns
unfolding release_flags
returns c = cc

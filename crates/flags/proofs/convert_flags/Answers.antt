use Rattle.rules.specs.Calls.{convert_flags}
use Rattle.flags.proofs.convert_flags.Goals as goal

pub returns : goal.returns
unfolding convert_flags
returns c = cc

use Rattle.rules.specs.Calls.{name_right}
use Rattle.call_arguments.proofs.name_right.Goals as goal

pub returns : goal.returns
unfolding name_right
returns c = cc

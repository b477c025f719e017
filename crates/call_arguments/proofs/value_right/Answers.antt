use Rattle.rules.specs.Calls.{value_right}
use Rattle.call_arguments.proofs.value_right.Goals as goal

pub returns : goal.returns
unfolding value_right
returns c = cc

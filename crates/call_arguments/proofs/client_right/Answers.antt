use Rattle.tables.specs.Sound.{client_right}
use Rattle.call_arguments.proofs.client_right.Goals as goal

pub returns : goal.returns
unfolding client_right
returns c = cc

use Rattle.rules.specs.Calls.{no_queue}
use Rattle.flags.proofs.no_queue.Goals as goal

pub returns : goal.returns
unfolding no_queue
returns c = cc

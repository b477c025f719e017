use Rattle.check_names.proofs.NameNumbers.{weigh_loop}
use Rattle.check_names.proofs.weigh.Goals as goal

pub loop-i-preserved : goal.loop-i-preserved
loop-i-preserved c = (search weigh_loop, search weigh_loop)

use Rattle.check_names.proofs.NewNames.{left_loop}
use Rattle.check_names.proofs.by_number.Goals as goal

pub loop-r-init : goal.loop-r-init
loop-r-init c = search left_loop

pub returns-then-not-add : goal.returns-then-not-add
returns-then-not-add c = search left_loop

pub loop-r-preserved : goal.loop-r-preserved
loop-r-preserved c = search left_loop

pub returns : goal.returns
returns c = search left_loop

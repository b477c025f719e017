-- `next_number`: the place of the space, and the number before it.
use Rattle.play_numbers.proofs.FirstSpace.{next_none, next_wrong, next_right}
use Rattle.play_numbers.proofs.Fields.next_number.Goals as goal

pub returns-in_err-end-clause-is : goal.returns-in_err-end-clause-is
returns-in_err-end-clause-is c = rw c.from_residual.ensures (next_none c.args.self.now.rest.now c.first_space.ensures c.in_err-end.was)

pub returns-in_err-number-clause-is : goal.returns-in_err-number-clause-is
returns-in_err-number-clause-is c =
    rw c.from_residual-in_err-number.ensures
    (next_wrong c.args.self.now.rest.now c.first_space.ensures c.in_ok-end.was c.read_number.ensures c.in_err-number.was)

pub returns-clause-is : goal.returns-clause-is
returns-clause-is c = next_right c.args.self.now.rest.now c.first_space.ensures c.in_ok-end.was c.read_number.ensures c.in_ok-number.was

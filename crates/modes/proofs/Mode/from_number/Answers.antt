-- Each arm's number is its mode's, and past them the number is above 5. Assumes nothing.
use native.Mathlib.Omega.{arith}
use Rattle.modes.proofs.Laws.{makes, refuses}
use Rattle.modes.proofs.Mode.from_number.Goals as goal

pub returns-in-0 : goal.returns-in-0
returns-in-0 c = makes _ _ c.in-0.is (omega arith)

pub returns-in-1 : goal.returns-in-1
returns-in-1 c = makes _ _ c.in-1.is (omega arith)

pub returns-in-2 : goal.returns-in-2
returns-in-2 c = makes _ _ c.in-2.is (omega arith)

pub returns-in-3 : goal.returns-in-3
returns-in-3 c = makes _ _ c.in-3.is (omega arith)

pub returns-in-4 : goal.returns-in-4
returns-in-4 c = makes _ _ c.in-4.is (omega arith)

pub returns-in-5 : goal.returns-in-5
returns-in-5 c = makes _ _ c.in-5.is (omega arith)

pub returns-in_default : goal.returns-in_default
returns-in_default c = refuses _ (omega arith)

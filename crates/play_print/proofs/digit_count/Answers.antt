use native.Mathlib.Omega.{arith}
use borrow.Author.Rules.{rules}
use Rattle.play_print.proofs.Digits.{decimal_ten, decimal_longer, decimal_short}
use Rattle.play_print.proofs.digit_count.Goals as goal

pub loop-m-init : goal.loop-m-init
loop-m-init c = (omega arith, decimal_ten c.args.n (search rules))

pub loop-m-preserved : goal.loop-m-preserved
loop-m-preserved c = (omega (arith, decimal_longer c.loop-m.m c.loop-m-test.true), c.loop-m.invariant.1)

pub returns : goal.returns
returns c = (omega (arith, decimal_short c.loop-m.m c.loop-m-test.false), omega (arith, decimal_short c.loop-m.m c.loop-m-test.false))

use native.Mathlib.Omega.{arith}
use Rattle.play_print.proofs.BufferWrites.{writes_some, writes_next, writes_end}
use Rattle.play_print.proofs.put_number.Goals as goal

pub overflow_sub-k : goal.overflow_sub-k
overflow_sub-k c = writes_some _ _ _ _ _ _ c.loop-m.invariant

pub loop-m-preserved : goal.loop-m-preserved
loop-m-preserved c = writes_next _ _ _ _ _ _ c.loop-m.invariant c.last_digit-d.result c.loop-m-test.true c.last_digit-d.ensures

pub returns : goal.returns
returns c = (writes_end _ _ _ _ _ _ c.loop-m.invariant c.last_digit.result c.digit_count.result c.loop-m-test.false c.last_digit.ensures c.digit_count.ensures.0 (omega arith), omega arith)

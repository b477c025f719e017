use native.Mathlib.Omega.{arith}
use Rattle.play_numbers.proofs.Numerals.{reads_refused, reads_start, digits_small}
use Rattle.play_numbers.proofs.read_number.Goals as goal

pub returns-then-is_empty : goal.returns-then-is_empty
returns-then-is_empty c = reads_refused _ c.is_empty.ensures c.then-is_empty.either (omega arith)

pub loop-b-init : goal.loop-b-init
loop-b-init c = (omega arith, reads_start _ c.is_empty.ensures c.if-is_empty.false c.if-field-gt-MOST_DIGITS.false)

pub overflow_mul-value : goal.overflow_mul-value
overflow_mul-value c = let l = c.loop-b in omega (arith, digits_small l.value l.b-index _ l.invariant.0 c.loop-b-test.true c.if-field-gt-MOST_DIGITS.false)

pub overflow_add-value : goal.overflow_add-value
overflow_add-value c = let l = c.loop-b in omega (arith, digits_small l.value l.b-index _ l.invariant.0 c.loop-b-test.true c.if-field-gt-MOST_DIGITS.false)

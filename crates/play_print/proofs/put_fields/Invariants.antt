-- `put_fields`: each turn writes one number more.
use Rattle.play_print.proofs.BufferWrites.{WritesFields}
use Rattle.play_print.proofs.put_fields.Given as goal

abbrev pub invariant-loop-n : goal.invariant-loop-n
invariant-loop-n l = WritesFields l.initial.out l.at l.numbers l.fields l.out l.a l.n-iterator.iter.rest.now l.n-iterator.n

-- `put_number`: each turn writes the last digit of what is left to write.
use Rattle.play_print.proofs.BufferWrites.{Writes}
use Rattle.play_print.proofs.put_number.Given as goal

abbrev pub invariant-loop-m : goal.invariant-loop-m
invariant-loop-m l = Writes l.initial.out l.at l.n l.out l.m l.k

abbrev pub decreases-loop-m : goal.decreases-loop-m
decreases-loop-m l = l.m

use mathlib.Core.Path.{◌≡◌}
use Rattle.deadlock_owners.proofs.NumberedLocks.{NumberedTo}
use Rattle.deadlock_owners.proofs.number_blocked.Given as goal

abbrev pub invariant-loop-k : goal.invariant-loop-k
invariant-loop-k l = record { same : l.k-iterator.words.now ≡ l.words; at : NumberedTo l.words l.initial.lists l.initial.others l.initial.links l.initial.heads l.lists l.others l.links l.heads l.k-iterator.next }

use mathlib.Core.Path.{◌≡◌}
use Rattle.deadlock_prune.proofs.LocksLeft.{Counting}
use Rattle.deadlock_prune.proofs.count_left.Given as goal

abbrev pub invariant-loop-k : goal.invariant-loop-k
invariant-loop-k l = record { same : l.k-iterator.words.now ≡ l.words; at : Counting l.words l.cleared l.n l.k-iterator.next }

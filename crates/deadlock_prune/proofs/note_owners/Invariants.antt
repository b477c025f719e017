use mathlib.Core.Path.{◌≡◌}
use Rattle.deadlock_prune.proofs.FreeLines.{NotedBefore}
use Rattle.deadlock_prune.proofs.note_owners.Given as goal

abbrev pub invariant-loop-k : goal.invariant-loop-k
invariant-loop-k l = record { same : l.k-iterator.words.now ≡ l.words; at : NotedBefore l.words l.initial.filter l.filter l.k-iterator.next }

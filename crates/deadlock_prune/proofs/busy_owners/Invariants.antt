use mathlib.Core.Path.{◌≡◌}
use Rattle.deadlock_prune.proofs.FrontPasses.{BusyBefore}
use Rattle.deadlock_prune.proofs.busy_owners.Given as goal

abbrev pub invariant-loop-k : goal.invariant-loop-k
invariant-loop-k l = record { same : l.k-iterator.words.now ≡ l.words; at : BusyBefore l.words l.links l.cleared l.busy l.k-iterator.next }

use mathlib.Core.Path.{◌≡◌}
use Rattle.deadlock_prune.proofs.WantedOwners.{WantedBefore}
use Rattle.deadlock_prune.proofs.wanted_owners.Given as goal

abbrev pub invariant-loop-k : goal.invariant-loop-k
invariant-loop-k l = record { same : l.k-iterator.words.now ≡ l.words; at : WantedBefore l.words l.links l.cleared l.wanted l.k-iterator.next }

use mathlib.Core.Path.{◌≡◌}
use Rattle.deadlock_prune.proofs.FrontPasses.{FrontAt}
use Rattle.deadlock_prune.proofs.clear_front.Given as goal

abbrev pub invariant-loop-k : goal.invariant-loop-k
invariant-loop-k l = record { same : l.k-iterator.words.now ≡ l.words; at : FrontAt l.words l.links l.busy l.initial.cleared l.cleared l.more l.k-iterator.next }

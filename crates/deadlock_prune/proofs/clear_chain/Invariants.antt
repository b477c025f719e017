use mathlib.Core.Path.{◌≡◌}
use Rattle.deadlock_prune.proofs.FreeLines.{ChainAt}
use Rattle.deadlock_prune.proofs.clear_chain.Given as goal

abbrev pub invariant-loop-k : goal.invariant-loop-k
invariant-loop-k l = record { same : l.k-iterator.words.now ≡ l.words; at : ChainAt l.words l.initial.cleared l.cleared l.first l.k-iterator.next }

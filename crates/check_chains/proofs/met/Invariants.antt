-- what was met, and what follows on the chain from there on, is the whole; within a run there is something left
use Prim.Native.Nat.{◌≤◌}
use mathlib.Core.Path.{◌≡◌}
use Rattle.tables.specs.Layout.{lock_link}
use Rattle.check_chains.specs.Walks.{steps_left, belongs_on, locks_met}
use Rattle.check_chains.proofs.met.Given as goal

abbrev pub invariant-loop-left : goal.invariant-loop-left
invariant-loop-left l = (l.left ≤ l.initial.left) × (l.k ≡ 0 → ⊥) × ((l.left ≤ l.n) × (locks_met l.words l.chain l.field l.first ≡ steps_left (lock_link l.words l.field) (belongs_on l.words l.chain) l.n l.left l.k))

abbrev pub decreases-loop-left : goal.decreases-loop-left
decreases-loop-left l = l.left

abbrev pub invariant-loop-k : goal.invariant-loop-k
invariant-loop-k l = (l.left ≤ l.n) × (locks_met l.words l.chain l.field l.first ≡ steps_left (lock_link l.words l.field) (belongs_on l.words l.chain) l.n l.left l.k)

abbrev pub decreases-loop-k : goal.decreases-loop-k
decreases-loop-k l = l.left

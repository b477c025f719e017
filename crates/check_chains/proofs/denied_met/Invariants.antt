-- what was met, and what follows on the chain from there on, is the whole
use Prim.Native.Nat.{◌≤◌}
use mathlib.Core.Path.{◌≡◌}
use Rattle.tables.specs.Layout.{of_header, word_in, lock_link}
use Rattle.check_laws.specs.Check.{stands, home_steps}
use Rattle.check_chains.specs.Walks.{steps_left}
use Rattle.check_chains.proofs.denied_met.Given as goal

abbrev pub invariant-loop-k : goal.invariant-loop-k
invariant-loop-k l = (l.left ≤ l.n) × (home_steps l.words 4 0 (word_in l.words (of_header 4)) ≡ steps_left (lock_link l.words 0) (stands l.words 4 0) l.n l.left l.k)

abbrev pub decreases-loop-k : goal.decreases-loop-k
decreases-loop-k l = l.left

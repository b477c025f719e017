-- what was met, and what follows on the chain from there on, is the whole; within a run there is something left
use Prim.Native.Nat.{◌≤◌}
use mathlib.Core.Path.{◌≡◌}
use mathlib.Core.Bool.{not}
use Rattle.tables.specs.Layout.{of_resource, word_in}
use Rattle.table_names.specs.Names.{named}
use Rattle.check_chains.specs.Walks.{steps_left, free_met}
use Rattle.check_chains.proofs.free_met.Given as goal

abbrev pub invariant-loop-left : goal.invariant-loop-left
invariant-loop-left l = (l.left ≤ l.initial.left) × (l.r ≡ 0 → ⊥) × ((l.left ≤ l.n) × (free_met l.words ≡ steps_left (λ j. word_in l.words (of_resource j 0)) (λ j. not (named l.words j)) l.n l.left l.r))

abbrev pub decreases-loop-left : goal.decreases-loop-left
decreases-loop-left l = l.left

abbrev pub invariant-loop-r : goal.invariant-loop-r
invariant-loop-r l = (l.left ≤ l.n) × (free_met l.words ≡ steps_left (λ j. word_in l.words (of_resource j 0)) (λ j. not (named l.words j)) l.n l.left l.r)

abbrev pub decreases-loop-r : goal.decreases-loop-r
decreases-loop-r l = l.left

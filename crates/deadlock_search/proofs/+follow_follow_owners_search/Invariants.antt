-- `search` at a depth calls the others at the same depth, and `follow` calls `search` at one less.
use Rattle.std.proofs.Common.{◌+◌, ◌*◌}
use Rattle.deadlock_graph.specs.Promises.{seen}
use Rattle.deadlock_graph.specs.Marks.{unmarked}
use Rattle.deadlock_search.proofs.SearchSteps.{Turning}
use Rattle.deadlock_search.proofs.+follow_follow_owners_search.Given as goal

abbrev pub decreases-follow : goal.decreases-follow
decreases-follow l = 3 * l.depth

abbrev pub decreases-follow_owners : goal.decreases-follow_owners
decreases-follow_owners l = 3 * l.depth + 1

abbrev pub decreases-search : goal.decreases-search
decreases-search l = 3 * l.depth + 2

abbrev pub invariant-follow_owners-loop-j : goal.invariant-follow_owners-loop-j
invariant-follow_owners-loop-j l = Turning l.words l.links l.from l.target l.depth l.initial.heads l.initial.marks l.heads l.marks l.at

abbrev pub decreases-follow_owners-loop-j : goal.decreases-follow_owners-loop-j
decreases-follow_owners-loop-j l = unmarked (seen l.words).blocked l.marks

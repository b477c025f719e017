use Rattle.deadlock_prune.proofs.BackPasses.{Backs}
use Prim.Native.Nat.{◌+◌}
use Rattle.tables.specs.Lists.{bit}
use Rattle.deadlock_graph.specs.Promises.{seen}
use Rattle.deadlock_graph.specs.Marks.{unmarked}
use Rattle.deadlock_prune.proofs.clear_from_back.Given as goal

abbrev pub invariant-loop-more : goal.invariant-loop-more
invariant-loop-more l = Backs l.words l.links l.initial.lasts l.lasts l.cleared

abbrev pub decreases-loop-more : goal.decreases-loop-more
decreases-loop-more l = unmarked (seen l.words).blocked l.cleared + bit l.more

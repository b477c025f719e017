use Rattle.deadlock_prune.proofs.BackPasses.{BackAt}
use Rattle.deadlock_prune.proofs.clear_back.Given as goal

abbrev pub invariant-loop-r : goal.invariant-loop-r
invariant-loop-r l = BackAt l.words l.links l.initial.lasts l.lasts l.wanted l.initial.cleared l.cleared l.more l.r

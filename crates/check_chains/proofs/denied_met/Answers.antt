use borrow.Author.Rules.{rules}
use Rattle.check_chains.proofs.ChainWalk.{walk_loop}
use Rattle.check_chains.proofs.denied_met.Goals as goal

pub loop-k-preserved : goal.loop-k-preserved
loop-k-preserved c = search (rules, walk_loop)

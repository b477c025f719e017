use native.Mathlib.Omega.{arith}
use borrow.Author.Rules.{rules}
use Rattle.check_chains.proofs.ChainWalk.{walk_loop}
use Rattle.check_chains.proofs.met.Goals as goal

pub loop-k-preserved : goal.loop-k-preserved
loop-k-preserved c = search (rules, walk_loop)

pub loop-left-preserved : goal.loop-left-preserved
loop-left-preserved c = (omega arith, (λ e. omega arith), (omega arith, rw (← c.if-next-beside.false) (search (rules, walk_loop))))

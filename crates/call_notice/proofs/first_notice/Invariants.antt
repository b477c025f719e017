use lib.ListN.{length}
use Rattle.tables.specs.Layout.{onward}
use Rattle.table_chains.proofs.ChainWalks.{Seeking}
use Rattle.call_notice.proofs.first_notice.Given as goal

abbrev pub invariant-loop-k : goal.invariant-loop-k
invariant-loop-k l = Seeking l.words 2 4 l.client l.initial.k l.k

abbrev pub decreases-loop-k : goal.decreases-loop-k
decreases-loop-k l = length (onward l.words 2 l.k)

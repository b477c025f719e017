use lib.ListN.{length}
use Rattle.tables.specs.Layout.{onward}
use Rattle.rules.specs.Images.{image_words, ex}
use Rattle.table_chains.proofs.ChainWalks.{Seeking}
use Rattle.entry_holder.proofs.Image.ex_from.Given as goal

abbrev pub invariant-loop-k : goal.invariant-loop-k
invariant-loop-k l = Seeking (image_words l.self.bytes.now) 0 6 ex l.first l.k

abbrev pub decreases-loop-k : goal.decreases-loop-k
decreases-loop-k l = length (onward (image_words l.self.bytes.now) 0 l.k)

use Rattle.entry_holder.proofs.ExclusiveLock.{seeking}
use Rattle.entry_holder.proofs.Image.ex_from.Goals as goal

pub loop-k-preserved : goal.loop-k-preserved
loop-k-preserved c = search seeking

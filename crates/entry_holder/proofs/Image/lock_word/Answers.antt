use Rattle.entry_holder.proofs.ImageWords.{places, lock_there}
use Rattle.entry_holder.proofs.Image.lock_word.Goals as goal

pub word-requires : goal.word-requires
word-requires c = search places

pub returns : goal.returns
returns c = search lock_there

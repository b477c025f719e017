use Rattle.entry_holder.proofs.ImageWords.{word_there}
use Rattle.entry_holder.proofs.Image.word.Goals as goal

pub returns : goal.returns
returns c = search word_there

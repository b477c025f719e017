use Rattle.entry_holder.proofs.ImageWords.{places}
use Rattle.entry_holder.proofs.Image.resource_word.Goals as goal

pub word-requires : goal.word-requires
word-requires c = search places

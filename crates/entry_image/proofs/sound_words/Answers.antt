use Rattle.entry_image.proofs.ImageReturns.{nothing}
use Rattle.entry_image.proofs.sound_words.Goals as goal

pub returns-then-ne : goal.returns-then-ne
returns-then-ne c = search (nothing, c.if-ne.ensures)

pub returns : goal.returns
returns c = search (nothing, c.if-ne.ensures)

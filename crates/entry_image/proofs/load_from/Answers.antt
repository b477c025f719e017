use Rattle.entry_image.proofs.ImageReturns.{loading}
use Rattle.entry_image.proofs.load_from.Goals as goal

pub returns : goal.returns
returns c = search loading

use Rattle.call_start.proofs.StartSteps.{fresh_laws}
use Rattle.call_start.proofs.start_words.Goals as goal

pub returns : goal.returns
returns c = search fresh_laws

use borrow.Author.Rules.{rules}
use Rattle.rules.specs.Calls.{spoils}
use Rattle.flags.proofs.spoils.Goals as goal

pub returns : goal.returns
unfolding spoils
returns c = search rules

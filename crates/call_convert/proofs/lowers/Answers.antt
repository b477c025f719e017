use borrow.Author.Rules.{rules}
use Rattle.rules.specs.Calls.{strong}
use Rattle.call_convert.specs.Promises.{lowers}
use Rattle.call_convert.proofs.lowers.Goals as goal

pub returns : goal.returns
unfolding lowers strong
returns c = search rules

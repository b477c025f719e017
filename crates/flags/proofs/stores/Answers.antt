use borrow.Author.Rules.{rules}
use Rattle.rules.specs.Calls.{stores}
use Rattle.flags.proofs.stores.Goals as goal

pub returns : goal.returns
unfolding stores
returns c = search rules

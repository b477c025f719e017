-- `start_tables`: start accepts the sizes.
use Rattle.play_session.proofs.FreshTables.{start_rules}
use Rattle.play_session.proofs.start_tables.Goals as goal

pub returns : goal.returns
returns c = search start_rules

use Rattle.entry_laws.proofs.EntryOutcomes.{entering}
use Rattle.entry_recovery.proofs.purge.Goals as goal

pub returns-in_err-client_refusal : goal.returns-in_err-client_refusal
returns-in_err-client_refusal c = search (entering, c.in_err-client_refusal.ensures)

use Rattle.call_notice.proofs.Denial.{break_none, break_laws}
use Rattle.call_notice.proofs.break_change.Goals as goal

pub returns-in_err-victim : goal.returns-in_err-victim
returns-in_err-victim c = break_none _ c.in_err-victim.ensures _ c.from_residual.ensures

pub deny-requires : goal.deny-requires
deny-requires c = search (break_laws, c.in_ok-victim.ensures)

pub returns : goal.returns
returns c = search (break_laws, c.in_ok-victim.ensures)

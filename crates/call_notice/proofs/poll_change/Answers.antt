use Rattle.call_notice.proofs.NoticeTaken.{poll_none, poll_laws}
use Rattle.call_notice.proofs.poll_change.Goals as goal

pub returns-in_err-k : goal.returns-in_err-k
returns-in_err-k c = poll_none _ _ c.in_err-k.ensures _ c.from_residual.ensures

pub take_notice-requires : goal.take_notice-requires
take_notice-requires c = search (poll_laws, c.in_ok-k.ensures)

pub returns : goal.returns
returns c = search (poll_laws, c.in_ok-k.ensures)

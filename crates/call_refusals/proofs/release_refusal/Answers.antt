use Rattle.call_refusals.proofs.Arguments.{release_client, release_flagged, release_valued, release_rest}
use Rattle.call_refusals.proofs.release_refusal.Goals as goal

pub returns-in_err-client_refusal : goal.returns-in_err-client_refusal
returns-in_err-client_refusal c = search (release_client, c.in_err-client_refusal.ensures)

pub returns-then-not-release_flags : goal.returns-then-not-release_flags
returns-then-not-release_flags c = search (release_flagged, c.in_ok-client_refusal.ensures)

pub returns-then-not-value_right : goal.returns-then-not-value_right
returns-then-not-value_right c = search (release_valued, c.in_ok-client_refusal.ensures)

pub returns : goal.returns
returns c = search (release_rest, c.in_ok-client_refusal.ensures)

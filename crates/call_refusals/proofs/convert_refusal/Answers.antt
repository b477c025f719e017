use Rattle.call_refusals.proofs.Arguments.{convert_client, convert_mode, convert_flagged, convert_valued, convert_refused, convert_rest}
use Rattle.call_refusals.proofs.convert_refusal.Goals as goal

pub returns-in_err-client_refusal-clause-told : goal.returns-in_err-client_refusal-clause-told
returns-in_err-client_refusal-clause-told c = search (convert_client, c.in_err-client_refusal.ensures)

pub returns-in_err-asked-clause-told : goal.returns-in_err-asked-clause-told
returns-in_err-asked-clause-told c = search (convert_mode, c.in_ok-client_refusal.ensures, c.in_err-asked.ensures.0, c.in_err-asked.ensures.1)

pub returns-then-not-convert_flags-clause-told : goal.returns-then-not-convert_flags-clause-told
returns-then-not-convert_flags-clause-told c = search (convert_flagged, c.in_ok-client_refusal.ensures, c.in_ok-asked.ensures.0, c.in_ok-asked.ensures.1)

pub returns-then-not-value_right-clause-told : goal.returns-then-not-value_right-clause-told
returns-then-not-value_right-clause-told c = search (convert_valued, c.in_ok-client_refusal.ensures, c.in_ok-asked.ensures.0, c.in_ok-asked.ensures.1)

pub returns-in_err-conversion_refusal-clause-told : goal.returns-in_err-conversion_refusal-clause-told
returns-in_err-conversion_refusal-clause-told c = search (convert_refused, c.in_ok-client_refusal.ensures, c.in_ok-asked.ensures.0, c.in_ok-asked.ensures.1, c.in_err-conversion_refusal.ensures)

pub returns-clause-told : goal.returns-clause-told
returns-clause-told c = search (convert_rest, c.in_ok-client_refusal.ensures, c.in_ok-asked.ensures.0, c.in_ok-asked.ensures.1, c.in_ok-conversion_refusal.ensures)

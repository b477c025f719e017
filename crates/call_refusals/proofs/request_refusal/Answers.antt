use Rattle.call_refusals.proofs.Arguments.{request_client, request_mode, request_flagged, request_named, request_refused, request_rest, request_room}
use Rattle.call_refusals.proofs.request_refusal.Goals as goal

pub returns-in_err-client_refusal-clause-told : goal.returns-in_err-client_refusal-clause-told
returns-in_err-client_refusal-clause-told c = search (request_client, c.in_err-client_refusal.ensures)

pub returns-in_err-asked-clause-told : goal.returns-in_err-asked-clause-told
returns-in_err-asked-clause-told c = search (request_mode, c.in_ok-client_refusal.ensures, c.in_err-asked.ensures.0, c.in_err-asked.ensures.1)

pub returns-then-not-request_flags-clause-told : goal.returns-then-not-request_flags-clause-told
returns-then-not-request_flags-clause-told c = search (request_flagged, c.in_ok-client_refusal.ensures, c.in_ok-asked.ensures.0, c.in_ok-asked.ensures.1)

pub returns-then-not-name_right-clause-told : goal.returns-then-not-name_right-clause-told
returns-then-not-name_right-clause-told c = search (request_named, c.in_ok-client_refusal.ensures, c.in_ok-asked.ensures.0, c.in_ok-asked.ensures.1)

pub room_refusal-requires : goal.room_refusal-requires
room_refusal-requires c = search request_room

pub returns-in_err-room_refusal-clause-told : goal.returns-in_err-room_refusal-clause-told
returns-in_err-room_refusal-clause-told c = search (request_refused, c.in_ok-client_refusal.ensures, c.in_ok-asked.ensures.0, c.in_ok-asked.ensures.1, c.in_err-room_refusal.ensures)

pub returns-clause-told : goal.returns-clause-told
returns-clause-told c = search (request_rest, c.in_ok-client_refusal.ensures, c.in_ok-asked.ensures.0, c.in_ok-asked.ensures.1, c.in_ok-room_refusal.ensures)

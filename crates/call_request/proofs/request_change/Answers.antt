use Rattle.call_request.proofs.AcceptedRequest.{request_laws}
use Rattle.call_request.proofs.request_change.Goals as goal

pub header_word-k-requires : goal.header_word-k-requires
header_word-k-requires c = search request_laws

pub resource_for-r-requires : goal.resource_for-r-requires
resource_for-r-requires c = search request_laws

pub enter-requires : goal.enter-requires
enter-requires c = search request_laws

pub returns : goal.returns
returns c = search request_laws

use Rattle.call_request.proofs.NameResource.{house_laws}
use Rattle.call_request.proofs.resource_for.Goals as goal

pub returns-in-Some : goal.returns-in-Some
returns-in-Some c = search house_laws

pub header_word-first-requires-clause-sized : goal.header_word-first-requires-clause-sized
header_word-first-requires-clause-sized c = search house_laws

pub take_resource-requires : goal.take_resource-requires
take_resource-requires c = search house_laws

pub returns : goal.returns
returns c = search house_laws

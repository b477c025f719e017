-- `c_answers::pack`: refused, and accepted.
use Rattle.c_answers.proofs.PackedAnswers.{packing}
use Rattle.c_answers.proofs.pack.Goals as goal

pub returns-then-x-ne0 : goal.returns-then-x-ne0
returns-then-x-ne0 c = search packing

pub returns : goal.returns
returns c = search packing

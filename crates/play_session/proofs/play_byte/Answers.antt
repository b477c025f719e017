-- `play_byte`: the line goes on, or byte 10 has it played and printed.
use Rattle.play_session.proofs.Sessions.{byte_rules}
use Rattle.play_session.proofs.play_byte.Goals as goal

pub returns-in-More : goal.returns-in-More
returns-in-More c = search byte_rules

pub returns-in-Whole-clause-out_after : goal.returns-in-Whole-clause-out_after
returns-in-Whole-clause-out_after c = search byte_rules

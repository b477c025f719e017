-- `play_end`: nothing has begun, or the last line is played and printed.
use Rattle.play_session.proofs.Sessions.{end_rules}
use Rattle.play_session.proofs.play_end.Goals as goal

pub returns-then-not-is_begun : goal.returns-then-not-is_begun
returns-then-not-is_begun c = search end_rules

pub returns : goal.returns
returns c = search end_rules

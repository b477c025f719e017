-- `break_line`: the entry's outcome, its numbers, and what is printed for them.
use Rattle.play_calls.proofs.AnsweredLines.{line_rules}
use Rattle.play_calls.proofs.break_line.Goals as goal

pub returns : goal.returns
returns c = search line_rules

-- `parse`: the first two bytes decide.
use Rattle.play_commands.proofs.Letters.{parse_rules}
use Rattle.play_commands.proofs.parse.Goals as goal
use Rattle.play_commands.proofs.parse.Goals.{in_default-via-then-line-lt1, in_default-via-else-line-lt1+then-line-lt2+in_default-1, in_default-via-else-line-lt1+else-line-lt2+in_default-1}

pub returns-then-line-gt-LINE_BYTES : goal.returns-then-line-gt-LINE_BYTES
returns-then-line-gt-LINE_BYTES c = search parse_rules

pub returns-in-100 : goal.returns-in-100
returns-in-100 c = search parse_rules

pub returns-in-32 : goal.returns-in-32
returns-in-32 c = search parse_rules

pub returns-in_default : goal.returns-in_default
returns-in_default c =
    elim c.in_default.branch [
      | in_default-via-then-line-lt1 w ↦ search parse_rules
      | in_default-via-else-line-lt1+then-line-lt2+in_default-1 w ↦ search parse_rules
      | in_default-via-else-line-lt1+else-line-lt2+in_default-1 w ↦ search parse_rules
    ]

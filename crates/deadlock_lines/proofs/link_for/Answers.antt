use Rattle.deadlock_lines.proofs.AllLines.{for_makes}
use Rattle.deadlock_lines.proofs.link_for.Goals as goal

pub returns : goal.returns
returns c = for_makes c.requires.some_lined c.resource_of-r.ensures c.requires.blocked c.if-lasts-r-ne0.false c.link_line.ensures _

use Rattle.check_names.proofs.NewNames.{telling}
use Rattle.check_names.proofs.Met.add.Goals as goal

pub returns-then-name_length-eq0 : goal.returns-then-name_length-eq0
returns-then-name_length-eq0 c = search telling

pub returns-then-not-self-place : goal.returns-then-not-self-place
returns-then-not-self-place c = search telling

pub returns-then-not-among : goal.returns-then-not-among
returns-then-not-among c = search telling

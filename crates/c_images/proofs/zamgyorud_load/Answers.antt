use Rattle.c_answers.proofs.PackedContracts.{carrying}
use Rattle.c_images.proofs.zamgyorud_load.Goals as goal

pub pack-requires : goal.pack-requires
pack-requires c = search carrying

pub returns : goal.returns
returns c = search carrying

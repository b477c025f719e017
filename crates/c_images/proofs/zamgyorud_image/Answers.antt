use Rattle.c_images.proofs.PackedImages.{image_laws}
use Rattle.c_images.proofs.zamgyorud_image.Goals as goal

pub pack-requires : goal.pack-requires
pack-requires c = search image_laws

pub returns : goal.returns
returns c = search image_laws

use Rattle.adr_image.proofs.InRange.{in_range}
use Rattle.std.proofs.Common.{refl}
use Rattle.adr_image.proofs.Placed.{image_of_read, image_read, image_spelled, read_is_formed, version_fits}
use Rattle.adr_image.proofs.laws.images_have_one_spelling.Goals as goal

pub returns-clause-formed : goal.returns-clause-formed
returns-clause-formed c = λ bytes s fits e. read_is_formed bytes s fits e

pub returns-clause-again : goal.returns-clause-again
returns-clause-again c = λ s f q. image_read s f q

pub returns-clause-again_1 : goal.returns-clause-again_1
returns-clause-again_1 c = λ s f q of. image_of_read 1 s refl f q of

pub returns-clause-in_range : goal.returns-clause-in_range
returns-clause-in_range c = λ s f q. in_range s f q

pub returns-clause-placed : goal.returns-clause-placed
returns-clause-placed c = λ version known. image_spelled version (version_fits version known)

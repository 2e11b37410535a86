use Rattle.adr_image.proofs.Counted.{store_long}
use Rattle.adr_image.proofs.Long.{image_long}
use Rattle.adr_image.proofs.laws.images_are_as_long_as_counted.Goals as goal

pub returns-clause-parts : goal.returns-clause-parts
returns-clause-parts c = λ p q. image_long p q

pub returns-clause-stores : goal.returns-clause-stores
returns-clause-stores c = λ s f q. store_long s f q

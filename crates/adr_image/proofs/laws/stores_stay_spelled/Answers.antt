use Rattle.adr_image.proofs.Staying.{begins_spelled, stays_spelled}
use Rattle.adr_image.proofs.laws.stores_stay_spelled.Goals as goal

pub returns-clause-begin : goal.returns-clause-begin
returns-clause-begin c = begins_spelled

pub returns-clause-stay : goal.returns-clause-stay
returns-clause-stay c = λ version s d id q has known. stays_spelled version s d id q has known

use Rattle.adr_law_knowledge.proofs.Knows.{standing_is_held}
use Rattle.adr_law_knowledge.proofs.knowledge.standing_updates_are_held.Goals as goal

pub returns : goal.returns
returns c = λ issued k u stand t. standing_is_held issued k u stand t

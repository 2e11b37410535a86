use Rattle.adr_law_tree.proofs.Closing.{closing_law, never_law}
use Rattle.adr_law_tree.proofs.Opening.{opening_law}
use Rattle.adr_law_tree.proofs.Climbs.{climb_law}
use Rattle.adr_law_tree.proofs.laws.walks_find_who_breaks.Goals as goal

pub returns : goal.returns
returns c = assumption (closing_law, opening_law, climb_law, never_law)

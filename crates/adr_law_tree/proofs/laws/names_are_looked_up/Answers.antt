use Rattle.adr_law_tree.proofs.Names.{placed_law, one_breaker_law, least_law, holder_law, no_holder_law, gives_way_law, taken_law, free_name_law}
use Rattle.adr_law_tree.proofs.Trees.{lost_superior_law}
use Rattle.adr_law_tree.proofs.laws.names_are_looked_up.Goals as goal

pub returns : goal.returns
returns c = assumption (placed_law, one_breaker_law, least_law, holder_law, no_holder_law, gives_way_law, lost_superior_law, taken_law, free_name_law)

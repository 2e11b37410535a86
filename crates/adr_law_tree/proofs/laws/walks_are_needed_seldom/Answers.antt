use Rattle.adr_law_tree.proofs.Short.{childless_law, same_parent_law, no_loop_law}
use Rattle.adr_law_tree.proofs.laws.walks_are_needed_seldom.Goals as goal

pub returns : goal.returns
returns c = assumption (childless_law, same_parent_law, no_loop_law)

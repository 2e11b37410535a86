use Rattle.adr_law_tree.proofs.InOrder.{order_law, look_up_law}
use Rattle.adr_law_tree.proofs.Trees.{tree_law}
use Rattle.adr_law_tree.proofs.laws.live_objects_are_in_order.Goals as goal

pub returns : goal.returns
returns c = assumption (order_law, look_up_law, tree_law)

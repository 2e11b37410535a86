use Rattle.adr_tree.proofs.Seen.{in_order}
use Rattle.adr_tree.proofs.tree.Tree.are_in_order.Goals as goal

pub returns : goal.returns
returns c = in_order c.args.self.now.slots.entries c.requires.tidy.ordered c.requires.tidy.home

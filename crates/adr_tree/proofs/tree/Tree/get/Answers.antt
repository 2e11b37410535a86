use Rattle.std.proofs.Common.{◌∙◌}
use Rattle.adr_tree.proofs.Seen.{found}
use Rattle.adr_tree.proofs.tree.Tree.get.Goals as goal

pub returns : goal.returns
returns c = c.slot.ensures ∙ found c.args.self.now.slots.entries c.args.guid c.requires.tidy.ordered c.requires.tidy.home

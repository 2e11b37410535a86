use Rattle.adr_tree.proofs.Edited.{freed_tree}
use Rattle.adr_tree.proofs.tree.Tree.free.Goals as goal

pub returns-then-free-clause-tree : goal.returns-then-free-clause-tree
returns-then-free-clause-tree c =
    freed_tree c.args.self.now c.requires c.args.guid c.free.new.slots c.free.ensures.tidy c.free.ensures.seen (c.free.ensures.empty c.if-free.true) c.remove.new.self c.remove.ensures.updates.0

use Rattle.adr_tree.proofs.Edited.{forgotten_tree}
use Rattle.adr_tree.proofs.tree.Tree.forget_hint.Goals as goal

pub returns-then-not-needs-clause-tree : goal.returns-then-not-needs-clause-tree
returns-then-not-needs-clause-tree c =
    forgotten_tree c.args.self.now c.requires c.args.hint.now c.remove.new.self c.remove.ensures.updates.0 c.if-not-needs.ensures.child c.if-not-needs.ensures.name

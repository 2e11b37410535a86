use Rattle.adr_tree.proofs.Moves.{has_flag, put_nodes, put_tree}
use Rattle.adr_tree.proofs.tree.Tree.put_in.Goals as goal

pub set-requires : goal.set-requires
set-requires c = has_flag c.args.self.now c.requires.tree c.args.node c.requires.room c.has_child-is_parent.result c.closer_if-breaker.result c.closer_if-breaker.ensures

pub returns-clause-tree : goal.returns-clause-tree
returns-clause-tree c =
    put_tree c.args.self.now c.requires.tree c.args.node c.requires.room c.requires.fresh c.fill.new.slots c.fill.ensures.tidy c.fill.ensures.nodes c.fill.ensures.len
    c.has_child-is_parent.result c.has_child-is_parent.ensures
    c.closer_if-breaker.result c.closer_if-breaker.ensures c.set.new.flags c.set.ensures.flag c.set.ensures.more

pub returns-clause-nodes : goal.returns-clause-nodes
returns-clause-nodes c = put_nodes c.args.self.now c.requires.tree c.args.node c.requires.room c.requires.fresh c.fill.new.slots c.fill.ensures.tidy c.fill.ensures.nodes

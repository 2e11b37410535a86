use Rattle.std.proofs.Common.{◌≡◌, None, sym, subst}
use Rattle.std.specs.Prelude.{IfSome}
use Rattle.adr_model.specs.Place.{node_at}
use Rattle.adr_tree.specs.Tree.{nodes_in}
use Rattle.adr_tree.proofs.Edited.{fresh_after}
use Rattle.adr_tree.proofs.tree.Tree.exchange.Goals as goal

pub put_in_if-requires-clause-fresh : goal.put_in_if-requires-clause-fresh
put_in_if-requires-clause-fresh c =
    subst (λ o. IfSome o (λ n. node_at (nodes_in c.take_out-old.new.self) n.object.guid ≡ None)) (sym c.take-node.ensures.value)
    (fresh_after (nodes_in c.args.self.now) (nodes_in c.take_out-old.new.self) c.args.edit.now.guid c.take_out-old.ensures.nodes c.args.edit.now.node c.requires.own)

use Rattle.std.proofs.Common.{◌≡◌, Option, Some, None, not, ap, sym, ◌∙◌, subst}
use Rattle.std.specs.Prelude.{IfSome, if◌then◌else◌}
use Rattle.std.specs.Bool.{OnFalse}
use Rattle.std.specs.Option.{option_and_then}
use Rattle.adr_model.specs.Place.{Node, node_at}
use Rattle.adr_tree.specs.Children.{HasNoChild, opened_by}
use Rattle.adr_tree.specs.Slots.{seen}
use Rattle.adr_tree.specs.Tree.{nodes_in}
use Rattle.adr_tree.proofs.Moves.{found_in, live_less, some_there, take_nodes, take_tree}
use Rattle.adr_tree.proofs.tree.Tree.take_out.Goals as goal

pub returns-then-is_none-clause-nodes : goal.returns-then-is_none-clause-nodes
returns-then-is_none-clause-nodes c = take_nodes c.args.self.now c.requires c.args.guid c.empty-old.new.slots c.empty-old.ensures.tidy c.empty-old.ensures.nodes

pub returns-clause-tree : goal.returns-clause-tree
returns-clause-tree c =
    let x = some_there c.empty-old.result (c.is_none.ensures ∙ ap not c.if-is_none.false) in
    let there : node_at (nodes_in c.args.self.now) c.args.guid ≡ Some x.0 = sym (found_in c.args.self.now.slots c.requires.tidy c.args.guid) ∙ sym c.empty-old.ensures.old ∙ x.1 in
    take_tree c.args.self.now c.requires c.args.guid c.empty-old.new.slots c.empty-old.ensures.tidy c.empty-old.ensures.nodes x.0 there c.has_child_if-is_parent.result
    (subst (λ (o : Option Node). IfSome o (λ (n : Node). OnFalse c.has_child_if-is_parent.result (HasNoChild (seen c.empty-old.new.slots.entries) n))) x.1 c.has_child_if-is_parent.ensures)
    c.opener_if-breaker.result
    (c.opener_if-breaker.ensures ∙ ap (λ (o : Option Node). if c.has_child_if-is_parent.result then option_and_then (λ (n : Node). opened_by c.empty-old.new.slots c.args.self.now.flags n) o else None) x.1)
    c.clear.new.flags c.clear.ensures.flag c.clear.ensures.more

pub returns-clause-nodes : goal.returns-clause-nodes
returns-clause-nodes c = take_nodes c.args.self.now c.requires c.args.guid c.empty-old.new.slots c.empty-old.ensures.tidy c.empty-old.ensures.nodes

pub has_child_if-is_parent-requires-clause-hinted : goal.has_child_if-is_parent-requires-clause-hinted
has_child_if-is_parent-requires-clause-hinted c = λ n here. c.requires.hinted n (live_less c.args.self.now c.requires c.args.guid c.empty-old.new.slots c.empty-old.ensures.tidy c.empty-old.ensures.nodes n here)

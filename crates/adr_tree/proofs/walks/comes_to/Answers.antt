use Rattle.std.proofs.Common.{sym}
use Rattle.adr_tree.proofs.Steps.{one_on}
use Rattle.adr_tree.specs.Slots.{looks}
use Rattle.adr_tree.proofs.walks.comes_to.Goals as goal

pub loop-left-preserved : goal.loop-left-preserved
loop-left-preserved c =
    one_on (looks c.args.slots.now) c.args.target c.loop-left.left c.loop-left.guid c.in-Some.node.now _ _ c.loop-left-test.true
    (cc) (sym c.in-Some.ensures) c.parent-guid.ensures c.loop-left.invariant

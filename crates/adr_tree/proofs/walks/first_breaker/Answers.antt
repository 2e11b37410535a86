use Rattle.std.proofs.Common.{sym}
use Rattle.adr_tree.proofs.Steps.{one_less}
use Rattle.adr_tree.specs.Slots.{looks, flagged}
use Rattle.adr_tree.proofs.walks.first_breaker.Goals as goal

pub loop-left-preserved : goal.loop-left-preserved
loop-left-preserved c =
    one_less (looks c.args.slots.now) (flagged c.args.flags.now) c.loop-left.left c.loop-left.guid c.in-Some.node.now _ _ c.loop-left-test.true
    (sym c.in-Some.ensures) (cc) c.parent-guid.ensures c.loop-left.invariant

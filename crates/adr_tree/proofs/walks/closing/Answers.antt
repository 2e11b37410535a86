use Rattle.std.proofs.Common.{sym, ap, ◌∙◌}
use Rattle.std.specs.Option.{option_copied}
use Rattle.adr_tree.proofs.Steps.{one_more, none_more}
use Rattle.adr_tree.specs.Slots.{looks, flagged}
use Rattle.adr_tree.proofs.walks.closing.Goals as goal

pub loop-left-preserved : goal.loop-left-preserved
loop-left-preserved c =
    one_more (looks c.args.slots.now) (flagged c.args.flags.now) c.args.new.now.object.guid c.loop-left.left c.loop-left.guid c.loop-left.best.now c.in-Some.node.now _ _ _ c.loop-left-test.true
    (cc) (sym c.in-Some.ensures) (cc) c.younger-best.ensures c.parent-guid-in-loop-left.ensures c.loop-left.invariant

pub returns-in_default : goal.returns-in_default
returns-in_default c =
    none_more (looks c.args.slots.now) (flagged c.args.flags.now) c.args.new.now.object.guid c.loop-left.left c.loop-left.guid c.loop-left.best.now _ c.loop-left-test.true
    (cc) (sym c.at.ensures ∙ ap option_copied c.in_default.is) c.loop-left.invariant

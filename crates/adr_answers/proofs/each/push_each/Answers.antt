use Rattle.std.proofs.Common.{arith}
use Rattle.adr_token.proofs.Lists.{added, all_added}
use Rattle.adr_answers.proofs.each.push_each.Goals as goal

pub loop-item-preserved : goal.loop-item-preserved
loop-item-preserved g c =
    added g.T.PushText.text c.args.out.now.items c.loop-item.out.items c.push_to.new.out.items c.args.list.now c.loop-item.item-index c.item-item.result c.item-item.result
    c.loop-item-test.true c.item-item.is c.loop-item.invariant c.in_ok-push_to.ensures

pub returns : goal.returns
returns g c = all_added g.T.PushText.text c.args.out.now.items c.loop-item.out.items c.args.list.now c.loop-item.item-index (omega arith) c.loop-item.invariant

use Rattle.std.proofs.Common.{take, fold, sym, subst}
use Rattle.adr_model.specs.Change.{without_object}
use Rattle.adr_table.specs.Table.{rows_in}
use Rattle.adr_state.specs.Drafts.{AreDrafts}
use Rattle.adr_state.proofs.Drafting.{folded_more}
use Rattle.adr_state.proofs.drafts.remove_all.Goals as goal

pub loop-object-preserved : goal.loop-object-preserved
loop-object-preserved c seen are =
    let rows = rows_in c.args.table.now in
    let before = fold without_object seen (take c.loop-object.object-index c.args.objects.now) in
    subst (λ s. AreDrafts rows s c.remove_object.new.drafts)
    (sym (folded_more without_object seen c.args.objects.now c.loop-object.object-index c.object-item.result c.loop-object-test.true c.object-item.is))
    (c.in_ok-remove_object.ensures before (c.loop-object.invariant seen are))

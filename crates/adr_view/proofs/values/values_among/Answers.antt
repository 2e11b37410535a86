use Rattle.std.proofs.Common.{◌+◌, ◌++◌, ◌∷◌, [], arith, ap, ◌∙◌}
use Rattle.adr_model.specs.Directory.{values_at}
use Rattle.adr_model.specs.Update.{Update}
use Rattle.adr_view.proofs.NextRow.{next_valued}
use Rattle.adr_view.proofs.values.values_among.Goals as goal

pub loop-held-preserved : goal.loop-held-preserved
loop-held-preserved c =
    next_valued c.args.rows.now c.loop-held.held-index (c.loop-held.held-index + 1) c.held-item.result c.loop-held-test.true c.held-item.is (omega arith) c.args.object.now
    c.loop-held.list.items c.push_values.new.list.items _ (c.in_ok-push_values.ensures ∙ ap (λ (u : Update). c.loop-held.list.items ++ values_at (u ∷ []) c.args.object.now) c.update.ensures) c.loop-held.invariant

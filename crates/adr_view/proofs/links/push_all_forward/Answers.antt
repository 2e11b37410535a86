use Rattle.std.proofs.Common.{◌+◌, ◌++◌, arith, ap, ◌∙◌}
use Rattle.adr_model.specs.Store.{Held, updates_of}
use Rattle.adr_model.specs.Update.{Update}
use Rattle.adr_model.specs.Write.{nodes_held}
use Rattle.adr_view.specs.Ends.{forward_end}
use Rattle.adr_view.proofs.NextRow.{next_flat}
use Rattle.adr_view.proofs.links.push_all_forward.Goals as goal

pub loop-held-preserved : goal.loop-held-preserved
loop-held-preserved c =
    next_flat c.args.links.now c.loop-held.held-index (c.loop-held.held-index + 1) c.held-item.result c.loop-held-test.true c.held-item.is (omega arith) (λ (h : Held). forward_end (nodes_held (updates_of c.args.rows.now)) h.update.key h.update.said)
    c.loop-held.ends.items c.push_forward.new.ends.items _ (c.in_ok-push_forward.ensures ∙ ap (λ (u : Update). c.loop-held.ends.items ++ forward_end (nodes_held (updates_of c.args.rows.now)) u.key u.said) c.update.ensures) c.loop-held.invariant

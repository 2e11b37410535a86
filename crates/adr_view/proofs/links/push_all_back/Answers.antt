use Rattle.std.proofs.Common.{◌+◌, ◌++◌, arith, ap, ◌∙◌}
use Rattle.adr_model.specs.Store.{Held, updates_of}
use Rattle.adr_model.specs.Update.{Update}
use Rattle.adr_model.specs.Write.{nodes_held}
use Rattle.adr_view.specs.BackLinks.{has_back_link}
use Rattle.adr_view.specs.Ends.{back_end}
use Rattle.adr_view.proofs.NextRow.{next_flat, next_linked}
use Rattle.adr_view.proofs.links.push_all_back.Goals as goal

pub push_back-requires : goal.push_back-requires
push_back-requires c =
    ap (λ (u : Update). has_back_link u.key) c.update.ensures
    ∙ (next_linked c.args.links.now c.loop-held.held-index (c.loop-held.held-index + 1) c.held-item.result c.loop-held-test.true c.held-item.is (omega arith) c.loop-held.invariant.linked).0

pub loop-held-preserved : goal.loop-held-preserved
loop-held-preserved c =
    record {
      linked =
          (next_linked c.args.links.now c.loop-held.held-index (c.loop-held.held-index + 1) c.held-item.result c.loop-held-test.true c.held-item.is (omega arith) c.loop-held.invariant.linked).1;
      same =
          next_flat c.args.links.now c.loop-held.held-index (c.loop-held.held-index + 1) c.held-item.result c.loop-held-test.true c.held-item.is (omega arith) (λ (h : Held). back_end (nodes_held (updates_of c.args.rows.now)) h.update.key h.update.said)
          c.loop-held.ends.items c.push_back.new.ends.items _ (c.in_ok-push_back.ensures ∙ ap (λ (u : Update). c.loop-held.ends.items ++ back_end (nodes_held (updates_of c.args.rows.now)) u.key u.said) c.update.ensures) c.loop-held.invariant.same;
    }

use Rattle.std.proofs.Common.{◌+◌, ◌++◌, ◌∷◌, [], arith, ap, ◌∙◌}
use Rattle.adr_call.specs.declared.directory.Entry.{Entry}
use Rattle.adr_model.specs.Directory.{entry_of}
use Rattle.adr_model.specs.Live.{live_rows}
use Rattle.adr_model.specs.Store.{updates_of}
use Rattle.adr_model.specs.Write.{nodes_held}
use Rattle.adr_view.proofs.LiveObjects.{node_found}
use Rattle.adr_update.proofs.Referred.{next_mapped}
use Rattle.adr_view.proofs.entries.directory_of.Goals as goal

pub entry_of-requires-clause-live : goal.entry_of-requires-clause-live
entry_of-requires-clause-live c = node_found c.args.rows.now c.are_rising.ensures c.args.nodes.now c.requires.nodes c.loop-node.node-index c.node-item.result c.loop-node-test.true c.node-item.is

pub loop-node-preserved : goal.loop-node-preserved
loop-node-preserved c =
    next_mapped (entry_of (live_rows (updates_of c.args.rows.now)) (nodes_held (updates_of c.args.rows.now))) c.args.nodes.now c.loop-node.node-index (c.loop-node.node-index + 1) c.node-item.result c.loop-node-test.true c.node-item.is (omega arith)
    c.loop-node.entries.items c.push.new.self.items _ (c.in_ok-push.ensures.items ∙ ap (λ (e : Entry). c.loop-node.entries.items ++ e ∷ []) c.in_ok-entry_of.ensures) c.loop-node.invariant

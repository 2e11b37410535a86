use Rattle.std.proofs.Common.{◌+◌, arith, ap₂, ◌∙◌}
use Rattle.std.specs.BTreeMap.{get}
use Rattle.adr_model.specs.Store.{updates_of}
use Rattle.adr_model.specs.Write.{nodes_held}
use Rattle.adr_view.specs.Slots.{Slot, same_slot, slot_order}
use Rattle.adr_view.specs.Youngest.{Rank, with_rank}
use Rattle.adr_view.proofs.LiveObjects.{node_found}
use Rattle.adr_view.proofs.YoungestNames.{next_taken}
use Rattle.adr_view.proofs.names.youngest_names.Goals as goal

pub place-requires : goal.place-requires
place-requires c = node_found c.args.rows.now c.are_rising.ensures c.args.nodes.now c.requires c.loop-node.node-index c.node-item.result c.loop-node-test.true c.node-item.is

pub loop-node-preserved : goal.loop-node-preserved
loop-node-preserved c = λ slot.
    let all = nodes_held (updates_of c.args.rows.now) in
    next_taken all c.args.nodes.now c.loop-node.node-index (c.loop-node.node-index + 1) c.node-item.result c.loop-node-test.true c.node-item.is (omega arith) slot (get slot_order c.loop-node.names slot) (get slot_order c.put.new.names slot) _
    (c.in_ok-put.ensures slot
    ∙ ap₂ (λ (s : Slot) (r : Rank). with_rank (same_slot s slot) r (get slot_order c.loop-node.names slot)) (c.new-slot.ensures ∙ ap₂ (λ p f. (p, f)) c.place.ensures c.name.ensures) c.rank_of.ensures)
    (c.loop-node.invariant slot)

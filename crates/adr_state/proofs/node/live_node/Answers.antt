use Rattle.adr_model.specs.Store.{updates_of}
use Rattle.adr_law_tree.proofs.RisingRows.{rising_updates}
use Rattle.adr_update.specs.Referents.{referents}
use Rattle.adr_state.proofs.Alive.{node_found}
use Rattle.adr_state.proofs.node.live_node.Goals as goal

pub loop-row-init : goal.loop-row-init
loop-row-init c = node_found (updates_of (referents c.args.rows.now)) (rising_updates (referents c.args.rows.now) c.requires) c.args.guid

use Rattle.std.proofs.Common.{◌≡◌, drop}
use Rattle.adr_model.specs.Place.{node_at}
use Rattle.adr_model.specs.Store.{updates_of}
use Rattle.adr_model.specs.Write.{nodes_held}
use Rattle.adr_update.specs.Referents.{referents}
use Rattle.adr_state.specs.Alive.{node_by}
use Rattle.adr_state.proofs.Alive.{first_given}
use Rattle.adr_state.proofs.node.live_node.Given as goal

-- the births that are left give it
abbrev pub invariant-loop-row : goal.invariant-loop-row
invariant-loop-row l =
    first_given (node_by (updates_of (referents l.rows)) l.guid) (updates_of (referents (drop l.row-index l.rows)))
    ≡ node_at (nodes_held (updates_of (referents l.rows))) l.guid

use Rattle.std.proofs.Common.{◌≡◌, None, drop}
use Rattle.std.specs.BTreeMap.{get}
use Rattle.adr_model.specs.Store.{updates_of}
use Rattle.adr_model.specs.Write.{nodes_held}
use Rattle.adr_update.specs.Referents.{referents}
use Rattle.adr_view.specs.Slots.{Slot, slot_order}
use Rattle.adr_view.specs.Youngest.{youngest_from}
use Rattle.adr_view.proofs.names.youngest_names.Given as goal

-- with the names of the objects that are left they are the youngest of all
abbrev pub invariant-loop-node : goal.invariant-loop-node
invariant-loop-node l =
    (slot : Slot) → youngest_from (nodes_held (updates_of l.rows)) slot (get slot_order l.names slot) (referents (drop l.node-index l.nodes)) ≡ youngest_from (nodes_held (updates_of l.rows)) slot None (nodes_held (updates_of l.rows))

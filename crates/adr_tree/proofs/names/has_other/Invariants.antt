use Rattle.std.proofs.Common.{◌≡◌, drop, not}
use Rattle.std.specs.List.{list_any}
use Rattle.adr_model.specs.Place.{Node}
use Rattle.adr_model.specs.Update.{same_identifier}
use Rattle.adr_update.specs.Referents.{referents}
use Rattle.adr_tree.proofs.names.has_other.Given as goal

-- those that are left answer for all
abbrev pub invariant-loop-node : goal.invariant-loop-node
invariant-loop-node l =
    list_any (λ (m : Node). not (same_identifier m.object.guid l.guid)) (referents (drop l.node-index l.nodes))
    ≡ list_any (λ (m : Node). not (same_identifier m.object.guid l.guid)) (referents l.nodes)

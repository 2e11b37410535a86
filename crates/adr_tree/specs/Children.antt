-- Objects that are nobody's parent, and who breaks a loop where one comes or goes.
use Rattle.std.specs.Prelude.{◌≡◌, List, Option, Some, None, false, if◌then◌else◌}
use Rattle.std.specs.Option.{option_map}
use Rattle.std.specs.BTreeMap.{BTreeMap, btree_map_len}
use Rattle.std.specs.Prelude.{Bool}
use Rattle.adr_model.specs.Update.{Identifier, same_identifier}
use Rattle.adr_model.specs.Place.{Node, is_fixed, node_at}
use Rattle.adr_law_tree.specs.Closing.{closing}
use Rattle.adr_law_tree.specs.Opening.{opening}
use Rattle.adr_tree.specs.Slots.{looks, flagged}

-- neither one of these objects nor the object itself has it as parent
abbrev pub HasNoChild : List Node → Node → Type 0
HasNoChild all x =
    ((m : Node) → node_at all m.object.guid ≡ Some m → same_identifier m.parent x.object.guid ≡ false) × (same_identifier x.parent x.object.guid ≡ false)

-- the GUID of the object that breaks the loop that an object closes, by a walk
abbrev pub closed_by : BTreeMap Identifier (Option Node) → BTreeMap Identifier Bool → Node → Option Identifier
closed_by slots flags x =
    if is_fixed x.object.guid then None
    else option_map (λ n. n.object.guid) (closing (looks slots) (flagged flags) x.object.guid (btree_map_len slots) x.parent x)

-- the GUID of the object that broke the loop that an object opens, by a walk
abbrev pub opened_by : BTreeMap Identifier (Option Node) → BTreeMap Identifier Bool → Node → Option Identifier
opened_by slots flags x =
    if is_fixed x.object.guid then None
    else option_map (λ n. n.object.guid) (opening (looks slots) (flagged flags) (btree_map_len slots) x)

-- Slots of live objects, and flags beside them: what is seen, and what a walk looks up.
use Rattle.std.specs.Prelude.{◌≡◌, List, [], ◌∷◌, Bool, false, Option, Some, None, IfSome, IsSome, if◌then◌else◌, unwrap_or}
use Rattle.std.specs.List.{filter_map}
use Rattle.std.specs.BTreeMap.{BTreeMap, IsOrdered, get}
use Rattle.adr_values.specs.Order.{identifier_order}
use Rattle.adr_model.specs.Update.{Identifier}
use Rattle.adr_model.specs.Place.{Node, is_fixed}
use Rattle.adr_law_tree.specs.Walk.{Look}

-- the nodes in the slots, in their order; an empty slot isn't seen
abbrev pub seen : List (Identifier × Option Node) → List Node
seen es = filter_map (λ e. e.1) es

-- each node stands at its own GUID
abbrev pub AreAtHome : List (Identifier × Option Node) → Type 0
AreAtHome [] = Unit {0}
AreAtHome (e ∷ es) = IfSome e.1 (λ n. n.object.guid ≡ e.0) × AreAtHome es

-- GUIDs rise, and each node stands at its own
pub record IsTidy (slots : BTreeMap Identifier (Option Node)) : Type 0 where
  pub ordered : IsOrdered identifier_order slots
  pub home : AreAtHome slots.entries

abbrev pub flat : Option (Option Node) → Option Node
flat None = None
flat (Some o) = o

-- what is in the slot of a GUID, if there is one
abbrev pub slot_at : BTreeMap Identifier (Option Node) → Identifier → Option Node
slot_at slots guid = flat (get identifier_order slots guid)

-- a walk finds nobody at a fixed GUID
abbrev pub looks : BTreeMap Identifier (Option Node) → Look
looks slots guid = if is_fixed guid then None else slot_at slots guid

-- where there is no flag nobody breaks a loop
abbrev pub flag_at : BTreeMap Identifier Bool → Identifier → Bool
flag_at flags guid = unwrap_or (get identifier_order flags guid) false

abbrev pub flagged : BTreeMap Identifier Bool → Node → Bool
flagged flags n = flag_at flags n.object.guid

-- what has a place in the first map has one in the second
abbrev pub KeepsPlaces : {X : Type 0} → BTreeMap Identifier X → BTreeMap Identifier X → Type 0
KeepsPlaces old new = (g : Identifier) → IsSome (get identifier_order old g) → IsSome (get identifier_order new g)

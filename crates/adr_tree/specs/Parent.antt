-- Where objects may be written.
use Rattle.std.specs.Prelude.{◌≡◌, ◌||◌, List, true, false, is_some}
use Rattle.adr_model.specs.Update.{Identifier, same_identifier}
use Rattle.adr_model.specs.Place.{Node, node_at, is_fixed, lost_and_found}

-- a place that objects may be written under: the root, or a live object
abbrev pub IsParent : List Node → Identifier → Type 0
IsParent all parent = (same_identifier parent lost_and_found ≡ false) × (is_fixed parent || is_some (node_at all parent) ≡ true)

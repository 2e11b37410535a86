-- Who stands in a place under a folded name, and the youngest of them.
use Rattle.std.specs.Prelude.{◌&&◌, ℕ, List, Bool, Option, Some, None}
use Rattle.std.specs.Str.{bytes_eq}
use Rattle.adr_values.specs.Folding.{folded}
use Rattle.adr_model.specs.Update.{Identifier, same_identifier}
use Rattle.adr_model.specs.Place.{Node, place}
use Rattle.adr_law_tree.specs.Breaker.{youngest, youngest_of}

abbrev pub is_called : List Node → Identifier → List ℕ → Node → Bool
is_called all parent name n = same_identifier (place all n) parent && bytes_eq (folded n.text) name

-- the youngest of names, besides the best so far
abbrev pub youngest_with : Option Node → List Node → Option Node
youngest_with None ns = youngest ns
youngest_with (Some n) ns = Some (youngest_of n ns)

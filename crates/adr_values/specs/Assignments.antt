-- Values given to attributes: a list that rises by attribute.
use Rattle.std.specs.Prelude.{ℕ, List, map, Option}
use Rattle.std.specs.Map.{lookup}
use Rattle.std.specs.Ordering.{nat_cmp}
use Rattle.std.specs.BTreeMap.{insert_entry, is_at}
use Rattle.adr_values.specs.declared.failure.Failure.{Failure}
use Rattle.adr_values.specs.declared.failure.Failure.TheVariants.{Refused}
use Rattle.adr_values.specs.declared.assignments.Repeated.{Repeated}
use Rattle.adr_values.specs.declared.content.Value.{Value as Item}

-- an attribute with its values
abbrev pub Given : Type 0
Given = ℕ × List Item

-- the attributes, in order
abbrev pub attributes : List Given → List ℕ
attributes gs = map (λ g. g.0) gs

-- an attribute's values put where its number belongs
abbrev pub placed : ℕ → List Item → List Given → List Given
placed attr values gs = insert_entry nat_cmp gs attr values

-- the values given to an attribute
abbrev pub given : ℕ → List Given → Option (List Item)
given attr gs = lookup (is_at (nat_cmp attr)) gs

-- the attribute is given values already
abbrev pub repeated : Failure Repeated
repeated = Refused (record {})

-- The tables of the code, as the schema's.
use Rattle.std.specs.Prelude.{ℕ, List, Option, map}
use Rattle.adr_values.specs.Table.{Attribute, Class}
use Rattle.adr_search.specs.Fields.{field_of, lowered}
use Rattle.adr_search.specs.declared.fields.Field.{Field}
use Rattle.adr_search.specs.declared.fields.Row.{Row as Held}
use Rattle.adr_search.specs.declared.fields.ClassRow.{ClassRow}

-- the name of an attribute in lower case, with its field
abbrev pub Row : Type 0
Row = List ℕ × Option Field

abbrev pub row_of : Held → Row
row_of r = (r.name.now, r.field)

abbrev pub rows_of : List Attribute → List Row
rows_of attributes = map (λ (a : Attribute). (lowered a.name, field_of a.number a.kind)) attributes

abbrev pub class_row_of : ClassRow → ℕ × List ℕ
class_row_of c = (c.number, c.name.now)

abbrev pub class_rows_of : List Class → List (ℕ × List ℕ)
class_rows_of classes = map (λ (c : Class). (c.number, c.name)) classes

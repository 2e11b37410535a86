-- What the name of an attribute stands for in an entry.
use Rattle.std.specs.Prelude.{ℕ, ◌+◌, List, ◌&&◌, ◌||◌, nat_le, map, find, Option, Some, None, option_and_then, if◌then◌else◌, codes}
use Rattle.std.specs.Str.{bytes_eq}
use Rattle.adr_values.specs.Table.{Attribute}
use Rattle.adr_values.specs.Schemas.{newest}
use Rattle.adr_values.specs.declared.table.Kind.{Kind}
use Rattle.adr_values.specs.declared.table.Kind.TheVariants.{Reserved, Plain, Forward, Back}
use Rattle.adr_values.specs.declared.table.Syntax.{Syntax}
use Rattle.adr_values.specs.declared.table.Syntax.TheVariants as syntaxes
use Rattle.adr_search.specs.declared.fields.Form.{Form}
use Rattle.adr_search.specs.declared.fields.Form.TheVariants.{Folded, Number, Flag, Bytes, Guid}
use Rattle.adr_search.specs.declared.fields.Place.{Place}
use Rattle.adr_search.specs.declared.fields.Place.TheVariants.{Class, Name, Values, Links}
use Rattle.adr_search.specs.declared.fields.Field.{Field}

-- as what the values of a syntax are compared
abbrev pub form_of : Syntax → Form
form_of (syntaxes.Text least greatest) = Folded
form_of (syntaxes.Number least greatest) = Number
form_of syntaxes.Flag = Flag
form_of (syntaxes.Octets least greatest) = Bytes
form_of syntaxes.Ref = Guid

abbrev pub field : Place → Form → Field
field place form = record { place = place; form = form }

-- where an attribute of a schema stands in an entry; a death shows in none
abbrev pub field_of : ℕ → Kind → Option Field
field_of number Reserved = None
field_of number (Plain syntax most) = Some (field (Values number) (form_of syntax))
field_of number (Forward back) = Some (field (Links number) Guid)
field_of number (Back forward) = Some (field (Links number) Guid)

-- the upper-case letters of ASCII in lower case
abbrev pub lower_case : ℕ → ℕ
lower_case b = if nat_le 65 b && nat_le b 90 then b + 32 else b

abbrev pub lowered : List ℕ → List ℕ
lowered name = map lower_case name

abbrev pub field_among : List Attribute → List ℕ → Option Field
field_among attributes low =
    option_and_then (λ (a : Attribute). field_of a.number a.kind) (find (λ (a : Attribute). bytes_eq (lowered a.name) low) attributes)

-- the field of a name in lower case
abbrev pub field_lowered : List ℕ → Option Field
field_lowered low =
    if bytes_eq low (codes "class") || bytes_eq low (codes "objectclass") then Some (field Class Folded)
    else if bytes_eq low (codes "name") then Some (field Name Folded)
    else field_among newest.attributes low

-- the field of a name, whose letters may be of either case
abbrev pub field_named : List ℕ → Option Field
field_named name = field_lowered (lowered name)

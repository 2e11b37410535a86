-- The code's table as a schema.
use Rattle.std.specs.Prelude.{map}
use Rattle.adr_checks.specs.declared.table.ClassEntry.{ClassEntry}
use Rattle.adr_checks.specs.declared.table.AttributeEntry.{AttributeEntry}
use Rattle.adr_checks.specs.declared.table.TableData.{TableData}
use Rattle.adr_values.specs.Table.{Class, Attribute, Table}

abbrev pub class_of : ClassEntry → Class
class_of c = record {
  number = c.number;
  name = c.name.now;
  must = c.must.now;
  may = c.may.now;
  superiors = c.superiors.now;
}

abbrev pub attribute_of : AttributeEntry → Attribute
attribute_of a = record { number = a.number; name = a.name.now; kind = a.kind }

abbrev pub table_of : TableData → Table
table_of t = record {
  number = t.number;
  classes = map class_of t.classes.now;
  attributes = map attribute_of t.attributes.now;
}

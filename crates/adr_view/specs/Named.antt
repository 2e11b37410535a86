-- Rows in which each object has a class and a name.
use Rattle.std.specs.Prelude.{List}
use Rattle.adr_values.specs.declared.stamp.Oid.{Oid}
use Rattle.adr_model.specs.Update.{Update}
use Rattle.adr_model.specs.Reflects.{HoldsObject}
use Rattle.adr_model.specs.Formed.{IsNamed}

abbrev pub AreNamed : List Update → Type 0
AreNamed us = (o : Oid) → HoldsObject us o → IsNamed us o

-- The rows of the values that a new object is given.
use Rattle.std.specs.Prelude.{List, map}
use Rattle.adr_values.specs.declared.stamp.Oid.{Oid}
use Rattle.adr_values.specs.declared.stamp.LinkStamp.{LinkStamp}
use Rattle.adr_values.specs.Assignments.{Given}
use Rattle.adr_values.specs.declared.content.Content.TheVariants.{Values}
use Rattle.adr_model.specs.Update.{Update}
use Rattle.adr_model.specs.Write.{row}

-- the row of each attribute, all with one stamp
abbrev pub given_rows : Oid → LinkStamp → List Given → List Update
given_rows o stamp values = map (λ (g : Given). row o stamp g.0 (Values g.1)) values

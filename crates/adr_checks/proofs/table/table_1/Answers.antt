use Rattle.std.proofs.Common.{refl}
use Rattle.adr_values.specs.Schemas.{schema_1}
use Rattle.adr_checks.proofs.table.table_1.Goals as goal

-- the two tables are one, cell by cell
pub returns : goal.returns
unfolding schema_1
returns c = refl

use Rattle.std.proofs.Common.{refl}
use Rattle.adr_values.specs.Schemas.{schema_2}
use Rattle.adr_search.proofs.fields.rows.Goals as goal

-- the two tables are one, cell by cell
pub returns : goal.returns
unfolding schema_2
returns c = refl

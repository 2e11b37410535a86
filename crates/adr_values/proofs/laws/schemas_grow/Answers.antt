use Rattle.adr_values.proofs.Extending.{schemas_grow}
use Rattle.adr_values.proofs.laws.schemas_grow.Goals as goal

pub returns : goal.returns
returns c = schemas_grow

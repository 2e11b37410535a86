use Rattle.adr_json.proofs.Allowed.{of_kind}
use Rattle.adr_json.proofs.laws.allowed_values_are_of_kind.Goals as goal

pub returns : goal.returns
returns c = of_kind

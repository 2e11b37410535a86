use Rattle.adr_law_partial.proofs.Upgrading.{stands_upgraded}
use Rattle.adr_law_partial.proofs.standing.partial_replicas_go_on_standing_upgraded.Goals as goal

pub returns : goal.returns
returns c = stands_upgraded

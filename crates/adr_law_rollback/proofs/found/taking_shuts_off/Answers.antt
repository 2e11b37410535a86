use Rattle.adr_law_rollback.proofs.Shutting.{taking_shuts_off}
use Rattle.adr_law_rollback.proofs.found.taking_shuts_off.Goals as goal

pub returns : goal.returns
returns c = taking_shuts_off

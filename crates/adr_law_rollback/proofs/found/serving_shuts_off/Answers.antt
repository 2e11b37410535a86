use Rattle.adr_law_rollback.proofs.Shutting.{serving_shuts_off}
use Rattle.adr_law_rollback.proofs.found.serving_shuts_off.Goals as goal

pub returns-clause-shut : goal.returns-clause-shut
returns-clause-shut c = serving_shuts_off

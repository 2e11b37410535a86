use Rattle.adr_law_rollback.proofs.Finding.{found_by_taking}
use Rattle.adr_law_rollback.proofs.found.rollbacks_are_found_by_taking.Goals as goal

pub returns : goal.returns
returns c = found_by_taking
